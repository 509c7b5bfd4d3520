-- Laws of the tests over lists, of `keep` and `flat`, of lists that are reordered, and of the tests place by place.
use Prim.Native.Nat.{ℕ, zero, suc, ◌<◌}
use mathlib.Core.Path.{◌≡◌, refl, ap, ◌∙◌}
use mathlib.Core.Bool.{Bool, true, false, not, ◌&&◌, ◌||◌, cond}
use mathlib.Core.List.{List, [], ◌∷◌, ◌++◌, map, append_assoc}
use mathlib.Core.Logic.{◌⊎◌, inl, inr}
use native.Mathlib.Omega.{arith}
use lib.ListN.{length, get_or}
use borrow.Author.Tests.{not-true}
use Rattle.model.specs.Lists.{every, any, distinct, keep, flat, Reordered, none, next, swap, then}

pub and-true : (a b : Bool) → (a && b) ≡ true → (a ≡ true) × (b ≡ true)
and-true true b e = (refl, e)
and-true false b e = absurd (let z : ◌≡◌ {A = ℕ} 0 1 = cc in omega arith)

pub or-false : (a b : Bool) → (a || b) ≡ false → (a ≡ false) × (b ≡ false)
or-false true b e = absurd (let z : ◌≡◌ {A = ℕ} 0 1 = cc in omega arith)
or-false false b e = (refl, e)

pub either : (a b : Bool) → (a || b) ≡ true → (a ≡ true) ⊎ (b ≡ true)
either true b e = inl refl
either false b e = inr e

-- a test is false exactly where it is not true
pub not_so : (t : Bool) → (t ≡ true → ⊥) → t ≡ false
not_so true h = absurd (h refl)
not_so false h = refl

pub so_not : (t : Bool) → t ≡ false → t ≡ true → ⊥
so_not t p q = let z : ◌≡◌ {A = ℕ} 0 1 = cc in omega arith

and_assoc : (a b c : Bool) → (a && (b && c)) ≡ ((a && b) && c)
and_assoc true b c = refl
and_assoc false b c = refl

or_assoc : (a b c : Bool) → (a || (b || c)) ≡ ((a || b) || c)
or_assoc true b c = refl
or_assoc false b c = refl

or_swap : (a b c : Bool) → (a || (b || c)) ≡ (b || (a || c))
or_swap true true c = refl
or_swap true false c = refl
or_swap false b c = refl

and_swap : (a b c : Bool) → (a && (b && c)) ≡ (b && (a && c))
and_swap true b c = refl
and_swap false true c = refl
and_swap false false c = refl

module _ {A : Type 0} where
  pub every_append : (p : A → Bool) (xs ys : List A) → every p (xs ++ ys) ≡ (every p xs && every p ys)
  unfolding every
  every_append p [] ys = refl
  every_append p (x ∷ xs) ys = ap (λ (b : Bool). p x && b) (every_append p xs ys) ∙ and_assoc (p x) (every p xs) (every p ys)

  pub any_append : (p : A → Bool) (xs ys : List A) → any p (xs ++ ys) ≡ (any p xs || any p ys)
  unfolding any
  any_append p [] ys = refl
  any_append p (x ∷ xs) ys = ap (λ (b : Bool). p x || b) (any_append p xs ys) ∙ or_assoc (p x) (any p xs) (any p ys)

  pub flat_append : (xs ys : List (List A)) → flat (xs ++ ys) ≡ flat xs ++ flat ys
  unfolding flat
  flat_append [] ys = refl
  flat_append (x ∷ xs) ys = rw (flat_append xs ys, append_assoc)

  pub keep_append : (p : A → Bool) (xs ys : List A) → keep p (xs ++ ys) ≡ keep p xs ++ keep p ys
  unfolding keep
  keep_append p [] ys = refl
  keep_append p (x ∷ xs) ys = rw (keep_append p xs ys) (go (p x))
    where
      go : (b : Bool) → cond b (x ∷ (keep p xs ++ keep p ys)) (keep p xs ++ keep p ys) ≡ cond b (x ∷ keep p xs) (keep p xs) ++ keep p ys
      go true = refl
      go false = refl

  -- whatever every element passes, the ones that are kept pass
  pub keep_every : (p q : A → Bool) (xs : List A) → every q xs ≡ true → every q (keep p xs) ≡ true
  unfolding keep every
  keep_every p q [] h = refl
  keep_every p q (x ∷ xs) h = let s = and-true (q x) (every q xs) h in go (p x) s.0 (keep_every p q xs s.1)
    where
      go : (b : Bool) → q x ≡ true → every q (keep p xs) ≡ true → every q (cond b (x ∷ keep p xs) (keep p xs)) ≡ true
      go true e ih = rw (e, ih)
      go false e ih = ih

  pub keep_any : (p q : A → Bool) (xs : List A) → any q xs ≡ false → any q (keep p xs) ≡ false
  unfolding keep any
  keep_any p q [] h = refl
  keep_any p q (x ∷ xs) h = let s = or-false (q x) (any q xs) h in go (p x) s.0 (keep_any p q xs s.1)
    where
      go : (b : Bool) → q x ≡ false → any q (keep p xs) ≡ false → any q (cond b (x ∷ keep p xs) (keep p xs)) ≡ false
      go true e ih = rw (e, ih)
      go false e ih = ih

  pub keep_distinct : (p : A → Bool) (same : A → A → Bool) (xs : List A) → distinct same xs ≡ true → distinct same (keep p xs) ≡ true
  unfolding keep distinct
  keep_distinct p same [] h = refl
  keep_distinct p same (x ∷ xs) h =
      let s = and-true (not (any (same x) xs)) (distinct same xs) h in
      go (p x) (keep_any p (same x) xs (not-true _ s.0)) (keep_distinct p same xs s.1)
    where
      go : (b : Bool) → any (same x) (keep p xs) ≡ false → distinct same (keep p xs) ≡ true → distinct same (cond b (x ∷ keep p xs) (keep p xs)) ≡ true
      go true e ih = rw (e, ih)
      go false e ih = ih

  -- nothing is dropped where nothing fails
  pub keep_all : (p : A → Bool) (xs : List A) → any p xs ≡ false → keep (λ x. not (p x)) xs ≡ xs
  unfolding keep any
  keep_all p [] h = refl
  keep_all p (x ∷ xs) h = let s = or-false (p x) (any p xs) h in rw (s.0, keep_all p xs s.1)

  -- reordered lists
  pub same_list : (xs : List A) → Reordered xs xs
  same_list [] = none
  same_list (x ∷ xs) = next x (same_list xs)

  pub back : {xs ys : List A} → Reordered xs ys → Reordered ys xs
  back none = none
  back (next x r) = next x (back r)
  back (swap x y xs) = swap y x xs
  back (then r s) = then (back s) (back r)

  -- an element from the middle put in front
  pub middle : (x : A) (xs ys : List A) → Reordered (xs ++ (x ∷ ys)) (x ∷ (xs ++ ys))
  middle x [] ys = same_list (x ∷ ys)
  middle x (y ∷ xs) ys = then (next y (middle x xs ys)) (swap y x (xs ++ ys))

  pub append_left : (l : List A) {xs ys : List A} → Reordered xs ys → Reordered (l ++ xs) (l ++ ys)
  append_left [] r = r
  append_left (x ∷ l) r = next x (append_left l r)

  pub reordered_length : {xs ys : List A} → Reordered xs ys → length xs ≡ length ys
  reordered_length none = refl
  reordered_length (next x r) = ap suc (reordered_length r)
  reordered_length (swap x y xs) = refl
  reordered_length (then r s) = reordered_length r ∙ reordered_length s

  pub reordered_every : (p : A → Bool) {xs ys : List A} → Reordered xs ys → every p xs ≡ every p ys
  unfolding every
  reordered_every p none = refl
  reordered_every p (next x r) = ap (λ (b : Bool). p x && b) (reordered_every p r)
  reordered_every p (swap x y xs) = and_swap (p x) (p y) (every p xs)
  reordered_every p (then r s) = reordered_every p r ∙ reordered_every p s

  pub reordered_any : (p : A → Bool) {xs ys : List A} → Reordered xs ys → any p xs ≡ any p ys
  unfolding any
  reordered_any p none = refl
  reordered_any p (next x r) = ap (λ (b : Bool). p x || b) (reordered_any p r)
  reordered_any p (swap x y xs) = or_swap (p x) (p y) (any p xs)
  reordered_any p (then r s) = reordered_any p r ∙ reordered_any p s

  pub reordered_distinct : (same : A → A → Bool) → ((x y : A) → same x y ≡ same y x) → {xs ys : List A} → Reordered xs ys → distinct same xs ≡ distinct same ys
  unfolding distinct any
  reordered_distinct same c none = refl
  reordered_distinct same c (next x r) = rw (reordered_any (same x) r, reordered_distinct same c r)
  reordered_distinct same c (swap x y xs) = rw (c x y) (go (same y x) (any (same x) xs) (any (same y) xs) (distinct same xs))
    where
      go : (a b d e : Bool) → (not (a || b) && (not d && e)) ≡ (not (a || d) && (not b && e))
      go true b d e = refl
      go false true true e = refl
      go false true false e = refl
      go false false true e = refl
      go false false false e = refl
  reordered_distinct same c (then r s) = reordered_distinct same c r ∙ reordered_distinct same c s

  pub reordered_keep : (p : A → Bool) {xs ys : List A} → Reordered xs ys → Reordered (keep p xs) (keep p ys)
  unfolding keep
  reordered_keep p none = none
  reordered_keep p (next x {xs} {ys} r) = go (p x) (reordered_keep p r)
    where
      go : (b : Bool) → Reordered (keep p xs) (keep p ys) → Reordered (cond b (x ∷ keep p xs) (keep p xs)) (cond b (x ∷ keep p ys) (keep p ys))
      go true s = next x s
      go false s = s
  reordered_keep p (swap x y xs) = go (p x) (p y) (keep p xs)
    where
      go : (a b : Bool) (r : List A) → Reordered (cond a (x ∷ cond b (y ∷ r) r) (cond b (y ∷ r) r)) (cond b (y ∷ cond a (x ∷ r) r) (cond a (x ∷ r) r))
      go true true r = swap x y r
      go true false r = same_list (x ∷ r)
      go false true r = same_list (y ∷ r)
      go false false r = same_list r
  reordered_keep p (then r s) = then (reordered_keep p r) (reordered_keep p s)

pub reordered_map : {A B : Type 0} (f : A → B) {xs ys : List A} → Reordered xs ys → Reordered (map f xs) (map f ys)
reordered_map f none = none
reordered_map f (next x r) = next (f x) (reordered_map f r)
reordered_map f (swap x y xs) = swap (f x) (f y) (map f xs)
reordered_map f (then r s) = then (reordered_map f r) (reordered_map f s)

pub keep_map : {A B : Type 0} (f : A → B) (p : A → Bool) (q : B → Bool) → ((x : A) → q (f x) ≡ p x) → (xs : List A) → keep q (map f xs) ≡ map f (keep p xs)
unfolding keep
keep_map f p q w [] = refl
keep_map {A} {B} f p q w (x ∷ xs) = rw (w x, keep_map f p q w xs) (go (p x) (keep p xs))
  where
    go : (b : Bool) (r : List A) → cond b (f x ∷ map f r) (map f r) ≡ map f (cond b (x ∷ r) r)
    go true r = refl
    go false r = refl

-- ---- the tests place by place

module _ {A : Type 0} where
  pub every_at : (p : A → Bool) (d : A) (xs : List A) → every p xs ≡ true → (i : ℕ) → i < length xs → p (get_or xs i d) ≡ true
  unfolding every
  every_at p d [] h i l = absurd (omega arith)
  every_at p d (x ∷ xs) h zero l = (and-true (p x) (every p xs) h).0
  every_at p d (x ∷ xs) h (suc i) l = every_at p d xs (and-true (p x) (every p xs) h).1 i (omega arith)

  pub at_every : (p : A → Bool) (d : A) (xs : List A) → ((i : ℕ) → i < length xs → p (get_or xs i d) ≡ true) → every p xs ≡ true
  unfolding every
  at_every p d [] h = refl
  at_every p d (x ∷ xs) h = rw (h 0 (omega arith)) (at_every p d xs (λ i l. h (suc i) (omega arith)))

  pub any_at : (p : A → Bool) (d : A) (xs : List A) → any p xs ≡ false → (i : ℕ) → i < length xs → p (get_or xs i d) ≡ false
  unfolding any
  any_at p d [] h i l = absurd (omega arith)
  any_at p d (x ∷ xs) h zero l = (or-false (p x) (any p xs) h).0
  any_at p d (x ∷ xs) h (suc i) l = any_at p d xs (or-false (p x) (any p xs) h).1 i (omega arith)

  pub at_any : (p : A → Bool) (d : A) (xs : List A) → ((i : ℕ) → i < length xs → p (get_or xs i d) ≡ false) → any p xs ≡ false
  unfolding any
  at_any p d [] h = refl
  at_any p d (x ∷ xs) h = rw (h 0 (omega arith)) (at_any p d xs (λ i l. h (suc i) (omega arith)))

  pub distinct_at : (same : A → A → Bool) (d : A) (xs : List A) → distinct same xs ≡ true → (i j : ℕ) → i < j → j < length xs
      → same (get_or xs i d) (get_or xs j d) ≡ false
  unfolding distinct
  distinct_at same d [] h i j k l = absurd (omega arith)
  distinct_at same d (x ∷ xs) h i zero k l = absurd (omega arith)
  distinct_at same d (x ∷ xs) h zero (suc j) k l =
      any_at (same x) d xs (not-true _ (and-true (not (any (same x) xs)) (distinct same xs) h).0) j (omega arith)
  distinct_at same d (x ∷ xs) h (suc i) (suc j) k l =
      distinct_at same d xs (and-true (not (any (same x) xs)) (distinct same xs) h).1 i j (omega arith) (omega arith)

  pub at_distinct : (same : A → A → Bool) (d : A) (xs : List A) → ((i j : ℕ) → i < j → j < length xs → same (get_or xs i d) (get_or xs j d) ≡ false)
      → distinct same xs ≡ true
  unfolding distinct
  at_distinct same d [] h = refl
  at_distinct same d (x ∷ xs) h =
      rw (at_any (same x) d xs (λ j l. h 0 (suc j) (omega arith) (omega arith)))
      (at_distinct same d xs (λ i j k l. h (suc i) (suc j) (omega arith) (omega arith)))
