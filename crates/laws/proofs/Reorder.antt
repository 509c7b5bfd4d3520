-- Laws of lists that the directory needs: tests under a map, the first that passes a test, the only one that does, the same
-- elements in another order, an element that stays in a list, and where an element of a changed list comes from.
use Prim.Native.Nat.{ℕ, zero, suc, ◌<◌}
use mathlib.Core.Path.{◌≡◌, refl, sym, ap, ◌∙◌}
use mathlib.Core.Bool.{Bool, true, false, not, ◌&&◌, ◌||◌, cond}
use mathlib.Core.List.{List, [], ◌∷◌, ◌++◌, map, append-nil, map-append}
use mathlib.Core.Logic.{◌⊎◌, inl, inr}
use native.Mathlib.Omega.{arith}
use lib.ListN.{length, get_or, length-append, get_or-append}
use borrow.Author.Tests.{not-true}
use Rattle.model.specs.Lists.{every, any, distinct, keep, first, place_of, Reordered, none, next, swap, then}
use Rattle.model.proofs.Lists.{and-true, or-false, so_not, any_append, any_at, keep_append, keep_all, back, middle, reordered_map}
use Rattle.model.proofs.Lists.{reordered_keep, keep_map, reordered_distinct}

-- ---- tests

module _ {A : Type 0} where
  -- whoever passes a test passes a weaker one
  pub every_weaker : (p q : A → Bool) → ((x : A) → p x ≡ true → q x ≡ true) → (xs : List A) → every p xs ≡ true → every q xs ≡ true
  unfolding every
  every_weaker p q w [] h = refl
  every_weaker p q w (x ∷ xs) h = let s = and-true (p x) (every p xs) h in rw (w x s.0, every_weaker p q w xs s.1)

  pub every_both : (p q : A → Bool) (xs : List A) → every p xs ≡ true → every q xs ≡ true → every (λ x. p x && q x) xs ≡ true
  unfolding every
  every_both p q [] h k = refl
  every_both p q (x ∷ xs) h k =
      let a = and-true (p x) (every p xs) h in
      let b = and-true (q x) (every q xs) k in
      rw (a.0, b.0, every_both p q xs a.1 b.1)

  pub none_of : (p q : A → Bool) → ((x : A) → p x ≡ true → q x ≡ false) → (xs : List A) → every p xs ≡ true → any q xs ≡ false
  unfolding every any
  none_of p q w [] h = refl
  none_of p q w (x ∷ xs) h = let s = and-true (p x) (every p xs) h in rw (w x s.0, none_of p q w xs s.1)

  -- fewer pass a stronger test
  pub none_stronger : (p q : A → Bool) → ((x : A) → p x ≡ true → q x ≡ true) → (xs : List A) → any q xs ≡ false → any p xs ≡ false
  unfolding any
  none_stronger p q w [] h = refl
  none_stronger p q w (x ∷ xs) h = let s = or-false (q x) (any q xs) h in rw (fails (p x) refl s.0, none_stronger p q w xs s.1)
    where
      fails : (t : Bool) → p x ≡ t → q x ≡ false → p x ≡ false
      fails true e f = absurd (so_not (q x) f (w x e))
      fails false e f = e

  -- the first element that passes a test
  pub any_split : (p : A → Bool) (xs : List A) → any p xs ≡ true
      → (a : List A) × (x : A) × (b : List A) × (xs ≡ a ++ (x ∷ b)) × (any p a ≡ false) × (p x ≡ true)
  unfolding any
  any_split p [] h = absurd (let z : ◌≡◌ {A = ℕ} 0 1 = cc in omega arith)
  any_split p (y ∷ xs) h = go (p y) refl h (any_split p xs)
    where
      go : (t : Bool) → p y ≡ t → (t || any p xs) ≡ true
          → (any p xs ≡ true → (a : List A) × (x : A) × (b : List A) × (xs ≡ a ++ (x ∷ b)) × (any p a ≡ false) × (p x ≡ true))
          → (a : List A) × (x : A) × (b : List A) × (y ∷ xs ≡ a ++ (x ∷ b)) × (any p a ≡ false) × (p x ≡ true)
      go true e h ih = ([], y, xs, refl, refl, e)
      go false e h ih = let s = ih h in (y ∷ s.0, s.1, s.2, ap (λ (r : List A). y ∷ r) s.3, rw (e, s.4), s.5)

  -- a map that changes only what passes a test
  pub map_none : (p : A → Bool) (f : A → A) → ((x : A) → p x ≡ false → f x ≡ x) → (xs : List A) → any p xs ≡ false → map f xs ≡ xs
  unfolding any
  map_none p f w [] h = refl
  map_none p f w (x ∷ xs) h = let s = or-false (p x) (any p xs) h in rw (w x s.0, map_none p f w xs s.1)

  -- of elements that differ, where one in front passes a test that only the same elements pass, none behind does
  pub none_behind_lem : (same : A → A → Bool) (p : A → Bool) → ((x y : A) → p x ≡ true → p y ≡ true → same x y ≡ true)
      → (xs ys : List A) → distinct same (xs ++ ys) ≡ true → any p xs ≡ true → any p ys ≡ false
  unfolding distinct any
  none_behind_lem same p w [] ys d h = absurd (let z : ◌≡◌ {A = ℕ} 0 1 = cc in omega arith)
  none_behind_lem same p w (x ∷ xs) ys d h =
      let s = and-true (not (any (same x) (xs ++ ys))) (distinct same (xs ++ ys)) d in
      go (p x) refl h (not-true _ s.0) (none_behind_lem same p w xs ys s.1)
    where
      go : (t : Bool) → p x ≡ t → (t || any p xs) ≡ true → any (same x) (xs ++ ys) ≡ false → (any p xs ≡ true → any p ys ≡ false) → any p ys ≡ false
      go true e h n ih = (or-false (any p xs) (any p ys) (sym (any_append p xs ys) ∙ none_stronger p (same x) (λ y t. w x y e t) (xs ++ ys) n)).1
      go false e h n ih = ih h

module _ {A B : Type 0} where
  pub every_map : (p : B → Bool) (q : A → Bool) (f : A → B) → ((x : A) → p (f x) ≡ q x) → (xs : List A) → every p (map f xs) ≡ every q xs
  unfolding every
  every_map p q f h [] = refl
  every_map p q f h (x ∷ xs) = rw (h x, every_map p q f h xs)

  pub any_map : (p : B → Bool) (q : A → Bool) (f : A → B) → ((x : A) → p (f x) ≡ q x) → (xs : List A) → any p (map f xs) ≡ any q xs
  unfolding any
  any_map p q f w [] = refl
  any_map p q f w (x ∷ xs) = rw (w x, any_map p q f w xs)

  pub distinct_map : (same : B → B → Bool) (like : A → A → Bool) (f : A → B) → ((x y : A) → same (f x) (f y) ≡ like x y)
      → (xs : List A) → distinct same (map f xs) ≡ distinct like xs
  unfolding distinct
  distinct_map same like f w [] = refl
  distinct_map same like f w (x ∷ xs) = rw (any_map (same (f x)) (like x) f (w x) xs, distinct_map same like f w xs)

-- ---- the only one

-- just one element of xs passes p
pub record Alone {A : Type 0} (p : A → Bool) (xs : List A) : Type 0 where
  pub before : List A
  pub it : A
  pub behind : List A
  pub whole : xs ≡ before ++ (it ∷ behind)
  pub passes : p it ≡ true
  pub none_before : any p before ≡ false
  pub none_behind : any p behind ≡ false

module _ {A : Type 0} where
  -- of elements that differ, just one passes a test that only the same elements pass
  pub alone : (same : A → A → Bool) → ((x y : A) → same x y ≡ same y x) → (p : A → Bool) → ((x y : A) → p x ≡ true → p y ≡ true → same x y ≡ true)
      → (xs : List A) → distinct same xs ≡ true → any p xs ≡ true → Alone p xs
  unfolding distinct
  alone same c p w xs d h =
      let s = any_split p xs h in
      let a = s.0 in
      let x = s.1 in
      let b = s.2 in
      let r = sym (reordered_distinct same c (middle x a b)) ∙ ap (distinct same) (sym s.3) ∙ d in
      let n = not-true _ (and-true (not (any (same x) (a ++ b))) (distinct same (a ++ b)) r).0 in
      let o = or-false (any p a) (any p b) (sym (any_append p a b) ∙ none_stronger p (same x) (λ y t. w x y s.5 t) (a ++ b) n) in
      record { before = a; it = x; behind = b; whole = s.3; passes = s.5; none_before = o.0; none_behind = o.1 }

  module _ (p : A → Bool) (xs : List A) (o : Alone p xs) where
    first_front : (d : A) (ys zs : List A) → any p ys ≡ false → first p d (ys ++ zs) ≡ first p d zs
    unfolding any first
    first_front d [] zs h = refl
    first_front d (y ∷ ys) zs h = let s = or-false (p y) (any p ys) h in rw (s.0, first_front d ys zs s.1)

    pub alone_first : (d : A) → first p d xs ≡ o.it
    unfolding first
    alone_first d = ap (first p d) o.whole ∙ first_front d o.before (o.it ∷ o.behind) o.none_before ∙ rw o.passes

    pub alone_keep : keep (λ x. not (p x)) xs ≡ o.before ++ o.behind
    unfolding keep
    alone_keep =
        ap (keep (λ x. not (p x))) o.whole
        ∙ rw (keep_append (λ x. not (p x)) o.before (o.it ∷ o.behind), o.passes)
        (rw (keep_all p o.before o.none_before, keep_all p o.behind o.none_behind))

    pub alone_map : (f : A → A) → ((x : A) → p x ≡ false → f x ≡ x) → map f xs ≡ o.before ++ (f o.it ∷ o.behind)
    alone_map f w =
        ap (map f) o.whole
        ∙ rw (map-append f o.before (o.it ∷ o.behind), map_none p f w o.before o.none_before, map_none p f w o.behind o.none_behind)

    pub alone_any : any p xs ≡ true
    unfolding any
    alone_any = ap (any p) o.whole ∙ rw (any_append p o.before (o.it ∷ o.behind), o.none_before, o.passes)

-- ---- another order

-- E an entry of the image, F a file as it is told; `tell` and `tells` read a file from an entry, before and after the
-- change
module _ {E F : Type 0} (tell tells : E → F) (es : List E) {hs : List F} (r : Reordered (map tell es) hs) where
  -- the new entry is somewhere in the image, the new file at the history's end
  pub after_create : (e : E) {fs : List E} (x : F) → Reordered fs (e ∷ es) → tells e ≡ x → map tells es ≡ map tell es
      → Reordered (map tells fs) (hs ++ (x ∷ []))
  after_create e x p n o =
      let q : Reordered (map tells (e ∷ es)) (x ∷ hs) = rw (n, o) (next x r) in
      then (reordered_map tells p) (then q (rw append-nil at (back (middle x hs []))))

  pub after_delete : (p : E → Bool) (q : F → Bool) → ((e : E) → q (tell e) ≡ p e) → map tells (keep p es) ≡ map tell (keep p es)
      → Reordered (map tells (keep p es)) (keep q hs)
  after_delete p q w o = rw (o, ← keep_map tell p q w es) (reordered_keep q r)

  pub after_change : (f : E → E) (g : F → F) → map tells (map f es) ≡ map g (map tell es) → Reordered (map tells (map f es)) (map g hs)
  after_change f g o = rw o (reordered_map g r)

-- the first that passes a test is the same, where no two can pass it
pub first_same : {A : Type 0} (same : A → A → Bool) → ((x y : A) → same x y ≡ same y x)
    → (p : A → Bool) → ((x y : A) → p x ≡ true → p y ≡ true → same x y ≡ true)
    → (d : A) {xs ys : List A} → Reordered xs ys → distinct same xs ≡ true → first p d xs ≡ first p d ys
unfolding first distinct any
first_same same c p w d none h = refl
first_same {A} same c p w d (next x {xs} {ys} r) h =
    let s = and-true (not (any (same x) xs)) (distinct same xs) h in
    ap (λ (a : A). cond (p x) x a) (first_same same c p w d r s.1)
first_same same c p w d (swap x y xs) h = go (p x) (p y) refl refl
  where
    go : (a b : Bool) → p x ≡ a → p y ≡ b → cond a x (cond b y (first p d xs)) ≡ cond b y (cond a x (first p d xs))
    go true true e f = absurd (so_not (same x y) (or-false (same x y) (any (same x) xs) (not-true _ (and-true _ _ h).0)).0 (w x y e f))
    go true false e f = refl
    go false true e f = refl
    go false false e f = refl
first_same same c p w d (then r s) h = first_same same c p w d r h ∙ first_same same c p w d s (sym (reordered_distinct same c r) ∙ h)

pub first_map : {A B : Type 0} (f : A → B) (p : A → Bool) (q : B → Bool) → ((x : A) → q (f x) ≡ p x) → (d : A) (xs : List A)
    → f (first p d xs) ≡ first q (f d) (map f xs)
unfolding first
first_map f p q w d [] = refl
first_map {A} {B} f p q w d (x ∷ xs) = rw (w x, ← first_map f p q w d xs) (go (p x) (first p d xs))
  where
    go : (b : Bool) (r : A) → f (cond b x r) ≡ cond b (f x) (f r)
    go true r = refl
    go false r = refl

-- files that a change leaves alike, one by one: t is whatever the change needs to know of an entry
pub map_where : {E F : Type 0} (tell tells : E → F) (g : E → E) (h : F → F) (t : E → Bool) → ((x : E) → t x ≡ true → tells (g x) ≡ h (tell x))
    → (es : List E) → every t es ≡ true → map tells (map g es) ≡ map h (map tell es)
unfolding every
map_where tell tells g h t w [] e = refl
map_where tell tells g h t w (x ∷ es) e = let s = and-true (t x) (every t es) e in rw (w x s.0, map_where tell tells g h t w es s.1)

-- the first that is the same as the one at a place is that one, where no two are the same
pub first_at : {A : Type 0} (same : A → A → Bool) → ((x : A) → same x x ≡ true) → (d : A) (xs : List A) (i : ℕ) → i < length xs → distinct same xs ≡ true
    → first (λ x. same x (get_or xs i d)) d xs ≡ get_or xs i d
unfolding first distinct
first_at same r d [] i l h = absurd (omega arith)
first_at same r d (x ∷ xs) zero l h = rw (r x)
first_at same r d (x ∷ xs) (suc i) l h =
    let s = and-true (not (any (same x) xs)) (distinct same xs) h in
    rw (any_at (same x) d xs (not-true _ s.0) i (omega arith)) (first_at same r d xs i (omega arith) s.1)

module _ {X : Type 0} (p : X → Bool) (d : X) where
  -- where one passes, it is the one at its place
  pub first_found : (xs : List X) → any p xs ≡ true → (place_of p xs < length xs) × (get_or xs (place_of p xs) d ≡ first p d xs)
  unfolding any first place_of
  first_found [] h = absurd (let z : ◌≡◌ {A = ℕ} 0 1 = cc in omega arith)
  first_found (x ∷ xs) h = go (p x) h (first_found xs)
    where
      go : (b : Bool) → (b || any p xs) ≡ true → (any p xs ≡ true → (place_of p xs < length xs) × (get_or xs (place_of p xs) d ≡ first p d xs))
          → (cond b 0 (suc (place_of p xs)) < suc (length xs)) × (get_or (x ∷ xs) (cond b 0 (suc (place_of p xs))) d ≡ cond b x (first p d xs))
      go true e ih = (omega arith, refl)
      go false e ih = let r = ih e in (omega (arith, r.0), r.1)

  pub first_none : (xs : List X) → any p xs ≡ false → first p d xs ≡ d
  unfolding any first
  first_none [] h = refl
  first_none (x ∷ xs) h = let s = or-false (p x) (any p xs) h in rw s.0 (first_none xs s.1)

-- the first that passes, where a map changes those that pass into others that pass
module _ {A : Type 0} (p : A → Bool) (f : A → A) (w : (x : A) → p (f x) ≡ p x) where
  pub passes_still : (x : A) → p (cond (p x) (f x) x) ≡ p x
  passes_still x = go (p x) refl
    where
      go : (b : Bool) → p x ≡ b → p (cond b (f x) x) ≡ p x
      go true e = w x
      go false e = refl

  pub first_changed : (d : A) (xs : List A) → any p xs ≡ true → first p d (map (λ x. cond (p x) (f x) x) xs) ≡ f (first p d xs)
  unfolding any first
  first_changed d [] h = absurd (let z : ◌≡◌ {A = ℕ} 0 1 = cc in omega arith)
  first_changed d (x ∷ xs) h = rw (passes_still x) (go (p x) h (first_changed d xs))
    where
      go : (b : Bool) → (b || any p xs) ≡ true
          → (any p xs ≡ true → first p d (map (λ x. cond (p x) (f x) x) xs) ≡ f (first p d xs))
          → cond b (cond b (f x) x) (first p d (map (λ x. cond (p x) (f x) x) xs)) ≡ f (cond b x (first p d xs))
      go true h ih = refl
      go false h ih = ih h

-- ---- an element that stays

-- an element that a list has at some place is in the list in another order, in its map where the map leaves it, among those kept
-- where it is kept, and in a longer list
module _ {A : Type 0} (d x : A) where
  abbrev pub In : List A → Type 0
  In xs = (i : ℕ) × (i < length xs) × (get_or xs i d ≡ x)

  later : (y : A) (xs : List A) → In xs → In (y ∷ xs)
  later y xs h = (suc h.0, omega (arith, h.1), h.2)

  pub in_reordered : {xs ys : List A} → Reordered xs ys → In xs → In ys
  in_reordered r h = go r h.0 h.1 h.2
    where
      go : {xs ys : List A} → Reordered xs ys → (i : ℕ) → i < length xs → get_or xs i d ≡ x → In ys
      go none i l e = (i, l, e)
      go (next y r) zero l e = (0, omega arith, e)
      go (next y {xs} {ys} r) (suc i) l e = later y ys (go r i (omega arith) e)
      go (swap y z xs) zero l e = (1, omega arith, e)
      go (swap y z xs) (suc zero) l e = (0, omega arith, e)
      go (swap y z xs) (suc (suc i)) l e = (suc (suc i), l, e)
      go (then r s) i l e = let k = go r i l e in go s k.0 k.1 k.2

  pub in_changed : (f : A → A) (xs : List A) → In xs → (i : ℕ) × (i < length (map f xs)) × (get_or (map f xs) i d ≡ f x)
  in_changed f xs h = go xs h.0 h.1 h.2
    where
      go : (xs : List A) (i : ℕ) → i < length xs → get_or xs i d ≡ x → (j : ℕ) × (j < length (map f xs)) × (get_or (map f xs) j d ≡ f x)
      go [] i l e = absurd (omega arith)
      go (y ∷ xs) zero l e = (0, omega arith, ap f e)
      go (y ∷ xs) (suc i) l e = let k = go xs i (omega arith) e in (suc k.0, omega (arith, k.1), k.2)

  pub in_map : (f : A → A) → f x ≡ x → (xs : List A) → In xs → In (map f xs)
  in_map f w xs h = let k = in_changed f xs h in (k.0, k.1, k.2 ∙ w)

  pub in_keep : (p : A → Bool) → p x ≡ true → (xs : List A) → In xs → In (keep p xs)
  unfolding keep
  in_keep p w xs h = go xs h.0 h.1 h.2
    where
      kept : (y : A) (xs : List A) (b : Bool) → In (keep p xs) → In (cond b (y ∷ keep p xs) (keep p xs))
      kept y xs true h = later y (keep p xs) h
      kept y xs false h = h

      go : (xs : List A) (i : ℕ) → i < length xs → get_or xs i d ≡ x → In (keep p xs)
      go [] i l e = absurd (omega arith)
      go (y ∷ xs) zero l e = rw (ap p e ∙ w) (0, omega arith, e)
      go (y ∷ xs) (suc i) l e = kept y xs (p y) (go xs i (omega arith) e)

  pub in_append : (xs ys : List A) → In xs → In (xs ++ ys)
  in_append xs ys h = (h.0, omega (arith, h.1, length-append xs ys), get_or-append xs ys d h.0 h.1 ∙ h.2)

-- ---- where an element comes from

-- an element of a list with one more at its end, of a map, of those kept
module _ {A : Type 0} (d x : A) where
  longer : {P : Type 0} (y : A) (xs : List A) → In d x xs ⊎ P → In d x (y ∷ xs) ⊎ P
  longer y xs (inl i) = inl (later d x y xs i)
  longer y xs (inr p) = inr p

  pub from_last : (xs : List A) (y : A) → In d x (xs ++ (y ∷ [])) → In d x xs ⊎ (y ≡ x)
  from_last xs y h = go xs h.0 h.1 h.2
    where
      go : (xs : List A) (i : ℕ) → i < length (xs ++ (y ∷ [])) → get_or (xs ++ (y ∷ [])) i d ≡ x → In d x xs ⊎ (y ≡ x)
      go [] zero l e = inr e
      go [] (suc i) l e = absurd (omega arith)
      go (z ∷ xs) zero l e = inl (0, omega arith, e)
      go (z ∷ xs) (suc i) l e = longer z xs (go xs i (omega arith) e)

  pub from_map : (f : A → A) (xs : List A) → In d x (map f xs) → (y : A) × In d y xs × (f y ≡ x)
  from_map f xs h = go xs h.0 h.1 h.2
    where
      go : (xs : List A) (i : ℕ) → i < length (map f xs) → get_or (map f xs) i d ≡ x → (y : A) × In d y xs × (f y ≡ x)
      go [] i l e = absurd (omega arith)
      go (z ∷ xs) zero l e = (z, (0, omega arith, refl), e)
      go (z ∷ xs) (suc i) l e = let s = go xs i (omega arith) e in (s.0, later d s.0 z xs s.1, s.2)

  pub from_keep : (p : A → Bool) (xs : List A) → In d x (keep p xs) → In d x xs × (p x ≡ true)
  unfolding keep
  from_keep p [] h = absurd (omega (arith, h.1))
  from_keep p (y ∷ xs) h = go (p y) refl (from_keep p xs) h.0 h.1 h.2
    where
      on : In d x xs × (p x ≡ true) → In d x (y ∷ xs) × (p x ≡ true)
      on s = (later d x y xs s.0, s.1)

      go : (b : Bool) → p y ≡ b → (In d x (keep p xs) → In d x xs × (p x ≡ true)) → (i : ℕ) → i < length (cond b (y ∷ keep p xs) (keep p xs))
          → get_or (cond b (y ∷ keep p xs) (keep p xs)) i d ≡ x → In d x (y ∷ xs) × (p x ≡ true)
      go true q from zero l e = ((0, omega arith, e), ap p (sym e) ∙ q)
      go true q from (suc i) l e = on (from (i, omega arith, e))
      go false q from i l e = on (from (i, l, e))
