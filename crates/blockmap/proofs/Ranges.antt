-- The blocks 2 to N+1 one at a time, as a loop takes them: b is the next one.
use Prim.Native.Nat.{ℕ, zero, suc, ◌+◌, ◌-◌, ◌≤◌, ◌<◌}
use mathlib.Core.Path.{◌≡◌, refl, sym, ap, ◌∙◌}
use mathlib.Core.Bool.{Bool, cond, true, false, ◌||◌, or_assoc}
use mathlib.Core.List.{List, [], ◌∷◌}
use native.Mathlib.Omega.{arith}
use lib.ListN.{length, get_or, take, drop}
use lib.Seq.{take_all}
use Rattle.std.proofs.Math.Seq.{drop-cons}
use Rattle.std.proofs.lemmas.List.Sums.{sum_by-cons}
use Rattle.std.specs.List.{count_by, list_any}
use mathlib.Core.Logic.{◌⊎◌, inl, inr}
use Rattle.model.specs.Lists.{any, keep, from}

-- those from b on
abbrev pub onward : ℕ → ℕ → List ℕ
onward n b = from (n + 2 - b) b

pub all_onward : (n : ℕ) → from n 2 ≡ onward n 2
all_onward n = ap (λ k. from k 2) (omega arith)

next : (k b : ℕ) → 0 < k → from k b ≡ b ∷ from (k - 1) (b + 1)
unfolding from
next zero b h = absurd (omega arith)
next (suc k) b h =
    let e : suc b ≡ b + 1 = omega arith in
    let d : k ≡ suc k - 1 = omega arith in
    rw e (ap (λ j. b ∷ from j (b + 1)) d)

none_left : (k b : ℕ) → k ≡ 0 → from k b ≡ []
unfolding from
none_left k b h = rw h

-- tests that agree on them
pub any_same : (p q : ℕ → Bool) (k s : ℕ) → ((b : ℕ) → s ≤ b → b < s + k → p b ≡ q b) → any p (from k s) ≡ any q (from k s)
unfolding from any
any_same p q zero s h = refl
any_same p q (suc k) s h = rw (h s (omega arith) (omega arith), any_same p q k (suc s) (λ b low high. h b (omega arith) (omega arith)))

pub keep_same : (p q : ℕ → Bool) (k s : ℕ) → ((b : ℕ) → s ≤ b → b < s + k → p b ≡ q b) → keep p (from k s) ≡ keep q (from k s)
unfolding from keep
keep_same p q zero s h = refl
keep_same p q (suc k) s h = rw (h s (omega arith) (omega arith), keep_same p q k (suc s) (λ b low high. h b (omega arith) (omega arith)))

-- ---- the blocks from s on and the elements of a list from s on, each at its block's number

-- there is an element at s, and the others stand behind it
part_next : (xs : List ℕ) (k s : ℕ) → s + suc k ≤ length xs → take (suc k) (drop s xs) ≡ get_or xs s 0 ∷ take k (drop (suc s) xs)
part_next xs k s h = let here : s < length xs = omega arith in rw (drop-cons xs s 0)

-- all elements of blocks 2 to n + 1, which a loop has passed
pub part_all : (xs : List ℕ) (n i : ℕ) → length (take (n + 2 - 2) (drop 2 xs)) ≤ i → take i (take (n + 2 - 2) (drop 2 xs)) ≡ take n (drop 2 xs)
part_all xs n i h = let number : n + 2 - 2 ≡ n = omega arith in take_all i (take (n + 2 - 2) (drop 2 xs)) h ∙ ap (λ k. take k (drop 2 xs)) number

-- one passes the test
pub any_part : (p : ℕ → Bool) (xs : List ℕ) (k s : ℕ) → s + k ≤ length xs → any (λ b. p (get_or xs b 0)) (from k s) ≡ list_any p (take k (drop s xs))
unfolding from any
any_part p xs zero s h = refl
any_part p xs (suc k) s h = rw (part_next xs k s h) (ap (λ t. p (get_or xs s 0) || t) (any_part p xs k (suc s) (omega arith)))

-- so many pass
length_cond : (t : Bool) (x : ℕ) (r : List ℕ) → length (cond t (x ∷ r) r) ≡ cond t 1 0 + length r
length_cond true x r = omega arith
length_cond false x r = omega arith

pub count_part : (p : ℕ → Bool) (xs : List ℕ) (k s : ℕ) → s + k ≤ length xs
    → length (keep (λ b. p (get_or xs b 0)) (from k s)) ≡ count_by p (take k (drop s xs))
unfolding from keep
count_part p xs zero s h = refl
count_part p xs (suc k) s h =
    let x = get_or xs s 0 in
    rw (part_next xs k s h)
    (length_cond (p x) s (keep (λ b. p (get_or xs b 0)) (from k (suc s)))
    ∙ ap (λ c. cond (p x) 1 0 + c) (count_part p xs k (suc s) (omega arith))
    ∙ sym (sum_by-cons (λ v. cond (p v) 1 0) x (take k (drop (suc s) xs))))

-- the elements of two lists side by side, where one list is no longer than the other
unfoldable pub any_pair : (ℕ → ℕ → Bool) → List ℕ → List ℕ → Bool
any_pair p [] ys = false
any_pair p (x ∷ xs) [] = false
any_pair p (x ∷ xs) (y ∷ ys) = p x y || any_pair p xs ys

pub any_pair_part : (p : ℕ → ℕ → Bool) (xs ys : List ℕ) (k s : ℕ) → s + k ≤ length xs → s + k ≤ length ys
    → any (λ b. p (get_or xs b 0) (get_or ys b 0)) (from k s) ≡ any_pair p (take k (drop s xs)) (take k (drop s ys))
unfolding from any any_pair
any_pair_part p xs ys zero s h i = refl
any_pair_part p xs ys (suc k) s h i =
    rw (part_next xs k s h, part_next ys k s i)
    (ap (λ t. p (get_or xs s 0) (get_or ys s 0) || t) (any_pair_part p xs ys k (suc s) (omega arith) (omega arith)))

-- the first of each, behind an answer u
pub any_pair_next : (p : ℕ → ℕ → Bool) (u : Bool) (xs ys : List ℕ) (x y : ℕ) (xs' ys' : List ℕ) → xs ≡ x ∷ xs' → ys ≡ y ∷ ys'
    → (u || any_pair p xs ys) ≡ ((u || p x y) || any_pair p xs' ys')
unfolding any_pair
any_pair_next p u xs ys x y xs' ys' a b = rw (a, b) (sym (or_assoc u (p x y) (any_pair p xs' ys')))

-- one side is at its end
pub any_pair_end : (p : ℕ → ℕ → Bool) (xs ys : List ℕ) → (length xs ≡ 0) ⊎ (length ys ≡ 0) → any_pair p xs ys ≡ false
unfolding any_pair
any_pair_end p [] ys e = refl
any_pair_end p (x ∷ xs) [] e = refl
any_pair_end p (x ∷ xs) (y ∷ ys) (inl e) = absurd (omega arith)
any_pair_end p (x ∷ xs) (y ∷ ys) (inr e) = absurd (omega arith)

module _ (n b : ℕ) where
  pub onward_next : b < n + 2 → onward n b ≡ b ∷ onward n (b + 1)
  onward_next h = next (n + 2 - b) b (omega arith) ∙ ap (λ k. b ∷ from k (b + 1)) (omega arith)

  pub onward_none : n + 2 ≤ b → onward n b ≡ []
  onward_none h = none_left (n + 2 - b) b (omega arith)

module _ (p : ℕ → Bool) (n b : ℕ) where
  -- b passes the test, or fails it, or no block is left
  pub keep_hit : b < n + 2 → p b ≡ true → keep p (onward n b) ≡ b ∷ keep p (onward n (b + 1))
  unfolding keep
  keep_hit h e = ap (keep p) (onward_next n b h) ∙ rw e

  pub keep_miss : b < n + 2 → p b ≡ false → keep p (onward n b) ≡ keep p (onward n (b + 1))
  unfolding keep
  keep_miss h e = ap (keep p) (onward_next n b h) ∙ rw e

  pub keep_none : n + 2 ≤ b → keep p (onward n b) ≡ []
  unfolding keep
  keep_none h = ap (keep p) (onward_none n b h)
