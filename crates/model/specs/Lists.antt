-- Tests over a list, the parts of a list that pass a test, lists put together, and the same elements in some order.
use Rattle.std.specs.Prelude.{ℕ, zero, suc, ◌+◌, Bool, true, false, ◌&&◌, ◌||◌, not, cond, List, [], ◌∷◌, ◌++◌, eqb}

module _ {A : Type 0} where
  unfoldable pub every : (A → Bool) → List A → Bool
  every p [] = true
  every p (x ∷ xs) = let r = every p xs in p x && r

  unfoldable pub any : (A → Bool) → List A → Bool
  any p [] = false
  any p (x ∷ xs) = let r = any p xs in p x || r

  -- no two are the same by the test
  unfoldable pub distinct : (A → A → Bool) → List A → Bool
  distinct same [] = true
  distinct same (x ∷ xs) = let r = distinct same xs in not (any (same x) xs) && r

  -- those that pass
  unfoldable pub keep : (A → Bool) → List A → List A
  keep p [] = []
  keep p (x ∷ xs) = let r = keep p xs in cond (p x) (x ∷ r) r

  -- those before the first that fails
  unfoldable pub leading : (A → Bool) → List A → List A
  leading p [] = []
  leading p (x ∷ xs) = let r = leading p xs in cond (p x) (x ∷ r) []

  -- the first that passes, or d
  unfoldable pub first : (A → Bool) → A → List A → A
  first p d [] = d
  first p d (x ∷ xs) = let r = first p d xs in cond (p x) x r

  -- the place of the first that passes, counted from 0; the list's length where none does
  unfoldable pub place_of : (A → Bool) → List A → ℕ
  place_of p [] = 0
  place_of p (x ∷ xs) = let r = place_of p xs in cond (p x) 0 (suc r)

  -- the lists, one behind the other
  unfoldable pub flat : List (List A) → List A
  flat [] = []
  flat (x ∷ xs) = x ++ flat xs

  -- the same elements, each as often, in some order
  pub data Reordered : List A → List A → Type 0 where
    none : Reordered [] []
    next : (x : A) {xs ys : List A} → Reordered xs ys → Reordered (x ∷ xs) (x ∷ ys)
    swap : (x y : A) (xs : List A) → Reordered (x ∷ y ∷ xs) (y ∷ x ∷ xs)
    then : {xs ys zs : List A} → Reordered xs ys → Reordered ys zs → Reordered xs zs

-- the k numbers from b on
unfoldable pub from : ℕ → ℕ → List ℕ
from zero b = []
from (suc k) b = b ∷ from k (suc b)

-- how often b stands in the list; it is among them where that is above 0
unfoldable pub times : ℕ → List ℕ → ℕ
times b [] = 0
times b (x ∷ xs) = cond (eqb b x) 1 0 + times b xs

-- the first, or 0
unfoldable pub first_or0 : List ℕ → ℕ
first_or0 [] = 0
first_or0 (b ∷ bs) = b
