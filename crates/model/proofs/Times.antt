-- Laws of `times`, how often a number stands in a list, and of `from`, the numbers from one on.
use Prim.Native.Nat.{ℕ, zero, suc, ◌+◌, ◌≤◌, ◌<◌}
use mathlib.Core.Path.{◌≡◌, refl, ap}
use mathlib.Core.Bool.{Bool, true, false}
use mathlib.Core.List.{List, [], ◌∷◌, ◌++◌, map}
use native.Mathlib.Omega.{arith}
use native.Mathlib.Decide.{ℕ_discrete}
use lib.ListN.{length, get_or}
use borrow.Author.Tests.{eq-eqb, ne_eqb}
use Rattle.model.specs.Lists.{every, any, flat, from, times}
use Rattle.model.proofs.Lists.{and-true, or-false}

-- ---- how often

pub times_append : (b : ℕ) (xs ys : List ℕ) → times b (xs ++ ys) ≡ times b xs + times b ys
unfolding times
times_append b [] ys = omega arith
times_append b (x ∷ xs) ys = omega (arith, times_append b xs ys)

pub times_head : (b : ℕ) (xs : List ℕ) → times b (b ∷ xs) ≡ suc (times b xs)
unfolding times
times_head b xs = rw (eq-eqb b b refl) (omega arith)

pub times_skip : (b x : ℕ) (xs : List ℕ) → (b ≡ x → ⊥) → times b (x ∷ xs) ≡ times b xs
unfolding times
times_skip b x xs h = rw (ne_eqb b x h) (omega arith)

pub times_tail : (b x : ℕ) (xs : List ℕ) → times b xs ≤ times b (x ∷ xs)
unfolding times
times_tail b x xs = omega arith

-- ---- in lists put together: those that f makes of the elements of gs

pub times_flat : {A : Type 0} (f : A → List ℕ) (b : ℕ) (x : A) (gs : List A) → times b (flat (map f (x ∷ gs))) ≡ times b (f x) + times b (flat (map f gs))
unfolding flat
times_flat f b x gs = times_append b (f x) (flat (map f gs))

module _ {A : Type 0} (f : A → List ℕ) (d : A) (b : ℕ) where
  pub flat_one : (gs : List A) (i : ℕ) → i < length gs → times b (f (get_or gs i d)) ≤ times b (flat (map f gs))
  flat_one [] i l = absurd (omega arith)
  flat_one (x ∷ gs) zero l = omega (arith, times_flat f b x gs)
  flat_one (x ∷ gs) (suc i) l = omega (arith, times_flat f b x gs, flat_one gs i (omega arith))

  pub flat_two : (gs : List A) (i j : ℕ) → i < j → j < length gs → times b (f (get_or gs i d)) + times b (f (get_or gs j d)) ≤ times b (flat (map f gs))
  flat_two [] i j k l = absurd (omega arith)
  flat_two (x ∷ gs) i zero k l = absurd (omega arith)
  flat_two (x ∷ gs) zero (suc j) k l = omega (arith, times_flat f b x gs, flat_one gs j (omega arith))
  flat_two (x ∷ gs) (suc i) (suc j) k l = omega (arith, times_flat f b x gs, flat_two gs i j (omega arith) (omega arith))

  -- what stands in them all stands in one
  pub flat_find : (gs : List A) → 1 ≤ times b (flat (map f gs)) → (i : ℕ) × (i < length gs) × (1 ≤ times b (f (get_or gs i d)))
  unfolding flat times
  flat_find [] h = absurd (omega arith)
  flat_find (x ∷ gs) h =
      elim (ℕ_discrete (times b (f x)) 0) [
        | yes q ↦ let r = flat_find gs (omega (arith, times_flat f b x gs)) in (suc r.0, omega (arith, r.1), r.2)
        | no q ↦ (0, omega arith, omega arith)
      ]

  -- what stands at most once in each, and in no two, stands at most once in them all
  pub flat_once : (gs : List A) → ((i : ℕ) → i < length gs → times b (f (get_or gs i d)) ≤ 1)
      → ((i j : ℕ) → i < j → j < length gs → 1 ≤ times b (f (get_or gs i d)) → 1 ≤ times b (f (get_or gs j d)) → ⊥) → times b (flat (map f gs)) ≤ 1
  unfolding flat times
  flat_once [] o h = omega arith
  flat_once (x ∷ gs) o h =
      let r = flat_once gs (λ i l. o (suc i) (omega arith)) (λ i j k l. h (suc i) (suc j) (omega arith) (omega arith)) in
      elim (ℕ_discrete (times b (flat (map f gs))) 0) [
        | yes q ↦ omega (arith, times_flat f b x gs, o 0 (omega arith))
        | no q ↦ let s = flat_find gs (omega arith) in
            elim (ℕ_discrete (times b (f x)) 0) [
              | yes z ↦ omega (arith, times_flat f b x gs)
              | no z ↦ absurd (h 0 (suc s.0) (omega arith) (omega (arith, s.1)) (omega arith) s.2)
            ]
      ]

-- ---- the numbers from s on

pub length_from : (k s : ℕ) → length (from k s) ≡ k
unfolding from
length_from zero s = refl
length_from (suc k) s = ap suc (length_from k (suc s))

pub every_from : (p : ℕ → Bool) (k s : ℕ) → every p (from k s) ≡ true → (b : ℕ) → s ≤ b → b < s + k → p b ≡ true
unfolding from every
every_from p zero s h b l u = absurd (omega arith)
every_from p (suc k) s h b l u =
    let q = and-true (p s) (every p (from k (suc s))) h in
    elim (ℕ_discrete b s) [ yes z ↦ rw z q.0 | no z ↦ every_from p k (suc s) q.1 b (omega arith) (omega arith) ]

pub from_every : (p : ℕ → Bool) (k s : ℕ) → ((b : ℕ) → s ≤ b → b < s + k → p b ≡ true) → every p (from k s) ≡ true
unfolding from every
from_every p zero s h = refl
from_every p (suc k) s h = rw (h s (omega arith) (omega arith)) (from_every p k (suc s) (λ b l u. h b (omega arith) (omega arith)))

pub any_from : (p : ℕ → Bool) (k s : ℕ) → any p (from k s) ≡ false → (b : ℕ) → s ≤ b → b < s + k → p b ≡ false
unfolding from any
any_from p zero s h b l u = absurd (omega arith)
any_from p (suc k) s h b l u =
    let q = or-false (p s) (any p (from k (suc s))) h in
    elim (ℕ_discrete b s) [ yes z ↦ rw z q.0 | no z ↦ any_from p k (suc s) q.1 b (omega arith) (omega arith) ]

pub from_any : (p : ℕ → Bool) (k s : ℕ) → ((b : ℕ) → s ≤ b → b < s + k → p b ≡ false) → any p (from k s) ≡ false
unfolding from any
from_any p zero s h = refl
from_any p (suc k) s h = rw (h s (omega arith) (omega arith)) (from_any p k (suc s) (λ b l u. h b (omega arith) (omega arith)))
