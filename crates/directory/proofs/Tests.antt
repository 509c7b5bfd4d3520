-- Laws of the tests over entries es, of which x is the first and xs are the others.
use Prim.Native.Nat.{ℕ, zero, suc, ◌+◌, ◌-◌}
use mathlib.Core.Path.{◌≡◌, refl, sym, ap, ◌∙◌}
use mathlib.Core.Bool.{Bool, true, false, ◌&&◌}
use Rattle.std.proofs.Math.Bool.{and_assoc}
use mathlib.Core.List.{List, [], ◌∷◌}
use native.Mathlib.Omega.{arith}
use lib.ListN.{length, get_or}
use Rattle.model.specs.Lists.{every, any, first, place_of}

module _ {A : Type 0} {es xs : List A} {x : A} (r : es ≡ x ∷ xs) (p : A → Bool) where
  -- n says whether every one before x passes
  pub every_more : (n : Bool) → (n && every p es) ≡ (n && p x && every p xs)
  unfolding every
  every_more n = rw (r, and_assoc n (p x) (every p xs))

  pub any_pass : p x ≡ true → any p es ≡ true
  unfolding any
  any_pass h = rw (r, h)

  pub any_fail : p x ≡ false → any p es ≡ any p xs
  unfolding any
  any_fail h = rw (r, h)

  pub first_pass : (d : A) → p x ≡ true → first p d es ≡ x
  unfolding first
  first_pass d h = rw (r, h)

  pub first_fail : (d : A) → p x ≡ false → first p d es ≡ first p d xs
  unfolding first
  first_fail d h = rw (r, h)

  pub place_pass : p x ≡ true → place_of p es ≡ 0
  unfolding place_of
  place_pass h = rw (r, h)

  pub place_fail : p x ≡ false → place_of p es ≡ suc (place_of p xs)
  unfolding place_of
  place_fail h = rw (r, h)

module _ {A : Type 0} {es xs : List A} {x : A} (r : es ≡ x ∷ xs) (d : A) where
  pub at_first : (i : ℕ) → i ≡ 0 → get_or es i d ≡ x
  at_first i h = rw (r, h)

  pub at_later : (i : ℕ) → (i ≡ 0 → ⊥) → get_or es i d ≡ get_or xs (i - 1) d
  at_later zero h = absurd (h refl)
  at_later (suc i) h = rw r (ap (λ (j : ℕ). get_or xs j d) (omega arith))

-- A search by p has passed n of the entries `all` and found none; the entries `rest` are left.
pub record Onward {A : Type 0} (p : A → Bool) (d : A) (all rest : List A) (n : ℕ) : Type 0 where
  pub exists : any p all ≡ any p rest
  pub it : first p d all ≡ first p d rest
  pub there : place_of p all ≡ n + place_of p rest
  pub count : length all ≡ n + length rest

module _ {A : Type 0} {p : A → Bool} {d : A} {all rest : List A} {n : ℕ} (o : Onward p d all rest n) where
  module _ {x : A} {xs : List A} (r : rest ≡ x ∷ xs) where
    -- the next entry is not it
    pub onward_more : p x ≡ false → Onward p d all xs (n + 1)
    onward_more h = record {
      exists = o.exists ∙ any_fail r p h;
      it = o.it ∙ first_fail r p d h;
      there = omega (arith, o.there, place_fail r p h);
      count = omega (arith, o.count, ap (length {A = A}) r);
    }

    -- the next entry is it
    pub onward_found : p x ≡ true → (any p all ≡ true) × (n ≡ place_of p all) × (x ≡ first p d all)
    onward_found h = (o.exists ∙ any_pass r p h, omega (arith, o.there, place_pass r p h), sym (o.it ∙ first_pass r p d h))

  -- no entry is left
  pub onward_end : rest ≡ [] → (any p all ≡ false) × (n ≡ length all)
  unfolding any
  onward_end r = (o.exists ∙ ap (any p) r, omega (arith, o.count, ap (length {A = A}) r))
