-- Laws of checks 1 to 4.
use Prim.Native.Nat.{ℕ, ◌*◌, ◌/◌, ◌%◌, ◌≤◌, ◌<◌}
use mathlib.Core.Path.{◌≡◌, refl, sym, ap, ◌∙◌}
use mathlib.Core.Bool.{Bool, true, false, not}
use native.Mathlib.Nat.{mul-le-mul}
use lib.Dec.{eqb, ltb}
use borrow.Author.Tests.{ltb-false, eq-eqb, ne_eqb, le-ltb, lt-ltb}
use Rattle.model.specs.Check.{fires1, fires2, fires3, fires4, facts_number}
use Rattle.model.specs.declared.VolumeFacts.{VolumeFacts}
use Rattle.model.proofs.Lists.{or-false}
use Rattle.model.proofs.Check.{LayoutOf, layout}
use Rattle.checks.proofs.Firing.{fires_here, passes_here}

-- an image that passes check 1 has 8 blocks or more
pub long_blocks : (size : ℕ) → fires1 size ≡ false → 8 ≤ size / 512
unfolding fires1
long_blocks size h =
    let a = or-false (not (eqb (size % 512) 0)) _ h in
    let b = or-false (ltb (size / 512) 8) _ a.1 in
    ltb-false (size / 512) 8 b.0

-- ---- check 3

module _ (f : VolumeFacts) (blocks : ℕ) where
  -- it fires where something of the layout fails
  pub layout_fires : (LayoutOf f blocks → ⊥) → true ≡ fires3 f blocks
  layout_fires z = go (fires3 f blocks) refl
    where
      go : (t : Bool) → fires3 f blocks ≡ t → true ≡ t
      go true h = refl
      go false h = absurd (z (layout f blocks h))

-- the bytes of all allocation blocks fit a number of 32 bits
pub area_fits : (n a : ℕ) → n ≤ 640 → a ≤ 32768 → n * a ≤ 20971520
area_fits n a h k = mul-le-mul h k

-- ---- checks 2 to 4

module _ (f : VolumeFacts) (blocks : ℕ) where
  pub number_2 : (f.signature ≡ 0xd2d7 → ⊥) → 2 ≡ facts_number f blocks
  unfolding facts_number fires2
  number_2 h = sym (fires_here _ 2 _ (ap not (ne_eqb f.signature 0xd2d7 h)))

  module _ (s : f.signature ≡ 0xd2d7) where
    signed : fires2 f ≡ false
    unfolding fires2
    signed = ap not (eq-eqb f.signature 0xd2d7 s)

    pub number_3 : fires3 f blocks ≡ true → 3 ≡ facts_number f blocks
    unfolding facts_number
    number_3 h = sym (passes_here (fires2 f) 2 _ signed ∙ fires_here (fires3 f blocks) 3 _ h)

    module _ (l : fires3 f blocks ≡ false) where
      pub number_4 : 27 < f.name_length → 4 ≡ facts_number f blocks
      unfolding facts_number fires4
      number_4 h = sym (passes_here (fires2 f) 2 _ signed ∙ passes_here (fires3 f blocks) 3 _ l ∙ fires_here _ 4 0 (lt-ltb 27 f.name_length h))

      pub number_past : f.name_length ≤ 27 → 0 ≡ facts_number f blocks
      unfolding facts_number fires4
      number_past h = sym (passes_here (fires2 f) 2 _ signed ∙ passes_here (fires3 f blocks) 3 _ l ∙ passes_here _ 4 0 (le-ltb 27 f.name_length h))
