-- The returns of `quick_find` by checks 1 to 4, and what passing them gives.
use Prim.Native.Nat.{ℕ, ◌/◌, ◌≤◌}
use mathlib.Core.Path.{◌≡◌, sym, ap, ◌∙◌}
use mathlib.Core.Bool.{true, false}
use mathlib.Core.List.{List, []}
use native.Mathlib.Omega.{arith}
use lib.ListN.{length}
use borrow.Author.Tests.{ne_eqb}
use Rattle.model.specs.Bytes.{Bytes}
use Rattle.model.specs.Facts.{facts_of}
use Rattle.model.specs.Check.{fires1, facts_number, first_four}
use Rattle.model.specs.Calls.{Answer, Does, Fits, checks, carries, counted, lent}
use Rattle.model.specs.Calls.Call.{quick_find}
use Rattle.model.specs.declared.VolumeFacts.{VolumeFacts}
use Rattle.laws.proofs.Calls.{by_checks, does_count}
use Rattle.laws.proofs.Quick.{facts_low}
use Rattle.checks.proofs.Firing.{fires_here, passes_here}
use Rattle.checks.proofs.Numbers.{facts_sound}
use Rattle.call_quick_find.specs.Opened.{Opened}

module _ (image : List ℕ) where
  module _ {name : List ℕ} (octets : Bytes image) (letters : Bytes name) where
    -- one of 1 to 4
    stopped : (n : ℕ) → n ≤ 4 → n ≡ first_four image → (n ≡ 0 → ⊥) → Does (quick_find name) image (counted n 0 []) image
    unfolding Fits checks carries lent
    stopped n l h z =
        let other : n ≡ 13 → ⊥ = λ e. omega arith in
        does_count (quick_find name) image n 0 octets letters (by_checks (quick_find name) image n h z) z (rw (ne_eqb n 13 other))

    pub stopped_1 : {a : Answer} → a ≡ counted 1 0 [] → fires1 (length image) ≡ true → Does (quick_find name) image a image
    unfolding first_four
    stopped_1 q h = rw q (stopped 1 (omega arith) (sym (fires_here (fires1 (length image)) 1 _ h)) (λ z. omega arith))

    pub stopped_facts : (f : VolumeFacts) → f ≡ facts_of image → fires1 (length image) ≡ false → (n : ℕ) → n ≡ facts_number f (length image / 512)
        → (n ≡ 0 → ⊥) → {a : Answer} → a ≡ counted n 0 [] → Does (quick_find name) image a image
    unfolding first_four
    stopped_facts f e l n h z q =
        let is : facts_number f (length image / 512) ≡ first_four image =
        ap (λ (g : VolumeFacts). facts_number g (length image / 512)) e ∙ sym (passes_here (fires1 (length image)) 1 _ l) in
        rw q (stopped n (omega (arith, facts_low f (length image / 512))) (h ∙ is) z)

  -- none
  pub opened : (f : VolumeFacts) → f ≡ facts_of image → fires1 (length image) ≡ false → (n : ℕ) → n ≡ facts_number f (length image / 512) → n ≡ 0
      → Opened f image
  opened f e l n h z = record { facts = e; sound = facts_sound f image n h z l }
