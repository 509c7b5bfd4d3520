-- Laws of `check`'s answer: how its returns meet its contract, and what the other calls take from it.
use Rattle.std.proofs.Common.{Result, Ok, Err}
use Prim.Native.Nat.{ℕ}
use mathlib.Core.Path.{◌≡◌, refl, sym, ap, ◌∙◌}
use mathlib.Core.Bool.{true, false}
use mathlib.Core.List.{List, []}
use native.Mathlib.Omega.{arith}
use native.Mathlib.Decide.{ℕ_discrete}
use lib.ListN.{length}
use borrow.Author.Tests.{eq-eqb, ne_eqb}
use Rattle.model.specs.Bytes.{Bytes}
use Rattle.model.specs.Facts.{facts_of}
use Rattle.model.specs.Check.{fires1, from2, verdict}
use Rattle.model.specs.Calls.{Answer, checks, refuses, carries, refusal, only, tells_facts, reply, lent, change, answer, Fits, Does}
use Rattle.model.specs.Calls.Call.{check}
use Rattle.model.specs.declared.VolumeFacts.{VolumeFacts}
use Rattle.laws.proofs.Calls.{first_alone, by_checks, by_own, does_refuse, does_serve}
use Rattle.model.proofs.Check.{verdict_accepted}
use Rattle.model.specs.Refusals.{done_number}
use Rattle.model.specs.declared.refusal.Refusal.{Refusal}
use Rattle.model.specs.declared.refusal.Refusal.TheVariants.{BadLength}
use Rattle.files.specs.Told.{told_check}
use Rattle.files.specs.Lookup.{Readable}
use Rattle.checks.proofs.Firing.{fires_here, passes_here}

-- ---- the returns of `check`

module _ (image : List ℕ) (b : Bytes image) where
  refused : (n : ℕ) → n ≡ verdict image → (n ≡ 0 → ⊥) → Does check image (only n []) image
  unfolding lent Fits checks carries
  refused n v z = does_refuse check image n b tt (by_checks check image n v z) z refl

  -- check 1 fires
  pub does_1 : fires1 (length image) ≡ true → Does check image (told_check (Err BadLength)) image
  unfolding verdict
  does_1 h = refused 1 (sym (fires_here (fires1 (length image)) 1 _ h)) (λ z. omega arith)

  module _ (h : fires1 (length image) ≡ false) (g : VolumeFacts) (e : g ≡ facts_of image) (n : ℕ) (j : n ≡ from2 g image) where
    is_verdict : n ≡ verdict image
    unfolding verdict
    is_verdict = j ∙ ap (λ (k : VolumeFacts). from2 k image) e ∙ sym (passes_here (fires1 (length image)) 1 _ h)

    -- one of checks 2 to 10 fires
    pub does_number : (n ≡ 0 → ⊥) → Does check image (only n []) image
    does_number z = refused n is_verdict z

    -- none does
    pub does_facts : n ≡ 0 → Does check image (told_check (Ok g)) image
    unfolding reply tells_facts change checks refuses Fits
    does_facts z =
        let told : told_check (Ok g) ≡ tells_facts (facts_of image) =
        ap (λ (k : VolumeFacts). told_check (Ok k)) e in
        rw told (does_serve check image b tt (sym (by_own check image 0 (sym is_verdict ∙ z) refl)))

-- ---- what its answer says

refusal_check : (image : List ℕ) → refusal check image ≡ verdict image
unfolding refusal checks refuses
refusal_check image = first_alone (verdict image)

told_number_is : (r : Result VolumeFacts Refusal) → done_number r ≡ (told_check r).number
unfolding only
told_number_is (Ok facts) = refl
told_number_is (Err refusal) = refl

module _ {image : List ℕ} (r : Result VolumeFacts Refusal) {left : List ℕ} (d : Does check image (told_check r) left) where
  -- its number is that of the first check that fires
  pub number_is : done_number r ≡ verdict image
  unfolding answer reply tells_facts only
  number_is = told_number_is r ∙ ap (λ (a : Answer). a.number) d.answers ∙ go (ℕ_discrete (refusal check image) 0) ∙ refusal_check image
    where
      go : Dec (refusal check image ≡ 0) → (answer check image).number ≡ refusal check image
      go (yes q) = simp (eq-eqb (refusal check image) 0 q) (sym q)
      go (no q) = simp (ne_eqb (refusal check image) 0 q)

-- the facts that it gives are those of an accepted image
pub checked : {image : List ℕ} (facts : VolumeFacts) {left : List ℕ} → Does check image (told_check (Ok facts)) left → Readable facts image
unfolding answer reply tells_facts
checked {image} facts d =
    let v : verdict image ≡ 0 = sym (number_is (Ok facts) d) in
    let given : answer check image ≡ tells_facts (facts_of image) = simp (eq-eqb (refusal check image) 0 (refusal_check image ∙ v)) in
    record {
      facts = ap (λ (a : Answer). a.facts) (d.answers ∙ given);
      accepted = verdict_accepted image v;
    }
