-- The returns of `wrap`.
use Prim.Native.Nat.{ℕ, ◌<◌}
use mathlib.Core.Path.{◌≡◌, refl, sym, ◌∙◌}
use mathlib.Core.Bool.{true, false}
use mathlib.Core.List.{List}
use native.Mathlib.Omega.{arith}
use lib.ListN.{length}
use Rattle.model.specs.Bytes.{Bytes}
use Rattle.model.specs.Check.{verdict}
use Rattle.model.specs.Container.{bad_lengths, wrapping}
use Rattle.model.specs.Calls.{Does, Fits, checks, refuses, carries, only, reply, change, lent}
use Rattle.model.specs.Calls.Call.{wrap}
use Rattle.laws.proofs.Calls.{by_checks, by_own, does_refuse, does_serve}

module _ (image name : List ℕ) (format : ℕ) (buffer : List ℕ) (octets : Bytes image) (letters : Bytes name) (small : format < 256) (room : Bytes buffer) where
  -- what is checked before 1 to 10 fires
  wrap_stopped : (n : ℕ) → n ≡ checks (wrap name format buffer) image → (n ≡ 0 → ⊥) → Does (wrap name format buffer) image (only n buffer) image
  unfolding Fits lent carries
  wrap_stopped n h z = does_refuse (wrap name format buffer) image n octets (letters, small, room) (by_checks (wrap name format buffer) image n h z) z refl

  -- 22
  pub wrap_unfit : bad_lengths (length image) (length buffer) (length name) ≡ true → Does (wrap name format buffer) image (only 22 buffer) image
  unfolding checks
  wrap_unfit h = wrap_stopped 22 (rw h) (λ z. omega arith)

  module _ (h : bad_lengths (length image) (length buffer) (length name) ≡ false) where
    by_image : checks (wrap name format buffer) image ≡ verdict image
    unfolding checks
    by_image = rw h

    -- one of 1 to 10
    pub wrap_refused : {n : ℕ} → n ≡ verdict image → (n ≡ 0 → ⊥) → Does (wrap name format buffer) image (only n buffer) image
    wrap_refused {n} e z = wrap_stopped n (e ∙ sym by_image) z

    -- none
    pub wrap_done : verdict image ≡ 0 → {left : List ℕ} → left ≡ wrapping image name format → Does (wrap name format buffer) image (only 0 left) image
    unfolding Fits refuses reply change
    wrap_done v {left} e =
        let passes = by_own (wrap name format buffer) image 0 (by_image ∙ v) refl in
        rw e (does_serve (wrap name format buffer) image octets (letters, small, room) (sym passes))
