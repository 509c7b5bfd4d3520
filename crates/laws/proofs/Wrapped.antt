-- Laws of a call on a wrapped file: its number, its answer, and what it leaves.
use Prim.Native.Nat.{ℕ}
use mathlib.Core.Path.{◌≡◌, refl, sym, ap, ◌∙◌}
use mathlib.Core.Bool.{true, false}
use mathlib.Core.List.{List}
use native.Mathlib.Decide.{ℕ_discrete}
use borrow.Author.Tests.{eq-eqb, ne_eqb}
use Rattle.model.specs.Bytes.{Bytes}
use Rattle.model.specs.Container.{inside, container_verdict, renewed, SoundContainer}
use Rattle.model.specs.Calls.{Call, carries, refusal, change, only, lent, answer, after, serves_wrapped}
use Rattle.model.specs.Calls.Call.{check, entry, find, block, read, create, write, cut, delete, wrap, rename, quick_find}
use Rattle.model.specs.Wrapped.{file_refusal, file_answer, file_after}
use Rattle.model.proofs.Lists.{so_not}
use Rattle.model.proofs.Container.{sound_passes}
use Rattle.laws.proofs.Calls.{first_zero, first_fires}
use Rattle.laws.proofs.Refusals.{refused, done}
use Rattle.laws.proofs.Containers.{renewed_same}

-- a call that serves wrapped files carries no count beside a refusal
pub bare : (call : Call) → serves_wrapped call ≡ true → (n : ℕ) (image : List ℕ) → carries call n image ≡ 0
unfolding serves_wrapped carries
bare check s n image = refl
bare (entry place) s n image = refl
bare (find name) s n image = refl
bare (block name fork place) s n image = refl
bare (read name fork offset buffer) s n image = refl
bare (create name finder created changed) s n image = refl
bare (write name fork offset bytes changed) s n image = refl
bare (cut name fork size changed) s n image = refl
bare (delete name) s n image = refl
bare (wrap name format buffer) s n image = refl
bare (rename name new changed) s n image = refl
bare (quick_find name) s n image = absurd (so_not false refl s)

module _ (call : Call) (file : List ℕ) where
  -- refused by 22 to 24
  pub outer_refusal : (container_verdict file ≡ 0 → ⊥) → file_refusal call file ≡ container_verdict file
  unfolding file_refusal
  outer_refusal z = first_fires (container_verdict file) (refusal call (inside file)) z

  pub outer_answer : (container_verdict file ≡ 0 → ⊥) → file_answer call file ≡ only (container_verdict file) (lent call)
  unfolding file_answer
  outer_answer z = rw (outer_refusal z, ne_eqb (container_verdict file) 0 z)

  -- by the call on the data inside
  pub inner_refusal : container_verdict file ≡ 0 → file_refusal call file ≡ refusal call (inside file)
  unfolding file_refusal
  inner_refusal z = first_zero (container_verdict file) (refusal call (inside file)) z

  pub inner_answer : carries call (refusal call (inside file)) (inside file) ≡ 0 → container_verdict file ≡ 0
      → file_answer call file ≡ answer call (inside file)
  unfolding file_answer answer only
  inner_answer b z = rw (inner_refusal z, b)

  -- what it leaves
  pub left_refused : (file_refusal call file ≡ 0 → ⊥) → file_after call file ≡ file
  unfolding file_after
  left_refused z = rw (ne_eqb (file_refusal call file) 0 z)

  pub left_done : file_refusal call file ≡ 0 → file_after call file ≡ renewed file (change call (inside file))
  unfolding file_after
  left_done z = rw (eq-eqb (file_refusal call file) 0 z)

  module _ (s : SoundContainer file) (b : Bytes file) where
    -- of a sound container the data inside are those that the call leaves of them, and the checksum is theirs
    pub left_is : file_after call file ≡ renewed file (after call (inside file))
    left_is =
        let own = inner_refusal (sound_passes file s) in
        elim (ℕ_discrete (refusal call (inside file)) 0) [
          | yes z ↦ left_done (own ∙ z) ∙ ap (renewed file) (sym (done call (inside file) z))
          | no z ↦
              left_refused (λ e. z (sym own ∙ e))
              ∙ sym (renewed_same file s b)
              ∙ ap (renewed file) (sym (refused call (inside file) z))
        ]

    -- a call that leaves the data leaves the file
    pub left_same : after call (inside file) ≡ inside file → file_after call file ≡ file
    left_same e = left_is ∙ ap (renewed file) e ∙ renewed_same file s b
