-- The returns of write.
use Prim.Native.Nat.{ℕ, ◌^◌, ◌<◌}
use mathlib.Core.Path.{◌≡◌, sym, ◌∙◌}
use mathlib.Core.List.{List, []}
use lib.ListN.{length}
use Rattle.model.specs.Bytes.{Bytes}
use Rattle.model.specs.Calls.{only, Does, Fits, needed_blocks, written, change}
use Rattle.model.specs.Calls.Call.{write}
use Rattle.model.specs.declared.VolumeFacts.{VolumeFacts}
use Rattle.model.specs.declared.Fork.{Fork}
use Rattle.model.specs.declared.ForkFacts.{ForkFacts}
use Rattle.directory.specs.declared.EntryAt.{EntryAt}
use Rattle.std.specs.Prelude.{Result}
use Rattle.model.specs.declared.refusal.Refusal.{Refusal}
use Rattle.model.specs.Refusals.{done_number}
use Rattle.forks.proofs.Growing.{grows_number}
use Rattle.forks.specs.Growth.{Grows}
use Rattle.files.specs.Leaves.{Written}
use Rattle.files.specs.Lookup.{Readable, ChangeableFork}
use Rattle.files.proofs.Refusing.{behind_offset, write_changing, changed_fork_at, changed_fork_is, not_beyond, refused_own, done}

-- ---- the returns of write

pub write_fits : (name : List ℕ) (fork : Fork) (offset : ℕ) (bytes : List ℕ) (changed : ℕ)
    → Bytes name → offset < 2 ^ 64 → Bytes bytes → changed < 2 ^ 32 → Fits (write name fork offset bytes changed)
unfolding Fits
write_fits name fork offset bytes changed letters o content d = (letters, o, content, d)

module _ {f : VolumeFacts} {image name : List ℕ} {fork : Fork} {offset : ℕ} {e : EntryAt} {g : ForkFacts}
    (r : Readable f image) (h : ChangeableFork image name fork offset e g) where
  -- 17 or 0
  number_is : (bytes : List ℕ) (needed : Result ℕ Refusal) → Grows f g offset (length bytes) needed → behind_offset image name fork offset bytes ≡ done_number needed
  unfolding needed_blocks
  number_is bytes needed w =
      let n = rw (r.facts, changed_fork_is r h) at (grows_number f g offset (length bytes) needed w) in
      sym n

  module _ (octets : Bytes image) {bytes : List ℕ} {changed : ℕ} (fits : Fits (write name fork offset bytes changed))
      (needed : Result ℕ Refusal) (w : Grows f g offset (length bytes) needed) where
    pub write_full : (done_number needed ≡ 0 → ⊥) → Does (write name fork offset bytes changed) image (only (done_number needed) []) image
    write_full z = refused_own r octets write_changing fits h.file (not_beyond r h) (number_is bytes needed w) z

    pub write_served : done_number needed ≡ 0 → {after : List ℕ} → Written f image e fork g offset bytes changed after
        → Does (write name fork offset bytes changed) image (only 0 []) after
    unfolding change
    write_served z p =
        done r octets write_changing fits h.file (not_beyond r h) (number_is bytes needed w ∙ z)
        (p (changed_fork_at r h).held ∙ (λ i. written (r.facts i) image name fork offset bytes changed (changed_fork_is r h i)))
