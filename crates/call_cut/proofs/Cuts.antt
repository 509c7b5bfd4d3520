-- The return of cut.
use Prim.Native.Nat.{ℕ, ◌^◌, ◌<◌}
use mathlib.Core.Path.{refl, ◌∙◌}
use mathlib.Core.List.{List, []}
use Rattle.model.specs.Bytes.{Bytes}
use Rattle.model.specs.Calls.{only, Does, Fits, shortened, change}
use Rattle.model.specs.Calls.Call.{cut}
use Rattle.model.specs.declared.VolumeFacts.{VolumeFacts}
use Rattle.model.specs.declared.Fork.{Fork}
use Rattle.model.specs.declared.ForkFacts.{ForkFacts}
use Rattle.directory.specs.declared.EntryAt.{EntryAt}
use Rattle.files.specs.Lookup.{Readable, ChangeableFork}
use Rattle.files.specs.Leaves.{Shortened}
use Rattle.files.proofs.Refusing.{cut_changing, changed_fork_at, changed_fork_is, not_beyond, done}

-- ---- the return

pub cut_fits : (name : List ℕ) (fork : Fork) (size changed : ℕ) → Bytes name → size < 2 ^ 64 → changed < 2 ^ 32 → Fits (cut name fork size changed)
unfolding Fits
cut_fits name fork size changed letters s d = (letters, s, d)

pub cut_served : {f : VolumeFacts} {image name : List ℕ} {fork : Fork} {size : ℕ} {e : EntryAt} {g : ForkFacts}
    → (r : Readable f image) → Bytes image → ChangeableFork image name fork size e g → {changed : ℕ} → Fits (cut name fork size changed)
    → {left : List ℕ} → Shortened f image e fork g size changed left → Does (cut name fork size changed) image (only 0 []) left
unfolding change
cut_served {f} {image} {name} {fork} {size} r octets h {changed} fits s =
    done r octets cut_changing fits h.file (not_beyond r h) refl
    (s (changed_fork_at r h).held ∙ (λ i. shortened (r.facts i) image name fork size changed (changed_fork_is r h i)))
