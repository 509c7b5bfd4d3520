-- The return of delete.
use Prim.Native.Nat.{ℕ}
use mathlib.Core.Path.{refl, ◌∙◌}
use mathlib.Core.List.{List, []}
use Rattle.model.specs.Bytes.{Bytes}
use Rattle.model.specs.Calls.{only, Does, Fits, deleted, change}
use Rattle.model.specs.Calls.Call.{delete}
use Rattle.model.specs.declared.VolumeFacts.{VolumeFacts}
use Rattle.directory.specs.declared.EntryAt.{EntryAt}
use Rattle.files.specs.Lookup.{Readable, Changeable}
use Rattle.files.specs.Leaves.{Deleted}
use Rattle.files.proofs.Forks.{named_bytes}
use Rattle.files.proofs.Refusing.{delete_changing, done}

-- ---- the returns

pub delete_fits : (name : List ℕ) → Bytes name → Fits (delete name)
unfolding Fits
delete_fits name letters = letters

pub delete_served : {f : VolumeFacts} {image : List ℕ} (r : Readable f image) → Bytes image → {name : List ℕ} → Fits (delete name)
    → {place : ℕ} {e : EntryAt} → Changeable image name place e
    → {left : List ℕ} → Deleted f image e left → Does (delete name) image (only 0 []) left
unfolding change
delete_served {f} {image} r octets {name} fits {place} {e} h s =
    done r octets delete_changing fits h refl refl
    (s (record { readable = r; name = name; place = place; found = h.found })
    ∙ (λ i. deleted (r.facts i) image name (named_bytes r h.found i)))
