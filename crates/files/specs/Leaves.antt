-- What the changes of a named file leave, in the model's terms.
use Rattle.std.specs.Prelude.{ℕ, ◌≡◌, List}
use Rattle.model.specs.Calls.{written, shortened, deleted}
use Rattle.directory.specs.Cursor.{bytes_at}
use Rattle.model.specs.declared.VolumeFacts.{VolumeFacts}
use Rattle.model.specs.declared.Fork.{Fork}
use Rattle.model.specs.declared.ForkFacts.{ForkFacts}
use Rattle.directory.specs.declared.EntryAt.{EntryAt}
use Rattle.files.specs.Lookup.{FileAt}

-- a write of bytes at offset o to the fork g of the entry e
abbrev pub Written : VolumeFacts → List ℕ → EntryAt → Fork → ForkFacts → ℕ → List ℕ → ℕ → List ℕ → Type 0
Written f image e fork g o bytes changed after = (h : FileAt f image e) → after ≡ written f image h.name fork o bytes changed g

-- a cut of it to so many bytes
abbrev pub Shortened : VolumeFacts → List ℕ → EntryAt → Fork → ForkFacts → ℕ → ℕ → List ℕ → Type 0
Shortened f image e fork g size changed after = (h : FileAt f image e) → after ≡ shortened f image h.name fork size changed g

-- the file taken out
abbrev pub Deleted : VolumeFacts → List ℕ → EntryAt → List ℕ → Type 0
Deleted f image e after = (h : FileAt f image e) → after ≡ deleted f image h.name (bytes_at image e)
