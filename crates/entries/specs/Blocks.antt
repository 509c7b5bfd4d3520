-- A directory block, and what taking an entry out of it leaves.
use Rattle.std.specs.Prelude.{ℕ, ◌+◌, ◌-◌, ◌%◌, ◌≤◌, ◌<◌, ◌≡◌, false, List, ◌++◌, ◌⊎◌, length}
use Rattle.std.proofs.Math.Seq.{paste}
use Rattle.model.specs.Bytes.{part}
use Rattle.model.specs.Lists.{flat}
use Rattle.model.specs.Directory.{entries, read_end}
use Rattle.model.specs.Check.{fires6}
use Rattle.model.specs.Calls.{filled}
use Rattle.directory.specs.Cursor.{Lies}
use Rattle.directory.specs.declared.EntryAt.{EntryAt}

-- the directory block at byte base is within the image and passes check 6
pub record Block (image : List ℕ) (base : ℕ) : Type 0 where
  pub within : base + 512 ≤ length image
  pub good : fires6 (entries (part base 512 image)) ≡ false

-- the byte where an entry's directory block starts
abbrev pub block_start : EntryAt → ℕ
block_start e = e.start - e.start % 512

-- the entry is one of that block's where its first byte is in the block
abbrev pub StandsIn : List ℕ → ℕ → EntryAt → Type 0
StandsIn image base e = base ≤ e.start → e.start < base + 512 → Lies image base 1 e

-- where the block's reading ends once the entry is out: the others' bytes, and all where it is not the block's
pub record EndsWithout (image : List ℕ) (base : ℕ) (e : EntryAt) (end : ℕ) : Type 0 where
  pub own : (l : Lies image base 1 e) → end ≡ length (flat (l.before ++ l.behind))
  pub other : (e.start < base) ⊎ (base + 512 ≤ e.start) → end ≡ read_end (part base 512 image)
  pub most : end ≤ 512

-- the image without the entry: in the block at byte base the later entries moved up, with zeros behind them
abbrev pub Removes : List ℕ → ℕ → EntryAt → List ℕ → Type 0
Removes image base e after = (l : Lies image base 1 e) → after ≡ paste image base (filled (l.before ++ l.behind)) 512
