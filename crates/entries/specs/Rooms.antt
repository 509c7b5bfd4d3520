-- Room for an entry to be put in, in the directory blocks: the one at byte first and `left` behind it.
use Rattle.std.specs.Prelude.{ℕ, ◌+◌, ◌*◌, ◌≤◌, ◌<◌, ◌≡◌, true, false, List, ◌++◌, drop, Option, Some, None, MatchOption}
use Rattle.std.proofs.Math.Seq.{paste}
use Rattle.model.specs.Lists.{any}
use Rattle.model.specs.Bytes.{part}
use Rattle.model.specs.Directory.{read_end, cut_blocks}
use Rattle.model.specs.Calls.{has_room, filled}
use Rattle.directory.specs.Cursor.{Lies}
use Rattle.directory.specs.declared.EntryAt.{EntryAt}
use Rattle.entries.specs.declared.Room.{Room}

-- block `index` of them is the first with room; it starts at byte base, and its reading ends at place end
pub record HasRoom (image : List ℕ) (first left size base end : ℕ) : Type 0 where
  pub index : ℕ
  pub within : index ≤ left
  pub block : base ≡ first + 512 * index
  pub ends : end ≡ read_end (part base 512 image)
  pub none : any (has_room size) (cut_blocks index (drop first image)) ≡ false
  pub room : has_room size (part base 512 image) ≡ true

abbrev pub Roomy : List ℕ → ℕ → ℕ → ℕ → Option Room → Type 0
Roomy image first left size (Some r) = HasRoom image first left size r.base r.end
Roomy image first left size None = any (has_room size) (cut_blocks (left + 1) (drop first image)) ≡ false

-- the same of the image without the entry
abbrev pub RoomyWithout : List ℕ → ℕ → ℕ → ℕ → EntryAt → Option Room → Type 0
RoomyWithout image first left size e r =
    (l : Lies image first (left + 1) e) (after : List ℕ) → after ≡ paste image (first + 512 * l.index) (filled (l.before ++ l.behind)) 512
    → Roomy after first left size r

-- ---- the search, where Ends base end says that the reading of the block at byte base ends at place end

-- the first n blocks have no room
abbrev pub Full : (ℕ → ℕ → Type 0) → ℕ → ℕ → ℕ → Type 0
Full Ends first size n = (i : ℕ) → i < n → (end : ℕ) × Ends (first + 512 * i) end × (512 < end + size)

-- block `index` is the first with room
pub record Fitting (Ends : ℕ → ℕ → Type 0) (first left size : ℕ) (r : Room) : Type 0 where
  pub index : ℕ
  pub within : index ≤ left
  pub block : r.base ≡ first + 512 * index
  pub ends : Ends r.base r.end
  pub none : Full Ends first size index
  pub room : r.end + size ≤ 512

-- what a search has found
pub record Searched (Ends : ℕ → ℕ → Type 0) (first left size : ℕ) (found : Option Room) : Type 0 where
  pub is : MatchOption found (Full Ends first size (left + 1)) (Fitting Ends first left size)
