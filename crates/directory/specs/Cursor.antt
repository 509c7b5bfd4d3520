-- What the directory cursor says: the entries from it on, and what one step of it finds.
use Rattle.std.specs.Prelude.{ℕ, ◌+◌, ◌-◌, ◌*◌, ◌≤◌, ◌<◌, ◌≡◌, true, false, List, [], ◌∷◌, ◌++◌, length, drop, Option, Some, None, Result, Ok, Err}
use Rattle.model.specs.Lists.{flat}
use Rattle.model.specs.Bytes.{byte, part}
use Rattle.model.specs.Directory.{size_for, read_at, entries, cut_blocks, listing}
use Rattle.model.specs.Check.{good_entry, fires6}
use Rattle.model.specs.declared.LogicalBlock.{LogicalBlock}
use Rattle.directory.specs.declared.Cursor.{Cursor}
use Rattle.directory.specs.declared.EntryAt.{EntryAt}
use Rattle.directory.specs.declared.BadEntry.{BadEntry}

-- the directory block that the cursor stands in
abbrev pub block_of : List ℕ → Cursor → List ℕ
block_of image c = part c.base 512 image

-- the entries from the cursor on: those left in its block, then those of the blocks behind it
unfoldable pub rest_of : List ℕ → Cursor → List (List ℕ)
rest_of image c = read_at 10 (block_of image c) c.at ++ listing (cut_blocks c.left (drop (c.base + 512) image))

-- the cursor's blocks are within the image, and its place is within its block
pub record CursorFits (image : List ℕ) (c : Cursor) : Type 0 where
  pub blocks : c.base + 512 * (c.left + 1) ≤ length image
  pub place : c.at ≤ 512

-- and check 6 fires for none of its entries
pub record Passes (image : List ℕ) (c : Cursor) : Type 0 where
  pub fits : CursorFits image c
  pub good : fires6 (rest_of image c) ≡ false

-- bytes from the cursor to the end of the directory: each step leaves fewer
abbrev pub ahead : Cursor → ℕ
ahead c = 512 * (c.left + 1) - c.at

-- a cursor at the first entry of the directory that starts at that logical block and has so many blocks
pub record Begins (start : LogicalBlock) (blocks : ℕ) (c : Cursor) : Type 0 where
  pub base : c.base ≡ 512 * start.0
  pub at : c.at ≡ 0
  pub left : c.left + 1 ≡ blocks
  pub rest : (image : List ℕ) → rest_of image c ≡ listing (cut_blocks blocks (drop (512 * start.0) image))

-- the entry's bytes
abbrev pub bytes_at : List ℕ → EntryAt → List ℕ
bytes_at image e = part e.start (size_for e.name_length) image

-- the entry and its name are within the image, and the name's length is as its byte says
pub record Stands (image : List ℕ) (e : EntryAt) : Type 0 where
  pub inside : e.start + 51 + e.name_length ≤ length image
  pub titled : e.name_length ≡ byte image (e.start + 50)
  pub some : 1 ≤ e.name_length
  pub most : e.name_length ≤ 255

-- the reading of so many directory blocks from byte base on comes to the cursor: it stands in block `index` of them, behind the
-- entries `before` of that block
pub record Comes (image : List ℕ) (base blocks : ℕ) (c : Cursor) : Type 0 where
  pub index : ℕ
  pub before : List (List ℕ)
  pub block : c.base ≡ base + 512 * index
  pub count : index + (c.left + 1) ≡ blocks
  pub split : entries (block_of image c) ≡ before ++ read_at 10 (block_of image c) c.at
  pub place : c.at ≡ length (flat before)

-- the entry stands in block `index` of them, between the entries `before` and `behind`
pub record Lies (image : List ℕ) (base blocks : ℕ) (e : EntryAt) : Type 0 where
  pub index : ℕ
  pub before : List (List ℕ)
  pub behind : List (List ℕ)
  pub within : index < blocks
  pub split : entries (part (base + 512 * index) 512 image) ≡ before ++ (bytes_at image e ∷ behind)
  pub place : e.start ≡ base + 512 * index + length (flat before)

-- the next entry from the cursor c on is e, and the cursor behind it is d
pub record Moves (image : List ℕ) (c : Cursor) (e : EntryAt) (d : Cursor) : Type 0 where
  pub rest : rest_of image c ≡ bytes_at image e ∷ rest_of image d
  pub good : good_entry (bytes_at image e) ≡ true
  pub stands : Stands image e
  pub fits : CursorFits image d
  pub less : ahead d < ahead c
  pub lies : (base blocks : ℕ) → Comes image base blocks c → Lies image base blocks e
  pub comes : (base blocks : ℕ) → Comes image base blocks c → Comes image base blocks d

-- the next entry fails check 6
pub record Fails (image : List ℕ) (c : Cursor) : Type 0 where
  pub entry : List ℕ
  pub others : List (List ℕ)
  pub rest : rest_of image c ≡ entry ∷ others
  pub bad : good_entry entry ≡ false

-- what a step from the cursor finds
abbrev pub Stepped : List ℕ → Cursor → Result (Option (EntryAt × Cursor)) BadEntry → Type 0
Stepped image c (Ok (Some m)) = Moves image c m.0 m.1
Stepped image c (Ok None) = rest_of image c ≡ []
Stepped image c (Err _) = Fails image c

-- what it finds where an entry is at the cursor
abbrev pub Entered : List ℕ → Cursor → Result (EntryAt × Cursor) BadEntry → Type 0
Entered image c (Ok m) = Moves image c m.0 m.1
Entered image c (Err _) = Fails image c

-- the same where check 6 fires for none of the entries, so that it fires for none behind e
pub record Advances (image : List ℕ) (c : Cursor) (e : EntryAt) (d : Cursor) : Type 0 where
  pub moves : Moves image c e d
  pub passes : Passes image d

-- what it finds there
abbrev pub Advanced : List ℕ → Cursor → Option (EntryAt × Cursor) → Type 0
Advanced image c (Some m) = Advances image c m.0 m.1
Advanced image c None = rest_of image c ≡ []
