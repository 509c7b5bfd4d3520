-- The hash table of the entries compared so far: home slots, and what stands in the slots.
use Rattle.std.specs.Prelude.{Result, Ok, Err, ◌&&◌, ℕ, ◌+◌, ◌-◌, ◌*◌, ◌/◌, ◌%◌, ◌≤◌, ◌<◌, ◌≡◌, true, false, List, [], ◌∷◌, length, get_or}
use Rattle.model.specs.Bytes.{byte}
use Rattle.model.specs.Lists.{distinct}
use Rattle.model.specs.Directory.{number_in, name_in}
use Rattle.directory.specs.declared.EntryAt.{EntryAt}
use Rattle.directory.specs.Cursor.{bytes_at, Stands}
use Rattle.directory.specs.Folding.{folded}
use Rattle.checks.specs.declared.Field.{Field}
use Rattle.checks.specs.declared.Field.TheVariants.{Number, Name}
use Rattle.checks.specs.declared.table.NoSlot.{NoSlot}
use Rattle.checks.specs.declared.table.NoSlot.TheVariants.{Repeated, Full}
use Rattle.checks.specs.Same.{same_by}

-- a hash of 16 bits
unfoldable pub hashed : ℕ → List ℕ → ℕ
hashed h [] = h
hashed h (b ∷ bs) = hashed ((h * 293 + b) % 65536) bs

-- a number below 4,096
unfoldable pub spread_of : ℕ → ℕ
spread_of h = h % 65536 * 40503 % 65536 / 16

-- the home slot of an entry, by its number or its name
abbrev pub home_by : Field → List ℕ → ℕ
home_by Number e = spread_of (number_in e)
home_by Name e = spread_of (hashed 0 (folded (name_in e)))

-- the entry that starts there
abbrev pub entry_from : List ℕ → ℕ → EntryAt
entry_from image start = record { start = start; name_length = byte image (start + 50) }

-- an entry stands in the slot, and its bytes
abbrev pub Occupied : List ℕ → ℕ → Type 0
Occupied table i = 1 ≤ get_or table i 0

abbrev pub occupant : List ℕ → List ℕ → ℕ → List ℕ
occupant image table i = bytes_at image (entry_from image (get_or table i 0 - 1))

-- every slot is free
pub record AllFree (table : List ℕ) : Type 0 where
  pub long : length table ≡ 6400
  pub free : (i : ℕ) → get_or table i 0 ≡ 0

-- whatever the table holds is an entry of the image
abbrev pub Filled : List ℕ → List ℕ → Type 0
Filled image table = (i : ℕ) → Occupied table i → Stands image (entry_from image (get_or table i 0 - 1))

-- what stands from e's home slot up to slot i differs from e, with no free slot between
pub record Passed (field : Field) (image table e : List ℕ) (i : ℕ) : Type 0 where
  pub behind : home_by field e ≤ i
  pub held : (j : ℕ) → home_by field e ≤ j → j < i → Occupied table j
  pub differ : (j : ℕ) → home_by field e ≤ j → j < i → same_by field (occupant image table j) e ≡ false

-- slot i is the free slot for e, and e's start fits
pub record FreeAt (field : Field) (image table : List ℕ) (e : EntryAt) (i : ℕ) : Type 0 where
  pub small : e.start < 0xffffffff
  pub within : i < 6400
  pub free : get_or table i 0 ≡ 0
  pub passed : Passed field image table (bytes_at image e) i

-- an entry of the table is the same as e
pub record Met (field : Field) (image table e : List ℕ) : Type 0 where
  pub slot : ℕ
  pub held : Occupied table slot
  pub same : same_by field (occupant image table slot) e ≡ true

-- what the table has for e
abbrev pub Probed : Field → List ℕ → List ℕ → EntryAt → Result ℕ NoSlot → Type 0
Probed field image table e (Ok i) = FreeAt field image table e i
Probed field image table e (Err Repeated) = Met field image table (bytes_at image e)
Probed field image table e (Err Full) = Unit {0}

-- what the table tells of the entries
abbrev pub Compares : Field → List (List ℕ) → Result Unit NoSlot → Type 0
Compares field es (Ok _) = distinct (same_by field) es ≡ true
Compares field es (Err Repeated) = distinct (same_by field) es ≡ false
Compares field es (Err Full) = Unit {0}

-- and of their numbers and names
abbrev pub ComparesBoth : List (List ℕ) → Result Unit NoSlot → Type 0
ComparesBoth es (Ok _) = (distinct (same_by Number) es && distinct (same_by Name) es) ≡ true
ComparesBoth es (Err Repeated) = (distinct (same_by Number) es && distinct (same_by Name) es) ≡ false
ComparesBoth es (Err Full) = Unit {0}
