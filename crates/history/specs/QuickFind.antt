-- Is the week there? (document 02, T-08) What quick find answers on an image that the full check accepts and on any other, and what it
-- answers from.
use Rattle.std.specs.Prelude.{ℕ, suc, ◌+◌, ◌≤◌, ◌<◌, ◌≡◌, true, false, List, [], map, ◌↔◌, ◌⊎◌, length, get_or, take}
use Rattle.model.specs.Lists.{flat}
use Rattle.model.specs.Facts.{facts_of, dir_length}
use Rattle.model.specs.Directory.{entries, directory_blocks, entry_in, named}
use Rattle.model.specs.Check.{first_four, Accepted}
use Rattle.model.specs.Quick.{quick_entries, quick_directory}
use Rattle.model.specs.Calls.{Answer, bad_name, Does}
use Rattle.model.specs.Calls.Call.{check, find, quick_find}

-- the directory blocks of an image
abbrev pub dir_blocks : List ℕ → List (List ℕ)
dir_blocks image = directory_blocks (facts_of image) image

-- of the blocks bs, each read so and one after another, the entry at a place is one of the block at place `index`
pub record InBlock (read : List ℕ → List (List ℕ)) (bs : List (List ℕ)) (place index : ℕ) : Type 0 where
  pub within : index < length bs
  -- its place among that block's entries, behind all those of the blocks before
  pub among : ℕ
  pub below : among < length (read (get_or bs index []))
  pub behind : place ≡ length (flat (map read (take index bs))) + among

-- ---- For every image that the full check accepts

-- what quick find answered and what find answered, of the same name on the same image
pub record AsFind (image : List ℕ) (quick found : Answer) : Type 0 where
  -- the answer equals find
  pub number : quick.number ≡ found.number
  pub place : quick.place ≡ found.place
  pub entry : quick.entry ≡ found.entry
  -- The reported number of directory blocks looked at is the place of the entry's block, counted from 1,
  pub block : quick.number ≡ 0 → (index : ℕ) × (quick.count ≡ suc index) × InBlock entries (dir_blocks image) quick.place index
  -- or all of them if the name is absent.
  pub absent : quick.number ≡ 13 → quick.count ≡ dir_length (facts_of image)
  -- No other refusal carries it.
  pub other : (quick.number ≡ 0 → ⊥) → (quick.number ≡ 13 → ⊥) → quick.count ≡ 0

unfoldable pub QuickFind : Type 0
QuickFind =
    (image name : List ℕ) (quick found : Answer) (left kept : List ℕ) → Accepted image
    → Does (quick_find name) image quick left → Does (find name) image found kept → AsFind image quick found

-- ---- For every image, accepted or not

-- The first equal name so read is the answer, its place counted over the entries so read, and the count follows the same rule.
pub record FirstRead (image name : List ℕ) (quick : Answer) : Type 0 where
  pub below : quick.place < length (quick_directory image)
  pub equal : named name (get_or (quick_directory image) quick.place []) ≡ true
  pub first : (i : ℕ) → i < quick.place → named name (get_or (quick_directory image) i []) ≡ false
  pub entry : quick.entry ≡ entry_in (get_or (quick_directory image) quick.place [])
  pub index : ℕ
  pub block : InBlock quick_entries (dir_blocks image) quick.place index
  pub count : quick.count ≡ suc index

-- what quick find answered of a name and what check answered, on the same image
pub record OnAny (image name : List ℕ) (quick checked : Answer) : Type 0 where
  -- Refusals: 1 to 4, which are check's,
  pub checks : (n : ℕ) → 1 ≤ n → n ≤ 4 → (quick.number ≡ n) ↔ (checked.number ≡ n)
  -- 12, 13.
  pub numbers : (quick.number ≤ 4) ⊎ ((quick.number ≡ 12) ⊎ (quick.number ≡ 13))
  pub untitled : quick.number ≡ 12 → bad_name name ≡ true
  pub found : quick.number ≡ 0 → FirstRead image name quick
  -- absent: no entry so read has the name
  pub absent : quick.number ≡ 13
      → ((i : ℕ) → i < length (quick_directory image) → named name (get_or (quick_directory image) i []) ≡ false) × (quick.count ≡ dir_length (facts_of image))
  -- Here alone 13 carries the count.
  pub other : (quick.number ≡ 0 → ⊥) → (quick.number ≡ 13 → ⊥) → quick.count ≡ 0

unfoldable pub QuickAny : Type 0
QuickAny =
    (image name : List ℕ) (quick checked : Answer) (left kept : List ℕ)
    → Does (quick_find name) image quick left → Does check image checked kept → OnAny image name quick checked

-- Answer from checks 1 to 4 and the directory blocks up to the one that has it: the answer is the same on every image with the same number
-- from checks 1 to 4, as many directory blocks, and the same ones first, as many as were looked at.
unfoldable pub QuickReads : Type 0
QuickReads =
    (image other name : List ℕ) (given there : Answer) (left kept : List ℕ)
    → Does (quick_find name) image given left → Does (quick_find name) other there kept
    → first_four other ≡ first_four image → dir_length (facts_of other) ≡ dir_length (facts_of image)
    → take given.count (dir_blocks other) ≡ take given.count (dir_blocks image)
    → there ≡ given
