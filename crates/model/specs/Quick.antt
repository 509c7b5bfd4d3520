-- Quick find (document 02, T-08): the entries that it reads, and the directory blocks that it looks at. All of it is said of every image,
-- accepted or not.
use Rattle.std.specs.Prelude.{ℕ, suc, Bool, cond, List, map, length}
use Rattle.model.specs.Lists.{any, leading, place_of, flat}
use Rattle.model.specs.Facts.{facts_of}
use Rattle.model.specs.Directory.{entries, directory_blocks, named}
use Rattle.model.specs.Check.{good_entry}

-- A block's reading stops at an entry that 6 would refuse.
unfoldable pub quick_entries : List ℕ → List (List ℕ)
quick_entries b = leading good_entry (entries b)

-- The blocks are read one after another: the entries so read, in directory order.
unfoldable pub quick_listing : List (List ℕ) → List (List ℕ)
quick_listing bs = flat (map quick_entries bs)

unfoldable pub quick_directory : List ℕ → List (List ℕ)
quick_directory image = quick_listing (directory_blocks (facts_of image) image)

-- the block has an equal name among the entries so read
unfoldable pub shows : List ℕ → List ℕ → Bool
shows name b = any (named name) (quick_entries b)

-- The number of directory blocks looked at is the place of the entry's block, counted from 1, or all of them if the name is absent.
unfoldable pub looked_at : List ℕ → List (List ℕ) → ℕ
looked_at name bs = let place = place_of (shows name) bs in cond (any (shows name) bs) (suc place) (length bs)

unfoldable pub blocks_looked : List ℕ → List ℕ → ℕ
blocks_looked name image = looked_at name (directory_blocks (facts_of image) image)
