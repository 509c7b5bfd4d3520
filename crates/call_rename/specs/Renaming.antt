-- What rename decides by the new name, and what it leaves, in the model's terms.
use Rattle.std.specs.Prelude.{ℕ, ◌≡◌, Bool, not, ◌&&◌, cond, List, length, eqb}
use Rattle.model.specs.Lists.{any, keep}
use Rattle.model.specs.Directory.{size_for, directory_blocks, directory, named}
use Rattle.model.specs.Check.{or_else}
use Rattle.model.specs.Calls.{same_size, has_room, removed, renamed}
use Rattle.directory.specs.Cursor.{bytes_at}
use Rattle.directory.specs.declared.EntryAt.{EntryAt}
use Rattle.model.specs.declared.VolumeFacts.{VolumeFacts}
use Rattle.files.specs.Lookup.{NamedEntry, FileAt}

-- another file than the one at that place, by whatever name that one is found, has the new name
abbrev pub NamesAnother : List ℕ → ℕ → List ℕ → Bool → Type 0
NamesAnother image place new r =
    (name : List ℕ) (e : EntryAt) → NamedEntry image name place e → r ≡ any (named new) (keep (λ x. not (named name x)) (directory image))

-- the size differs, and no directory block has room once the entry is out
abbrev pub roomless : VolumeFacts → List ℕ → List ℕ → List ℕ → Bool
roomless f image name new =
    not (same_size name new) && not (any (has_room (size_for (length new))) (removed name (directory_blocks f image)))

-- 18 and the image as it came where that holds; else 0 and the image with the entry renamed
pub record Retitles (f : VolumeFacts) (image name e new : List ℕ) (changed r : ℕ) (after : List ℕ) : Type 0 where
  pub number : r ≡ or_else (roomless f image name new) 18 0
  pub leaves : after ≡ cond (eqb r 0) (renamed f image name new changed e) image

abbrev pub Renames : VolumeFacts → List ℕ → EntryAt → List ℕ → ℕ → ℕ → List ℕ → Type 0
Renames f image e new changed r after = (h : FileAt f image e) → Retitles f image h.name (bytes_at image e) new changed r after
