-- What the parts of the check say: the numbers of some checks in their order, and what each part may rely on.
use Rattle.std.specs.Prelude.{ℕ, ◌<◌, ◌≡◌, Bool, true, false, List, length}
use Rattle.model.specs.Facts.{facts_of, dir_start, N, S}
use Rattle.model.specs.Directory.{owned_blocks}
use Rattle.model.specs.Check.{or_else, fires1, fires6, fires7, SoundFacts}
use Rattle.blockmap.specs.Decoded.{Decoded}
use Rattle.blockmap.specs.Marks.{marked, claim_all}
use Rattle.directory.specs.Cursor.{Passes}
use Rattle.model.specs.declared.VolumeFacts.{VolumeFacts}
use Rattle.model.specs.declared.ForkFacts.{ForkFacts}
use Rattle.directory.specs.declared.Cursor.{Cursor}

-- 6, 7 or 0
unfoldable pub directory_number : ℕ → ℕ → List (List ℕ) → ℕ
directory_number files next es = or_else (fires6 es) 6 (or_else (fires7 files next es) 7 0)

-- whether all forks could be claimed from these marks, and the marks after that
pub record Claims (e : ℕ → ℕ) (n a : ℕ) (before : List ℕ) (gs : List ForkFacts) (r : Bool) (after : List ℕ) : Type 0 where
  pub claimed : r ≡ claim_all e n a before gs
  pub marks : r ≡ true → after ≡ marked before (owned_blocks e a gs)

-- an image that passes checks 1 to 4, a cursor over entries that pass check 6, and the decoded map
pub record Mapped (f : VolumeFacts) (image : List ℕ) (c : Cursor) (entries : List ℕ) : Type 0 where
  pub facts : SoundFacts f (length image)
  pub passes : Passes image c
  pub decoded : Decoded image (N f) entries

-- the facts of an image that passes check 1
pub record Judged (f : VolumeFacts) (image : List ℕ) : Type 0 where
  pub facts : f ≡ facts_of image
  pub long : fires1 (length image) ≡ false
  pub directory : (dir_start f).0 < 65536
  pub allocation : (S f).0 < 65536
