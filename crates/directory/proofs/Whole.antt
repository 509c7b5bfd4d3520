-- Laws of the cursor at the directory's first entry: over an image whose facts are sound it is within the image, and its entries
-- are the directory.
use Prim.Native.Nat.{ℕ, ◌+◌, ◌*◌, ◌≤◌}
use mathlib.Core.Path.{◌≡◌}
use mathlib.Core.Bool.{false}
use mathlib.Core.List.{List}
use native.Mathlib.Omega.{arith}
use lib.ListN.{length}
use Rattle.model.specs.Facts.{facts_of, dir_start, dir_length}
use Rattle.model.specs.Directory.{directory, directory_blocks}
use Rattle.model.specs.Check.{fires6, SoundFacts}
use Rattle.directory.specs.declared.Cursor.{Cursor}
use Rattle.model.specs.declared.LogicalBlock.{LogicalBlock}
use Rattle.directory.specs.Cursor.{rest_of, CursorFits, Passes, Begins}

pub begins_fits : (image : List ℕ) (start : LogicalBlock) (blocks : ℕ) (c : Cursor) → Begins start blocks c
    → 512 * (start.0 + blocks) ≤ length image → CursorFits image c
begins_fits image start blocks c b h = record { blocks = omega arith; place = omega arith }

module _ (image : List ℕ) (c : Cursor) (b : Begins (dir_start (facts_of image)) (dir_length (facts_of image)) c) where
  pub begins_directory : rest_of image c ≡ directory image
  unfolding directory directory_blocks
  begins_directory = b.rest image

  pub sound_fits : SoundFacts (facts_of image) (length image) → CursorFits image c
  sound_fits s = begins_fits image (dir_start (facts_of image)) (dir_length (facts_of image)) c b (omega arith)

  pub sound_passes : SoundFacts (facts_of image) (length image) → fires6 (directory image) ≡ false → Passes image c
  sound_passes s h = record { fits = sound_fits s; good = rw begins_directory h }
