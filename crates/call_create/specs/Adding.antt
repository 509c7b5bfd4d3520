-- What create has decided when it puts a file's entry in, and the image that it leaves.
use Rattle.std.specs.Prelude.{ℕ, ◌+◌, ◌*◌, ◌≤◌, ◌<◌, ◌≡◌, List}
use Rattle.model.specs.Facts.{dir_start, dir_length, next_file_number}
use Rattle.model.specs.Directory.{size_for}
use Rattle.model.specs.Calls.{new_entry, created}
use Rattle.entries.specs.Rooms.{HasRoom}
use Rattle.model.specs.declared.VolumeFacts.{VolumeFacts}

-- the directory block at byte base, whose reading ends at place end, is the first with room for the entry of a name of so many
-- bytes, and there is a next file number after the next
pub record Adds (f : VolumeFacts) (image : List ℕ) (title base end : ℕ) : Type 0 where
  pub left : ℕ
  pub count : left + 1 ≡ dir_length f
  pub some : 1 ≤ title
  pub most : title ≤ 255
  pub room : HasRoom image (512 * (dir_start f).0) left (size_for title) base end
  pub next : next_file_number f < 4294967295

-- the image with the entry of the new file and the counts after it
abbrev pub with_file : VolumeFacts → List ℕ → List ℕ → List ℕ → ℕ → ℕ → List ℕ
with_file f image name finder made changed = created f image (new_entry (next_file_number f) name finder made changed)
