-- Laws of a new file: the entry put in and the counts after it.
use Prim.Native.Nat.{ℕ, ◌+◌, ◌*◌, ◌≤◌, ◌<◌}
use mathlib.Core.Path.{◌≡◌, sym, ap, ◌∙◌}
use mathlib.Core.Bool.{true}
use mathlib.Core.List.{List, [], ◌∷◌, ◌++◌}
use native.Mathlib.Omega.{arith}
use lib.ListN.{length}
use lib.Seq.{paste}
use Rattle.model.specs.Lists.{any}
use Rattle.model.specs.Bytes.{part}
use Rattle.model.specs.Facts.{dir_start, dir_length, next_file_number}
use Rattle.model.specs.Directory.{size_for, entries, read_end, directory_blocks}
use Rattle.model.specs.Calls.{has_room, new_entry, filled, with_files, with_next, created}
use Rattle.laws.proofs.Entry.{new_length, new_sound}
use Rattle.laws.proofs.Blocks.{Cleans}
use Rattle.laws.proofs.Acceptance.{readable_of}
use Rattle.laws.proofs.BytesKept.{files_few}
use Rattle.laws.proofs.DirectorySteps.{clean_now}
use Rattle.entries.specs.Blocks.{Block}
use Rattle.entries.specs.Rooms.{HasRoom}
use Rattle.entries.proofs.Rooming.{some_room, room_within, room_block, room_placed}
use Rattle.model.specs.declared.VolumeFacts.{VolumeFacts}
use Rattle.call_create.specs.Adding.{Adds, with_file}
use Rattle.files.specs.Lookup.{Readable}

-- ---- the entry put in

module _ {f : VolumeFacts} {image : List ℕ} (r : Readable f image) where
  dir_within : 512 * (dir_start f).0 + 512 * dir_length f ≤ length image
  dir_within = rw r.facts (readable_of image r.accepted).within

  dir_clean : Cleans (directory_blocks f image)
  dir_clean = rw r.facts (clean_now image (readable_of image r.accepted))

  -- so few files that one more can be counted
  pub files_more : f.files + 1 < 65536
  files_more = let few : f.files ≤ 2560 = rw r.facts (files_few image r.accepted) in omega arith

  module _ (title base end : ℕ) (a : Adds f image title base end) where
    pub adds_block : Block image base
    adds_block = room_block f image a.left (size_for title) base end a.count a.room dir_within dir_clean

    pub adds_behind : (end ≡ read_end (part base 512 image)) × (end + size_for title ≤ 512) × (title ≤ 255)
    adds_behind = (a.room.ends, room_within f image a.left (size_for title) base end a.count a.room, a.most)

    -- some block has room
    pub adds_some : any (has_room (size_for title)) (directory_blocks f image) ≡ true
    adds_some = some_room f image a.left (size_for title) base end a.count a.room

  -- the three stores
  pub added : (name finder : List ℕ) (made changed base end : ℕ) → Adds f image (length name) base end → length finder ≡ 16 → (x y z : List ℕ)
      → x ≡ paste image base (filled (entries (part base 512 image) ++ (new_entry (next_file_number f) name finder made changed ∷ []))) 512
      → y ≡ with_next (next_file_number f + 1) x → z ≡ with_files (f.files + 1) y → z ≡ with_file f image name finder made changed
  unfolding created
  added name finder made changed base end a whole x y z px py pz =
      let e = new_entry (next_file_number f) name finder made changed in
      let room : HasRoom image (512 * (dir_start f).0) a.left (length e) base end = rw (new_length (next_file_number f) name finder made changed whole) a.room in
      let sound = new_sound (next_file_number f) name finder made changed whole a.some in
      let put = room_placed f image dir_within dir_clean e sound a.left base end a.count room in
      pz ∙ ap (with_files (f.files + 1)) (py ∙ ap (with_next (next_file_number f + 1)) (px ∙ sym put))
