-- Laws of the search for room, one directory block after another.
use Prim.Native.Nat.{ℕ, suc, ◌+◌, ◌-◌, ◌*◌, ◌≤◌, ◌<◌}
use mathlib.Core.Path.{◌≡◌, refl, sym, ap, ◌∙◌}
use mathlib.Core.Bool.{true, false}
use mathlib.Core.List.{List, [], ◌∷◌, ◌++◌}
use native.Mathlib.Omega.{arith}
use lib.ListN.{length, take, drop}
use lib.Seq.{paste, drop-drop, take-take, take_all}
use borrow.Author.Tests.{not-false, leb-true, le-leb, lt-leb}
use Rattle.model.specs.Lists.{every, any, flat}
use Rattle.model.specs.Bytes.{zeros, part}
use Rattle.model.specs.Facts.{dir_start, dir_length}
use Rattle.model.specs.Directory.{read_at, entries, read_end, cut_blocks, directory_blocks, listing}
use Rattle.model.specs.Check.{good_entry, fires6}
use Rattle.model.specs.Calls.{filled, has_room, placed, with_directory}
use Rattle.model.specs.declared.VolumeFacts.{VolumeFacts}
use Rattle.model.proofs.Lists.{and-true, any_append, every_append}
use Rattle.laws.proofs.Block.{sound, Clean, added_reads}
use Rattle.laws.proofs.Blocks.{Cleans, cut_count, clean_parts, listing_append}
use Rattle.laws.proofs.Places.{placed_at, added_bytes}
use Rattle.laws.proofs.Image.{one_block}
use Rattle.directory.specs.declared.Cursor.{Cursor}
use Rattle.directory.specs.Cursor.{block_of, rest_of, Passes}
use Rattle.entries.specs.Blocks.{Block}
use Rattle.entries.specs.Rooms.{HasRoom}
use Rattle.entries.proofs.Blocks.{block_clean, cleared_behind}
use Rattle.entries.proofs.Located.{cut_at}

-- block i of a directory that passes check 6
module _ (image : List ℕ) (c : Cursor) (p : Passes image c) (z : c.at ≡ 0) where
  rest_blocks : rest_of image c ≡ listing (cut_blocks (c.left + 1) (drop c.base image))
  unfolding rest_of listing flat entries cut_blocks
  rest_blocks =
      let more = listing (cut_blocks c.left (drop (c.base + 512) image)) in
      let one : c.left + 1 ≡ suc c.left = omega arith in
      ap (λ (i : ℕ). read_at 10 (block_of image c) i ++ more) z
      ∙ rw (one, drop-drop 512 c.base image) refl

  pub block_of_lem : (i : ℕ) → i ≤ c.left → Block image (c.base + 512 * i)
  unfolding fires6 listing flat every
  block_of_lem i h =
      let d = drop c.base image in
      let x = cut_blocks i d in
      let y = cut_blocks (c.left + 1 - (i + 1)) (drop (512 * (i + 1)) d) in
      let all : every good_entry (listing (x ++ (part (512 * i) 512 d ∷ y))) ≡ true
      = ap (λ (bs : List (List ℕ)). every good_entry (listing bs)) (sym (cut_at i (c.left + 1) d (omega arith))) ∙ ap (every good_entry) (sym rest_blocks)
      ∙ not-false _ p.good in
      let both = and-true (every good_entry (listing x)) (every good_entry (listing (part (512 * i) 512 d ∷ y)))
      (sym (every_append good_entry (listing x) (listing (part (512 * i) 512 d ∷ y))) ∙ ap (every good_entry) (sym (listing_append x (part (512 * i) 512 d ∷ y)))
      ∙ all) in
      let own = and-true (every good_entry (entries (part (512 * i) 512 d))) (every good_entry (listing y))
      (sym (every_append good_entry (entries (part (512 * i) 512 d)) (listing y)) ∙ both.1) in
      record {
        within = omega (arith, p.fits.blocks);
        good = rw (← drop-drop (512 * i) c.base image, own.0);
      }

-- room or none, by the place where the reading ends
module _ (size : ℕ) (b : List ℕ) where
  pub room_is : read_end b + size ≤ 512 → has_room size b ≡ true
  unfolding has_room
  room_is h = le-leb (read_end b + size) 512 h

  pub room_not : 512 < read_end b + size → has_room size b ≡ false
  unfolding has_room
  room_not h = lt-leb (read_end b + size) 512 h

-- one block more without room
pub none_more : (size : ℕ) (image : List ℕ) (first i : ℕ) → any (has_room size) (cut_blocks i (drop first image)) ≡ false
    → has_room size (part (first + 512 * i) 512 image) ≡ false → any (has_room size) (cut_blocks (i + 1) (drop first image)) ≡ false
unfolding any cut_blocks
none_more size image first i h r =
    let d = drop first image in
    let n : i + 1 - (i + 1) ≡ 0 = omega arith in
    let own : has_room size (part (512 * i) 512 d) ≡ false = rw (drop-drop (512 * i) first image) r in
    ap (any (has_room size)) (cut_at i (i + 1) d (omega arith))
    ∙ rw n (any_append (has_room size) (cut_blocks i d) (part (512 * i) 512 d ∷ []) ∙ rw (h, own))

-- ---- the entry put there

-- e stored behind the block's entries, and zeros behind it
pub added_stores : (image : List ℕ) (base : ℕ) → Block image base → (e : List ℕ) → read_end (part base 512 image) + length e ≤ 512
    → (s z : ℕ) → s ≡ base + read_end (part base 512 image) → z ≡ base + 512 - (s + length e)
    → (x y : List ℕ) → x ≡ paste image s e (length e) → y ≡ paste x (s + length e) (zeros z) z
    → y ≡ paste image base (filled (entries (part base 512 image) ++ (e ∷ []))) 512
added_stores image base k e room s z hs hz x y px py =
    let b = part base 512 image in
    let kw = k.within in
    let ahead : s - base ≡ read_end b = omega arith in
    let rest : 512 - (read_end b + length e) ≡ z = omega arith in
    let first : take (read_end b) b ≡ part base (read_end b) image = take-take (read_end b) 512 (drop base image) (omega arith) in
    let all : take (length e) e ≡ e = take_all (length e) e (omega arith) in
    let whole : filled (entries b ++ (e ∷ [])) ≡ part base (s - base) image ++ (take (length e) e ++ zeros z)
    = added_bytes e b (block_clean image base k) ∙ rw (first, rest, ahead, all) in
    py ∙ ap (λ (t : List ℕ). paste t (s + length e) (zeros z) z) px
    ∙ cleared_behind image base s (length e) z e (omega arith) (omega arith) (omega arith) (omega arith)
    ∙ ap (λ (t : List ℕ). paste image base t 512) (sym whole)

-- ---- the room found

-- of all directory blocks
pub no_room : (f : VolumeFacts) (image : List ℕ) (left size : ℕ) → left + 1 ≡ dir_length f
    → any (has_room size) (cut_blocks (left + 1) (drop (512 * (dir_start f).0) image)) ≡ false → any (has_room size) (directory_blocks f image) ≡ false
unfolding directory_blocks
no_room f image left size n h = ap (λ (k : ℕ). any (has_room size) (cut_blocks k (drop (512 * (dir_start f).0) image))) (sym n) ∙ h

module _ (f : VolumeFacts) (image : List ℕ) (left size base end : ℕ) (n : left + 1 ≡ dir_length f)
    (r : HasRoom image (512 * (dir_start f).0) left size base end) where
  -- the blocks before it and behind it
  abbrev fuller : List (List ℕ)
  fuller = cut_blocks r.index (drop (512 * (dir_start f).0) image)

  abbrev others : List (List ℕ)
  others = cut_blocks (dir_length f - (r.index + 1)) (drop (512 * (r.index + 1)) (drop (512 * (dir_start f).0) image))

  room_whole : directory_blocks f image ≡ fuller ++ (part base 512 image ∷ others)
  unfolding directory_blocks
  room_whole =
      let d = drop (512 * (dir_start f).0) image in
      let own : part (512 * r.index) 512 d ≡ part base 512 image =
      ap (take 512) (drop-drop (512 * r.index) (512 * (dir_start f).0) image) ∙ ap (λ (p : ℕ). part p 512 image) (sym r.block) in
      cut_at r.index (dir_length f) d (omega (arith, r.within)) ∙ ap (λ (t : List ℕ). fuller ++ (t ∷ others)) own

  pub some_room : any (has_room size) (directory_blocks f image) ≡ true
  unfolding any
  some_room = ap (any (has_room size)) room_whole ∙ any_append (has_room size) fuller (part base 512 image ∷ others) ∙ rw (r.none, r.room)

  pub room_within : end + size ≤ 512
  unfolding has_room
  room_within = omega (arith, leb-true (read_end (part base 512 image) + size) 512 r.room, r.ends)

  module _ (within : 512 * (dir_start f).0 + 512 * dir_length f ≤ length image) (clean : Cleans (directory_blocks f image)) where
    room_clean : Clean (part base 512 image)
    unfolding Cleans
    room_clean = (clean_parts fuller (part base 512 image ∷ others) (rw room_whole at clean)).1.0

    pub room_block : Block image base
    unfolding fires6
    room_block = record { within = omega (arith, r.block, r.within); good = rw room_clean.good }

-- the model's change is there
pub room_placed : (f : VolumeFacts) (image : List ℕ) → 512 * (dir_start f).0 + 512 * dir_length f ≤ length image → Cleans (directory_blocks f image)
    → (e : List ℕ) → sound e ≡ true → (left base end : ℕ) → left + 1 ≡ dir_length f → HasRoom image (512 * (dir_start f).0) left (length e) base end
    → with_directory f image (placed e (directory_blocks f image)) ≡ paste image base (filled (entries (part base 512 image) ++ (e ∷ []))) 512
room_placed f image within clean e so left base end n r =
    let x = fuller f image left (length e) base end n r in
    let b = part base 512 image in
    let y = others f image left (length e) base end n r in
    let whole = room_whole f image left (length e) base end n r in
    let long = (added_reads e b (room_clean f image left (length e) base end n r within clean) so r.room).clean.long in
    let at : 512 * ((dir_start f).0 + length x) ≡ base = omega (arith, cut_count r.index (drop (512 * (dir_start f).0) image), r.block) in
    ap (λ (bs : List (List ℕ)). with_directory f image (placed e bs)) whole
    ∙ ap (with_directory f image) (placed_at e x b y r.none r.room)
    ∙ one_block f image within x b y whole (filled (entries b ++ (e ∷ []))) long
    ∙ ap (λ (p : ℕ). paste image p (filled (entries b ++ (e ∷ []))) 512) at
