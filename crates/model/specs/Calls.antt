-- The calls: their arguments, their refusals, what each answers and what each leaves.
use Rattle.std.specs.Prelude.{ℕ, ◌+◌, ◌-◌, ◌*◌, ◌/◌, ◌%◌, ◌^◌, ◌<◌, min, max, ◌≡◌, Bool, true, false, ◌&&◌, ◌||◌, not, cond, List, [], ◌∷◌, ◌++◌, map, length, get_or, take, drop, eqb, leb, ltb}
use Rattle.std.proofs.lemmas.List.Edits.{sets}
use Rattle.std.proofs.Math.Seq.{paste}
use Rattle.model.specs.Lists.{any, keep, first, place_of, flat, first_or0}
use Rattle.model.specs.Bytes.{byte, bytes16, bytes32, zeros, part, Bytes}
use Rattle.model.specs.Facts.{facts_of, dir_start, dir_length, N, A, S, clump, next_file_number, free_count, is_locked, block_byte, no_facts}
use Rattle.model.specs.Map.{map_entry, blocks_free, put_chain, put_free}
use Rattle.model.specs.Directory.{size_for, entries, read_end, directory_blocks, directory, fork_place, fork_of, entry_in, no_entry, flags_lock, block_count}
use Rattle.model.specs.Directory.{fork_blocks, named}
use Rattle.model.specs.Check.{or_else, first_refusal, first_four, verdict}
use Rattle.model.specs.Quick.{quick_directory, blocks_looked}
use Rattle.model.specs.Container.{bad_lengths, wrapping}
use Rattle.model.specs.declared.VolumeFacts.{VolumeFacts}
use Rattle.model.specs.declared.DirectoryEntry.{DirectoryEntry}
use Rattle.model.specs.declared.ForkFacts.{ForkFacts}
use Rattle.model.specs.declared.AllocationBlock.{AllocationBlock}
use Rattle.model.specs.declared.LogicalBlock.{LogicalBlock}
use Rattle.model.specs.declared.Fork.{Fork}
use Rattle.model.specs.declared.Fork.TheVariants.{Data, Resource}

-- a call with all its arguments; the buffer of read and of wrap is the one that is lent
pub data Call : Type 0 where
  check : Call
  entry : (place : ℕ) → Call
  find : (name : List ℕ) → Call
  block : (name : List ℕ) (fork : Fork) (place : ℕ) → Call
  read : (name : List ℕ) (fork : Fork) (offset : ℕ) (buffer : List ℕ) → Call
  create : (name finder : List ℕ) (created changed : ℕ) → Call
  write : (name : List ℕ) (fork : Fork) (offset : ℕ) (bytes : List ℕ) (changed : ℕ) → Call
  cut : (name : List ℕ) (fork : Fork) (size changed : ℕ) → Call
  delete : (name : List ℕ) → Call
  wrap : (name : List ℕ) (format : ℕ) (buffer : List ℕ) → Call
  rename : (name new : List ℕ) (changed : ℕ) → Call
  quick_find : (name : List ℕ) → Call

-- ---- The refusals after 1 to 10 (after 1 to 4 for quick find)

-- what they are decided from, beside the arguments
pub record Known : Type 0 where
  -- the volume is locked
  pub locked : Bool
  -- the number of files
  pub files : ℕ
  -- a file has the given name
  pub exists : Bool
  -- that file is locked
  pub file_locked : Bool
  -- the logical length and the number of blocks of its given fork
  pub logical : ℕ
  pub blocks : ℕ
  -- A, the free blocks and the next file number
  pub size : ℕ
  pub free : ℕ
  pub next : ℕ
  -- no directory block has room for the entry
  pub full : Bool
  -- for a new name of that file (document 02, T-05): another file has it; no directory block has room for the entry with it, once
  -- the file's own is out
  pub another : List ℕ → Bool
  pub crowded : List ℕ → Bool
  -- for quick find (document 02, T-08): the entries that it reads have the given name
  pub quick : Bool

-- the fewest blocks of a bytes that hold n bytes
unfoldable pub fewest : ℕ → ℕ → ℕ
fewest n a = (n + (a - 1)) / a

-- Write of n bytes at o: the logical length becomes the larger of itself and o+n.
unfoldable pub grown : ℕ → ℕ → ℕ → ℕ
grown logical o n = max logical (o + n)

-- If that needs more blocks than the fork has, the missing ones are the new blocks needed.
unfoldable pub needed : ℕ → ℕ → ℕ → ℕ
needed a logical blocks = fewest logical a - blocks

-- those that a write of n bytes at o in the fork g needs
unfoldable pub needed_blocks : VolumeFacts → ForkFacts → ℕ → ℕ → ℕ
needed_blocks f g o n = needed (A f) (grown g.logical o n) (block_count (A f) g)

-- a block count rounded up to whole clumps of c blocks: the fewest clumps that hold it
unfoldable pub rounded : ℕ → ℕ → ℕ
rounded c count = fewest count c * c

-- The new blocks taken (document 02, T-07): a write that needs new blocks rounds the fork's block count up to whole clumps if enough are
-- free, and otherwise takes exactly what it needs; one that needs none takes none. A clump has c blocks, the fork has count blocks.
unfoldable pub taken : ℕ → ℕ → ℕ → ℕ → ℕ
taken c free count need =
    let more = rounded c (count + need) - count in
    cond (eqb need 0) 0 (cond (leb more free) more need)

-- those that a write of n bytes at o in the fork g takes
unfoldable pub taken_blocks : VolumeFacts → ForkFacts → ℕ → ℕ → ℕ
taken_blocks f g o n = taken (clump f) (free_count f) (block_count (A f) g) (needed_blocks f g o n)

-- 12: the given name's length is 0 or above 255
unfoldable pub bad_name : List ℕ → Bool
bad_name name = eqb (length name) 0 || ltb 255 (length name)

-- 21 (document 02, T-01): the name is longer than 31, and not above 255, since 12 is asked before
unfoldable pub too_long : List ℕ → Bool
too_long name = ltb 31 (length name)

-- T-05: with the new name the padded entry size is equal. A file's name is as long as the name that finds it.
unfoldable pub same_size : List ℕ → List ℕ → Bool
same_size name new = eqb (size_for (length name)) (size_for (length new))

-- ---- What the image says

-- the entry of that name; no bytes where there is none
unfoldable pub entry_named : List ℕ → List ℕ → List ℕ
entry_named name image = first (named name) [] (directory image)

-- room is counted from the end of the block's reading to the block's end
unfoldable pub has_room : ℕ → List ℕ → Bool
has_room size b = leb (read_end b + size) 512

-- ---- Fork bytes

-- s is S, a is A, and the blocks are plain numbers as the map has them: which are a block's, `runs` says.

-- the bytes of the blocks, one block after the other
unfoldable pub bytes_of : LogicalBlock → ℕ → List ℕ → List ℕ → List ℕ
bytes_of s a image [] = []
bytes_of s a image (b ∷ bs) = part (block_byte s a (record { 0 = b })) a image ++ bytes_of s a image bs

-- a fork's bytes: as many of its blocks' as its logical length
unfoldable pub fork_bytes : LogicalBlock → ℕ → List ℕ → ForkFacts → List ℕ
fork_bytes s a image g = take g.logical (bytes_of s a image (fork_blocks (map_entry image) a g))

-- the image with c for the bytes of the blocks
unfoldable pub put_blocks : LogicalBlock → ℕ → List ℕ → List ℕ → List ℕ → List ℕ
put_blocks s a image [] c = image
put_blocks s a image (b ∷ bs) c = put_blocks s a (paste image (block_byte s a (record { 0 = b })) c a) bs (drop a c)

-- the image with xs from place o of the blocks' bytes on
unfoldable pub put_content : LogicalBlock → ℕ → List ℕ → List ℕ → ℕ → List ℕ → List ℕ
put_content s a image bs o xs = put_blocks s a image bs (paste (bytes_of s a image bs) o xs (length xs))

-- Read at offset o copies the smaller of the buffer's length and logical length − o, and gives that count.
unfoldable pub read_count : ℕ → ℕ → ℕ → ℕ
read_count room logical o = min room (logical - o)

-- The buffer's rest is unchanged.
unfoldable pub copied : List ℕ → ℕ → List ℕ → List ℕ
copied bytes o buffer =
    let n = read_count (length buffer) (length bytes) o in
    part o n bytes ++ drop n buffer

-- ---- What a change leaves

-- a directory block with these entries: all bytes behind its last entry are zero
unfoldable pub filled : List (List ℕ) → List ℕ
filled es = flat es ++ zeros (512 - length (flat es))

-- an entry's bytes from its change date on: date, name with its length byte first, and a pad byte of 0
abbrev pub date_and_name : ℕ → List ℕ → List ℕ
date_and_name changed name = bytes32 changed ++ (length name ∷ (name ++ zeros ((51 + length name) % 2)))

-- Create: flags 80 hex, version 0, the next file number, all fork fields and the pad byte zero, name, Finder bytes and both
-- dates as given.
unfoldable pub new_entry : ℕ → List ℕ → List ℕ → ℕ → ℕ → List ℕ
new_entry number name finder created changed =
    0x80 ∷ 0 ∷ (finder ++ (bytes32 number ++ (zeros 20 ++ (bytes32 created ++ date_and_name changed name))))

-- It puts an entry after the last one of the first directory block with room.
unfoldable pub placed : List ℕ → List (List ℕ) → List (List ℕ)
placed e [] = []
placed e (b ∷ bs) =
    elim (has_room (length e) b) [ true ↦ filled (entries b ++ (e ∷ [])) ∷ bs | false ↦ b ∷ placed e bs ]

-- Delete moves the later entries of that directory block up.
unfoldable pub removed_in : List ℕ → List ℕ → List ℕ
removed_in name b =
    elim (any (named name) (entries b)) [ true ↦ filled (keep (λ e. not (named name e)) (entries b)) | false ↦ b ]

unfoldable pub removed : List ℕ → List (List ℕ) → List (List ℕ)
removed name bs = map (removed_in name) bs

-- write, cut, and a rename that stays: f is done to the entry of that name, and all else stays
unfoldable pub on_named : List ℕ → (List ℕ → List ℕ) → List ℕ → List ℕ
on_named name f e = cond (named name e) (f e) e

unfoldable pub rewritten_in : List ℕ → (List ℕ → List ℕ) → List ℕ → List ℕ
rewritten_in name f b = flat (map (on_named name f) (entries b)) ++ drop (read_end b) b

unfoldable pub rewritten : List ℕ → (List ℕ → List ℕ) → List (List ℕ) → List (List ℕ)
rewritten name f bs = map (rewritten_in name f) bs

-- the fork's fields and the change date: the fork starts at the first of its blocks, and with none the start is 0; physical
-- length is the fork's block count times A
unfoldable pub with_fork : Fork → ℕ → ℕ → List ℕ → ℕ → List ℕ → List ℕ
with_fork fork a logical bs changed e =
    sets (sets e (fork_place fork) (bytes16 (first_or0 bs) ++ (bytes32 logical ++ bytes32 (length bs * a)))) 46 (bytes32 changed)

-- the image with these directory blocks
unfoldable pub with_directory : VolumeFacts → List ℕ → List (List ℕ) → List ℕ
with_directory f image bs = paste image (512 * (dir_start f).0) (flat bs) (512 * dir_length f)

-- the image with this number of files, this next file number, this free count
unfoldable pub with_files : ℕ → List ℕ → List ℕ
with_files n image = sets image 1036 (bytes16 n)

unfoldable pub with_next : ℕ → List ℕ → List ℕ
with_next n image = sets image 1054 (bytes32 n)

unfoldable pub with_free : ℕ → List ℕ → List ℕ
with_free n image = sets image 1058 (bytes16 n)

-- Create. The next file number and the number of files go up by one.
unfoldable pub created : VolumeFacts → List ℕ → List ℕ → List ℕ
created f image e =
    with_files (f.files + 1) (with_next (next_file_number f + 1) (with_directory f image (placed e (directory_blocks f image))))

-- Write: so many blocks are taken, lowest free number first, and joined at the end in that order; the last one's entry is 1. Bytes of
-- new blocks beyond the written ones stay. The change date is as given, also for n = 0.
unfoldable pub written : VolumeFacts → List ℕ → List ℕ → Fork → ℕ → List ℕ → ℕ → ForkFacts → List ℕ
written f image name fork o xs changed g =
    let old = fork_blocks (map_entry image) (A f) g in
    let logical = grown g.logical o (length xs) in
    let new = taken_blocks f g o (length xs) in
    let all = old ++ take new (blocks_free (map_entry image) (N f)) in
    with_free (free_count f - new)
    (with_directory f (put_content (S f) (A f) (put_chain image all) all o xs)
    (rewritten name (with_fork fork (A f) logical all changed) (directory_blocks f image)))

-- Cut to n keeps the fork's first blocks, the fewest that hold n bytes; the last one kept gets entry 1; the others become free,
-- their bytes unchanged.
unfoldable pub shortened : VolumeFacts → List ℕ → List ℕ → Fork → ℕ → ℕ → ForkFacts → List ℕ
shortened f image name fork n changed g =
    let old = fork_blocks (map_entry image) (A f) g in
    let kept = take (fewest n (A f)) old in
    let freed = drop (fewest n (A f)) old in
    with_free (free_count f + length freed)
    (with_directory f (put_free (put_chain image kept) freed)
    (rewritten name (with_fork fork (A f) n kept changed) (directory_blocks f image)))

-- Delete frees both forks, the blocks' bytes unchanged, and lowers the number of files.
unfoldable pub deleted : VolumeFacts → List ℕ → List ℕ → List ℕ → List ℕ
deleted f image name e =
    let freed = fork_blocks (map_entry image) (A f) (fork_of Data e) ++ fork_blocks (map_entry image) (A f) (fork_of Resource e) in
    with_free (free_count f + length freed)
    (with_files (f.files - 1) (with_directory f (put_free image freed) (removed name (directory_blocks f image))))

-- Rename (document 02, T-05): the change date is as given, and a pad byte is 0 afterwards; flags, Finder bytes, the file's own
-- number, forks and creation date, which come before, stay.
unfoldable pub retitled : List ℕ → ℕ → List ℕ → List ℕ
retitled new changed e = take 46 e ++ date_and_name changed new

-- If the padded entry size is equal the entry stays where it is; otherwise it is taken out as delete would, and put in as create
-- would, into the first directory block with room once it is out.
unfoldable pub renamed_in : List ℕ → List ℕ → ℕ → List ℕ → List (List ℕ) → List (List ℕ)
renamed_in name new changed e bs =
    elim (same_size name new) [
      | true ↦ rewritten name (retitled new changed) bs
      | false ↦ placed (retitled new changed e) (removed name bs)
    ]

-- The number of files and the next file number stay.
unfoldable pub renamed : VolumeFacts → List ℕ → List ℕ → List ℕ → ℕ → List ℕ → List ℕ
renamed f image name new changed e = with_directory f image (renamed_in name new changed e (directory_blocks f image))

-- ---- What the refusals are decided from, in an image

unfoldable pub known_in : List ℕ → List ℕ → Fork → Known
known_in image name fork =
    let f = facts_of image in
    let g = fork_of fork (entry_named name image) in
    record {
      locked = is_locked f;
      files = length (directory image);
      exists = any (named name) (directory image);
      file_locked = flags_lock (byte (entry_named name image) 0);
      logical = g.logical;
      blocks = block_count (A f) g;
      size = A f;
      free = free_count f;
      next = next_file_number f;
      full = not (any (has_room (size_for (length name))) (directory_blocks f image));
      another = λ new. any (named new) (keep (λ e. not (named name e)) (directory image));
      crowded = λ new. not (any (has_room (size_for (length new))) (removed name (directory_blocks f image)));
      quick = any (named name) (quick_directory image);
    }

-- ---- Answers

-- what a call gives back: the number, and with success the facts, the place, the entry, the allocation block, the count and
-- the buffer, each where the call has it; the count is read's of bytes, or quick find's of directory blocks, which 13 has too
pub record Answer : Type 0 where
  pub number : ℕ
  pub facts : VolumeFacts
  pub place : ℕ
  pub entry : DirectoryEntry
  pub block : AllocationBlock
  pub count : ℕ
  pub buffer : List ℕ

-- an answer with nothing but a number and a buffer: all other results are zero
unfoldable pub only : ℕ → List ℕ → Answer
only number buffer = record {
  number = number;
  facts = no_facts;
  place = 0;
  entry = no_entry;
  block = record { 0 = 0 };
  count = 0;
  buffer = buffer;
}

-- and with a count, which quick find's 13 has
abbrev pub counted : ℕ → ℕ → List ℕ → Answer
counted number count buffer = record {
  number = number;
  facts = no_facts;
  place = 0;
  entry = no_entry;
  block = record { 0 = 0 };
  count = count;
  buffer = buffer;
}

unfoldable pub tells_facts : VolumeFacts → Answer
tells_facts f = record { number = 0; facts = f; place = 0; entry = no_entry; block = record { 0 = 0 }; count = 0; buffer = [] }

unfoldable pub tells_entry : ℕ → DirectoryEntry → Answer
tells_entry place e =
    record { number = 0; facts = no_facts; place = place; entry = e; block = record { 0 = 0 }; count = 0; buffer = [] }

unfoldable pub tells_block : ℕ → Answer
tells_block b = record { number = 0; facts = no_facts; place = 0; entry = no_entry; block = record { 0 = b }; count = 0; buffer = [] }

unfoldable pub tells_bytes : List ℕ → ℕ → List ℕ → Answer
tells_bytes bytes o buffer = record {
  number = 0;
  facts = no_facts;
  place = 0;
  entry = no_entry;
  block = record { 0 = 0 };
  count = read_count (length buffer) (length bytes) o;
  buffer = copied bytes o buffer;
}

-- quick find's count is that of the directory blocks looked at
unfoldable pub tells_quick : ℕ → DirectoryEntry → ℕ → Answer
tells_quick place e looked =
    record { number = 0; facts = no_facts; place = place; entry = e; block = record { 0 = 0 }; count = looked; buffer = [] }

-- ---- What each call means

-- one clause for each call in `meaning`: its arguments, its refusals, and what it answers and leaves where it is not refused
pub record Meaning : Type 1 where
  -- the name of a file and the fork that it is given; [] and Data where it is given none
  pub name : List ℕ
  pub fork : Fork
  -- the buffer that is lent to it
  pub lent : List ℕ
  -- The arguments fit their types; arguments of fixed size come whole.
  pub fits : Type 0
  -- the number of what it checks of the image first, 0 where that passes: 1 to 10, before which wrap has 22; quick find 1 to 4
  pub checks : List ℕ → ℕ
  -- its numbers after them in the papers' order, 0 where none is given
  pub refuses : Known → ℕ
  -- the count that a refusal by a number carries: 0, but beside quick find's 13
  pub carries : ℕ → List ℕ → ℕ
  -- what it answers, and the image that it leaves
  pub reply : List ℕ → Answer
  pub change : List ℕ → List ℕ
  -- whether it serves wrapped files too: the nine calls do, later calls take only bare images
  pub wrapped : Bool

-- all other results of a refusal are zero, its count too
abbrev no_count : ℕ → List ℕ → ℕ
no_count number image = 0

-- the answer of a call that changes the image is its number alone
abbrev number_alone : List ℕ → Answer
number_alone image = only 0 []

-- a call that reads leaves the image as it came
abbrev unchanged : List ℕ → List ℕ
unchanged image = image

abbrev pub meaning : Call → Meaning
-- Check a volume and give its facts.
meaning check = record {
  name = [];
  fork = Data;
  lent = [];
  fits = Unit;
  checks = verdict;
  refuses = λ k. 0;
  carries = no_count;
  reply = λ image. tells_facts (facts_of image);
  change = unchanged;
  wrapped = true;
}
-- Give the entry at a place in directory order: entry 13.
meaning (entry place) = record {
  name = [];
  fork = Data;
  lent = [];
  fits = place < 2 ^ 64;
  checks = verdict;
  refuses = λ k. or_else (leb k.files place) 13 0;
  carries = no_count;
  reply = λ image. tells_entry 0 (entry_in (get_or (directory image) place []));
  change = unchanged;
  wrapped = true;
}
-- Find a name and give its place and entry: find 12, 13.
meaning (find name) = record {
  name = name;
  fork = Data;
  lent = [];
  fits = Bytes name;
  checks = verdict;
  refuses = λ k. or_else (bad_name name) 12 (or_else (not k.exists) 13 0);
  carries = no_count;
  reply = λ image. tells_entry (place_of (named name) (directory image)) (entry_in (entry_named name image));
  change = unchanged;
  wrapped = true;
}
-- Give the allocation block at a place in a fork: block 12, 13, 16.
meaning (block name fork place) = record {
  name = name;
  fork = fork;
  lent = [];
  fits = Bytes name × (place < 2 ^ 64);
  checks = verdict;
  refuses = λ k. or_else (bad_name name) 12 (or_else (not k.exists) 13 (or_else (leb k.blocks place) 16 0));
  carries = no_count;
  reply = λ image. tells_block (get_or (fork_blocks (map_entry image) (A (facts_of image)) (fork_of fork (entry_named name image))) place 0);
  change = unchanged;
  wrapped = true;
}
-- Read fork bytes into a lent buffer: read 12, 13, 16.
meaning (read name fork offset buffer) = record {
  name = name;
  fork = fork;
  lent = buffer;
  fits = Bytes name × (offset < 2 ^ 64) × Bytes buffer;
  checks = verdict;
  refuses = λ k. or_else (bad_name name) 12 (or_else (not k.exists) 13 (or_else (ltb k.logical offset) 16 0));
  carries = no_count;
  reply = λ image. tells_bytes (fork_bytes (S (facts_of image)) (A (facts_of image)) image (fork_of fork (entry_named name image))) offset buffer;
  change = unchanged;
  wrapped = true;
}
-- Create an empty file: create 11, 12, 14, 19, 18, and 21 straight after 12 and before 14 (document 02, T-01).
meaning (create name finder made changed) = record {
  name = name;
  fork = Data;
  lent = [];
  fits = Bytes name × Bytes finder × (length finder ≡ 16) × (made < 2 ^ 32) × (changed < 2 ^ 32);
  checks = verdict;
  refuses = λ k. or_else k.locked 11 (or_else (bad_name name) 12 (or_else (too_long name) 21 (or_else k.exists 14
      (or_else (eqb k.next 4294967295) 19 (or_else k.full 18 0)))));
  carries = no_count;
  reply = number_alone;
  change = λ image. created (facts_of image) image (new_entry (next_file_number (facts_of image)) name finder made changed);
  wrapped = true;
}
-- Write fork bytes at an offset: write and cut 11, 12, 13, 15, 16, and write 17.
meaning (write name fork offset bytes changed) = record {
  name = name;
  fork = fork;
  lent = [];
  fits = Bytes name × (offset < 2 ^ 64) × Bytes bytes × (changed < 2 ^ 32);
  checks = verdict;
  refuses = λ k. or_else k.locked 11 (or_else (bad_name name) 12 (or_else (not k.exists) 13
      (or_else k.file_locked 15 (or_else (ltb k.logical offset) 16
      (or_else (ltb k.free (needed k.size (grown k.logical offset (length bytes)) k.blocks)) 17 0)))));
  carries = no_count;
  reply = number_alone;
  change = λ image. written (facts_of image) image name fork offset bytes changed (fork_of fork (entry_named name image));
  wrapped = true;
}
-- Cut a fork shorter.
meaning (cut name fork size changed) = record {
  name = name;
  fork = fork;
  lent = [];
  fits = Bytes name × (size < 2 ^ 64) × (changed < 2 ^ 32);
  checks = verdict;
  refuses = λ k. or_else k.locked 11 (or_else (bad_name name) 12 (or_else (not k.exists) 13
      (or_else k.file_locked 15 (or_else (ltb k.logical size) 16 0))));
  carries = no_count;
  reply = number_alone;
  change = λ image. shortened (facts_of image) image name fork size changed (fork_of fork (entry_named name image));
  wrapped = true;
}
-- Delete a file: delete 11, 12, 13, 15.
meaning (delete name) = record {
  name = name;
  fork = Data;
  lent = [];
  fits = Bytes name;
  checks = verdict;
  refuses = λ k. or_else k.locked 11 (or_else (bad_name name) 12 (or_else (not k.exists) 13 (or_else k.file_locked 15 0)));
  carries = no_count;
  reply = number_alone;
  change = λ image. deleted (facts_of image) image name (entry_named name image);
  wrapped = true;
}
-- Wrap a bare 400K image into a lent buffer (document 02, T-02): 22, before 1. Its name is no file's.
meaning (wrap name format buffer) = record {
  name = [];
  fork = Data;
  lent = buffer;
  fits = Bytes name × (format < 256) × Bytes buffer;
  checks = λ image. let own = verdict image in or_else (bad_lengths (length image) (length buffer) (length name)) 22 own;
  refuses = λ k. 0;
  carries = no_count;
  reply = λ image. only 0 (wrapping image name format);
  change = unchanged;
  wrapped = false;
}
-- Rename a file (document 02, T-05): 11; 12 for the old name, 12 for the new; 21 for the new; 13; 15; 14 for another file's name; 18.
-- Its own name in other case is allowed.
meaning (rename name new changed) = record {
  name = name;
  fork = Data;
  lent = [];
  fits = Bytes name × Bytes new × (changed < 2 ^ 32);
  checks = verdict;
  refuses = λ k. or_else k.locked 11 (or_else (bad_name name) 12 (or_else (bad_name new) 12 (or_else (too_long new) 21
      (or_else (not k.exists) 13 (or_else k.file_locked 15 (or_else (k.another new) 14
      (or_else (not (same_size name new) && k.crowded new) 18 0)))))));
  carries = no_count;
  reply = number_alone;
  change = λ image. renamed (facts_of image) image name new changed (entry_named name image);
  wrapped = false;
}
-- Quick find (document 02, T-08): is the name there? Refusals: 1 to 4, 12, 13. The first equal name so read is the answer, its place
-- counted over the entries so read. Here alone 13 carries the count.
meaning (quick_find name) = record {
  name = name;
  fork = Data;
  lent = [];
  fits = Bytes name;
  checks = first_four;
  refuses = λ k. or_else (bad_name name) 12 (or_else (not k.quick) 13 0);
  carries = λ number image. cond (eqb number 13) (blocks_looked name image) 0;
  reply = λ image. tells_quick (place_of (named name) (quick_directory image)) (entry_in (first (named name) [] (quick_directory image)))
      (blocks_looked name image);
  change = unchanged;
  wrapped = false;
}

-- ---- The calls, by the fields of what they mean

unfoldable pub name_of : Call → List ℕ
name_of call = (meaning call).name

unfoldable pub fork_given : Call → Fork
fork_given call = (meaning call).fork

unfoldable pub lent : Call → List ℕ
lent call = (meaning call).lent

unfoldable pub Fits : Call → Type 0
Fits call = (meaning call).fits

unfoldable pub checks : Call → List ℕ → ℕ
checks call = (meaning call).checks

unfoldable pub refuses : Call → Known → ℕ
refuses call = (meaning call).refuses

unfoldable pub carries : Call → ℕ → List ℕ → ℕ
carries call = (meaning call).carries

unfoldable pub reply : Call → List ℕ → Answer
reply call = (meaning call).reply

unfoldable pub change : Call → List ℕ → List ℕ
change call = (meaning call).change

unfoldable pub serves_wrapped : Call → Bool
serves_wrapped call = (meaning call).wrapped

-- Every call runs 1 to 10. Then its own. (Wrap has 22 before 1, and quick find runs 1 to 4 alone.)
unfoldable pub refusal : Call → List ℕ → ℕ
refusal call image = let own = refuses call (known_in image (name_of call) (fork_given call)) in first_refusal (checks call image) own

-- A refusal gives its number, all other results are zero (but for the count beside quick find's 13), and no lent byte changes.
unfoldable pub answer : Call → List ℕ → Answer
answer call image =
    let r = reply call image in
    let n = refusal call image in
    let count = carries call n image in
    cond (eqb n 0) r (counted n count (lent call))

unfoldable pub after : Call → List ℕ → List ℕ
after call image = let changed = change call image in cond (eqb (refusal call image) 0) changed image

-- ---- A call that was made

-- the call on the image gave this answer and left this image
pub record Does (call : Call) (image : List ℕ) (given : Answer) (left : List ℕ) : Type 0 where
  pub bytes : Bytes image
  pub fits : Fits call
  pub answers : given ≡ answer call image
  pub leaves : left ≡ after call image
