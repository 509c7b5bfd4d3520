-- The disk HALL, the P cases as one table under one statement, and eight tables of further cases, the second on long names, the
-- third on wrapped files, the fourth on accents, the fifth on three bytes and two entries, the sixth on rename, the seventh on clumps,
-- the eighth on quick find.
use Rattle.std.specs.Prelude.{ℕ, ◌+◌, ◌*◌, ◌/◌, ◌%◌, ◌<◌, ◌≡◌, Bool, true, false, ◌||◌, List, [], ◌∷◌, ◌++◌, map, eqb, length, get_or, take, replicate}
use Rattle.std.proofs.Math.Seq.{paste}
use Rattle.model.specs.Lists.{flat, from}
use Rattle.model.specs.Bytes.{byte, bytes16, bytes32, zeros, part}
use Rattle.model.specs.Facts.{facts_in, facts_of, clump, blocks_in, no_facts}
use Rattle.model.specs.Map.{map_entry, set_entry, put_chain, pair_byte, three_bytes, entries_in, bytes_for}
use Rattle.model.specs.Directory.{no_entry, same_byte}
use Rattle.model.specs.Check.{fires3, verdict}
use Rattle.model.specs.Calls.{Call, Answer, taken, lent, refusal, reply, change, counted, only, tells_facts, tells_entry, tells_quick}
use Rattle.model.specs.Calls.{answer, after}
use Rattle.model.specs.Container.{checksum, tag_checksum, bad_header, bad_lengths, renewed}
use Rattle.model.specs.Calls.Call.{check, entry, find, read, create, write, cut, delete, wrap, rename, quick_find}
use Rattle.model.specs.Wrapped.{file_answer, file_after}
use Rattle.model.specs.declared.VolumeFacts.{VolumeFacts}
use Rattle.model.specs.declared.DirectoryEntry.{DirectoryEntry}
use Rattle.model.specs.declared.Fork.TheVariants.{Data}

-- ---- Disks of N = 5 allocation blocks of 512 bytes, named HALL

-- the numbers in which they differ, the map's first bytes, the directory blocks' bytes
pub record Plan : Type 0 where
  pub attributes : ℕ
  pub files : ℕ
  pub dir_length : ℕ
  pub next : ℕ
  pub free : ℕ
  pub map : List ℕ
  pub directory : List ℕ

-- volume information: the directory starts at 4 and S is behind it
unfoldable pub info : Plan → List ℕ
info p =
    flat
    ((0xd2 ∷ 0xd7 ∷ zeros 8) ∷ bytes16 p.attributes ∷ bytes16 p.files ∷ bytes16 4 ∷ bytes16 p.dir_length ∷ bytes16 5 ∷ bytes32 512 ∷ bytes32 0
    ∷ bytes16 (4 + p.dir_length) ∷ bytes32 p.next ∷ bytes16 p.free ∷ (4 ∷ 72 ∷ 65 ∷ 76 ∷ 76 ∷ zeros 23) ∷ [])

-- the first n bytes of l with zeros behind it
abbrev pub up_to : ℕ → List ℕ → List ℕ
up_to n l = take n (l ++ zeros n)

-- the allocation blocks and the last two blocks hold zeros
unfoldable pub disk : Plan → List ℕ
disk p = flat (zeros 1024 ∷ info p ∷ up_to 960 p.map ∷ up_to (512 * p.dir_length) p.directory ∷ zeros 3584 ∷ [])

-- an entry: flags, number, the two forks' fields, dates, name, and what pads it
unfoldable pub entry_bytes : ℕ → ℕ → List ℕ → List ℕ → ℕ → ℕ → List ℕ → List ℕ → List ℕ
entry_bytes flags number content resource created changed name pad =
    flat ((flags ∷ zeros 17) ∷ bytes32 number ∷ content ∷ resource ∷ bytes32 created ∷ bytes32 changed ∷ (length name ∷ name) ∷ pad ∷ [])

abbrev pub fork_bytes_of : ℕ → ℕ → ℕ → List ℕ
fork_bytes_of start logical physical = bytes16 start ++ (bytes32 logical ++ bytes32 physical)

abbrev pub WEEK1 : List ℕ
WEEK1 = 87 ∷ 69 ∷ 69 ∷ 75 ∷ 49 ∷ []

abbrev pub week1 : List ℕ
week1 = 119 ∷ 101 ∷ 101 ∷ 107 ∷ 49 ∷ []

abbrev pub RATES : List ℕ
RATES = 82 ∷ 65 ∷ 84 ∷ 69 ∷ 83 ∷ []

-- ---- HALL: 12 blocks, directory at 4 of length 1, S = 5, A = 512, N = 5, next number 3.

-- WEEK1: number 1, 700 data bytes in blocks 2 and 4.
unfoldable pub week_entry : List ℕ
week_entry = entry_bytes 0x80 1 (fork_bytes_of 2 700 1024) (zeros 10) 2500000000 2500600000 WEEK1 []

-- RATES: number 2, 512 data bytes in block 3.
unfoldable pub rates_entry : List ℕ
rates_entry = entry_bytes 0x80 2 (fork_bytes_of 3 512 512) (zeros 10) 2500000000 2500000000 RATES []

unfoldable pub hall_map : List ℕ
hall_map = 0x00 ∷ 0x40 ∷ 0x01 ∷ 0x00 ∷ 0x10 ∷ 0x00 ∷ 0x00 ∷ 0x00 ∷ []

unfoldable pub hall_plan : List ℕ → Plan
hall_plan map = record { attributes = 0; files = 2; dir_length = 1; next = 3; free = 2; map = map; directory = week_entry ++ rates_entry }

unfoldable pub hall : List ℕ
hall = disk (hall_plan hall_map)

-- the same by the rules of the map: blocks 2 and 4 joined, and block 3, on a map of zeros
unfoldable pub hall_by_rules : List ℕ
hall_by_rules = put_chain (put_chain (disk (hall_plan [])) (2 ∷ 4 ∷ [])) (3 ∷ [])

-- the image with xs at byte p
unfoldable pub with_bytes : ℕ → List ℕ → List ℕ → List ℕ
with_bytes p xs image = paste image p xs (length xs)

-- n bytes from the k-th on of 1, 2, .. 251, 1, ..
unfoldable pub sample : ℕ → ℕ → List ℕ
sample k n = map (λ i. i % 251 + 1) (from n k)

-- WEEK1 with another data fork and another change date
unfoldable pub with_week1 : ℕ → ℕ → ℕ → ℕ → List ℕ → List ℕ
with_week1 start logical physical changed image = with_bytes 2070 (fork_bytes_of start logical physical) (with_bytes 2094 (bytes32 changed) image)

-- HALL with another free count, and with another map entry for block 4
unfoldable pub free_count3 : List ℕ
free_count3 = with_bytes 1058 (bytes16 3) hall

unfoldable pub ring : List ℕ
ring = with_bytes 1092 (0x20 ∷ []) hall

-- ---- An 800-block image, S = 16, A = 1,024, and N as given

unfoldable pub info800 : ℕ → List ℕ
info800 n =
    flat
    ((0xd2 ∷ 0xd7 ∷ zeros 8) ∷ bytes16 0 ∷ bytes16 0 ∷ bytes16 4 ∷ bytes16 12 ∷ bytes16 n ∷ bytes32 1024 ∷ bytes32 0 ∷ bytes16 16
    ∷ bytes32 1 ∷ bytes16 n ∷ zeros 28 ∷ [])

-- ---- Rows

pub data Row : Type 0 where
  -- three bytes of the map, and the two entries that they read as
  pair : (ab cd ef first second : ℕ) → Row
  -- an image has these bytes at a place, and the next one's high half-byte
  has : (image : List ℕ) (place : ℕ) (bytes : List ℕ) (high : ℕ) → Row
  -- two images are equal
  equal : (image other : List ℕ) → Row
  -- a call on an image, its whole answer and the whole image that it leaves
  does : (image : List ℕ) (call : Call) (given : Answer) (left : List ℕ) → Row
  -- every 800-block image with that volume information, so many being its allocation blocks, passes check 3, or gets 3
  passes3 : (n : ℕ) → Row
  gives3 : (n : ℕ) → Row
  -- the checksum of bytes, and of tags
  sums : (bytes : List ℕ) (sum : ℕ) → Row
  tag_sums : (behind : List ℕ) (sum : ℕ) → Row
  -- a file's length and header, and whether they are unlike those of a wrapped file
  heads : (size : ℕ) (header : List ℕ) (bad : Bool) → Row
  -- the lengths of image, buffer and name, and whether wrapping refuses them by 22
  lengths : (image buffer name : ℕ) (bad : Bool) → Row
  -- every accepted image of 409,600 bytes with that checksum is wrapped by a name and a format byte into this header and the image
  wraps : (name : List ℕ) (format sum : ℕ) (header : List ℕ) → Row
  -- every file of that header, of 409,600 bytes of data with that checksum, and of so many bytes of tags with that tag sum: a call
  -- on it, its whole answer, and the file stays
  stops : (header : List ℕ) (sum long tag_sum : ℕ) (call : Call) (given : Answer) → Row
  -- every such file with data for which that call has that number: it gives the number alone, and the file stays
  declines : (header : List ℕ) (sum long tag_sum : ℕ) (call : Call) (number : ℕ) → Row
  -- every such file with data for which that call is not refused: it answers as on the data, and leaves this header, the data that
  -- the call leaves, of the new checksum, and the tags
  serves : (header : List ℕ) (sum long tag_sum : ℕ) (call : Call) (new : ℕ) (after : List ℕ) → Row
  -- every file of that header, with new data of that checksum, has this header, the new data and the tags that it had
  renews : (header : List ℕ) (sum : ℕ) (after : List ℕ) → Row
  -- in names either byte of each pair equals itself and the other, and no other number; each of these bytes equals only itself
  twins : (pairs : List (ℕ × ℕ)) → Row
  alone : (bytes : List ℕ) → Row
  -- three bytes and two entries each give the other
  splits : (ab cd ef first second : ℕ) → Row
  -- in an image whose bytes from 1088 on are these, where a block's three bytes begin, what they are, and its entry
  looks : (bytes : List ℕ) (b at ab cd ef value : ℕ) → Row
  -- the same image with that entry for a block: its bytes from 1088 on
  puts : (bytes : List ℕ) (b value : ℕ) (left : List ℕ) → Row
  -- A, the clump size, and how many blocks the clump has
  clumps : (a size blocks : ℕ) → Row
  -- the clump in blocks, the free blocks, those that the fork has and those that the write needs, and how many it takes
  takes : (c free count need new : ℕ) → Row

unfoldable pub Right : Row → Type 0
Right (pair ab cd ef x y) =
    (map_entry (zeros 1088 ++ (ab ∷ cd ∷ ef ∷ [])) 2 ≡ x) × (map_entry (zeros 1088 ++ (ab ∷ cd ∷ ef ∷ [])) 3 ≡ y)
Right (has image place bytes high) = (part place (length bytes) image ≡ bytes) × (byte image (place + length bytes) / 16 ≡ high)
Right (equal image other) = image ≡ other
Right (does image call given left) = (answer call image ≡ given) × (after call image ≡ left)
Right (passes3 n) =
    (image : List ℕ) → length image ≡ 409600 → part 1024 64 image ≡ info800 n → fires3 (facts_of image) (blocks_in image) ≡ false
Right (gives3 n) = (image : List ℕ) → length image ≡ 409600 → part 1024 64 image ≡ info800 n → verdict image ≡ 3
Right (sums bytes sum) = checksum bytes ≡ sum
Right (tag_sums behind sum) = tag_checksum behind ≡ sum
Right (heads size header bad) = bad_header size header ≡ bad
Right (lengths image buffer name bad) = bad_lengths image buffer name ≡ bad
Right (wraps name format sum header) =
    (image buffer : List ℕ) → length image ≡ 409600 → verdict image ≡ 0 → checksum image ≡ sum → length buffer ≡ 409684
    → (answer (wrap name format buffer) image ≡ only 0 (header ++ image)) × (after (wrap name format buffer) image ≡ image)
Right (stops header sum long tag_sum call given) =
    (content behind : List ℕ) → length content ≡ 409600 → checksum content ≡ sum → length behind ≡ long → tag_checksum behind ≡ tag_sum
    → (file_answer call (header ++ (content ++ behind)) ≡ given)
    × (file_after call (header ++ (content ++ behind)) ≡ header ++ (content ++ behind))
Right (declines header sum long tag_sum call number) =
    (content behind : List ℕ) → length content ≡ 409600 → checksum content ≡ sum → length behind ≡ long → tag_checksum behind ≡ tag_sum
    → refusal call content ≡ number
    → (file_answer call (header ++ (content ++ behind)) ≡ only number (lent call))
    × (file_after call (header ++ (content ++ behind)) ≡ header ++ (content ++ behind))
Right (serves header sum long tag_sum call new after) =
    (content behind : List ℕ) → length content ≡ 409600 → checksum content ≡ sum → length behind ≡ long → tag_checksum behind ≡ tag_sum
    → refusal call content ≡ 0 → checksum (change call content) ≡ new
    → (file_answer call (header ++ (content ++ behind)) ≡ reply call content)
    × (file_after call (header ++ (content ++ behind)) ≡ after ++ (change call content ++ behind))
Right (renews header sum after) =
    (content new behind : List ℕ) → length content ≡ 409600 → length new ≡ 409600 → checksum new ≡ sum
    → renewed (header ++ (content ++ behind)) new ≡ after ++ (new ++ behind)
Right (twins pairs) =
    (i : ℕ) → i < length pairs → (c : ℕ)
    → (same_byte (get_or pairs i (0, 0)).0 c ≡ (eqb (get_or pairs i (0, 0)).0 c || eqb (get_or pairs i (0, 0)).1 c))
    × (same_byte (get_or pairs i (0, 0)).1 c ≡ (eqb (get_or pairs i (0, 0)).0 c || eqb (get_or pairs i (0, 0)).1 c))
Right (alone bytes) = (i : ℕ) → i < length bytes → (c : ℕ) → same_byte (get_or bytes i 0) c ≡ eqb (get_or bytes i 0) c
Right (splits ab cd ef first second) =
    (entries_in (record { ab = ab; cd = cd; ef = ef }) ≡ record { first = first; second = second })
    × (bytes_for (record { first = first; second = second }) ≡ record { ab = ab; cd = cd; ef = ef })
Right (looks bytes b at ab cd ef value) =
    (pair_byte b ≡ at) × (three_bytes (zeros 1088 ++ bytes) at ≡ record { ab = ab; cd = cd; ef = ef }) × (map_entry (zeros 1088 ++ bytes) b ≡ value)
Right (puts bytes b value left) = set_entry (zeros 1088 ++ bytes) b value ≡ zeros 1088 ++ left
Right (clumps a size blocks) = clump (facts_in (zeros 20 ++ (bytes32 a ++ bytes32 size))) ≡ blocks
Right (takes c free count need new) = taken c free count need ≡ new

-- every row of the list
infixr 5 ◌&◌
pub data AllRight : List Row → Type 0 where
  end : AllRight []
  ◌&◌ : {r : Row} {rs : List Row} → Right r → AllRight rs → AllRight (r ∷ rs)

-- ---- The P cases: each starts from HALL

unfoldable pub week_facts : DirectoryEntry
week_facts = record {
  flags = 0x80;
  version = 0;
  finder = zeros 16;
  number = 1;
  «data» = record { start = record { 0 = 2 }; logical = 700; physical = 1024 };
  resource = record { start = record { 0 = 0 }; logical = 0; physical = 0 };
  created = 2500000000;
  changed = 2500600000;
  name_length = 5;
  name = WEEK1 ++ zeros 250;
}

unfoldable pub p_cases : List Row
p_cases =
    -- P1 AB CD EF reads as ABC, DEF.
    pair 0xab 0xcd 0xef 0xabc 0xdef
    -- P2 map bytes 00 40 01 00 10 00 00 and a high half-byte 0.
    ∷ has hall_by_rules 1088 (0x00 ∷ 0x40 ∷ 0x01 ∷ 0x00 ∷ 0x10 ∷ 0x00 ∷ 0x00 ∷ []) 0
    ∷ equal hall_by_rules hall
    -- P3 write 400 at 700 in WEEK1: block 4 leads to 5, map begins 00 40 01 00 50 01, one free.
    ∷ does hall (write WEEK1 Data 700 (sample 0 400) 9) (only 0 [])
    (with_bytes 1058 (bytes16 1) (with_bytes 1088 (0x00 ∷ 0x40 ∷ 0x01 ∷ 0x00 ∷ 0x50 ∷ 0x01 ∷ [])
    (with_week1 2 1100 1536 9 (with_bytes 3772 (sample 0 324) (with_bytes 4096 (sample 324 76) hall)))))
    -- P4 write 1,348 at 700: four blocks, none free.
    ∷ does hall (write WEEK1 Data 700 (sample 0 1348) 9) (only 0 [])
    (with_bytes 1058 (bytes16 0) (with_bytes 1088 (0x00 ∷ 0x40 ∷ 0x01 ∷ 0x00 ∷ 0x50 ∷ 0x06 ∷ 0x00 ∷ 0x10 ∷ [])
    (with_week1 2 2048 2048 9 (with_bytes 3772 (sample 0 324) (with_bytes 4096 (sample 324 1024) hall)))))
    -- P5 write 1,349 at 700: 17.
    ∷ does hall (write WEEK1 Data 700 (sample 0 1349) 9) (only 17 []) hall
    -- P6 write 0 at 700: only the date. At 701: 16.
    ∷ does hall (write WEEK1 Data 700 [] 9) (only 0 []) (with_bytes 2094 (bytes32 9) hall)
    ∷ does hall (write WEEK1 Data 701 [] 9) (only 16 []) hall
    -- P7 cut WEEK1 to 513: two blocks stay.
    ∷ does hall (cut WEEK1 Data 513 9) (only 0 []) (with_week1 2 513 1024 9 hall)
    -- P8 cut to 512: entry 2 is 1, entry 4 is 0, three free.
    ∷ does hall (cut WEEK1 Data 512 9) (only 0 [])
    (with_bytes 1058 (bytes16 3) (with_bytes 1088 (0x00 ∷ 0x10 ∷ 0x01 ∷ 0x00 ∷ 0x00 ∷ 0x00 ∷ []) (with_week1 2 512 512 9 hall)))
    -- P9 delete RATES: map begins 00 40 00 00 10 00; the directory block is zero from byte 56.
    ∷ does hall (delete RATES) (only 0 [])
    (with_bytes 1036 (bytes16 1) (with_bytes 1058 (bytes16 3) (with_bytes 1088 (0x00 ∷ 0x40 ∷ 0x00 ∷ 0x00 ∷ 0x10 ∷ 0x00 ∷ [])
    (with_bytes 2104 (zeros 456) hall))))
    -- P10 "week1" is found; create of it: 14.
    ∷ does hall (find week1) (tells_entry 0 week_facts) hall
    ∷ does hall (create week1 (zeros 16) 7 8) (only 14 []) hall
    -- P11 free count 3: 10. P12 entry 4 leading to 2: 8.
    ∷ does free_count3 check (only 10 []) free_count3
    ∷ does ring check (only 8 []) ring
    -- An 800-block image, S = 16, A = 1,024: N = 391 passes check 3, N = 392 gives 3.
    ∷ passes3 391
    ∷ gives3 392
    ∷ []

unfoldable pub PCases : Type 0
PCases = AllRight p_cases

-- ---- Further cases

-- a check that refuses, and a call that refuses
abbrev pub bad : ℕ → List ℕ → Row
bad number image = does image check (only number []) image

abbrev pub refused : ℕ → Call → List ℕ → Row
refused number call image = does image call (only number []) image

-- HALL's facts as its bytes have them
unfoldable pub hall_facts : VolumeFacts
hall_facts = record {
  signature = 0xd2d7;
  created = 0;
  backup = 0;
  attributes = 0;
  files = 2;
  directory_start = record { 0 = 4 };
  directory_length = 1;
  allocation_blocks = 5;
  block_size = 512;
  clump_size = 0;
  allocation_start = record { 0 = 5 };
  next_number = 3;
  free_blocks = 2;
  name_length = 4;
  name = 72 ∷ 65 ∷ 76 ∷ 76 ∷ zeros 23;
}

unfoldable pub rates_facts : DirectoryEntry
rates_facts = record {
  flags = 0x80;
  version = 0;
  finder = zeros 16;
  number = 2;
  «data» = record { start = record { 0 = 3 }; logical = 512; physical = 512 };
  resource = record { start = record { 0 = 0 }; logical = 0; physical = 0 };
  created = 2500000000;
  changed = 2500000000;
  name_length = 5;
  name = RATES ++ zeros 250;
}

abbrev pub NEWS : List ℕ
NEWS = 78 ∷ 69 ∷ 87 ∷ 83 ∷ []

-- a file NEWS with no bytes, whose pad byte is as given
unfoldable pub news_entry : ℕ → ℕ → List ℕ
news_entry number pad = entry_bytes 0x80 number (zeros 10) (zeros 10) 7 8 NEWS (pad ∷ [])

-- NEWS with a pad byte that is not zero, then RATES
unfoldable pub padded_disk : List ℕ
padded_disk =
    disk
    (record { attributes = 0; files = 2; dir_length = 1; next = 3; free = 4; map = 0 ∷ 0 ∷ 1 ∷ []; directory = news_entry 1 0xaa ++ rates_entry })

-- HALL with bytes behind the last entry, the first of them 7F hex
unfoldable pub stale_disk : List ℕ
stale_disk = with_bytes 2160 (0x7f ∷ sample 0 351) hall

-- HALL with dead space: the low half-byte behind the last map entry, and the bytes behind the map
unfoldable pub dead_disk : List ℕ
dead_disk = with_bytes 1095 (0x0f ∷ sample 0 952) hall

-- HALL with bytes in WEEK1's blocks
unfoldable pub full_week : List ℕ
full_week = with_bytes 2560 (sample 0 512) (with_bytes 3584 (sample 512 512) hall)

-- HALL, RATES having 3 resource bytes in block 5
unfoldable pub resource_disk : List ℕ
resource_disk = with_bytes 1058 (bytes16 1) (with_bytes 1093 (0x01 ∷ []) (with_bytes 2136 (fork_bytes_of 5 3 512) hall))

-- HALL, WEEK1 being of 100 bytes in the same two blocks
unfoldable pub roomy_disk : List ℕ
roomy_disk = with_bytes 2072 (bytes32 100) hall

-- a name of n bytes c
unfoldable pub long_name : ℕ → ℕ → List ℕ
long_name c n = replicate n c

-- names of 255 and n bytes: with 155 the directory block is full to its last byte
unfoldable pub long_disk : ℕ → List ℕ
long_disk n =
    disk
    (record {
      attributes = 0;
      files = 2;
      dir_length = 1;
      next = 9;
      free = 5;
      map = [];
      directory = entry_bytes 0x80 1 (zeros 10) (zeros 10) 7 8 (long_name 65 255) []
          ++ entry_bytes 0xff 2 (zeros 10) (zeros 10) 7 8 (long_name 66 n) [];
    })

-- two directory blocks: the first full but for 80 bytes, the second with RATES; S is 6
unfoldable pub two_blocks : List ℕ
two_blocks =
    disk
    (record {
      attributes = 0;
      files = 3;
      dir_length = 2;
      next = 4;
      free = 4;
      map = 0 ∷ 0 ∷ 1 ∷ [];
      directory = up_to 512 (entry_bytes 0x80 1 (zeros 10) (zeros 10) 7 8 (long_name 65 255) []
          ++ entry_bytes 0x80 3 (zeros 10) (zeros 10) 7 8 (long_name 66 75) []) ++ rates_entry;
    })

-- what read gives back, and what find tells of the first file of long_disk
unfoldable pub tells_read : ℕ → List ℕ → Answer
tells_read count buffer =
    record { number = 0; facts = no_facts; place = 0; entry = no_entry; block = record { 0 = 0 }; count = count; buffer = buffer }

unfoldable pub long_facts : ℕ → DirectoryEntry
long_facts n = record {
  flags = 0x80;
  version = 0;
  finder = zeros 16;
  number = 1;
  «data» = record { start = record { 0 = 0 }; logical = 0; physical = 0 };
  resource = record { start = record { 0 = 0 }; logical = 0; physical = 0 };
  created = 7;
  changed = 8;
  name_length = n;
  name = long_name 65 n;
}

-- rows that tell wrong definitions which the P cases let pass
unfoldable pub telling : List Row
telling =
    -- equal names, a shared block, a block that no fork has
    bad 7 (with_bytes 2155 week1 hall)
    ∷ bad 8 (with_bytes 2136 (fork_bytes_of 3 512 512) hall)
    ∷ bad 9 (with_bytes 1058 (bytes16 1) (with_bytes 1093 (0x01 ∷ []) hall))
    -- what is not judged: bytes behind the reading, a pad byte
    ∷ does stale_disk check (tells_facts hall_facts) stale_disk
    ∷ does padded_disk (entry 1) (tells_entry 0 rates_facts) padded_disk
    -- read at the end into a buffer that is longer than what is there
    ∷ does full_week (read WEEK1 Data 690 (replicate 20 0xee)) (tells_read 10 (sample 690 10 ++ replicate 10 0xee)) full_week
    -- create over stale bytes; write with dead space beside the last entry
    ∷ does stale_disk (create NEWS (zeros 16) 7 8) (only 0 [])
    (with_bytes 1036 (bytes16 3) (with_bytes 1054 (bytes32 4) (with_bytes 2160 (news_entry 3 0 ++ zeros 296) stale_disk)))
    ∷ does dead_disk (write WEEK1 Data 700 (sample 0 1348) 9) (only 0 [])
    (with_bytes 1058 (bytes16 0) (with_bytes 1092 (0x50 ∷ 0x06 ∷ 0x00 ∷ 0x1f ∷ [])
    (with_week1 2 2048 2048 9 (with_bytes 3772 (sample 0 324) (with_bytes 4096 (sample 324 1024) dead_disk)))))
    -- delete frees the blocks of both forks
    ∷ does resource_disk (delete RATES) (only 0 [])
    (with_bytes 1036 (bytes16 1) (with_bytes 1058 (bytes16 3) (with_bytes 1088 (0x00 ∷ 0x40 ∷ 0x00 ∷ 0x00 ∷ 0x10 ∷ 0x00 ∷ [])
    (with_bytes 2104 (zeros 456) resource_disk))))
    ∷ []

-- 21, given by create when the name is longer than 31 and not above 255, straight after 12 and before 14
unfoldable pub long_names : List Row
long_names =
    -- 31 succeeds, 32 and 255 give 21, 256 gives 12; every byte counts
    does hall (create (long_name 0x8e 31) (zeros 16) 7 8) (only 0 [])
    (with_bytes 1036 (bytes16 3) (with_bytes 1054 (bytes32 4)
    (with_bytes 2160 (entry_bytes 0x80 3 (zeros 10) (zeros 10) 7 8 (long_name 0x8e 31) []) hall)))
    ∷ refused 21 (create (long_name 0x8e 32) (zeros 16) 7 8) hall
    ∷ refused 21 (create (long_name 65 255) (zeros 16) 7 8) hall
    ∷ refused 12 (create (long_name 65 256) (zeros 16) 7 8) hall
    -- 32 on a locked volume, and 32 and 255 of names that exist, one in other case
    ∷ refused 11 (create (long_name 65 32) (zeros 16) 7 8) (with_bytes 1034 (bytes16 0x0080) hall)
    ∷ refused 21 (create (long_name 66 32) (zeros 16) 7 8) (long_disk 32)
    ∷ refused 21 (create (long_name 97 255) (zeros 16) 7 8) (long_disk 32)
    -- where the next number is the last and no block has room, and on a volume that is refused
    ∷ refused 21 (create (long_name 67 32) (zeros 16) 7 8) (with_bytes 1054 (bytes32 4294967295) (long_disk 155))
    ∷ refused 10 (create (long_name 65 32) (zeros 16) 7 8) free_count3
    -- find: an old long name, in other case, and one that no file has
    ∷ does (long_disk 155) (find (long_name 97 255)) (tells_entry 0 (long_facts 255)) (long_disk 155)
    ∷ refused 13 (find (long_name 67 32)) (long_disk 155)
    ∷ []

-- a header by its fields: the name's length, the rest of the name's field, data size, tag size, the two checksums, encoding, format
-- byte, and what is 0100 hex
unfoldable pub head_of : ℕ → List ℕ → ℕ → ℕ → ℕ → ℕ → ℕ → ℕ → ℕ → List ℕ
head_of long field size tag sum tagged encoding format mark =
    flat ((long ∷ field) ∷ bytes32 size ∷ bytes32 tag ∷ bytes32 sum ∷ bytes32 tagged ∷ (encoding ∷ format ∷ []) ∷ bytes16 mark ∷ [])

-- one that is like this, and the same with another tag size and other checksums
unfoldable pub head_with : ℕ → ℕ → ℕ → List ℕ
head_with tag sum tagged = head_of 4 (72 ∷ 65 ∷ 76 ∷ 76 ∷ replicate 59 0xee) 409600 tag sum tagged 0 0x22 0x100

-- document 02, T-02: the checksum, 22 to 24 and their order, a change, a bare image wrapped
unfoldable pub containers : List Row
containers =
    -- from 0; the lowest bit becomes the highest; words are big-endian; the sum is turned each time
    sums [] 0
    ∷ sums (0 ∷ 1 ∷ []) 0x80000000
    ∷ sums (1 ∷ 0 ∷ []) 0x80
    ∷ sums (replicate 4 255) 0x4000bfff
    -- the last word carries the sum over 32 bits
    ∷ sums (255 ∷ 255 ∷ 255 ∷ 254 ∷ (replicate 28 255 ++ (255 ∷ 254 ∷ []))) 0x80007ffd
    -- 0 without tags; the first 12 bytes left out
    ∷ tag_sums [] 0
    ∷ tag_sums (replicate 12 255) 0
    ∷ tag_sums (replicate 12 255 ++ (0 ∷ 1 ∷ [])) 0x80000000
    -- no tags or all of them, and the length says so too
    ∷ heads 409684 (head_with 0 0 0) false
    ∷ heads 419284 (head_with 9600 0 0) false
    ∷ heads 409684 (head_with 9600 0 0) true
    ∷ heads 419284 (head_with 0 0 0) true
    ∷ heads 414484 (head_with 4800 0 0) true
    ∷ heads 409685 (head_with 0 0 0) true
    -- a name of 0, 63 and 64; the field's rest and the format byte are carried
    ∷ heads 409684 (head_of 0 (replicate 63 255) 409600 0 1 2 0 255 0x100) false
    ∷ heads 409684 (head_of 63 (replicate 63 255) 409600 0 1 2 0 0 0x100) false
    ∷ heads 409684 (head_of 64 (replicate 63 255) 409600 0 1 2 0 0 0x100) true
    -- another data size, encoding or mark
    ∷ heads 409684 (head_of 4 (replicate 63 0) 409599 0 0 0 0 0 0x100) true
    ∷ heads 409684 (head_of 4 (replicate 63 0) 409600 0 0 0 1 0 0x100) true
    ∷ heads 409684 (head_of 4 (replicate 63 0) 409600 0 0 0 0 0 0x101) true
    ∷ heads 409684 (head_of 4 (replicate 63 0) 409600 0 0 0 0 0 0x001) true
    -- 22, 23, 24, in that order before 1: a read's buffer and the file stay
    ∷ stops (head_of 64 (replicate 63 0) 409600 0 8 9 0 0 0x100) 7 0 0 check (only 22 [])
    ∷ stops (head_with 0 8 9) 7 0 0 check (only 23 [])
    ∷ stops (head_with 0 7 9) 7 0 0 check (only 24 [])
    ∷ stops (head_with 9600 7 9) 7 9600 8 (read WEEK1 Data 0 (replicate 3 0xee)) (only 24 (replicate 3 0xee))
    ∷ stops (head_with 9600 8 8) 7 9600 8 (delete WEEK1) (only 23 [])
    ∷ stops (head_with 9600 7 8) 7 0 0 (delete WEEK1) (only 22 [])
    -- then those of the call on the data inside, and its answer; a success changes the data and renews their checksum
    ∷ declines (head_with 9600 7 8) 7 9600 8 (delete WEEK1) 15
    ∷ serves (head_with 9600 7 8) 7 9600 8 (delete WEEK1) 0x01020304 (head_with 9600 0x01020304 8)
    -- header and tags stay
    ∷ renews (head_with 9600 7 9) 0x01020304 (head_with 9600 0x01020304 9)
    -- wrapping: an image of 409,600 bytes, a buffer of 409,684, a name of up to 63
    ∷ lengths 409600 409684 0 false
    ∷ lengths 409600 409684 63 false
    ∷ lengths 409600 409684 64 true
    ∷ lengths 409599 409684 4 true
    ∷ lengths 409600 419284 4 true
    -- name and format byte as given, zeros behind the name, no tags
    ∷ wraps (72 ∷ 65 ∷ 76 ∷ 76 ∷ []) 0x22 0x01020304 (head_of 4 (72 ∷ 65 ∷ 76 ∷ 76 ∷ zeros 59) 409600 0 0x01020304 0 0 0x22 0x100)
    ∷ wraps [] 0 0 (head_of 0 (zeros 63) 409600 0 0 0 0 0 0x100)
    -- an image of another length: 22 before 1 to 10, and the buffer stays
    ∷ does free_count3 (wrap NEWS 0x22 (replicate 3 0xee)) (only 22 (replicate 3 0xee)) free_count3
    ∷ []

-- names of three bytes
abbrev pub three : ℕ → ℕ → ℕ → List ℕ
three a b c = a ∷ b ∷ c ∷ []

abbrev pub NEW : List ℕ
NEW = three 78 69 87

-- two files of such names, with no bytes
unfoldable pub accent_disk : List ℕ → List ℕ → List ℕ
accent_disk m n =
    disk
    (record {
      attributes = 0;
      files = 2;
      dir_length = 1;
      next = 3;
      free = 5;
      map = [];
      directory = entry_bytes 0x80 1 (zeros 10) (zeros 10) 7 8 m [] ++ entry_bytes 0x80 2 (zeros 10) (zeros 10) 7 8 n [];
    })

-- what find tells of one of them
unfoldable pub accent_facts : ℕ → List ℕ → DirectoryEntry
accent_facts number name = record {
  flags = 0x80;
  version = 0;
  finder = zeros 16;
  number = number;
  «data» = record { start = record { 0 = 0 }; logical = 0; physical = 0 };
  resource = record { start = record { 0 = 0 }; logical = 0; physical = 0 };
  created = 7;
  changed = 8;
  name_length = 3;
  name = name ++ zeros 252;
}

-- every byte once: a to z and A to Z, the 13 pairs, the others below 80 hex, and the others from there on, 87 and E7, 89 and E5, 90
-- and E6, D8 and D9 among them
abbrev pub letters_listed : List (ℕ × ℕ)
letters_listed = map (λ i. (0x61 + i, 0x41 + i)) (from 26 0)

abbrev pub pairs_listed : List (ℕ × ℕ)
pairs_listed =
    (0x88, 0xcb) ∷ (0x8a, 0x80) ∷ (0x8b, 0xcc) ∷ (0x8c, 0x81) ∷ (0x8d, 0x82) ∷ (0x8e, 0x83) ∷ (0x96, 0x84) ∷ (0x9a, 0x85) ∷ (0x9b, 0xcd)
    ∷ (0x9f, 0x86) ∷ (0xbe, 0xae) ∷ (0xbf, 0xaf) ∷ (0xcf, 0xce) ∷ []

abbrev pub others_low : List ℕ
others_low = from 65 0x00 ++ (from 6 0x5b ++ from 5 0x7b)

abbrev pub others_high : List ℕ
others_high = 0x87 ∷ 0x89 ∷ (from 7 0x8f ++ (from 3 0x97 ++ (from 3 0x9c ++ (from 14 0xa0 ++ (from 14 0xb0 ++ (from 11 0xc0 ++ from 48 0xd0))))))

-- document 02, T-03: what equals what, and checks 7, 13 and 14
unfoldable pub accented : List Row
accented =
    twins letters_listed
    ∷ twins pairs_listed
    ∷ alone others_low
    ∷ alone others_high
    -- both spellings on one volume; two names that a wider table would fold
    ∷ bad 7 (accent_disk (three 0x8e 0x74 0x8e) (three 0x83 0x74 0x83))
    ∷ bad 7 (accent_disk (three 0x83 0x74 0x8e) (three 0x8e 0x54 0x83))
    ∷ does (accent_disk (three 0x87 0x74 0x87) (three 0xe7 0x74 0xe7)) (find (three 0xe7 0x74 0xe7)) (tells_entry 1 (accent_facts 2 (three 0xe7 0x74 0xe7)))
    (accent_disk (three 0x87 0x74 0x87) (three 0xe7 0x74 0xe7))
    -- found by the other spelling and told as stored; a near miss is not found
    ∷ does (accent_disk NEW (three 0x8e 0x74 0x8e)) (find (three 0x83 0x54 0x83)) (tells_entry 1 (accent_facts 2 (three 0x8e 0x74 0x8e)))
    (accent_disk NEW (three 0x8e 0x74 0x8e))
    ∷ refused 13 (find (three 0x83 0x74 0xe6)) (accent_disk NEW (three 0x8e 0x74 0x8e))
    -- the desk wrote "Été", and the box is asked for "été": 14; a near miss is a new name
    ∷ refused 14 (create (three 0x8e 0x74 0x8e) (zeros 16) 7 8) (accent_disk NEW (three 0x83 0x74 0x8e))
    ∷ does (accent_disk NEW (three 0x83 0x74 0x83)) (create (three 0x8e 0x74 0x8f) (zeros 16) 7 8) (only 0 [])
    (with_bytes 1036 (bytes16 3) (with_bytes 1054 (bytes32 4)
    (with_bytes 2156 (entry_bytes 0x80 3 (zeros 10) (zeros 10) 7 8 (three 0x8e 0x74 0x8f) []) (accent_disk NEW (three 0x83 0x74 0x83)))))
    -- deleted and written by the other spelling: the entry itself goes, or has the new date
    ∷ does (accent_disk NEW (three 0x83 0x74 0x8e)) (delete (three 0x8e 0x54 0x83)) (only 0 [])
    (with_bytes 1036 (bytes16 1) (with_bytes 2102 (zeros 458) (accent_disk NEW (three 0x83 0x74 0x8e))))
    ∷ does (accent_disk NEW (three 0x83 0x74 0x8e)) (write (three 0x8e 0x54 0x83) Data 0 [] 9) (only 0 [])
    (with_bytes 2148 (bytes32 9) (accent_disk NEW (three 0x83 0x74 0x8e)))
    -- a name shorter or longer by a byte, or other in the middle
    ∷ refused 13 (find (0x83 ∷ 0x74 ∷ [])) (accent_disk NEW (three 0x8e 0x74 0x8e))
    ∷ refused 13 (find (0x83 ∷ 0x74 ∷ 0x83 ∷ 0x83 ∷ [])) (accent_disk NEW (three 0x8e 0x74 0x8e))
    ∷ refused 13 (find (three 0x83 0x75 0x83)) (accent_disk NEW (three 0x8e 0x74 0x8e))
    ∷ []

-- two pairs of entries: those of blocks 2 and 3, and of 4 and 5
abbrev pub two_pairs : List ℕ
two_pairs = 0xab ∷ 0xcd ∷ 0xef ∷ 0x12 ∷ 0x34 ∷ 0x56 ∷ []

-- the map of N = 3, the low half-byte of its last byte being dead space
abbrev pub odd_map : List ℕ
odd_map = 0xab ∷ 0xcd ∷ 0xef ∷ 0x12 ∷ 0x3f ∷ []

-- the map of N = 640, zero but for its last pair
unfoldable pub last_pair : List ℕ → List ℕ
last_pair three = zeros 957 ++ three

-- document 02, T-04: two entries and their three bytes each give back the other, and the entry is the first of its three bytes where
-- the block number is even and the second where it is odd
unfoldable pub threes : List Row
threes =
    splits 0xab 0xcd 0xef 0xabc 0xdef
    ∷ splits 0x12 0x34 0x56 0x123 0x456
    ∷ splits 0x00 0x00 0x00 0 0
    ∷ splits 0xff 0xff 0xff 4095 4095
    ∷ splits 0xff 0xf0 0x00 4095 0
    ∷ splits 0x00 0x0f 0xff 0 4095
    -- both blocks of a pair have the same three bytes; N odd; the last block that there can be
    ∷ looks two_pairs 2 1088 0xab 0xcd 0xef 0xabc
    ∷ looks two_pairs 3 1088 0xab 0xcd 0xef 0xdef
    ∷ looks two_pairs 4 1091 0x12 0x34 0x56 0x123
    ∷ looks two_pairs 5 1091 0x12 0x34 0x56 0x456
    ∷ looks (odd_map ++ (0x99 ∷ [])) 4 1091 0x12 0x3f 0x99 0x123
    ∷ looks (last_pair (0xab ∷ 0xcd ∷ 0xef ∷ [])) 641 2045 0xab 0xcd 0xef 0xdef
    -- a store keeps the pair's other entry, and dead space
    ∷ puts two_pairs 2 0x789 (0x78 ∷ 0x9d ∷ 0xef ∷ 0x12 ∷ 0x34 ∷ 0x56 ∷ [])
    ∷ puts two_pairs 3 0x789 (0xab ∷ 0xc7 ∷ 0x89 ∷ 0x12 ∷ 0x34 ∷ 0x56 ∷ [])
    ∷ puts (odd_map ++ (0x99 ∷ [])) 4 0x001 (0xab ∷ 0xcd ∷ 0xef ∷ 0x00 ∷ 0x1f ∷ 0x99 ∷ [])
    ∷ puts (last_pair (0xab ∷ 0xcd ∷ 0xef ∷ [])) 641 0x789 (last_pair (0xab ∷ 0xc7 ∷ 0x89 ∷ []))
    ∷ []

-- "WEEK30 BAD"
abbrev pub BAD : List ℕ
BAD = 87 ∷ 69 ∷ 69 ∷ 75 ∷ 51 ∷ 48 ∷ 32 ∷ 66 ∷ 65 ∷ 68 ∷ []

-- an entry's change date and name
abbrev pub dated : ℕ → List ℕ → List ℕ → List ℕ
dated changed name pad = bytes32 changed ++ (length name ∷ (name ++ pad))

-- WEEK1 of HALL with flags FE hex and Finder bytes, under another name and changed at 9
unfoldable pub flagged : List ℕ → List ℕ → List ℕ
flagged name pad =
    flat
    ((0xfe ∷ 0 ∷ sample 0 16) ∷ bytes32 1 ∷ fork_bytes_of 2 700 1024 ∷ zeros 10 ∷ bytes32 2500000000 ∷ dated 9 name pad ∷ [])

-- HALL with these flags and Finder bytes, and bytes behind the last entry
unfoldable pub flag_disk : List ℕ
flag_disk = with_bytes 2048 (0xfe ∷ 0 ∷ sample 0 16) stale_disk

-- a directory block full but for two bytes: names of 255, 31 and 15 bytes, and RATES; behind it blocks as given
unfoldable pub tight_disk : ℕ → List ℕ → ℕ → List ℕ
tight_disk dir_length more files =
    disk
    (record {
      attributes = 0;
      files = files;
      dir_length = dir_length;
      next = 9;
      free = 4;
      map = 0 ∷ 0 ∷ 1 ∷ [];
      directory = up_to 512 (entry_bytes 0x80 1 (zeros 10) (zeros 10) 7 8 (long_name 65 255) []
          ++ (entry_bytes 0x80 3 (zeros 10) (zeros 10) 7 8 (long_name 66 31) []
          ++ (entry_bytes 0x80 4 (zeros 10) (zeros 10) 7 8 (long_name 68 15) [] ++ rates_entry))) ++ more;
    })

-- document 02, T-05
unfoldable pub renamings : List Row
renamings =
    -- equal padded size: the entry stays, with bytes behind the reading; the pad byte is 0, also where it was a name's or not 0
    does flag_disk (rename WEEK1 NEWS 9) (only 0 []) (with_bytes 2048 (flagged NEWS (0 ∷ [])) flag_disk)
    ∷ does padded_disk (rename NEWS (79 ∷ 76 ∷ 68 ∷ 83 ∷ []) 9) (only 0 [])
    (with_bytes 2094 (dated 9 (79 ∷ 76 ∷ 68 ∷ 83 ∷ []) (0 ∷ [])) padded_disk)
    -- its own name in other case, and in the same; another file's in other case
    ∷ does hall (rename WEEK1 week1 9) (only 0 []) (with_bytes 2094 (dated 9 week1 []) hall)
    ∷ does hall (rename week1 WEEK1 9) (only 0 []) (with_bytes 2094 (bytes32 9) hall)
    ∷ refused 14 (rename WEEK1 (114 ∷ 97 ∷ 116 ∷ 101 ∷ 115 ∷ []) 9) hall
    -- 21 before 13, 15 before 14
    ∷ refused 21 (rename NEWS (long_name 67 32) 9) hall
    ∷ refused 15 (rename WEEK1 RATES 9) (with_bytes 2048 (0x81 ∷ []) hall)
    -- longer, in its own block behind the others, with zeros behind it
    ∷ does flag_disk (rename WEEK1 BAD 9) (only 0 []) (with_bytes 2048 (rates_entry ++ (flagged BAD (0 ∷ []) ++ zeros 394)) flag_disk)
    -- into an earlier block, and into a later one where its own has no room once it is out
    ∷ does two_blocks (rename RATES BAD 9) (only 0 [])
    (with_bytes 2480 (entry_bytes 0x80 2 (fork_bytes_of 3 512 512) (zeros 10) 2500000000 9 BAD (0 ∷ []) ++ zeros 74) two_blocks)
    ∷ does (tight_disk 2 (news_entry 5 0) 5) (rename RATES (long_name 67 31) 9) (only 0 [])
    (with_bytes 2502 (zeros 58)
    (with_bytes 2616 (entry_bytes 0x80 2 (fork_bytes_of 3 512 512) (zeros 10) 2500000000 9 (long_name 67 31) []) (tight_disk 2 (news_entry 5 0) 5)))
    -- a full directory: its own block has room only once the entry is out, an old long name becoming a short one; no block has room
    -- even then; equal size asks for none
    ∷ does (long_disk 155) (rename (long_name 97 255) NEWS 9) (only 0 [])
    (with_bytes 2048 (entry_bytes 0xff 2 (zeros 10) (zeros 10) 7 8 (long_name 66 155) []
    ++ (entry_bytes 0x80 1 (zeros 10) (zeros 10) 7 9 NEWS (0 ∷ []) ++ zeros 250)) (long_disk 155))
    ∷ refused 18 (rename RATES (long_name 67 31) 9) (tight_disk 1 [] 4)
    ∷ does (tight_disk 1 [] 4) (rename RATES NEWS 9) (only 0 []) (with_bytes 2548 (dated 9 NEWS (0 ∷ [])) (tight_disk 1 [] 4))
    ∷ []

-- HALL with another clump size
unfoldable pub clump_disk : ℕ → List ℕ
clump_disk size = with_bytes 1048 (bytes32 size) hall

-- document 02, T-07
unfoldable pub clumped : List Row
clumped =
    -- a multiple of A and at least A: 2·A, 3·A, A, 65,535·A, and 3·A of a larger A
    clumps 512 1024 2
    ∷ clumps 512 1536 3
    ∷ clumps 512 512 1
    ∷ clumps 512 33553920 65535
    ∷ clumps 1536 4608 3
    -- else one block: A+1, 0, A/2; between two multiples, and a multiple of 512 alone
    ∷ clumps 512 513 1
    ∷ clumps 512 0 1
    ∷ clumps 512 256 1
    ∷ clumps 512 1535 1
    ∷ clumps 1536 4096 1
    -- the fork's count is rounded, and not the new blocks
    ∷ takes 2 2 1 1 1
    ∷ takes 3 9 4 1 2
    -- beyond the clump that is begun
    ∷ takes 3 9 2 3 4
    -- enough are free, and one too few: exactly what it needs
    ∷ takes 4 3 5 1 3
    ∷ takes 4 2 5 1 1
    ∷ takes 3 2 0 1 1
    ∷ takes 65535 640 0 3 3
    -- none needed, none taken, whatever the count; what is needed makes whole clumps; a clump of one block
    ∷ takes 3 9 2 0 0
    ∷ takes 3 9 2 1 1
    ∷ takes 1 9 2 4 4
    -- P3 with a clump of two: the fork has four blocks, and none is free
    ∷ does (clump_disk 1024) (write WEEK1 Data 700 (sample 0 400) 9) (only 0 [])
    (with_bytes 1058 (bytes16 0) (with_bytes 1088 (0x00 ∷ 0x40 ∷ 0x01 ∷ 0x00 ∷ 0x50 ∷ 0x06 ∷ 0x00 ∷ 0x10 ∷ [])
    (with_week1 2 1100 2048 9 (with_bytes 3772 (sample 0 324) (with_bytes 4096 (sample 324 76) (clump_disk 1024))))))
    -- with a clump of five one block too few is free: P3 as it is
    ∷ does (clump_disk 2560) (write WEEK1 Data 700 (sample 0 400) 9) (only 0 [])
    (with_bytes 1058 (bytes16 1) (with_bytes 1088 (0x00 ∷ 0x40 ∷ 0x01 ∷ 0x00 ∷ 0x50 ∷ 0x01 ∷ [])
    (with_week1 2 1100 1536 9 (with_bytes 3772 (sample 0 324) (with_bytes 4096 (sample 324 76) (clump_disk 2560))))))
    -- P4 with a clump of three: six blocks are too many, and 17 is not asked of them; P5 with it gets 17 all the same
    ∷ does (clump_disk 1536) (write WEEK1 Data 700 (sample 0 1348) 9) (only 0 [])
    (with_bytes 1058 (bytes16 0) (with_bytes 1088 (0x00 ∷ 0x40 ∷ 0x01 ∷ 0x00 ∷ 0x50 ∷ 0x06 ∷ 0x00 ∷ 0x10 ∷ [])
    (with_week1 2 2048 2048 9 (with_bytes 3772 (sample 0 324) (with_bytes 4096 (sample 324 1024) (clump_disk 1536))))))
    ∷ refused 17 (write WEEK1 Data 700 (sample 0 1349) 9) (clump_disk 1536)
    -- P8 with a clump of two: one block is kept
    ∷ does (clump_disk 1024) (cut WEEK1 Data 512 9) (only 0 [])
    (with_bytes 1058 (bytes16 3) (with_bytes 1088 (0x00 ∷ 0x10 ∷ 0x01 ∷ 0x00 ∷ 0x00 ∷ 0x00 ∷ []) (with_week1 2 512 512 9 (clump_disk 1024))))
    ∷ []

-- HALL with three directory blocks of these bytes, this number of files, and the next number 9
unfoldable pub quick_disk : ℕ → List ℕ → List ℕ → List ℕ → List ℕ
quick_disk files a b c =
    disk
    (record {
      attributes = 0;
      files = files;
      dir_length = 3;
      next = 9;
      free = 2;
      map = hall_map;
      directory = up_to 512 a ++ (up_to 512 b ++ c);
    })

-- one entry in each block, and the image is accepted
unfoldable pub apart_disk : List ℕ
apart_disk = quick_disk 3 week_entry rates_entry (news_entry 5 0)

-- an entry of version 1, which 6 refuses
unfoldable pub versioned : List ℕ → List ℕ
versioned e = with_bytes 1 (1 ∷ []) e

-- WEEK1 behind such an entry, and nowhere else
unfoldable pub hidden_disk : List ℕ
hidden_disk = quick_disk 3 (versioned (news_entry 5 0) ++ week_entry) rates_entry []

-- WEEK1 behind such an entry, which is called NEWS, and in the last block both again
unfoldable pub again_disk : List ℕ
again_disk = quick_disk 5 (rates_entry ++ (versioned (news_entry 5 0) ++ week_entry)) [] (week_entry ++ news_entry 6 0)

-- HALL with a bad map entry, which 5 refuses
unfoldable pub bad_map_disk : List ℕ
bad_map_disk = with_bytes 1094 (0x0f ∷ 0xff ∷ []) hall

unfoldable pub news_facts : ℕ → DirectoryEntry
news_facts number = record {
  flags = 0x80;
  version = 0;
  finder = zeros 16;
  number = number;
  «data» = record { start = record { 0 = 0 }; logical = 0; physical = 0 };
  resource = record { start = record { 0 = 0 }; logical = 0; physical = 0 };
  created = 7;
  changed = 8;
  name_length = 4;
  name = NEWS ++ zeros 251;
}

-- document 02, T-08
unfoldable pub quick_finds : List Row
quick_finds =
    -- an accepted image: the place of the entry's block, counted from 1, and all blocks beside 13
    does apart_disk (quick_find RATES) (tells_quick 1 rates_facts 2) apart_disk
    ∷ does apart_disk (quick_find BAD) (counted 13 3 []) apart_disk
    -- a name behind a bad entry: absent; the same in a later block, its place counted over what was read; the bad entry is no answer
    ∷ does hidden_disk (quick_find WEEK1) (counted 13 3 []) hidden_disk
    ∷ does again_disk (quick_find WEEK1) (tells_quick 1 week_facts 3) again_disk
    ∷ does again_disk (quick_find NEWS) (tells_quick 2 (news_facts 6) 3) again_disk
    -- 5 is not asked: the name, and 12 without a count; 4 is, before 12
    ∷ does bad_map_disk (quick_find week1) (tells_quick 0 week_facts 1) bad_map_disk
    ∷ refused 12 (quick_find []) bad_map_disk
    ∷ refused 4 (quick_find []) (with_bytes 1060 (28 ∷ []) hall)
    ∷ []

unfoldable pub FurtherCases : Type 0
FurtherCases =
    AllRight telling × AllRight long_names × AllRight containers × AllRight accented × AllRight threes × AllRight renamings × AllRight clumped
    × AllRight quick_finds
