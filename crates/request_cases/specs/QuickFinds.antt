-- Worked cases of document 02, T-08: quick find on images that are accepted and on others. Each is computed from the definitions, and its
-- whole answer is compared; the image stays.
use Rattle.std.specs.Prelude.{ℕ, ◌-◌, List, [], ◌∷◌, ◌++◌, length, take}
use Rattle.model.specs.Bytes.{bytes16, bytes32, zeros}
use Rattle.model.specs.Calls.{Answer, counted, tells_entry, tells_quick}
use Rattle.model.specs.Calls.Call.{find, quick_find}
use Rattle.model.specs.Cases.{Row, AllRight, bad, refused, WEEK1, week1, RATES, NEWS, with_bytes, entry_bytes, fork_bytes_of, week_entry, rates_entry, news_entry}
use Rattle.model.specs.Cases.{hall, ring, free_count3, long_name, long_disk, long_facts, week_facts, rates_facts, news_facts, quick_disk, apart_disk, versioned}
use Rattle.model.specs.Cases.{hidden_disk, again_disk, accent_disk, accent_facts, three, NEW}
use Rattle.model.specs.Cases.Row.{does}
use Rattle.model.specs.declared.DirectoryEntry.{DirectoryEntry}

-- a quick find, which leaves the image
abbrev pub asks : List ℕ → List ℕ → Answer → Row
asks image name given = does image (quick_find name) given image

-- a file with no bytes, and what is told of it
unfoldable pub plain : ℕ → List ℕ → List ℕ
plain number name = entry_bytes 0x80 number (zeros 10) (zeros 10) 7 8 name []

unfoldable pub plain_facts : ℕ → List ℕ → DirectoryEntry
plain_facts number name = record {
  flags = 0x80;
  version = 0;
  finder = zeros 16;
  number = number;
  «data» = record { start = record { 0 = 0 }; logical = 0; physical = 0 };
  resource = record { start = record { 0 = 0 }; logical = 0; physical = 0 };
  created = 7;
  changed = 8;
  name_length = length name;
  name = name ++ zeros (255 - length name);
}

-- an entry with a name length of 0, which 6 refuses
unfoldable pub nameless : List ℕ
nameless = entry_bytes 0x80 7 (zeros 10) (zeros 10) 7 8 [] (0 ∷ [])

-- names of 255 and n bytes: with 99 they take 456 bytes, with 105 all but 50, with 155 the whole block
unfoldable pub long_block : ℕ → List ℕ
long_block n = plain 7 (long_name 65 255) ++ plain 8 (long_name 66 n)

-- flags with bit 7 clear and all others set
unfoldable pub unused : List ℕ → List ℕ
unused e = with_bytes 0 (0x7f ∷ []) e

-- forks that check 8 would refuse, and a file number above the next one
unfoldable pub odd_entry : List ℕ
odd_entry = entry_bytes 0xff 4294967295 (fork_bytes_of 65535 4294967295 1) (fork_bytes_of 0 5 0) 7 8 NEWS (9 ∷ [])

unfoldable pub odd_facts : DirectoryEntry
odd_facts = record {
  flags = 0xff;
  version = 0;
  finder = zeros 16;
  number = 4294967295;
  «data» = record { start = record { 0 = 65535 }; logical = 4294967295; physical = 1 };
  resource = record { start = record { 0 = 0 }; logical = 5; physical = 0 };
  created = 7;
  changed = 8;
  name_length = 4;
  name = NEWS ++ zeros 251;
}

-- images that are accepted; 1, 2 and 3
unfoldable pub sound : List Row
sound =
    -- the first and the last of three blocks, as find tells
    asks apart_disk week1 (tells_quick 0 week_facts 1)
    ∷ asks apart_disk NEWS (tells_quick 2 (news_facts 5) 3)
    ∷ does apart_disk (find NEWS) (tells_entry 2 (news_facts 5)) apart_disk
    -- one block: found, and absent
    ∷ asks hall RATES (tells_quick 1 rates_facts 1)
    ∷ asks hall NEWS (counted 13 1 [])
    -- a locked volume; a name by its other spelling
    ∷ asks (with_bytes 1034 (bytes16 0x8080) hall) WEEK1 (tells_quick 0 week_facts 1)
    ∷ asks (accent_disk NEW (three 0x8e 0x74 0x8e)) (three 0x83 0x54 0x83) (tells_quick 1 (accent_facts 2 (three 0x8e 0x74 0x8e)) 1)
    -- a block full to its last byte; a name of 255 bytes that no file has, and one of 256
    ∷ asks (long_disk 155) (long_name 97 255) (tells_quick 0 (long_facts 255) 1)
    ∷ asks (long_disk 155) (long_name 67 255) (counted 13 1 [])
    ∷ refused 12 (quick_find (long_name 65 256)) (long_disk 155)
    -- 1, 2 and 3 come before 12, and before the directory is read
    ∷ refused 1 (quick_find []) (take 6143 hall)
    ∷ refused 2 (quick_find []) (with_bytes 1024 (0x42 ∷ 0x44 ∷ []) hall)
    ∷ refused 3 (quick_find []) (with_bytes 1054 (bytes32 0) hall)
    ∷ refused 3 (quick_find WEEK1) (with_bytes 1040 (bytes16 0) hall)
    ∷ []

-- entries that 6 would refuse
unfoldable pub stopping : List Row
stopping =
    bad 6 hidden_disk
    -- behind one of version 1, and of name length 0, the next block is read; entries before it count, those behind it don't
    ∷ asks hidden_disk RATES (tells_quick 0 rates_facts 2)
    ∷ asks again_disk RATES (tells_quick 0 rates_facts 1)
    ∷ asks (quick_disk 3 week_entry (nameless ++ news_entry 5 0) rates_entry) NEWS (counted 13 3 [])
    ∷ asks (quick_disk 3 week_entry (nameless ++ news_entry 5 0) rates_entry) RATES (tells_quick 1 rates_facts 3)
    -- one in each block; one of the name itself
    ∷ asks (quick_disk 6 (nameless ++ week_entry) (versioned (news_entry 5 0) ++ week_entry) (rates_entry ++ nameless)) RATES (tells_quick 0 rates_facts 3)
    ∷ asks (quick_disk 1 (versioned week_entry) [] []) WEEK1 (counted 13 3 [])
    -- an entry that ends with its block, one that crosses its end, and one whose name length is beyond it
    ∷ asks (quick_disk 3 (long_block 99 ++ plain 9 (long_name 67 5)) [] []) (long_name 99 5) (tells_quick 2 (plain_facts 9 (long_name 67 5)) 1)
    ∷ asks (quick_disk 3 (long_block 99 ++ plain 9 (long_name 67 7)) (67 ∷ 67 ∷ []) rates_entry) (long_name 67 7) (counted 13 3 [])
    ∷ asks (quick_disk 3 (long_block 105) rates_entry []) RATES (tells_quick 2 rates_facts 2)
    ∷ asks (quick_disk 4 (long_block 105 ++ plain 9 WEEK1) (5 ∷ WEEK1) rates_entry) WEEK1 (counted 13 3 [])
    ∷ asks (quick_disk 4 (long_block 105 ++ plain 9 WEEK1) (5 ∷ WEEK1) rates_entry) RATES (tells_quick 2 rates_facts 3)
    -- a block full to its last byte, and the next one
    ∷ asks (quick_disk 3 (long_block 155) week_entry []) (long_name 98 155) (tells_quick 1 (plain_facts 8 (long_name 66 155)) 1)
    ∷ asks (quick_disk 3 (long_block 155) week_entry []) WEEK1 (tells_quick 2 week_facts 2)
    ∷ []

-- other images that the full check would refuse
unfoldable pub unsound : List Row
unsound =
    -- two equal names: the first, in one block and in two
    asks (quick_disk 3 (rates_entry ++ week_entry) (plain 7 week1) []) week1 (tells_quick 1 week_facts 1)
    ∷ asks (quick_disk 3 (plain 7 week1 ++ week_entry) rates_entry []) WEEK1 (tells_quick 0 (plain_facts 7 week1) 1)
    -- 8, 9 and 10; a number of files that is wrong; forks and a file number as they stand
    ∷ asks ring week1 (tells_quick 0 week_facts 1)
    ∷ asks (with_bytes 1058 (bytes16 1) (with_bytes 1093 (0x01 ∷ []) hall)) RATES (tells_quick 1 rates_facts 1)
    ∷ asks free_count3 NEWS (counted 13 1 [])
    ∷ asks (quick_disk 0 [] week_entry rates_entry) RATES (tells_quick 1 rates_facts 3)
    ∷ asks (quick_disk 0 [] odd_entry []) NEWS (tells_quick 0 odd_facts 2)
    -- a reading ends where bit 7 is clear, whatever else that byte holds
    ∷ asks (quick_disk 3 (unused week_entry ++ news_entry 5 0) rates_entry []) NEWS (counted 13 3 [])
    ∷ asks (quick_disk 3 (unused week_entry ++ news_entry 5 0) rates_entry []) RATES (tells_quick 0 rates_facts 2)
    ∷ []

unfoldable pub QuickCases : Type 0
QuickCases = AllRight sound × AllRight stopping × AllRight unsound
