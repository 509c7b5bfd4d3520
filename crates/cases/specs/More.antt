-- More worked cases: each is computed from the definitions, and its whole answer and image are compared; limits of checks 1 and 3.
use Rattle.std.specs.Prelude.{ℕ, ◌*◌, ◌≡◌, Bool, true, false, List, [], ◌∷◌, ◌++◌, replicate}
use Rattle.model.specs.Bytes.{bytes16, bytes32, zeros}
use Rattle.model.specs.Facts.{facts_in}
use Rattle.model.specs.Check.{fires1, fires3}
use Rattle.model.specs.Calls.{only, tells_facts, tells_entry, tells_block}
use Rattle.model.specs.Calls.Call.{check, entry, find, block, read, create, write, cut, delete, rename}
use Rattle.model.specs.Cases.{Row, AllRight, bad, refused, info, disk, fork_bytes_of, entry_bytes, WEEK1, week1, RATES, NEWS, rates_entry, hall, with_bytes}
use Rattle.model.specs.Cases.{with_week1, sample, week_facts, hall_facts, rates_facts, news_entry, stale_disk, dead_disk, full_week, resource_disk, roomy_disk, long_name}
use Rattle.model.specs.Cases.{hall_map, long_disk, two_blocks, tells_read, three, NEW, accent_disk, BAD, dated, tight_disk, free_count3}
use Rattle.model.specs.Cases.Row.{does}
use Rattle.model.specs.declared.DirectoryEntry.{DirectoryEntry}
use Rattle.model.specs.declared.Fork.TheVariants.{Data, Resource}

-- checks 1 to 8
unfoldable pub bad_volumes : List Row
bad_volumes =
    -- 1 to 4
    bad 1 []
    ∷ bad 1 (zeros 3584)
    ∷ bad 1 (zeros 4097)
    ∷ bad 2 (zeros 4096)
    ∷ bad 2 (with_bytes 1025 (0xd6 ∷ []) hall)
    ∷ bad 3 (with_bytes 1044 (bytes32 513) hall)
    ∷ bad 3 (with_bytes 1044 (bytes32 0) hall)
    ∷ bad 3 (with_bytes 1042 (bytes16 0) hall)
    ∷ bad 3 (with_bytes 1042 (bytes16 6) hall)
    ∷ bad 3 (with_bytes 1038 (bytes16 3) hall)
    ∷ bad 3 (with_bytes 1040 (bytes16 0) hall)
    ∷ bad 3 (with_bytes 1040 (bytes16 2) hall)
    ∷ bad 3 (with_bytes 1054 (bytes32 0) hall)
    ∷ bad 4 (with_bytes 1060 (28 ∷ []) hall)
    -- 5: the entry of block 5 is 7, N + 1 being 6
    ∷ bad 5 (with_bytes 1093 (0x07 ∷ []) hall)
    -- 6: another version, no name, an entry that crosses its block
    ∷ bad 6 (with_bytes 2049 (1 ∷ []) hall)
    ∷ bad 6 (with_bytes 2154 (0 ∷ []) hall)
    ∷ bad 6 (long_disk 157)
    -- 7: another count, a number that is 0, repeated or not below the next
    ∷ bad 7 (with_bytes 1036 (bytes16 3) hall)
    ∷ bad 7 (with_bytes 2122 (bytes32 0) hall)
    ∷ bad 7 (with_bytes 2122 (bytes32 1) hall)
    ∷ bad 7 (with_bytes 2122 (bytes32 3) hall)
    -- 8: start 0 and both lengths, or the logical, or the physical alone
    ∷ bad 8 (with_bytes 2070 (bytes16 0) hall)
    ∷ bad 8 (with_bytes 2080 (fork_bytes_of 0 1 0) hall)
    ∷ bad 8 (with_bytes 2080 (fork_bytes_of 0 0 512) hall)
    -- 8: physical length 0; start 1; above N + 1; no multiple of A; logical above physical; a chain too short or too long
    ∷ bad 8 (with_bytes 2080 (fork_bytes_of 1 0 0) hall)
    ∷ bad 8 (with_bytes 2070 (bytes16 1) hall)
    ∷ bad 8 (with_bytes 2070 (bytes16 7) hall)
    ∷ bad 8 (with_bytes 2076 (bytes32 1025) hall)
    ∷ bad 8 (with_bytes 2072 (bytes32 1025) hall)
    ∷ bad 8 (with_bytes 2076 (bytes32 1536) hall)
    ∷ bad 8 (with_bytes 2070 (fork_bytes_of 2 500 512) hall)
    ∷ []

-- the calls that read
unfoldable pub readings : List Row
readings =
    -- what is not judged: dead space
    does hall check (tells_facts hall_facts) hall
    ∷ does dead_disk check (tells_facts hall_facts) dead_disk
    -- entry, find, block; a volume name of 27 passes
    ∷ does hall (entry 0) (tells_entry 0 week_facts) hall
    ∷ refused 13 (entry 2) hall
    ∷ does hall (find RATES) (tells_entry 1 rates_facts) hall
    ∷ refused 12 (find []) hall
    ∷ refused 12 (find (long_name 65 256)) hall
    ∷ refused 13 (find NEWS) hall
    ∷ does (with_bytes 1060 (27 ∷ []) hall) (block WEEK1 Data 1) (tells_block 4) (with_bytes 1060 (27 ∷ []) hall)
    ∷ refused 16 (block WEEK1 Data 2) hall
    ∷ refused 16 (block WEEK1 Resource 0) hall
    -- read across two blocks, at the end and beyond it
    ∷ does full_week (read WEEK1 Data 500 (replicate 100 0xee)) (tells_read 100 (sample 500 100)) full_week
    ∷ does full_week (read WEEK1 Data 700 (replicate 3 0xee)) (tells_read 0 (replicate 3 0xee)) full_week
    ∷ does full_week (read WEEK1 Data 18446744073709551615 (replicate 3 0xee)) (only 16 (replicate 3 0xee)) full_week
    ∷ []

-- create
unfoldable pub creations : List Row
creations =
    -- behind the last entry, into an earlier block that has room, also to its last byte, into the next where it has not
    does hall (create NEWS (sample 0 16) 7 8) (only 0 [])
    (with_bytes 1036 (bytes16 3) (with_bytes 1054 (bytes32 4) (with_bytes 2162 (sample 0 16)
    (with_bytes 2160 (news_entry 3 0) hall))))
    ∷ does two_blocks (create NEWS (zeros 16) 7 8) (only 0 [])
    (with_bytes 1036 (bytes16 4) (with_bytes 1054 (bytes32 5) (with_bytes 2480 (news_entry 4 0) two_blocks)))
    ∷ does two_blocks (create (long_name 67 29) (zeros 16) 7 8) (only 0 [])
    (with_bytes 1036 (bytes16 4) (with_bytes 1054 (bytes32 5)
    (with_bytes 2480 (entry_bytes 0x80 4 (zeros 10) (zeros 10) 7 8 (long_name 67 29) []) two_blocks)))
    ∷ does two_blocks (create (long_name 67 31) (zeros 16) 7 8) (only 0 [])
    (with_bytes 1036 (bytes16 4) (with_bytes 1054 (bytes32 5)
    (with_bytes 2616 (entry_bytes 0x80 4 (zeros 10) (zeros 10) 7 8 (long_name 67 31) []) two_blocks)))
    -- a directory block that is full
    ∷ refused 18 (create NEWS (zeros 16) 7 8) (long_disk 155)
    ∷ refused 19 (create NEWS (zeros 16) 7 8) (with_bytes 1054 (bytes32 4294967295) (long_disk 155))
    ∷ []

-- write, cut and delete
unfoldable pub changings : List Row
changings =
    -- write to an empty fork, and where the fork has blocks to spare
    does hall (write RATES Resource 0 (sample 0 3) 9) (only 0 [])
    (with_bytes 1058 (bytes16 1) (with_bytes 1093 (0x01 ∷ []) (with_bytes 2136 (fork_bytes_of 5 3 512) (with_bytes 2150 (bytes32 9)
    (with_bytes 4096 (sample 0 3) hall)))))
    ∷ does roomy_disk (write WEEK1 Data 100 (sample 0 924) 9) (only 0 [])
    (with_week1 2 1024 1024 9 (with_bytes 2660 (sample 0 412) (with_bytes 3584 (sample 412 512) roomy_disk)))
    ∷ does roomy_disk (write WEEK1 Data 0 [] 9) (only 0 []) (with_bytes 2094 (bytes32 9) roomy_disk)
    ∷ does hall (write RATES Resource 0 [] 9) (only 0 []) (with_bytes 2150 (bytes32 9) hall)
    -- cut: to nothing, and where the fork has blocks to spare
    ∷ does hall (cut WEEK1 Data 0 9) (only 0 [])
    (with_bytes 1058 (bytes16 4) (with_bytes 1088 (0x00 ∷ 0x00 ∷ 0x01 ∷ 0x00 ∷ 0x00 ∷ []) (with_week1 0 0 0 9 hall)))
    ∷ does roomy_disk (cut WEEK1 Data 100 9) (only 0 [])
    (with_bytes 1058 (bytes16 3) (with_bytes 1088 (0x00 ∷ 0x10 ∷ 0x01 ∷ 0x00 ∷ 0x00 ∷ []) (with_week1 2 100 512 9 roomy_disk)))
    ∷ refused 16 (cut WEEK1 Data 701 9) hall
    -- delete of an entry before another, and over bytes behind the reading
    ∷ does stale_disk (delete week1) (only 0 [])
    (with_bytes 1036 (bytes16 1) (with_bytes 1058 (bytes16 4) (with_bytes 1088 (0x00 ∷ 0x00 ∷ 0x01 ∷ 0x00 ∷ 0x00 ∷ [])
    (with_bytes 2048 (rates_entry ++ zeros 456) stale_disk))))
    -- 11 by either bit, 15
    ∷ refused 11 (delete WEEK1) (with_bytes 1034 (bytes16 0x0080) hall)
    ∷ refused 11 (write [] Data 0 [] 9) (with_bytes 1034 (bytes16 0x8000) hall)
    ∷ refused 15 (cut WEEK1 Data 0 9) (with_bytes 2048 (0x81 ∷ []) hall)
    ∷ refused 15 (delete WEEK1) (with_bytes 2048 (0x81 ∷ []) hall)
    ∷ refused 13 (delete NEWS) hall
    ∷ []

-- two faults: the first in document 01's order is the answer
unfoldable pub orders : List Row
orders =
    -- 3 before 4 .. 7 before 8, 9 before 10
    bad 3 (with_bytes 1042 (bytes16 0) (with_bytes 1060 (28 ∷ []) hall))
    ∷ bad 4 (with_bytes 1060 (28 ∷ []) (with_bytes 1093 (0x07 ∷ []) hall))
    ∷ bad 5 (with_bytes 1093 (0x07 ∷ []) (with_bytes 2049 (1 ∷ []) hall))
    ∷ bad 6 (with_bytes 2049 (1 ∷ []) (with_bytes 1036 (bytes16 3) hall))
    ∷ bad 7 (with_bytes 1036 (bytes16 3) (with_bytes 2070 (bytes16 1) hall))
    ∷ bad 9 (with_bytes 1093 (0x01 ∷ []) hall)
    -- create 11 before 12, 14 before 19; write 15 before 16, 16 before 17
    ∷ refused 11 (create [] (zeros 16) 7 8) (with_bytes 1034 (bytes16 0x0080) hall)
    ∷ refused 14 (create week1 (zeros 16) 7 8) (with_bytes 1054 (bytes32 4294967295) hall)
    ∷ refused 15 (write WEEK1 Data 701 [] 9) (with_bytes 2048 (0x81 ∷ []) hall)
    ∷ refused 16 (write WEEK1 Data 701 (sample 0 1349) 9) hall
    ∷ []

-- WEEK1 and RATES of HALL under names of 32 and 255 bytes, both dates 7 and 8, with bytes behind the directory
unfoldable pub old_disk : List ℕ
old_disk =
    with_bytes 2560 (sample 0 3584)
    (disk
    (record {
      attributes = 0;
      files = 2;
      dir_length = 1;
      next = 3;
      free = 2;
      map = hall_map;
      directory = entry_bytes 0x80 1 (fork_bytes_of 2 700 1024) (zeros 10) 7 8 (long_name 65 32) (0 ∷ [])
          ++ entry_bytes 0x80 2 (fork_bytes_of 3 512 512) (zeros 10) 7 8 (long_name 66 255) [];
    }))

-- HALL, its first file being named A Z @ [ and 80 hex
unfoldable pub border_disk : List ℕ
border_disk = with_bytes 2099 (65 ∷ 90 ∷ 64 ∷ 91 ∷ 0x80 ∷ []) hall

-- a to z equal A to Z, the accents are pairs, every other byte equals only itself
unfoldable pub foldings : List Row
foldings =
    -- az@[ and 80 or 8A hex is found; with ` for @, { for [, A0 or 81 hex for 80 it is not
    does border_disk (block (97 ∷ 122 ∷ 64 ∷ 91 ∷ 0x80 ∷ []) Data 1) (tells_block 4) border_disk
    ∷ does border_disk (block (97 ∷ 90 ∷ 64 ∷ 91 ∷ 0x8a ∷ []) Data 1) (tells_block 4) border_disk
    ∷ refused 13 (find (65 ∷ 90 ∷ 96 ∷ 91 ∷ 0x80 ∷ [])) border_disk
    ∷ refused 13 (find (65 ∷ 90 ∷ 64 ∷ 123 ∷ 0x80 ∷ [])) border_disk
    ∷ refused 13 (find (65 ∷ 90 ∷ 64 ∷ 91 ∷ 0xa0 ∷ [])) border_disk
    ∷ refused 13 (find (65 ∷ 90 ∷ 64 ∷ 91 ∷ 0x81 ∷ [])) border_disk
    -- 11 hex for the 1 of WEEK1
    ∷ refused 13 (find (87 ∷ 69 ∷ 69 ∷ 75 ∷ 0x11 ∷ [])) hall
    -- names of 32 and 255 that differ in their last byte
    ∷ refused 13 (find (long_name 65 31 ++ (66 ∷ []))) old_disk
    ∷ refused 13 (find (long_name 66 254 ++ (65 ∷ []))) old_disk
    ∷ []

-- a disk of one directory block with bytes in its boot blocks, the first file's Finder information, the allocation blocks and
-- the last two blocks
unfoldable pub sampled : List ℕ → List ℕ
sampled image = with_bytes 0 (sample 0 1024) (with_bytes 2050 (sample 0 16) (with_bytes 2560 (sample 0 3584) image))

-- the file of border_disk by its other spelling, with bytes in its blocks, and locked
abbrev pub spelt : List ℕ
spelt = 97 ∷ 122 ∷ 64 ∷ 91 ∷ 0x8a ∷ []

unfoldable pub spelt_disk : List ℕ
spelt_disk = sampled border_disk

unfoldable pub locked_disk : List ℕ
locked_disk = with_bytes 2048 (0x81 ∷ []) spelt_disk

-- read, written, cut, deleted and refused by the other spelling as by its own
unfoldable pub spellings : List Row
spellings =
    does spelt_disk (read spelt Data 500 (replicate 100 0xee)) (tells_read 100 (sample 500 12 ++ sample 1024 88)) spelt_disk
    ∷ does spelt_disk (write spelt Data 700 (zeros 400) 9) (only 0 [])
    (with_bytes 1058 (bytes16 1) (with_bytes 1088 (0x00 ∷ 0x40 ∷ 0x01 ∷ 0x00 ∷ 0x50 ∷ 0x01 ∷ [])
    (with_week1 2 1100 1536 9 (with_bytes 3772 (zeros 324) (with_bytes 4096 (zeros 76) spelt_disk)))))
    ∷ does spelt_disk (cut spelt Data 100 9) (only 0 [])
    (with_bytes 1058 (bytes16 3) (with_bytes 1088 (0x00 ∷ 0x10 ∷ 0x01 ∷ 0x00 ∷ 0x00 ∷ []) (with_week1 2 100 512 9 spelt_disk)))
    ∷ does spelt_disk (delete spelt) (only 0 [])
    (with_bytes 1036 (bytes16 1) (with_bytes 1058 (bytes16 4) (with_bytes 1088 (0x00 ∷ 0x00 ∷ 0x01 ∷ 0x00 ∷ 0x00 ∷ [])
    (with_bytes 2048 (rates_entry ++ zeros 456) spelt_disk))))
    -- 15, 16 and 17
    ∷ refused 15 (write spelt Data 0 [] 9) locked_disk
    ∷ refused 15 (cut spelt Data 0 9) locked_disk
    ∷ refused 15 (delete spelt) locked_disk
    ∷ refused 16 (block spelt Data 2) spelt_disk
    ∷ does spelt_disk (read spelt Data 701 (replicate 3 0xee)) (only 16 (replicate 3 0xee)) spelt_disk
    ∷ refused 16 (write spelt Data 701 [] 9) spelt_disk
    ∷ refused 16 (cut spelt Data 701 9) spelt_disk
    ∷ refused 17 (write spelt Data 700 (zeros 1349) 9) spelt_disk
    ∷ []

-- what stays where the blocks hold bytes
unfoldable pub contents : List Row
contents =
    -- write keeps the fork's bytes before and behind, and those of a new block beyond the written ones
    does (sampled hall) (write WEEK1 Data 100 (zeros 3) 9) (only 0 [])
    (with_bytes 2094 (bytes32 9) (with_bytes 2660 (zeros 3) (sampled hall)))
    ∷ does (sampled hall) (write WEEK1 Data 700 (zeros 400) 9) (only 0 [])
    (with_bytes 1058 (bytes16 1) (with_bytes 1088 (0x00 ∷ 0x40 ∷ 0x01 ∷ 0x00 ∷ 0x50 ∷ 0x01 ∷ [])
    (with_week1 2 1100 1536 9 (with_bytes 3772 (zeros 324) (with_bytes 4096 (zeros 76) (sampled hall))))))
    -- cut and delete keep the bytes of the blocks that become free
    ∷ does (sampled hall) (cut WEEK1 Data 100 9) (only 0 [])
    (with_bytes 1058 (bytes16 3) (with_bytes 1088 (0x00 ∷ 0x10 ∷ 0x01 ∷ 0x00 ∷ 0x00 ∷ []) (with_week1 2 100 512 9 (sampled hall))))
    ∷ does (sampled resource_disk) (delete RATES) (only 0 [])
    (with_bytes 1036 (bytes16 1) (with_bytes 1058 (bytes16 3) (with_bytes 1088 (0x00 ∷ 0x40 ∷ 0x00 ∷ 0x00 ∷ 0x10 ∷ 0x00 ∷ [])
    (with_bytes 2104 (zeros 456) (sampled resource_disk)))))
    ∷ []

-- A = 1,024 and N = 2: WEEK1 has 1,000 data bytes in block 3
unfoldable pub wide_disk : List ℕ
wide_disk =
    sampled
    (with_bytes 1042 (bytes16 2 ++ bytes32 1024)
    (disk
    (record {
      attributes = 0;
      files = 1;
      dir_length = 1;
      next = 2;
      free = 1;
      map = 0 ∷ 0 ∷ 1 ∷ [];
      directory = entry_bytes 0x80 1 (fork_bytes_of 3 1000 1024) (zeros 10) 7 8 WEEK1 [];
    })))

-- the same with 100 bytes more, the last 76 in block 2
unfoldable pub wide_grown : List ℕ
wide_grown =
    with_bytes 1058 (bytes16 0) (with_bytes 1088 (0x00 ∷ 0x10 ∷ 0x02 ∷ [])
    (with_week1 3 1100 2048 9 (with_bytes 4584 (sample 7 24) (with_bytes 2560 (sample 31 76) wide_disk))))

-- A = 1,024: a fork over two blocks
unfoldable pub wide_forks : List Row
wide_forks =
    does wide_disk (write WEEK1 Data 1000 (sample 7 100) 9) (only 0 []) wide_grown
    ∷ does wide_grown (block WEEK1 Data 1) (tells_block 2) wide_grown
    ∷ does wide_grown (read WEEK1 Data 990 (zeros 120)) (tells_read 110 (sample 2014 10 ++ (sample 7 100 ++ zeros 10))) wide_grown
    ∷ does wide_grown (cut WEEK1 Data 1024 9) (only 0 [])
    (with_bytes 1058 (bytes16 1) (with_bytes 1088 (0x00 ∷ 0x00 ∷ 0x01 ∷ []) (with_week1 3 1024 1024 9 wide_grown)))
    ∷ []

-- what entry and find tell of the first file
unfoldable pub old_facts : DirectoryEntry
old_facts = record {
  flags = 0x80;
  version = 0;
  finder = zeros 16;
  number = 1;
  «data» = record { start = record { 0 = 2 }; logical = 700; physical = 1024 };
  resource = record { start = record { 0 = 0 }; logical = 0; physical = 0 };
  created = 7;
  changed = 8;
  name_length = 32;
  name = long_name 65 32 ++ zeros 223;
}

-- T-01: old long names are still checked, told, found, read, written, cut and deleted
unfoldable pub old_names : List Row
old_names =
    does old_disk check (tells_facts hall_facts) old_disk
    ∷ does old_disk (entry 0) (tells_entry 0 old_facts) old_disk
    ∷ does old_disk (find (long_name 97 32)) (tells_entry 0 old_facts) old_disk
    ∷ does old_disk (block (long_name 65 32) Data 1) (tells_block 4) old_disk
    ∷ does old_disk (block (long_name 98 255) Data 0) (tells_block 3) old_disk
    ∷ does old_disk (read (long_name 65 32) Data 690 (replicate 20 0xee)) (tells_read 10 (sample 1202 10 ++ replicate 10 0xee)) old_disk
    ∷ does old_disk (write (long_name 65 32) Data 700 (zeros 400) 9) (only 0 [])
    (with_bytes 1058 (bytes16 1) (with_bytes 1088 (0x00 ∷ 0x40 ∷ 0x01 ∷ 0x00 ∷ 0x50 ∷ 0x01 ∷ [])
    (with_week1 2 1100 1536 9 (with_bytes 3772 (zeros 324) (with_bytes 4096 (zeros 76) old_disk)))))
    ∷ does old_disk (cut (long_name 65 32) Data 512 9) (only 0 [])
    (with_bytes 1058 (bytes16 3) (with_bytes 1088 (0x00 ∷ 0x10 ∷ 0x01 ∷ 0x00 ∷ 0x00 ∷ 0x00 ∷ []) (with_week1 2 512 512 9 old_disk)))
    ∷ does old_disk (delete (long_name 66 255)) (only 0 [])
    (with_bytes 1036 (bytes16 1) (with_bytes 1058 (bytes16 3) (with_bytes 1088 (0x00 ∷ 0x40 ∷ 0x00 ∷ 0x00 ∷ 0x10 ∷ 0x00 ∷ [])
    (with_bytes 2132 (zeros 428) old_disk))))
    -- long names that no file has
    ∷ refused 13 (block (long_name 67 32) Data 0) old_disk
    ∷ does old_disk (read (long_name 67 255) Data 0 (replicate 3 0xee)) (only 13 (replicate 3 0xee)) old_disk
    ∷ refused 13 (write (long_name 65 33) Data 0 [] 9) old_disk
    ∷ refused 13 (cut (long_name 66 254) Data 0 9) old_disk
    ∷ refused 13 (delete (long_name 65 31)) old_disk
    ∷ refused 13 (delete (long_name 67 32)) old_disk
    ∷ []

-- three directory blocks: tight_disk's, one with NEWS, one without a file; in each, bytes behind the reading
unfoldable pub left_disk : List ℕ
left_disk = with_bytes 2558 (0x7f ∷ 0xee ∷ []) (tight_disk 3 (news_entry 5 0 ++ (0x7f ∷ (sample 0 455 ++ (0x7f ∷ sample 0 99)))) 5)

-- T-05: the order of the refusals, the limits of names and of room, names in another spelling, and what stays
unfoldable pub renames : List Row
renames =
    -- 10 before 11, 11 before 12, 12 of either name before 21; 21 for its own long name
    refused 10 (rename WEEK1 BAD 9) (with_bytes 1034 (bytes16 0x0080) free_count3)
    ∷ refused 11 (rename [] [] 9) (with_bytes 1034 (bytes16 0x0080) hall)
    ∷ refused 12 (rename [] (long_name 67 32) 9) hall
    ∷ refused 12 (rename (long_name 65 256) BAD 9) hall
    ∷ refused 12 (rename NEWS [] 9) hall
    ∷ refused 12 (rename WEEK1 (long_name 67 256) 9) hall
    ∷ refused 21 (rename (long_name 65 255) (long_name 65 255) 9) (long_disk 155)
    -- 13 before 14, 15 before 18, 14 before 18
    ∷ refused 13 (rename NEWS RATES 9) hall
    ∷ refused 13 (rename NEWS NEWS 9) hall
    ∷ refused 15 (rename RATES (long_name 67 31) 9) (with_bytes 2502 (0x81 ∷ []) (tight_disk 1 [] 4))
    ∷ refused 14 (rename RATES (long_name 98 31) 9) (tight_disk 1 [] 4)
    -- room to the block's last byte, and two bytes short
    ∷ does (tight_disk 1 [] 4) (rename RATES (long_name 67 7) 9) (only 0 [])
    (with_bytes 2502 (entry_bytes 0x80 2 (fork_bytes_of 3 512 512) (zeros 10) 2500000000 9 (long_name 67 7) []) (tight_disk 1 [] 4))
    ∷ refused 18 (rename RATES (long_name 67 8) 9) (tight_disk 1 [] 4)
    -- its own block has room only once it is out, and a later one all along
    ∷ does left_disk (rename RATES (long_name 67 7) 9) (only 0 []) (with_bytes 2548 (dated 9 (long_name 67 7) []) left_disk)
    -- out of the middle into a later block: bytes behind the reading go in these two blocks, and stay in the third
    ∷ does left_disk (rename (long_name 68 15) (long_name 67 31) 9) (only 0 [])
    (with_bytes 2436 (rates_entry ++ zeros 68)
    (with_bytes 2616 (entry_bytes 0x80 4 (zeros 10) (zeros 10) 7 9 (long_name 67 31) [] ++ zeros 374) left_disk))
    -- equal size: they stay in all
    ∷ does left_disk (rename RATES (long_name 67 5) 9) (only 0 []) (with_bytes 2548 (dated 9 (long_name 67 5) []) left_disk)
    -- another file's name in another directory block
    ∷ refused 14 (rename (long_name 66 75) (114 ∷ 97 ∷ 116 ∷ 101 ∷ 115 ∷ []) 9) two_blocks
    -- an accented name to its other case; 14 by another's other spelling
    ∷ does (accent_disk NEW (three 0x83 0x74 0x8e)) (rename (three 0x8e 0x54 0x83) (three 0x8e 0x74 0x83) 9) (only 0 [])
    (with_bytes 2148 (dated 9 (three 0x8e 0x74 0x83) []) (accent_disk NEW (three 0x83 0x74 0x8e)))
    ∷ refused 14 (rename NEW (three 0x8e 0x74 0x8e) 9) (accent_disk NEW (three 0x83 0x74 0x83))
    -- no file number is needed; both forks, and all bytes outside the directory, stay
    ∷ does (with_bytes 1054 (bytes32 4294967295) hall) (rename WEEK1 week1 9) (only 0 [])
    (with_bytes 2094 (dated 9 week1 []) (with_bytes 1054 (bytes32 4294967295) hall))
    ∷ does (sampled resource_disk) (rename RATES BAD 9) (only 0 [])
    (with_bytes 2104 (entry_bytes 0x80 2 (fork_bytes_of 3 512 512) (fork_bytes_of 5 3 512) 2500000000 9 BAD (0 ∷ [])) (sampled resource_disk))
    ∷ []

-- HALL after P3, and after P4
unfoldable pub week_disk : List ℕ
week_disk =
    with_bytes 1058 (bytes16 1) (with_bytes 1088 (0x00 ∷ 0x40 ∷ 0x01 ∷ 0x00 ∷ 0x50 ∷ 0x01 ∷ [])
    (with_week1 2 1100 1536 9 (with_bytes 3772 (sample 0 324) (with_bytes 4096 (sample 324 76) hall))))

unfoldable pub packed_disk : List ℕ
packed_disk =
    with_bytes 1058 (bytes16 0) (with_bytes 1088 (0x00 ∷ 0x40 ∷ 0x01 ∷ 0x00 ∷ 0x50 ∷ 0x06 ∷ 0x00 ∷ 0x10 ∷ [])
    (with_week1 2 2048 2048 9 (with_bytes 3772 (sample 0 324) (with_bytes 4096 (sample 324 1024) hall))))

-- writes in parts (document 02, T-06)
unfoldable pub in_parts : List Row
in_parts =
    -- P4's bytes in the parts 400, none, 948 and none: the first is P3
    does week_disk (write WEEK1 Data 1100 [] 9) (only 0 []) week_disk
    ∷ does week_disk (write WEEK1 Data 1100 (sample 400 948) 9) (only 0 []) packed_disk
    ∷ does packed_disk (write WEEK1 Data 2048 [] 9) (only 0 []) packed_disk
    -- P5's, one byte more, in 400 and 949, and in 1,348 and 1: 17 at the second part; in all and none: 17 at the first, then 16
    ∷ refused 17 (write WEEK1 Data 1100 (sample 400 949) 9) week_disk
    ∷ refused 17 (write WEEK1 Data 2048 (sample 1348 1) 9) packed_disk
    ∷ refused 16 (write WEEK1 Data 2049 [] 9) hall
    ∷ []

-- check 3 on an image of 65,535 blocks with these N, A and directory length
unfoldable pub limited : ℕ → ℕ → ℕ → Bool
limited n a dir_length =
    fires3
    (facts_in
    (with_bytes 18 (bytes16 n ++ bytes32 a)
    (info (record { attributes = 0; files = 0; dir_length = dir_length; next = 1; free = 0; map = []; directory = [] }))))
    65535

-- the most that checks 1 and 3 let pass, and more; the images would be long, so none is computed
unfoldable pub Limits : Type 0
Limits =
    (fires1 (512 * 65535) ≡ false)
    × (fires1 (512 * 65536) ≡ true)
    × (limited 640 512 1 ≡ false)
    × (limited 641 512 1 ≡ true)
    × (limited 1 32768 1 ≡ false)
    × (limited 1 33280 1 ≡ true)
    × (limited 1 512 256 ≡ false)
    × (limited 1 512 257 ≡ true)

unfoldable pub MoreCases : Type 0
MoreCases =
    AllRight bad_volumes
    × AllRight readings
    × AllRight creations
    × AllRight changings
    × AllRight orders
    × AllRight foldings
    × AllRight spellings
    × AllRight contents
    × AllRight wide_forks
    × AllRight old_names
    × AllRight renames
    × AllRight in_parts
    × Limits
