-- Worked cases of document 02, T-07: HALL with other clump sizes. Each is computed from the definitions, and its whole answer and image
-- are compared.
use Rattle.std.specs.Prelude.{ℕ, List, [], ◌∷◌}
use Rattle.model.specs.Bytes.{bytes16, bytes32}
use Rattle.model.specs.Calls.{only}
use Rattle.model.specs.Calls.Call.{write, cut}
use Rattle.model.specs.Cases.{Row, AllRight, refused, fork_bytes_of, WEEK1, RATES, with_bytes, with_week1, sample, clump_disk}
use Rattle.model.specs.Cases.Row.{does}
use Rattle.model.specs.declared.Fork.TheVariants.{Data, Resource}

-- an image with this free count and these first bytes of the map
unfoldable pub mapped : ℕ → List ℕ → List ℕ → List ℕ
mapped free map image = with_bytes 1058 (bytes16 free) (with_bytes 1088 map image)

-- RATES with another data fork, or another resource fork, and changed at 9
unfoldable pub with_rates : ℕ → ℕ → ℕ → List ℕ → List ℕ
with_rates start logical physical image = with_bytes 2126 (fork_bytes_of start logical physical) (with_bytes 2150 (bytes32 9) image)

unfoldable pub with_rates_resource : ℕ → ℕ → ℕ → List ℕ → List ℕ
with_rates_resource start logical physical image = with_bytes 2136 (fork_bytes_of start logical physical) (with_bytes 2150 (bytes32 9) image)

-- blocks 5 and 6, which are free, hold bytes
unfoldable pub used_disk : ℕ → List ℕ
used_disk size = with_bytes 4096 (sample 7 1024) (clump_disk size)

-- P3: 400 bytes at 700 of WEEK1, which then has the blocks 2, 4 and 5
unfoldable pub third_block : List ℕ → List ℕ
third_block image =
    mapped 1 (0x00 ∷ 0x40 ∷ 0x01 ∷ 0x00 ∷ 0x50 ∷ 0x01 ∷ []) (with_week1 2 1100 1536 9
    (with_bytes 3772 (sample 0 324) (with_bytes 4096 (sample 324 76) image)))

-- the same, and block 6 too
unfoldable pub fourth_block : List ℕ → List ℕ
fourth_block image =
    mapped 0 (0x00 ∷ 0x40 ∷ 0x01 ∷ 0x00 ∷ 0x50 ∷ 0x06 ∷ 0x00 ∷ 0x10 ∷ []) (with_week1 2 1100 2048 9
    (with_bytes 3772 (sample 0 324) (with_bytes 4096 (sample 324 76) image)))

-- P4: 1,348 bytes, four blocks that are full
unfoldable pub full_blocks : List ℕ → List ℕ
full_blocks image =
    mapped 0 (0x00 ∷ 0x40 ∷ 0x01 ∷ 0x00 ∷ 0x50 ∷ 0x06 ∷ 0x00 ∷ 0x10 ∷ []) (with_week1 2 2048 2048 9
    (with_bytes 3772 (sample 0 324) (with_bytes 4096 (sample 324 1024) image)))

-- WEEK1 of 1,100 bytes, whose spare block a cut gave back
unfoldable pub cut_disk : List ℕ
cut_disk = mapped 1 (0x00 ∷ 0x40 ∷ 0x01 ∷ 0x00 ∷ 0x50 ∷ 0x01 ∷ 0x00 ∷ 0x00 ∷ []) (with_week1 2 1100 1536 9 (fourth_block (clump_disk 1024)))

-- WEEK1 cut to one byte
unfoldable pub short_disk : List ℕ
short_disk = mapped 3 (0x00 ∷ 0x10 ∷ 0x01 ∷ 0x00 ∷ 0x00 ∷ 0x00 ∷ []) (with_week1 2 1 512 9 (clump_disk 1024))

-- P3 with each clump size
unfoldable pub sizes : List Row
sizes =
    -- 2·A: four blocks; 4·A: the same, and two blocks free are enough; 3·A: three are a clump
    does (used_disk 1024) (write WEEK1 Data 700 (sample 0 400) 9) (only 0 []) (fourth_block (used_disk 1024))
    ∷ does (clump_disk 2048) (write WEEK1 Data 700 (sample 0 400) 9) (only 0 []) (fourth_block (clump_disk 2048))
    ∷ does (used_disk 1536) (write WEEK1 Data 700 (sample 0 400) 9) (only 0 []) (third_block (used_disk 1536))
    -- 65,535·A, A, A+1, 0, A/2, and 2·A less a byte: as with one block
    ∷ does (clump_disk 33553920) (write WEEK1 Data 700 (sample 0 400) 9) (only 0 []) (third_block (clump_disk 33553920))
    ∷ does (clump_disk 512) (write WEEK1 Data 700 (sample 0 400) 9) (only 0 []) (third_block (clump_disk 512))
    ∷ does (clump_disk 513) (write WEEK1 Data 700 (sample 0 400) 9) (only 0 []) (third_block (clump_disk 513))
    ∷ does (clump_disk 0) (write WEEK1 Data 700 (sample 0 400) 9) (only 0 []) (third_block (clump_disk 0))
    ∷ does (clump_disk 256) (write WEEK1 Data 700 (sample 0 400) 9) (only 0 []) (third_block (clump_disk 256))
    ∷ does (clump_disk 1023) (write WEEK1 Data 700 (sample 0 400) 9) (only 0 []) (third_block (clump_disk 1023))
    ∷ []

-- forks of one block and of none, which are those of RATES, and 17
unfoldable pub counts : List Row
counts =
    -- its count is rounded, and not the new blocks: to two, and to three
    does (clump_disk 1024) (write RATES Data 512 (77 ∷ []) 9) (only 0 [])
    (mapped 1 (0x00 ∷ 0x40 ∷ 0x05 ∷ 0x00 ∷ 0x10 ∷ 0x01 ∷ []) (with_rates 3 513 1024 (with_bytes 4096 (77 ∷ []) (clump_disk 1024))))
    ∷ does (used_disk 1536) (write RATES Data 512 (77 ∷ []) 9) (only 0 [])
    (mapped 0 (0x00 ∷ 0x40 ∷ 0x05 ∷ 0x00 ∷ 0x10 ∷ 0x06 ∷ 0x00 ∷ 0x10 ∷ []) (with_rates 3 513 1536 (with_bytes 4096 (77 ∷ []) (used_disk 1536))))
    -- none needed, none taken: no bytes, and bytes within the block
    ∷ does (clump_disk 1024) (write RATES Data 512 [] 9) (only 0 []) (with_bytes 2150 (bytes32 9) (clump_disk 1024))
    ∷ does (clump_disk 1536) (write RATES Data 0 (sample 0 512) 9) (only 0 [])
    (with_bytes 2150 (bytes32 9) (with_bytes 3072 (sample 0 512) (clump_disk 1536)))
    ∷ does (clump_disk 1536) (write RATES Resource 0 [] 9) (only 0 []) (with_bytes 2150 (bytes32 9) (clump_disk 1536))
    -- an empty fork: to two; one block needed, two free and a clump of three: one
    ∷ does (clump_disk 1024) (write RATES Resource 0 (77 ∷ []) 9) (only 0 [])
    (mapped 0 (0x00 ∷ 0x40 ∷ 0x01 ∷ 0x00 ∷ 0x10 ∷ 0x06 ∷ 0x00 ∷ 0x10 ∷ []) (with_rates_resource 5 1 1024 (with_bytes 4096 (77 ∷ []) (clump_disk 1024))))
    ∷ does (clump_disk 1536) (write RATES Resource 0 (77 ∷ []) 9) (only 0 [])
    (mapped 1 (0x00 ∷ 0x40 ∷ 0x01 ∷ 0x00 ∷ 0x10 ∷ 0x01 ∷ []) (with_rates_resource 5 1 512 (with_bytes 4096 (77 ∷ []) (clump_disk 1536))))
    -- 17: the new blocks needed are those before rounding; the spare block of a clump is its fork's
    ∷ does (clump_disk 2560) (write WEEK1 Data 700 (sample 0 1348) 9) (only 0 []) (full_blocks (clump_disk 2560))
    ∷ refused 17 (write WEEK1 Data 700 (sample 0 1349) 9) (clump_disk 1024)
    ∷ refused 17 (write RATES Data 512 (77 ∷ []) 9) (fourth_block (clump_disk 1024))
    ∷ []

-- calls one behind the other, with a clump of two or of three
unfoldable pub after_others : List Row
after_others =
    -- bytes within the spare block take none; where one more would be needed: 17
    does (fourth_block (clump_disk 1024)) (write WEEK1 Data 1100 (sample 400 948) 9) (only 0 []) (full_blocks (clump_disk 1024))
    ∷ refused 17 (write WEEK1 Data 1100 (sample 400 949) 9) (fourth_block (clump_disk 1024))
    -- a cut to the fork's own length keeps the fewest blocks, and so gives the spare one back
    ∷ does (fourth_block (clump_disk 1024)) (cut WEEK1 Data 1100 9) (only 0 []) cut_disk
    -- a write behind it: the third block has room, or the fourth makes the clump whole
    ∷ does cut_disk (write WEEK1 Data 1100 (sample 400 436) 9) (only 0 []) (with_week1 2 1536 1536 9 (with_bytes 4172 (sample 400 436) cut_disk))
    ∷ does cut_disk (write WEEK1 Data 1100 (sample 400 948) 9) (only 0 []) (full_blocks (clump_disk 1024))
    -- a cut into the first block of a clump, and a write behind it to the first of another
    ∷ does (clump_disk 1024) (cut WEEK1 Data 1 9) (only 0 []) short_disk
    ∷ does short_disk (write WEEK1 Data 1 (sample 0 1024) 9) (only 0 [])
    (mapped 0 (0x00 ∷ 0x40 ∷ 0x01 ∷ 0x00 ∷ 0x50 ∷ 0x06 ∷ 0x00 ∷ 0x10 ∷ []) (with_week1 2 1025 2048 9
    (with_bytes 2561 (sample 0 511) (with_bytes 3584 (sample 511 512) (with_bytes 4096 (sample 1023 1) short_disk)))))
    -- the second part of P4's bytes, 948 behind 400, with a clump of three: the rest of a second clump is not free
    ∷ does (third_block (clump_disk 1536)) (write WEEK1 Data 1100 (sample 400 948) 9) (only 0 []) (full_blocks (clump_disk 1536))
    ∷ []

unfoldable pub ClumpCases : Type 0
ClumpCases = AllRight sizes × AllRight counts × AllRight after_others
