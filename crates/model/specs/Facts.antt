-- Volume facts, the clump in blocks, and the rule from an allocation block to its first byte.
use Rattle.std.specs.Prelude.{ℕ, ◌+◌, ◌-◌, ◌*◌, ◌/◌, ◌%◌, Bool, ◌&&◌, ◌||◌, cond, List, length, drop, eqb, leb}
use Rattle.model.specs.Bytes.{byte, be16, be32, zeros, part}
use Rattle.model.specs.declared.VolumeFacts.{VolumeFacts}
use Rattle.model.specs.declared.LogicalBlock.{LogicalBlock}
use Rattle.model.specs.declared.AllocationBlock.{AllocationBlock}

-- The volume information: 64 bytes.
unfoldable pub facts_in : List ℕ → VolumeFacts
facts_in v = record {
  signature = be16 v 0;
  created = be32 v 2;
  backup = be32 v 6;
  attributes = be16 v 10;
  files = be16 v 12;
  directory_start = record { 0 = be16 v 14 };
  directory_length = be16 v 16;
  allocation_blocks = be16 v 18;
  block_size = be32 v 20;
  clump_size = be32 v 24;
  allocation_start = record { 0 = be16 v 28 };
  next_number = be32 v 30;
  free_blocks = be16 v 34;
  name_length = byte v 36;
  name = part 37 27 v;
}

-- The volume information is at byte 1024.
unfoldable pub facts_of : List ℕ → VolumeFacts
facts_of image = facts_in (drop 1024 image)

-- directory: first block, length in blocks
abbrev pub dir_start : VolumeFacts → LogicalBlock
dir_start f = f.directory_start

abbrev pub dir_length : VolumeFacts → ℕ
dir_length f = f.directory_length

-- N, number of allocation blocks
abbrev pub N : VolumeFacts → ℕ
N f = f.allocation_blocks

-- A, bytes in an allocation block
abbrev pub A : VolumeFacts → ℕ
A f = f.block_size

-- S, logical block where allocation blocks start
abbrev pub S : VolumeFacts → LogicalBlock
S f = f.allocation_start

abbrev pub next_file_number : VolumeFacts → ℕ
next_file_number f = f.next_number

abbrev pub free_count : VolumeFacts → ℕ
free_count f = f.free_blocks

-- The clump counts if it is a multiple of A and at least A, else it is one block (document 02, T-07). This is how many blocks it has.
unfoldable pub clump : VolumeFacts → ℕ
clump f = let size = f.clump_size in cond (leb (A f) size && eqb (size % A f) 0) (size / A f) 1

-- attributes: bit 7 or bit 15 set means locked
unfoldable pub is_locked : VolumeFacts → Bool
is_locked f = eqb (f.attributes / 128 % 2) 1 || eqb (f.attributes / 32768 % 2) 1

-- a logical block is 512 bytes; how many the image has
abbrev pub blocks_in : List ℕ → ℕ
blocks_in image = length image / 512

-- Block b starts at byte 512·S + (b−2)·A.
abbrev pub block_byte : LogicalBlock → ℕ → AllocationBlock → ℕ
block_byte s a b = 512 * s.0 + (b.0 - 2) * a

-- the facts with this number of files, this next file number and these free blocks
unfoldable pub with_counts : VolumeFacts → ℕ → ℕ → ℕ → VolumeFacts
with_counts f files next free = record {
  signature = f.signature;
  created = f.created;
  backup = f.backup;
  attributes = f.attributes;
  files = files;
  directory_start = f.directory_start;
  directory_length = f.directory_length;
  allocation_blocks = f.allocation_blocks;
  block_size = f.block_size;
  clump_size = f.clump_size;
  allocation_start = f.allocation_start;
  next_number = next;
  free_blocks = free;
  name_length = f.name_length;
  name = f.name;
}

-- what a refusal tells of facts: zeros
unfoldable pub no_facts : VolumeFacts
no_facts = facts_in (zeros 64)
