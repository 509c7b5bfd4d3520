-- The directory: entries, the reading of a block, the order over all blocks, forks, names without case.
use Rattle.std.specs.Prelude.{ℕ, zero, suc, ◌+◌, ◌-◌, ◌*◌, ◌/◌, ◌%◌, Bool, true, false, ◌&&◌, ◌||◌, not, List, [], ◌∷◌, ◌++◌, map, length, take, drop, eqb, leb}
use Rattle.model.specs.Lists.{any, flat, from}
use Rattle.model.specs.Bytes.{byte, be16, be32, zeros, part}
use Rattle.model.specs.Facts.{facts_of, dir_start, dir_length}
use Rattle.model.specs.Map.{chain_blocks}
use Rattle.model.specs.declared.VolumeFacts.{VolumeFacts}
use Rattle.model.specs.declared.DirectoryEntry.{DirectoryEntry}
use Rattle.model.specs.declared.ForkFacts.{ForkFacts}
use Rattle.model.specs.declared.Fork.{Fork}
use Rattle.model.specs.declared.Fork.TheVariants.{Data, Resource}

-- plus one byte to make the size even
unfoldable pub padded : ℕ → ℕ
padded n = n + n % 2

-- An entry is 51 bytes and its name, plus one byte to make the size even: by the name's length, and of the entry that begins
-- the bytes.
abbrev pub size_for : ℕ → ℕ
size_for n = padded (51 + n)

unfoldable pub entry_size : List ℕ → ℕ
entry_size e = size_for (byte e 50)

-- bit 7 in use
unfoldable pub in_use : List ℕ → Bool
in_use e = leb 128 (byte e 0)

-- The reading of the directory block b, in which it has come to place p, ends at the block's end or at an entry whose bit 7
-- is clear, whatever else that byte holds.
unfoldable pub ends_at : List ℕ → ℕ → Bool
ends_at b p = leb 512 p || not (in_use (drop p b))

-- The reading hands on the place where the next begins.
unfoldable pub next_place : List ℕ → ℕ → ℕ
next_place b p = p + entry_size (drop p b)

-- Entries are read one after another, at most k from place p on. An entry is its bytes; the block's end cuts off one that
-- crosses it.
unfoldable pub read_at : ℕ → List ℕ → ℕ → List (List ℕ)
read_at zero b p = []
read_at (suc k) b p = elim (ends_at b p) [ true ↦ [] | false ↦ part p (entry_size (drop p b)) b ∷ read_at k b (next_place b p) ]

-- In each directory block entries are read from its first byte. One has 52 bytes or more, so no more than ten begin in 512.
unfoldable pub entries : List ℕ → List (List ℕ)
entries b = read_at 10 b 0

-- where the reading ends: behind its entries
unfoldable pub read_end : List ℕ → ℕ
read_end b = length (flat (entries b))

-- k blocks of 512 bytes
unfoldable pub cut_blocks : ℕ → List ℕ → List (List ℕ)
cut_blocks zero c = []
cut_blocks (suc k) c = take 512 c ∷ cut_blocks k (drop 512 c)

-- the directory blocks of an image with these facts
unfoldable pub directory_blocks : VolumeFacts → List ℕ → List (List ℕ)
directory_blocks f image = cut_blocks (dir_length f) (drop (512 * (dir_start f).0) image)

-- directory order: the entries of the first block, then those of the next
unfoldable pub listing : List (List ℕ) → List (List ℕ)
listing bs = flat (map entries bs)

unfoldable pub directory : List ℕ → List (List ℕ)
directory image = listing (directory_blocks (facts_of image) image)

-- ---- the fields of an entry

unfoldable pub number_in : List ℕ → ℕ
number_in e = be32 e 18

unfoldable pub name_in : List ℕ → List ℕ
name_in e = part 51 (byte e 50) e

unfoldable pub finder_in : List ℕ → List ℕ
finder_in e = part 2 16 e

-- a fork's start, logical and physical length, which the bytes begin with
unfoldable pub fork_in : List ℕ → ForkFacts
fork_in g = record { start = record { 0 = be16 g 0 }; logical = be32 g 2; physical = be32 g 6 }

-- where an entry has the data fork's fields, and the resource fork's
abbrev pub fork_place : Fork → ℕ
fork_place Data = 22
fork_place Resource = 32

unfoldable pub fork_of : Fork → List ℕ → ForkFacts
fork_of which e = fork_in (drop (fork_place which) e)

-- the name as 255 bytes, zero behind it
unfoldable pub wide : List ℕ → List ℕ
wide name = name ++ zeros (255 - length name)

unfoldable pub entry_in : List ℕ → DirectoryEntry
entry_in e = record {
  flags = byte e 0;
  version = byte e 1;
  finder = finder_in e;
  number = number_in e;
  «data» = fork_of Data e;
  resource = fork_of Resource e;
  created = be32 e 42;
  changed = be32 e 46;
  name_length = byte e 50;
  name = wide (name_in e);
}

-- what a refusal tells of an entry: zeros
unfoldable pub no_entry : DirectoryEntry
no_entry = entry_in (zeros 52)

-- bit 0 file locked
unfoldable pub flags_lock : ℕ → Bool
flags_lock flags = eqb (flags % 2) 1

-- both forks of each entry
unfoldable pub forks_in : List (List ℕ) → List ForkFacts
forks_in [] = []
forks_in (e ∷ es) = fork_of Data e ∷ fork_of Resource e ∷ forks_in es

-- A fork's blocks are its chain's, and their count is physical/A. (e b is the entry of block b, a is A.)
unfoldable pub block_count : ℕ → ForkFacts → ℕ
block_count a g = g.physical / a

unfoldable pub fork_blocks : (ℕ → ℕ) → ℕ → ForkFacts → List ℕ
fork_blocks e a g = chain_blocks e (block_count a g) g.start.0

-- the blocks of all forks
unfoldable pub owned_blocks : (ℕ → ℕ) → ℕ → List ForkFacts → List ℕ
owned_blocks e a gs = flat (map (fork_blocks e a) gs)

-- ---- names

-- a to z equal A to Z: lower and upper
unfoldable pub letters : List (ℕ × ℕ)
letters = map (λ u. (u + 32, u)) (from 26 65)

-- Document 02, T-03: these Mac OS Roman pairs are equal too, lower then upper in hex.
unfoldable pub accents : List (ℕ × ℕ)
accents =
    (0x88, 0xcb) ∷ (0x8a, 0x80) ∷ (0x8b, 0xcc) ∷ (0x8c, 0x81) ∷ (0x8d, 0x82) ∷ (0x8e, 0x83) ∷ (0x96, 0x84) ∷ (0x9a, 0x85) ∷ (0x9b, 0xcd)
    ∷ (0x9f, 0x86) ∷ (0xbe, 0xae) ∷ (0xbf, 0xaf) ∷ (0xcf, 0xce) ∷ []

unfoldable pub pairs : List (ℕ × ℕ)
pairs = letters ++ accents

-- p is the pair of l and u, lower and upper
unfoldable pub is_pair : ℕ → ℕ → ℕ × ℕ → Bool
is_pair l u p = eqb l p.0 && eqb u p.1

-- l is the lower and u the upper one of a pair
unfoldable pub paired : ℕ → ℕ → Bool
paired l u = any (is_pair l u) pairs

-- Every other byte equals only itself.
unfoldable pub same_byte : ℕ → ℕ → Bool
same_byte b c = let r = paired b c || paired c b in eqb b c || r

-- Names compare without case, byte by byte.
unfoldable pub same_name : List ℕ → List ℕ → Bool
same_name [] [] = true
same_name [] (c ∷ n) = false
same_name (b ∷ m) [] = false
same_name (b ∷ m) (c ∷ n) = let r = same_name m n in same_byte b c && r

-- the entry has that name
unfoldable pub named : List ℕ → List ℕ → Bool
named m e = same_name m (name_in e)
