-- The map: 12-bit entries, their sort, chains, free blocks.
use Rattle.std.specs.Prelude.{ℕ, zero, suc, ◌+◌, ◌-◌, ◌*◌, ◌/◌, ◌%◌, ◌≤◌, ◌<◌, ◌≡◌, Bool, true, false, ◌&&◌, cond, List, [], ◌∷◌, set, eqb, leb}
use Rattle.model.specs.Lists.{keep, from}
use Rattle.model.specs.Bytes.{byte, Bytes}
use Rattle.model.specs.declared.MapValue.{MapValue}
use Rattle.model.specs.declared.ThreeBytes.{ThreeBytes}
use Rattle.model.specs.declared.TwoEntries.{TwoEntries}
use Rattle.model.specs.declared.MapValue.TheVariants.{Free, Last, Next, Bad}

-- It starts at byte 1088. Each pair of entries fills three bytes, high bits first. The first entry is for block 2:
-- the first of the two bytes that hold a part of block b's entry.
abbrev pub entry_byte : ℕ → ℕ
entry_byte b = 1088 + (b - 2) * 3 / 2

-- by a remainder by 2: the first where it is 0
abbrev pub by_parity : {A : Type 0} → ℕ → A → A → A
by_parity zero even odd = even
by_parity (suc n) even odd = odd

-- AB CD EF holds ABC and DEF: AB C. holds ABC, and .D EF holds DEF.
unfoldable pub joined : ℕ → ℕ → ℕ → ℕ
joined parity x y = by_parity parity (x * 16 + y / 16) (x % 16 * 256 + y)

-- the two bytes x and y with the entry v in them, and the neighbour's half-byte as it was
unfoldable pub first_byte : ℕ → ℕ → ℕ → ℕ
first_byte parity x v = by_parity parity (v / 16) (x / 16 * 16 + v / 256)

unfoldable pub second_byte : ℕ → ℕ → ℕ → ℕ
second_byte parity y v = by_parity parity (v % 16 * 16 + y % 16) (v % 256)

-- the entry of block b
unfoldable pub map_entry : List ℕ → ℕ → ℕ
map_entry image b = joined ((b - 2) % 2) (byte image (entry_byte b)) (byte image (entry_byte b + 1))

-- the image with v for block b's entry: dead space and the neighbour keep their bits
unfoldable pub set_entry : List ℕ → ℕ → ℕ → List ℕ
set_entry image b v =
    set
    (set image (entry_byte b) (first_byte ((b - 2) % 2) (byte image (entry_byte b)) v))
    (entry_byte b + 1)
    (second_byte ((b - 2) % 2) (byte image (entry_byte b + 1)) v)

-- ---- Three bytes and two entries, as the book has it (document 02, T-04)

-- the first of the three bytes of block b's pair: 1088 for blocks 2 and 3, 1091 for 4 and 5. It is `entry_byte b` where b is even,
-- and the byte before that where b is odd.
abbrev pub pair_byte : ℕ → ℕ
pair_byte b = 1088 + (b - 2) / 2 * 3

-- the three bytes of the image from byte `at` on
unfoldable pub three_bytes : List ℕ → ℕ → ThreeBytes
three_bytes image at = record { ab = byte image at; cd = byte image (at + 1); ef = byte image (at + 2) }

-- AB CD EF holds ABC and DEF. Where N is odd, the second entry in the last three bytes is no block's.
unfoldable pub entries_in : ThreeBytes → TwoEntries
entries_in t = record { first = t.ab * 16 + t.cd / 16; second = t.cd % 16 * 256 + t.ef }

-- ABC and DEF are held by AB CD EF
unfoldable pub bytes_for : TwoEntries → ThreeBytes
bytes_for e = record { ab = e.first / 16; cd = e.first % 16 * 16 + e.second / 256; ef = e.second % 256 }

-- a byte has 8 bits and an entry 12
abbrev pub AreBytes : ThreeBytes → Type 0
AreBytes t = (t.ab < 256) × (t.cd < 256) × (t.ef < 256)

abbrev pub AreEntries : TwoEntries → Type 0
AreEntries e = (e.first < 4096) × (e.second < 4096)

-- What is wanted proved:
pub record TwoInThree : Type 0 where
  -- The entry is the first of its three bytes where the block number is even
  pub even : (image : List ℕ) (b : ℕ) → 2 ≤ b → b % 2 ≡ 0 → map_entry image b ≡ (entries_in (three_bytes image (pair_byte b))).first
  -- and the second where it is odd,
  pub odd : (image : List ℕ) (b : ℕ) → 2 ≤ b → b % 2 ≡ 1 → map_entry image b ≡ (entries_in (three_bytes image (pair_byte b))).second
  -- and two entries and their three bytes each give back the other: every three bytes, every two entries,
  pub bytes_back : (t : ThreeBytes) → AreBytes t → AreEntries (entries_in t) × (bytes_for (entries_in t) ≡ t)
  pub entries_back : (e : TwoEntries) → AreEntries e → AreBytes (bytes_for e) × (entries_in (bytes_for e) ≡ e)
  -- and those of the map.
  pub map_back : (image : List ℕ) (b : ℕ) → Bytes image → 2 ≤ b → b % 2 ≡ 0
      → bytes_for (record { first = map_entry image b; second = map_entry image (b + 1) }) ≡ three_bytes image (pair_byte b)

-- In what follows e b is the entry of block b, n is N and a is A.

-- Allocation blocks are numbered 2 to N+1.
unfoldable pub is_block : ℕ → ℕ → Bool
is_block n b = leb 2 b && leb b (n + 1)

-- An entry is sorted by its value: 0 free; 1 last of its fork; 2 to N+1 the next block; anything else bad.
unfoldable pub sort_of : ℕ → ℕ → MapValue
sort_of n zero = Free
sort_of n (suc zero) = Last
sort_of n (suc (suc v)) = cond (leb (suc (suc v)) (n + 1)) (Next (record { 0 = suc (suc v) })) Bad

unfoldable pub is_bad : MapValue → Bool
is_bad Free = false
is_bad Last = false
is_bad (Next b) = false
is_bad Bad = true

-- A chain of k blocks from s, where s is 2 to N+1:
-- for k = 1, the entry of s is 1;
-- for more, the entry of s is a block from which a chain of k−1 blocks runs.
pub data Chain (e : ℕ → ℕ) (n : ℕ) : ℕ → ℕ → Type 0 where
  last : (s : ℕ) → 2 ≤ s → s ≤ n + 1 → e s ≡ 1 → Chain e n 1 s
  more : (k s : ℕ) → 2 ≤ s → s ≤ n + 1 → Chain e n (suc k) (e s) → Chain e n (suc (suc k)) s

-- The same as a test, k falling by one at each step: behind the last block stands 1.
unfoldable pub runs : (ℕ → ℕ) → ℕ → ℕ → ℕ → Bool
runs e n zero s = eqb s 1
runs e n (suc k) s = elim (is_block n s) [ true ↦ runs e n k (e s) | false ↦ false ]

-- its blocks, in order
unfoldable pub chain_blocks : (ℕ → ℕ) → ℕ → ℕ → List ℕ
chain_blocks e zero s = []
chain_blocks e (suc k) s = s ∷ chain_blocks e k (e s)

-- the free blocks, lowest first
unfoldable pub blocks_free : (ℕ → ℕ) → ℕ → List ℕ
blocks_free e n = keep (λ b. eqb (e b) 0) (from n 2)

-- what stands behind a block of a list: the next, or 1 behind the last
unfoldable pub behind : List ℕ → ℕ
behind [] = 1
behind (b ∷ bs) = b

-- the image with the blocks joined in that order, the last one's entry 1
unfoldable pub put_chain : List ℕ → List ℕ → List ℕ
put_chain image [] = image
put_chain image (b ∷ bs) = put_chain (set_entry image b (behind bs)) bs

-- the image with the blocks free
unfoldable pub put_free : List ℕ → List ℕ → List ℕ
put_free image [] = image
put_free image (b ∷ bs) = put_free (set_entry image b 0) bs
