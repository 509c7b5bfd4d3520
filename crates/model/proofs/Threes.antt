-- Laws of three bytes and the two entries that they hold.
use Prim.Native.Nat.{ℕ, ◌+◌, ◌-◌, ◌*◌, ◌/◌, ◌%◌, ◌≤◌, ◌<◌}
use mathlib.Core.Path.{◌≡◌}
use mathlib.Core.List.{List}
use native.Mathlib.Omega.{arith}
use Rattle.model.specs.Bytes.{Bytes}
use Rattle.model.specs.Map.{entry_byte, joined, map_entry, pair_byte, three_bytes, entries_in, bytes_for, AreBytes, AreEntries, TwoInThree}
use Rattle.model.specs.declared.ThreeBytes.{ThreeBytes}
use Rattle.model.specs.declared.TwoEntries.{TwoEntries}

-- ---- the entry of a block

-- a block's place in the map, counted from 0, is as even as its number
pub parity_even : (b : ℕ) → 2 ≤ b → b % 2 ≡ 0 → (b - 2) % 2 ≡ 0
parity_even b low even = omega arith

pub parity_odd : (b : ℕ) → 2 ≤ b → b % 2 ≡ 1 → (b - 2) % 2 ≡ 1
parity_odd b low odd = omega arith

-- the byte of the k-th entry, counted from 0
pub place : (k : ℕ) → k * 3 / 2 ≡ k / 2 * 3 + k % 2
place k = omega arith

-- an even block's entry begins where its pair does, an odd one's a byte later
pub even_byte : (b : ℕ) → 2 ≤ b → b % 2 ≡ 0 → entry_byte b ≡ pair_byte b
even_byte b low even = omega (arith, place (b - 2), parity_even b low even)

pub odd_byte : (b : ℕ) → 2 ≤ b → b % 2 ≡ 1 → entry_byte b ≡ pair_byte b + 1
odd_byte b low odd = omega (arith, place (b - 2), parity_odd b low odd)

module _ (image : List ℕ) (b : ℕ) (low : 2 ≤ b) where
  pub first_entry : b % 2 ≡ 0 → map_entry image b ≡ (entries_in (three_bytes image (pair_byte b))).first
  unfolding map_entry joined three_bytes entries_in
  first_entry even = rw (parity_even b low even, even_byte b low even)

  pub second_entry : b % 2 ≡ 1 → map_entry image b ≡ (entries_in (three_bytes image (pair_byte b))).second
  unfolding map_entry joined three_bytes entries_in
  second_entry odd = let third : pair_byte b + 1 + 1 ≡ pair_byte b + 2 = omega arith in rw (parity_odd b low odd, odd_byte b low odd, third)

-- ---- there and back

entries_small : (t : ThreeBytes) → AreBytes t → AreEntries (entries_in t)
unfolding entries_in
entries_small t h = (omega arith, omega arith)

bytes_small : (e : TwoEntries) → AreEntries e → AreBytes (bytes_for e)
unfolding bytes_for
bytes_small e h = (omega arith, omega arith, omega arith)

-- AB and C of ABC, where that is made of AB and CD
pub ab_of : (ab cd : ℕ) → cd < 256 → (ab * 16 + cd / 16) / 16 ≡ ab
ab_of ab cd h = omega arith

pub c_of : (ab cd : ℕ) → cd < 256 → (ab * 16 + cd / 16) % 16 ≡ cd / 16
c_of ab cd h = omega arith

-- D and EF of DEF, where that is made of CD and EF
pub d_of : (cd ef : ℕ) → ef < 256 → (cd % 16 * 256 + ef) / 256 ≡ cd % 16
d_of cd ef h = omega arith

pub ef_of : (cd ef : ℕ) → ef < 256 → (cd % 16 * 256 + ef) % 256 ≡ ef
ef_of cd ef h = omega arith

bytes_back_lem : (t : ThreeBytes) → AreBytes t → bytes_for (entries_in t) ≡ t
unfolding bytes_for entries_in
bytes_back_lem t h =
    let x = ab_of t.ab t.cd h.1 in
    let y : (t.ab * 16 + t.cd / 16) % 16 * 16 + (t.cd % 16 * 256 + t.ef) / 256 ≡ t.cd =
    omega (arith, c_of t.ab t.cd h.1, d_of t.cd t.ef h.2) in
    let z = ef_of t.cd t.ef h.2 in
    λ i. record { ab = x i; cd = y i; ef = z i }

-- ABC and DEF, where CD is made of C and D
abc_of : (first second : ℕ) → second < 4096 → first / 16 * 16 + (first % 16 * 16 + second / 256) / 16 ≡ first
abc_of first second h = omega arith

def_of : (first second : ℕ) → second < 4096 → (first % 16 * 16 + second / 256) % 16 * 256 + second % 256 ≡ second
def_of first second h = omega arith

entries_back_lem : (e : TwoEntries) → AreEntries e → entries_in (bytes_for e) ≡ e
unfolding bytes_for entries_in
entries_back_lem e h =
    let x = abc_of e.first e.second h.1 in
    let y = def_of e.first e.second h.1 in
    λ i. record { first = x i; second = y i }

-- ---- of the map

pub are_bytes : (image : List ℕ) (at : ℕ) → Bytes image → AreBytes (three_bytes image at)
unfolding three_bytes Bytes
are_bytes image at h = (h at, h (at + 1), h (at + 2))

-- the entry of the block behind an even one
pub entry_behind : (image : List ℕ) (b : ℕ) → 2 ≤ b → b % 2 ≡ 0 → map_entry image (b + 1) ≡ (entries_in (three_bytes image (pair_byte b))).second
entry_behind image b low even =
    let one-pair : pair_byte (b + 1) ≡ pair_byte b = omega arith in
    rw (second_entry image (b + 1) (omega arith) (omega arith), one-pair)

map_back_lem : (image : List ℕ) (b : ℕ) → Bytes image → 2 ≤ b → b % 2 ≡ 0
    → bytes_for (record { first = map_entry image b; second = map_entry image (b + 1) }) ≡ three_bytes image (pair_byte b)
map_back_lem image b h low even =
    rw (first_entry image b low even, entry_behind image b low even)
    (bytes_back_lem (three_bytes image (pair_byte b)) (are_bytes image (pair_byte b) h))

pub two_in_three : TwoInThree
two_in_three = record {
  even = first_entry;
  odd = second_entry;
  bytes_back = λ t h. (entries_small t h, bytes_back_lem t h);
  entries_back = λ e h. (bytes_small e h, entries_back_lem e h);
  map_back = map_back_lem;
}
