-- Laws of one entry of the map: what `map_entry` reads after `set_entry`, and which bytes stay.
use mathlib.Core.Path.{◌≡◌}
use mathlib.Core.List.{List}
use mathlib.Core.Logic.{◌≢◌, ◌⊎◌, inl, inr}
use Prim.Native.Nat.{ℕ, zero, suc, ◌+◌, ◌-◌, ◌*◌, ◌/◌, ◌%◌, ◌≤◌, ◌<◌}
use native.Mathlib.Decide.{ℕ_discrete, dec_lt}
use native.Mathlib.Omega.{arith}
use lib.ListN.{length, get_or, set, take, drop, length-set}
use lib.Seq.{get_or-set_same, get_or-set_other, set_out, take-set-le, drop-set-lt}
use Rattle.model.specs.Bytes.{byte, half, Bytes}
use Rattle.model.specs.Map.{entry_byte, joined, first_byte, second_byte, map_entry, set_entry}
use Rattle.model.proofs.Threes.{place}
use Rattle.laws.proofs.Stores.{half_same}

-- ---- two bytes

-- the entry just put in is read back
same_entry : (p x y v : ℕ) → v < 4096 → joined p (first_byte p x v) (second_byte p y v) ≡ v
unfolding joined first_byte second_byte
same_entry zero x y v h = omega arith
same_entry (suc p) x y v h = omega arith

joined_lt : (p x y : ℕ) → x < 256 → y < 256 → joined p x y < 4096
unfolding joined
joined_lt zero x y hx hy = omega arith
joined_lt (suc p) x y hx hy = omega arith

first_byte_lt : (p x v : ℕ) → x < 256 → v < 4096 → first_byte p x v < 256
unfolding first_byte
first_byte_lt zero x v hx hv = omega arith
first_byte_lt (suc p) x v hx hv = omega arith

second_byte_lt : (p y v : ℕ) → second_byte p y v < 256
unfolding second_byte
second_byte_lt zero y v = omega arith
second_byte_lt (suc p) y v = omega arith

-- ---- the bytes of the image after a store

-- the length stays
pub length_set_entry : (l : List ℕ) (b v : ℕ) → length (set_entry l b v) ≡ length l
unfolding set_entry
length_set_entry l b v = simp length-set

-- every other byte stays
pub get_d_set_entry_other : (l : List ℕ) (b v i : ℕ) → i ≢ entry_byte b → i ≢ entry_byte b + 1 → get_or (set_entry l b v) i 0 ≡ get_or l i 0
unfolding set_entry
get_d_set_entry_other l b v i h k = rw (get_or-set_other, get_or-set_other)

pub get_d_first : (l : List ℕ) (b v : ℕ) → entry_byte b + 1 < length l
    → get_or (set_entry l b v) (entry_byte b) 0 ≡ first_byte ((b - 2) % 2) (get_or l (entry_byte b) 0) v
unfolding set_entry
get_d_first l b v h =
    let n : entry_byte b ≢ entry_byte b + 1 = omega arith in
    let k : entry_byte b < length l = omega arith in
    rw (get_or-set_other, get_or-set_same)

pub get_d_second : (l : List ℕ) (b v : ℕ) → entry_byte b + 1 < length l
    → get_or (set_entry l b v) (entry_byte b + 1) 0 ≡ second_byte ((b - 2) % 2) (get_or l (entry_byte b + 1) 0) v
unfolding set_entry
get_d_second l b v h =
    let k : entry_byte b + 1 < length (set l (entry_byte b) (first_byte ((b - 2) % 2) (get_or l (entry_byte b) 0) v)) = simp length-set h in
    rw get_or-set_same

-- what stands before the map and what stands behind it stays
pub take_set_entry : (l : List ℕ) (b v n : ℕ) → n ≤ 1088 → take n (set_entry l b v) ≡ take n l
unfolding set_entry
take_set_entry l b v n h =
    let h₀ : n ≤ entry_byte b = omega arith in
    let h₁ : n ≤ entry_byte b + 1 = omega arith in
    rw (take-set-le, take-set-le)

pub drop_set_entry : (l : List ℕ) (b v n : ℕ) → b < 642 → 2048 ≤ n → drop n (set_entry l b v) ≡ drop n l
unfolding set_entry
drop_set_entry l b v n hb h =
    let h₀ : entry_byte b < n = omega arith in
    let h₁ : entry_byte b + 1 < n = omega arith in
    rw (drop-set-lt, drop-set-lt)

-- an entry depends on its two bytes alone
pub map_entry_ext : (l m : List ℕ) (b : ℕ) → get_or l (entry_byte b) 0 ≡ get_or m (entry_byte b) 0 → get_or l (entry_byte b + 1) 0 ≡ get_or m (entry_byte b + 1) 0
    → map_entry l b ≡ map_entry m b
unfolding map_entry
map_entry_ext l m b h k = rw (h, k)

-- ---- load after store

-- at the same block: the value
pub map_entry_set_entry : (l : List ℕ) (b v : ℕ) → entry_byte b + 1 < length l → v < 4096 → map_entry (set_entry l b v) b ≡ v
unfolding map_entry
map_entry_set_entry l b v h hv = rw (get_d_first l b v h, get_d_second l b v h) (same_entry ((b - 2) % 2) _ _ v hv)

-- at a block that shares no byte: what was there
elsewhere : (l : List ℕ) (b v o : ℕ) → entry_byte o ≢ entry_byte b → entry_byte o ≢ entry_byte b + 1 → entry_byte o + 1 ≢ entry_byte b
    → map_entry (set_entry l b v) o ≡ map_entry l o
elsewhere l b v o h₀ h₁ h₂ =
    map_entry_ext (set_entry l b v) l o (get_d_set_entry_other l b v (entry_byte o) h₀ h₁) (get_d_set_entry_other l b v (entry_byte o + 1) h₂ (omega arith))

-- at the neighbour behind, which has the second byte's low half
later : (l : List ℕ) (b v o : ℕ) → entry_byte b + 1 < length l → (b - 2) % 2 ≡ 0 → (o - 2) % 2 ≡ 1 → entry_byte o ≡ entry_byte b + 1
    → map_entry (set_entry l b v) o ≡ map_entry l o
unfolding map_entry joined second_byte
later l b v o h even odd e =
    let x : get_or (set_entry l b v) (entry_byte o) 0 % 16 ≡ get_or l (entry_byte o) 0 % 16 = rw (e, get_d_second l b v h, even) (omega arith) in
    let y : get_or (set_entry l b v) (entry_byte o + 1) 0 ≡ get_or l (entry_byte o + 1) 0 = get_d_set_entry_other l b v (entry_byte o + 1) (omega arith) (omega arith) in
    rw odd (omega arith)

-- at the neighbour in front, which has the first byte's high half
earlier : (l : List ℕ) (b v o : ℕ) → entry_byte b + 1 < length l → v < 4096 → (b - 2) % 2 ≡ 1 → (o - 2) % 2 ≡ 0 → entry_byte o + 1 ≡ entry_byte b
    → map_entry (set_entry l b v) o ≡ map_entry l o
unfolding map_entry joined first_byte
earlier l b v o h hv odd even e =
    let x : get_or (set_entry l b v) (entry_byte o) 0 ≡ get_or l (entry_byte o) 0 = get_d_set_entry_other l b v (entry_byte o) (omega arith) (omega arith) in
    let y : get_or (set_entry l b v) (entry_byte o + 1) 0 / 16 ≡ get_or l (entry_byte o + 1) 0 / 16 = rw (e, get_d_first l b v h, odd) (omega arith) in
    rw even (omega arith)

-- only an odd entry starts in the second byte of another, an even one
shared : (m p q r : ℕ) → p < 2 → r < 2 → q * 3 + r ≡ m * 3 + p + 1 → (p ≡ 0) × (r ≡ 1)
shared m zero q zero hp hr e = omega arith
shared m zero q (suc r) hp hr e = omega arith
shared m (suc p) q zero hp hr e = omega arith
shared m (suc p) q (suc r) hp hr e = omega arith

parities : (i j : ℕ) → j * 3 / 2 ≡ i * 3 / 2 + 1 → (i % 2 ≡ 0) × (j % 2 ≡ 1)
parities i j e = shared (i / 2) (i % 2) (j / 2) (j % 2) (omega arith) (omega arith) (omega (arith, place i, place j))

-- at any other block: what was there
pub map_entry_set_entry_other : (l : List ℕ) (b v o : ℕ) → entry_byte b + 1 < length l → v < 4096 → 2 ≤ b → 2 ≤ o → o ≢ b
    → map_entry (set_entry l b v) o ≡ map_entry l o
map_entry_set_entry_other l b v o h hv hb ho n = by_place (ℕ_discrete (entry_byte o) (entry_byte b + 1)) (ℕ_discrete (entry_byte o + 1) (entry_byte b))
  where
    by_place : Dec (entry_byte o ≡ entry_byte b + 1) → Dec (entry_byte o + 1 ≡ entry_byte b) → map_entry (set_entry l b v) o ≡ map_entry l o
    by_place (yes e) d = let p = parities (b - 2) (o - 2) (omega arith) in later l b v o h p.0 p.1 e
    by_place (no m) (yes e) = let p = parities (o - 2) (b - 2) (omega arith) in earlier l b v o h hv p.1 p.0 e
    by_place (no m) (no k) = elsewhere l b v o (omega arith) m k

-- ---- bytes stay bytes, and entries are below 4096

pub map_entry_lt : (l : List ℕ) (b : ℕ) → Bytes l → map_entry l b < 4096
unfolding map_entry Bytes
map_entry_lt l b h = joined_lt _ _ _ (h (entry_byte b)) (h (entry_byte b + 1))

pub bytes_set : (l : List ℕ) (i x : ℕ) → Bytes l → x < 256 → Bytes (set l i x)
unfolding Bytes
bytes_set l i x h hx j = by_index (ℕ_discrete j i) (dec_lt i (length l))
  where
    by_index : Dec (j ≡ i) → Dec (i < length l) → get_or (set l i x) j 0 < 256
    by_index (yes e) (yes k) = rw (e, get_or-set_same l i x 0 k) hx
    by_index (yes e) (no k) = rw (set_out l i x (omega arith)) (h j)
    by_index (no n) d = rw (get_or-set_other l i j x 0 n) (h j)

pub bytes_set_entry : (l : List ℕ) (b v : ℕ) → Bytes l → v < 4096 → Bytes (set_entry l b v)
unfolding set_entry Bytes
bytes_set_entry l b v h hv =
    let p = (b - 2) % 2 in
    let x = first_byte p (get_or l (entry_byte b) 0) v in
    let y = second_byte p (get_or l (entry_byte b + 1) 0) v in
    bytes_set (set l (entry_byte b) x) (entry_byte b + 1) y
    (bytes_set l (entry_byte b) x h (first_byte_lt p (get_or l (entry_byte b) 0) v (h (entry_byte b)) hv))
    (second_byte_lt p (get_or l (entry_byte b + 1) 0) v)

-- ---- half-bytes: an entry has three of them, and a store in it changes no other

-- half-byte h is none of those from x up to y
abbrev pub Clear : ℕ → ℕ → ℕ → Type 0
Clear x y h = (h < x) ⊎ (y ≤ h)

pub clear : (x y h : ℕ) → (x ≤ h → h < y → ⊥) → Clear x y h
clear x y h c = elim (dec_lt h x) [ yes p ↦ inl p | no p ↦ elim (dec_lt h y) [ yes q ↦ absurd (c (omega arith) q) | no q ↦ inr (omega arith) ] ]

half_high : (l m : List ℕ) (h : ℕ) → h % 2 ≡ 0 → byte l (h / 2) / 16 ≡ byte m (h / 2) / 16 → half l h ≡ half m h
unfolding half
half_high l m h p e = rw p e

half_low : (l m : List ℕ) (h : ℕ) → h % 2 ≡ 1 → byte l (h / 2) % 16 ≡ byte m (h / 2) % 16 → half l h ≡ half m h
unfolding half
half_low l m h p e = rw p e

-- twice the place of the k-th entry's first byte
odd_place : (k : ℕ) → k % 2 ≡ 1 → k * 3 / 2 * 2 + 1 ≡ 3 * k
odd_place k p = omega (arith, place k)

even_place : (k : ℕ) → k % 2 ≡ 0 → k * 3 / 2 * 2 ≡ 3 * k
even_place k p = omega (arith, place k)

-- an odd entry leaves its first byte's high half
high_left : (k h m : ℕ) → m * 2 + 1 ≡ 3 * k → h / 2 ≡ 1088 + m → Clear (2176 + 3 * k) (2179 + 3 * k) h → h % 2 ≡ 0
high_left k h m o e (inl x) = omega arith
high_left k h m o e (inr x) = omega arith

-- an even one its second byte's low half
low_left : (k h m : ℕ) → m * 2 ≡ 3 * k → h / 2 ≡ 1088 + m + 1 → Clear (2176 + 3 * k) (2179 + 3 * k) h → h % 2 ≡ 1
low_left k h m o e (inl x) = omega arith
low_left k h m o e (inr x) = omega arith

-- the other byte is all its own
none_left : (x y h : ℕ) → x ≤ h → h < y → Clear x y h → ⊥
none_left x y h p q (inl c) = omega arith
none_left x y h p q (inr c) = omega arith

pub half_set_entry : (l : List ℕ) (b v h : ℕ) → entry_byte b + 1 < length l → v < 4096 → Clear (2176 + 3 * (b - 2)) (2179 + 3 * (b - 2)) h
    → half (set_entry l b v) h ≡ half l h
unfolding first_byte second_byte
half_set_entry l b v h k hv c = by_place (ℕ_discrete (h / 2) (entry_byte b)) (ℕ_discrete (h / 2) (entry_byte b + 1)) (ℕ_discrete ((b - 2) % 2) 0)
  where
    by_place : Dec (h / 2 ≡ entry_byte b) → Dec (h / 2 ≡ entry_byte b + 1) → Dec ((b - 2) % 2 ≡ 0) → half (set_entry l b v) h ≡ half l h
    by_place (yes e) d (yes p) =
        let o = even_place (b - 2) p in
        absurd (none_left (2176 + 3 * (b - 2)) (2179 + 3 * (b - 2)) h (omega arith) (omega arith) c)
    by_place (yes e) d (no p) =
        let odd : (b - 2) % 2 ≡ 1 = omega arith in
        half_high (set_entry l b v) l h (high_left (b - 2) h ((b - 2) * 3 / 2) (odd_place (b - 2) odd) e c)
        (rw (e, get_d_first l b v k, odd) (omega arith))
    by_place (no n) (yes e) (yes p) =
        half_low (set_entry l b v) l h (low_left (b - 2) h ((b - 2) * 3 / 2) (even_place (b - 2) p) e c)
        (rw (e, get_d_second l b v k, p) (omega arith))
    by_place (no n) (yes e) (no p) =
        let o = odd_place (b - 2) (omega arith) in
        absurd (none_left (2176 + 3 * (b - 2)) (2179 + 3 * (b - 2)) h (omega arith) (omega arith) c)
    by_place (no n) (no m) p = half_same (set_entry l b v) l h (get_d_set_entry_other l b v (h / 2) n m)
