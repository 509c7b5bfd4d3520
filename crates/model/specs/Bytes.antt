-- Bytes, big-endian numbers, half-bytes, and bytes overwritten.
use Rattle.std.specs.Prelude.{ℕ, ◌+◌, ◌*◌, ◌/◌, ◌%◌, ◌≤◌, ◌<◌, cond, List, [], ◌∷◌, ◌++◌, length, get_or, take, drop, replicate, eqb}

abbrev pub byte : List ℕ → ℕ → ℕ
byte s i = get_or s i 0

-- All numbers are big-endian.
unfoldable pub be16 : List ℕ → ℕ → ℕ
be16 s i = byte s i * 256 + byte s (i + 1)

unfoldable pub be32 : List ℕ → ℕ → ℕ
be32 s i = be16 s i * 65536 + be16 s (i + 2)

-- a number as its two or four bytes
abbrev pub bytes16 : ℕ → List ℕ
bytes16 v = (v / 256) ∷ (v % 256) ∷ []

abbrev pub bytes32 : ℕ → List ℕ
bytes32 v = (v / 16777216) ∷ (v / 65536 % 256) ∷ (v / 256 % 256) ∷ (v % 256) ∷ []

abbrev pub zeros : ℕ → List ℕ
zeros n = replicate n 0

-- the k elements from place q on
abbrev pub part : ℕ → ℕ → List ℕ → List ℕ
part q k l = take k (drop q l)

-- half-byte h: the high half of byte h/2 where h is even, the low half where it is odd
unfoldable pub half : List ℕ → ℕ → ℕ
half s h = cond (eqb (h % 2) 0) (byte s (h / 2) / 16) (byte s (h / 2) % 16)

-- half-byte h is one of the k bytes from byte p on
abbrev pub Within : ℕ → ℕ → ℕ → Type 0
Within p k h = (2 * p ≤ h) × (h < 2 * p + 2 * k)

-- Write keeps the bytes before o, puts the n given, keeps those from o+n on: what a fork's bytes are after it.
unfoldable pub overwritten : List ℕ → ℕ → List ℕ → List ℕ
overwritten old o xs = take o old ++ (xs ++ drop (o + length xs) old)

-- each element is a byte
unfoldable pub Bytes : List ℕ → Type 0
Bytes l = (i : ℕ) → byte l i < 256
