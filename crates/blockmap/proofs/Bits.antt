-- Shifts and masks against quotients and remainders: the half-bytes of two entries and of their three bytes. A dot stands for a
-- half-byte that is left out.
use mathlib.Core.Path.{◌≡◌, ◌∙◌, ap}
use Prim.Native.Nat.{ℕ, ◌+◌, ◌*◌, ◌/◌, ◌%◌, ◌^◌, ◌≤◌, ◌<◌}
use native.Mathlib.Omega.{arith}
use lib.Bits.{bit_and, bit_or, and_mask, mask_lt, or_shifted}
use lib.Dec.{lit≤}
use lib.Pow.{shl_exact}

-- `(a << k) | b` at w bits is a sum, where a has j bits, b has k and nothing is shifted out
joined : (j k w a b : ℕ) → a < 2 ^ j → j + k ≤ w → b < 2 ^ k → bit_or (a * 2 ^ k % 2 ^ w) b ≡ a * 2 ^ k + b
joined j k w a b ha hw hb = ap (λ (x : ℕ). bit_or x b) (shl_exact j k w ha hw) ∙ or_shifted a k b hb

-- AB and C. give ABC
pub abc : (ab cd : ℕ) → ab < 256 → cd < 256 → bit_or (ab * 16 % 65536) (cd / 16) ≡ ab * 16 + cd / 16
abc ab cd x y = joined 8 4 16 ab (cd / 16) x (lit≤ tt) (omega arith)

-- .D and EF give DEF
pub def : (cd ef : ℕ) → ef < 256 → bit_or (bit_and cd 15 * 256 % 65536) ef ≡ cd % 16 * 256 + ef
def cd ef x = joined 4 8 16 (bit_and cd 15) ef (mask_lt cd 4) (lit≤ tt) x ∙ omega (arith, and_mask cd 4)

-- ..C and D.. give CD
pub cd : (first second : ℕ) → second < 4096 → bit_or (bit_and first 15 * 16 % 65536) (second / 256) ≡ first % 16 * 16 + second / 256
cd first second x = joined 4 4 16 (bit_and first 15) (second / 256) (mask_lt first 4) (lit≤ tt) (omega arith) ∙ omega (arith, and_mask first 4)
