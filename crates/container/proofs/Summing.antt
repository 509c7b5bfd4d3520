-- Laws of the checksum: how the sum is turned, and the words of all the bytes added one after another.
use Rattle.std.proofs.Common.{◌≡◌, ℕ, suc, ◌+◌, ◌*◌, ◌/◌, ◌%◌, ◌^◌, ◌<◌, List, [], ◌∷◌, length, refl, ap, ◌∙◌, arith, zero}
use lib.Bits.{bit_or, or_shifted_r}
use Rattle.std.specs.List.{fold}
use Rattle.std.specs.Int.{w16, from_be_bytes}
use Rattle.std.specs.Simd.{first_chunks}
use Rattle.model.specs.Container.{turned, added, summed}

-- two shifts turn a 32-bit sum
pub turns : (s : ℕ) → s < 4294967296 → bit_or (s / 2) (s * 2147483648 % 4294967296) ≡ turned s
unfolding turned
turns s h =
    let high : s * 2147483648 % 4294967296 ≡ s % 2 * 2147483648 = omega arith in
    let low : s / 2 < 2 ^ 31 = omega arith in
    ap (bit_or (s / 2)) high ∙ or_shifted_r (s % 2) 31 (s / 2) low ∙ (omega arith)

-- all the words of the bytes, added one after another
pub all_words : (bytes : List ℕ) (sum n : ℕ) → n ≡ length bytes / 2
    → fold (λ s word. added s (from_be_bytes w16 word)) sum (first_chunks 2 n bytes) ≡ summed sum bytes
unfolding summed
all_words [] sum zero h = refl
all_words [] sum (suc n) h = absurd (omega arith)
all_words (x ∷ []) sum zero h = refl
all_words (x ∷ []) sum (suc n) h = absurd (omega arith)
all_words (x ∷ y ∷ rest) sum zero h = absurd (omega arith)
all_words (x ∷ y ∷ rest) sum (suc n) h = all_words rest (added sum (x * 256 + y)) n (omega arith)
