-- Laws of wrapping: the lengths that it asks for, and how the stores make the header and fill the buffer.
use Rattle.std.proofs.Common.{◌≡◌, ℕ, suc, ◌+◌, ◌-◌, ◌≤◌, false, not, eqb, List, ◌∷◌, ◌++◌, length, take, drop, set, refl, ap, ◌∙◌, append-nil, arith, drop_of_length-le, take_at, drop_at, ltb-false, eqb-true}
use lib.ListN.{length-replicate}
use lib.Seq.{sets, paste, take-length, drop-append-le}
use borrow.Rule.Slice.PartMut.{put_mid}
use borrow.Author.Tests.{not-false}
use Rattle.model.specs.Bytes.{bytes16, bytes32, zeros}
use Rattle.model.specs.Container.{bad_lengths, fixed_fields, header_for}
use Rattle.model.proofs.Bytes.{drop_zeros}
use Rattle.model.proofs.Lists.{or-false}

-- ---- lengths

-- what is known where 22 does not fire
pub good_lengths : (image buffer name : ℕ) → bad_lengths image buffer name ≡ false → (buffer ≡ 409684) × (image ≡ 409600) × (name ≤ 63)
unfolding bad_lengths
good_lengths image buffer name h =
    let a = or-false (not (eqb image 409600)) _ h in
    let b = or-false (not (eqb buffer 409684)) _ a.1 in
    (eqb-true buffer 409684 (not-false _ b.0), eqb-true image 409600 (not-false _ a.0), ltb-false 63 name b.1)

-- ---- the header

-- the fields stored over zeros
fields : (n format sum : ℕ)
    → sets (sets (sets (set (set (zeros 84) 0 n) 81 format) 64 (bytes32 409600)) 72 (bytes32 sum)) 82 (bytes16 256)
    ≡ n ∷ (zeros 63 ++ fixed_fields format sum)
unfolding fixed_fields
fields n format sum = refl

-- the name over the zeros behind its length
name_put : (name rest : List ℕ) → length name ≤ 63
    → paste (length name ∷ (zeros 63 ++ rest)) 1 name (length name) ≡ length name ∷ (name ++ (zeros (63 - length name) ++ rest))
name_put name rest h =
    let m = length name in
    let p : 1 + m ≡ suc m = omega arith in
    let few : m ≤ length (zeros 63) = omega (arith, length-replicate {A = ℕ} 63 0) in
    ap (λ (k : ℕ). (m ∷ take m name) ++ drop k (m ∷ (zeros 63 ++ rest))) p
    ∙ ap (λ (l : List ℕ). m ∷ (l ++ drop m (zeros 63 ++ rest))) (take-length name)
    ∙ ap (λ (l : List ℕ). m ∷ (name ++ l)) (drop-append-le m (zeros 63) rest few ∙ ap (λ (l : List ℕ). l ++ rest) (drop_zeros 63 m))

-- all stores, one behind the other
pub header_made : (name : List ℕ) (format sum : ℕ) → length name ≤ 63 → (sized summed marked left : List ℕ)
    → sized ≡ sets (set (set (zeros 84) 0 (length name)) 81 format) 64 (bytes32 409600)
    → summed ≡ sets sized 72 (bytes32 sum)
    → marked ≡ sets summed 82 (bytes16 256)
    → left ≡ paste marked 1 name (length name)
    → left ≡ header_for name format sum
unfolding header_for
header_made name format sum h sized summed marked left p q r s =
    let made : marked ≡ length name ∷ (zeros 63 ++ fixed_fields format sum) = rw (r, q, p) (fields (length name) format sum) in
    s ∙ ap (λ (l : List ℕ). paste l 1 name (length name)) made ∙ name_put name (fixed_fields format sum) h

-- ---- the buffer

-- a header over a buffer's start, and a list over all the rest
pub filled : (header rest image : List ℕ) (n k : ℕ) → length header ≡ n → length rest ≤ k → put_mid n k (header ++ rest) image ≡ header ++ image
filled header rest image n k h b =
    rw (take_at header rest n h, drop_at header rest n h, drop_of_length-le rest b) (ap (λ (l : List ℕ). header ++ l) (append-nil image))
