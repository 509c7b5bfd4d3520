-- Laws of a pair: the image with one of its entries stored, and the decoded list with both.
use Prim.Native.Nat.{ℕ, ◌+◌, ◌*◌, ◌/◌, ◌%◌, ◌≤◌, ◌<◌}
use mathlib.Core.Path.{◌≡◌, sym, ◌∙◌, ap}
use mathlib.Core.List.{List}
use native.Mathlib.Omega.{arith}
use native.Mathlib.Decide.{ℕ_discrete}
use lib.ListN.{length, get_or, set, length-set}
use lib.Seq.{get_or-set_same, get_or-set_other, set-get_or}
use Rattle.model.specs.Map.{map_entry, set_entry, first_byte, second_byte, pair_byte, three_bytes, entries_in, bytes_for}
use Rattle.model.specs.Bytes.{Bytes}
use Rattle.model.specs.declared.TwoEntries.{TwoEntries}
use Rattle.model.proofs.Threes.{parity_even, parity_odd, even_byte, odd_byte, are_bytes, ab_of, c_of, d_of, ef_of}
use Rattle.blockmap.specs.Stored.{put_pair}
use Rattle.blockmap.specs.Decoded.{decoded_entry}

-- ---- one entry stored

-- a byte that is put back where it stood, behind two others, and by itself
third_stays : (l : List ℕ) (at x y z : ℕ) → z ≡ get_or l (at + 2) 0 → set (set (set l at x) (at + 1) y) (at + 2) z ≡ set (set l at x) (at + 1) y
third_stays l at x y z e =
    let m = set (set l at x) (at + 1) y in
    let far : at + 2 ≡ at + 1 → ⊥ = λ q. omega arith in
    let near : at + 2 ≡ at → ⊥ = λ q. omega arith in
    let same : z ≡ get_or m (at + 2) 0 = e ∙ sym (get_or-set_other (set l at x) (at + 1) (at + 2) y 0 far ∙ get_or-set_other l at (at + 2) x 0 near) in
    ap (λ (w : ℕ). set m (at + 2) w) same ∙ set-get_or m (at + 2) 0

first_stays : (l : List ℕ) (at x : ℕ) → x ≡ get_or l at 0 → set l at x ≡ l
first_stays l at x e = ap (λ (w : ℕ). set l at w) e ∙ set-get_or l at 0

-- p is the pair of block b, whose three bytes begin at `at`
module _ (image : List ℕ) (b v at : ℕ) (p : TwoEntries) (bytes : Bytes image) (low : 2 ≤ b) (here : at ≡ pair_byte b)
    (pair : p ≡ entries_in (three_bytes image at)) where
  -- an even block's entry stored: EF stays, and D in CD
  pub put_first : b % 2 ≡ 0 → put_pair image at (record { first = v; second = p.second }) ≡ set_entry image b v
  unfolding set_entry first_byte second_byte three_bytes entries_in bytes_for
  put_first even =
      let t = are_bytes image at bytes in
      let cd = get_or image (at + 1) 0 in
      let ef = get_or image (at + 2) 0 in
      let with_first : TwoEntries → List ℕ = λ q. put_pair image at (record { first = v; second = q.second }) in
      ap with_first pair
      ∙ rw (parity_even b low even, even_byte b low even, ← here)
      (rw (d_of cd ef t.2) (third_stays image at (v / 16) (v % 16 * 16 + cd % 16) _ (ef_of cd ef t.2)))

  -- an odd block's: AB stays, and C in CD
  pub put_second : b % 2 ≡ 1 → put_pair image at (record { first = p.first; second = v }) ≡ set_entry image b v
  unfolding set_entry first_byte second_byte three_bytes entries_in bytes_for
  put_second odd =
      let t = are_bytes image at bytes in
      let ab = get_or image at 0 in
      let cd = get_or image (at + 1) 0 in
      let third : at + 1 + 1 ≡ at + 2 = omega arith in
      let with_second : TwoEntries → List ℕ = λ q. put_pair image at (record { first = q.first; second = v }) in
      ap with_second pair
      ∙ rw (parity_odd b low odd, odd_byte b low odd, ← here, third)
      (rw (c_of ab cd t.1, first_stays image at _ (ab_of ab cd t.1)))

-- ---- the decoded list

-- the blocks below b are decoded
abbrev pub Below : List ℕ → ℕ → List ℕ → Type 0
Below image b xs = (i : ℕ) → 2 ≤ i → i < b → decoded_entry xs i ≡ map_entry image i

-- two entries more
pub below_more : (image : List ℕ) (b : ℕ) (xs : List ℕ) (v w : ℕ) → b + 1 < length xs → v ≡ map_entry image b → w ≡ map_entry image (b + 1)
    → Below image b xs → Below image (b + 2) (set (set xs b v) (b + 1) w)
unfolding decoded_entry
below_more image b xs v w room p q d i low high = go (ℕ_discrete i (b + 1)) (ℕ_discrete i b)
  where
    go : Dec (i ≡ b + 1) → Dec (i ≡ b) → get_or (set (set xs b v) (b + 1) w) i 0 ≡ map_entry image i
    go (yes y) z =
        let r : b + 1 < length (set xs b v) = omega (arith, length-set xs b v) in
        rw y (get_or-set_same (set xs b v) (b + 1) w 0 r ∙ q)
    go (no y) (yes z) =
        let o : b ≡ b + 1 → ⊥ = λ k. omega arith in
        rw z (get_or-set_other (set xs b v) (b + 1) b w 0 o ∙ get_or-set_same xs b v 0 (omega arith) ∙ p)
    go (no y) (no z) = get_or-set_other (set xs b v) (b + 1) i w 0 y ∙ get_or-set_other xs b i v 0 z ∙ d i low (omega arith)
