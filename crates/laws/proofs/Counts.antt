-- The counts of a write: the logical length, the blocks needed, by which 17 is decided, and the blocks taken, which are free and hold the
-- bytes. With these, all that the law for two parts asks of the counts.
use Prim.Native.Nat.{ℕ, ◌+◌, ◌-◌, ◌*◌, ◌/◌, ◌%◌, ◌≤◌, ◌<◌, max}
use mathlib.Core.Path.{◌≡◌, refl, ap, ap₂, ◌∙◌}
use native.Mathlib.Omega.{arith}
use native.Mathlib.Decide.{ℕ_discrete, dec_le}
use native.Mathlib.Nat.{mul-le-mul_right, div-add-mod', le-div_iff_mul-le}
use borrow.Author.Tests.{eq-eqb, ne_eqb, le-leb, lt-leb}
use Rattle.model.specs.Facts.{A, clump, next_file_number, free_count, with_counts}
use Rattle.model.specs.Directory.{block_count}
use Rattle.model.specs.Calls.{fewest, grown, needed, needed_blocks, rounded, taken, taken_blocks}
use Rattle.model.specs.declared.VolumeFacts.{VolumeFacts}
use Rattle.model.specs.declared.ForkFacts.{ForkFacts}
use Rattle.laws.proofs.Content.{fewest_holds, fewest_least}

-- ---- the logical length, l before a write of x bytes at o

pub grown_end : (l o x : ℕ) → o + x ≤ grown l o x
unfolding grown
grown_end l o x = omega arith

-- y bytes behind them make it what both make it at once
pub grown_then : (l o x y : ℕ) → grown (grown l o x) (o + x) y ≡ grown l o (x + y)
unfolding grown
grown_then l o x y = omega arith

-- ---- the blocks needed by a write of n bytes at o in the fork g

-- with them the fork has the fewest blocks that hold the bytes, or more
pub needed_hold : (f : VolumeFacts) (g : ForkFacts) (o n : ℕ) → fewest (grown g.logical o n) (A f) ≤ block_count (A f) g + needed_blocks f g o n
unfolding needed_blocks needed
needed_hold f g o n = omega arith

-- of x bytes at o, and of y bytes behind them
module _ (f : VolumeFacts) (g : ForkFacts) (o x y : ℕ) where
  -- by the first part no more than by both at once
  pub needed_less : 0 < A f → needed_blocks f g o x ≤ needed_blocks f g o (x + y)
  unfolding needed_blocks needed grown
  needed_less pos =
      let p = max g.logical (o + x) in
      let q = max g.logical (o + (x + y)) in
      omega (arith, fewest_least p (A f) (fewest q (A f)) pos (omega (arith, fewest_holds q (A f) pos)))

  -- by the second the others, where the first took t and left the fork h; counts of the volume do not matter
  pub needed_then : (files next free t : ℕ) (h : ForkFacts) → h.logical ≡ grown g.logical o x → block_count (A f) h ≡ block_count (A f) g + t
      → needed_blocks (with_counts f files next free) h (o + x) y ≡ needed_blocks f g o (x + y) - t
  unfolding needed_blocks needed with_counts
  needed_then files next free t h l k =
      ap₂ (λ (m n : ℕ). fewest (grown m (o + x) y) (A f) - n) l k
      ∙ ap (λ (m : ℕ). fewest m (A f) - (block_count (A f) g + t)) (grown_then g.logical o x y) ∙ omega arith

-- ---- the clump

module _ (f : VolumeFacts) where
  pub clump_below : f.clump_size < A f → clump f ≡ 1
  unfolding clump
  clump_below h = rw (lt-leb (A f) f.clump_size h)

  pub clump_uneven : A f ≤ f.clump_size → (f.clump_size % A f ≡ 0 → ⊥) → clump f ≡ 1
  unfolding clump
  clump_uneven h n = rw (le-leb (A f) f.clump_size h, ne_eqb (f.clump_size % A f) 0 n)

  pub clump_counts : A f ≤ f.clump_size → f.clump_size % A f ≡ 0 → clump f ≡ f.clump_size / A f
  unfolding clump
  clump_counts h e = rw (le-leb (A f) f.clump_size h, eq-eqb (f.clump_size % A f) 0 e)

  pub clump_some : 0 < A f → 0 < clump f
  clump_some pos =
      elim (dec_le (A f) f.clump_size) [
        | no h ↦ omega (arith, clump_below (omega arith))
        | yes h ↦ elim (ℕ_discrete (f.clump_size % A f) 0) [
          | no n ↦ omega (arith, clump_uneven h n)
          | yes e ↦ omega (arith, clump_counts h e, (le-div_iff_mul-le {k = A f} {x = 1} {y = f.clump_size} pos).1 (omega arith))
        ]
      ]

-- ---- the blocks taken, where a clump has c blocks, the fork has count blocks and so many are free

module _ (c free count : ℕ) where
  pub taken_none : taken c free count 0 ≡ 0
  unfolding taken
  taken_none = refl

  pub taken_whole : (need : ℕ) → 0 < need → rounded c (count + need) - count ≤ free → taken c free count need ≡ rounded c (count + need) - count
  unfolding taken
  taken_whole need h k = rw (ne_eqb need 0 (λ e. omega arith), le-leb (rounded c (count + need) - count) free k)

  pub taken_exact : (need : ℕ) → 0 < need → free < rounded c (count + need) - count → taken c free count need ≡ need
  unfolding taken
  taken_exact need h k = rw (ne_eqb need 0 (λ e. omega arith), lt-leb (rounded c (count + need) - count) free k)

  -- none, or to whole clumps where enough are free, or just those needed
  by_taken : (P : ℕ → Type 0) (need : ℕ) → (need ≡ 0 → P 0)
      → (0 < need → rounded c (count + need) - count ≤ free → P (rounded c (count + need) - count))
      → (0 < need → free < rounded c (count + need) - count → P need) → P (taken c free count need)
  by_taken P need none whole exact =
      elim (ℕ_discrete need 0) [
        | yes e ↦ rw (ap (taken c free count) e ∙ taken_none) (none e)
        | no n ↦ elim (dec_le (rounded c (count + need) - count) free) [
          | yes k ↦ rw (taken_whole need (omega arith) k) (whole (omega arith) k)
          | no k ↦ rw (taken_exact need (omega arith) (omega arith)) (exact (omega arith) (omega arith))
        ]
      ]

-- t blocks are no more than a write takes that needs q, and behind them it takes the others
abbrev Adds : ℕ → ℕ → ℕ → ℕ → ℕ → Type 0
Adds c free count q t = (t ≤ taken c free count q) × (taken c (free - t) (count + t) (q - t) ≡ taken c free count q - t)

module _ (c : ℕ) (pos : 0 < c) where
  pub rounded_holds : (q : ℕ) → q ≤ rounded c q
  unfolding rounded
  rounded_holds q = fewest_holds q c pos

  -- by less than a clump
  pub rounded_most : (q : ℕ) → rounded c q < q + c
  unfolding rounded fewest
  rounded_most q = omega (arith, div-add-mod' (q + (c - 1)) c)

  -- what the whole clumps of p hold needs no more of them
  rounded_least : (p q : ℕ) → q ≤ rounded c p → rounded c q ≤ rounded c p
  unfolding rounded
  rounded_least p q h = mul-le-mul_right {m = fewest q c} {n = fewest p c} c (fewest_least q c (fewest p c) pos h)

  module _ (free count need : ℕ) where
    -- no more than are free, and no fewer than are needed
    taken_free : need ≤ free → taken c free count need ≤ free
    taken_free h = by_taken c free count (λ t. t ≤ free) need (λ e. omega arith) (λ n k. k) (λ n k. h)

    taken_enough : need ≤ taken c free count need
    taken_enough =
        by_taken c free count (λ t. need ≤ t) need (λ e. omega arith) (λ n k. omega (arith, rounded_holds (count + need))) (λ n k. omega arith)

  -- a first part that needs p blocks, and both parts at once, which need q
  module _ (free count p q : ℕ) (less : p ≤ q) (room : q ≤ free) where
    -- the second part, where the first took t
    module _ (t : ℕ) (some : t < q) where
      rounded_same : rounded c (count + t + (q - t)) ≡ rounded c (count + q)
      rounded_same = ap (rounded c) (omega arith)

      rest_whole : t ≤ free → rounded c (count + q) - count ≤ free → taken c (free - t) (count + t) (q - t) ≡ rounded c (count + q) - (count + t)
      rest_whole h k =
          taken_whole c (free - t) (count + t) (q - t) (omega arith) (omega (arith, rounded_same)) ∙ ap (λ (n : ℕ). n - (count + t)) rounded_same

      rest_exact : free < rounded c (count + q) - count → taken c (free - t) (count + t) (q - t) ≡ q - t
      rest_exact k = taken_exact c (free - t) (count + t) (q - t) (omega arith) (omega (arith, rounded_same))

    -- and where the first took all
    rest_none : (t : ℕ) → q ≤ t → taken c (free - t) (count + t) (q - t) ≡ 0
    rest_none t h = let z : q - t ≡ 0 = omega arith in ap (taken c (free - t) (count + t)) z ∙ taken_none c (free - t) (count + t)

    first_none : p ≡ 0 → Adds c free count q 0
    first_none h =
        let e : count + 0 ≡ count = omega arith in
        let k : free - 0 ≡ free = omega arith in
        let n : q - 0 ≡ q = omega arith in
        (omega arith, rw (e, k, n) (omega arith))

    first_whole : 0 < p → rounded c (count + p) - count ≤ free → Adds c free count q (rounded c (count + p) - count)
    first_whole h k =
        let t = rounded c (count + p) - count in
        let lp = rounded_holds (count + p) in
        let lq = rounded_holds (count + q) in
        elim (dec_le q t) [
          | yes i ↦
              let m = rounded_least (count + p) (count + q) (omega arith) in
              let n = rounded_least (count + q) (count + p) (omega arith) in
              let w = taken_whole c free count q (omega arith) (omega arith) in
              (omega arith, rest_none t i ∙ omega arith)
          | no i ↦ elim (dec_le (rounded c (count + q) - count) free) [
            | yes j ↦ let w = taken_whole c free count q (omega arith) j in (omega arith, rest_whole t (omega arith) k j ∙ omega arith)
            | no j ↦
                let w = taken_exact c free count q (omega arith) (omega arith) in
                (omega arith, rest_exact t (omega arith) (omega arith) ∙ omega arith)
          ]
        ]

    first_exact : 0 < p → free < rounded c (count + p) - count → Adds c free count q p
    first_exact h k =
        let lq = rounded_holds (count + q) in
        let m = rounded_least (count + q) (count + p) (omega arith) in
        let w = taken_exact c free count q (omega arith) (omega arith) in
        elim (dec_le q p) [
          | yes i ↦ (omega arith, rest_none p i ∙ omega arith)
          | no i ↦ (omega arith, rest_exact p (omega arith) (omega arith) ∙ omega arith)
        ]

    parts_add : Adds c free count q (taken c free count p)
    parts_add = by_taken c free count (Adds c free count q) p first_none first_whole first_exact

-- ---- of a write of n bytes at o in the fork g

module _ (f : VolumeFacts) (g : ForkFacts) (o n : ℕ) (pos : 0 < A f) where
  -- those taken are free where those needed are
  pub taken_are_free : needed_blocks f g o n ≤ free_count f → taken_blocks f g o n ≤ free_count f
  unfolding taken_blocks
  taken_are_free = taken_free (clump f) (clump_some f pos) (free_count f) (block_count (A f) g) (needed_blocks f g o n)

  -- with them the fork holds the bytes
  pub taken_hold : grown g.logical o n ≤ (block_count (A f) g + taken_blocks f g o n) * A f
  unfolding taken_blocks
  taken_hold =
      let size = grown g.logical o n in
      let has = block_count (A f) g in
      let enough = taken_enough (clump f) (clump_some f pos) (free_count f) has (needed_blocks f g o n) in
      omega (
        arith,
        fewest_holds size (A f) pos,
        mul-le-mul_right {m = fewest size (A f)} {n = has + taken_blocks f g o n} (A f) (omega (arith, enough, needed_hold f g o n)),
      )

-- ---- of a write of x bytes at o in the fork g, and of y bytes behind them

module _ (f : VolumeFacts) (g : ForkFacts) (o x y : ℕ) (pos : 0 < A f) (room : needed_blocks f g o (x + y) ≤ free_count f) where
  adds : Adds (clump f) (free_count f) (block_count (A f) g) (needed_blocks f g o (x + y)) (taken_blocks f g o x)
  unfolding taken_blocks
  adds =
      parts_add (clump f) (clump_some f pos) (free_count f) (block_count (A f) g) (needed_blocks f g o x) (needed_blocks f g o (x + y))
      (needed_less f g o x y pos) room

  -- the first takes no more than both at once
  pub first_less : taken_blocks f g o x ≤ taken_blocks f g o (x + y)
  unfolding taken_blocks
  first_less = adds.0

  -- the second takes the others, where the first left the fork h and so many fewer blocks free
  pub second_others : (h : ForkFacts) → h.logical ≡ grown g.logical o x → block_count (A f) h ≡ block_count (A f) g + taken_blocks f g o x
      → taken_blocks (with_counts f f.files (next_file_number f) (free_count f - taken_blocks f g o x)) h (o + x) y
      ≡ taken_blocks f g o (x + y) - taken_blocks f g o x
  unfolding taken_blocks with_counts clump
  second_others h l k =
      let t = taken_blocks f g o x in
      ap₂ (λ (n q : ℕ). taken (clump f) (free_count f - t) n q) k
      (needed_then f g o x y f.files (next_file_number f) (free_count f - t) t h l k)
      ∙ adds.1
