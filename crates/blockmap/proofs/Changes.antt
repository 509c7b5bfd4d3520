-- What the stores of a longer and of a shorter chain come to. l is the image, s the chain's start, z its last block that stays.
use Prim.Native.Nat.{ℕ, zero, suc, ◌+◌, ◌-◌, ◌≤◌, ◌<◌}
use mathlib.Core.Path.{◌≡◌, refl, sym, ap, ◌∙◌}
use mathlib.Core.Bool.{true}
use mathlib.Core.List.{List, [], ◌∷◌, ◌++◌, append-nil}
use mathlib.Core.Logic.{◌≢◌}
use native.Mathlib.Omega.{arith}
use native.Mathlib.Decide.{ℕ_discrete}
use lib.ListN.{length, take, drop, drop_of_length-le}
use lib.Seq.{take_all}
use lib.Dec.{eqb}
use borrow.Author.Tests.{ne_eqb}
use Rattle.model.specs.Bytes.{Bytes}
use Rattle.model.specs.Lists.{first_or0}
use Rattle.model.specs.Map.{map_entry, set_entry, behind, runs, chain_blocks, blocks_free, put_chain, put_free}
use Rattle.laws.proofs.Entries.{map_entry_set_entry, map_entry_set_entry_other}
use Rattle.model.proofs.Map.{runs_rest, runs_end, runs_block, chain_once, chain_low, block_low, block_high, length_chain}
use Rattle.laws.proofs.Joins.{other}
use Rattle.blockmap.specs.Free.{free_from, IsFree}
use Rattle.blockmap.proofs.Chains.{at}
use Rattle.blockmap.proofs.Linking.{free_hit, free_all, free_same, join_at, standing, runs_at, take_chain, drop_chain, chain_keep}

-- ---- no block is kept, or all are

pub short_none : (l c : List ℕ) (j : ℕ) → j ≡ 0 → put_free l c ≡ put_free (put_chain l (take j c)) (drop j c)
unfolding put_chain
short_none l c j z = rw z

pub short_all : (n : ℕ) (l : List ℕ) (k s j : ℕ) → Bytes l → (0 < k → runs (map_entry l) n k s ≡ true) → j ≡ k
    → l ≡ put_free (put_chain l (take j (chain_blocks (map_entry l) k s))) (drop j (chain_blocks (map_entry l) k s))
unfolding put_free
short_all n l k s j h c q =
    let bs = chain_blocks (map_entry l) k s in
    let a : take j bs ≡ bs = take_all j bs (omega (arith, length_chain (map_entry l) k s)) in
    let d : drop j bs ≡ [] = drop_of_length-le bs {i = j} (omega (arith, length_chain (map_entry l) k s)) in
    rw (a, d) (sym (standing n l k s h c))

-- ---- the block at place i is the last that stays

module _ (n : ℕ) (l : List ℕ) (k s i : ℕ) (small : n ≤ 640) (big : 2048 ≤ length l) (chain : runs (map_entry l) n k s ≡ true) (within : i < k) where
  abbrev z : ℕ
  z = at (map_entry l) s i

  runs_z : runs (map_entry l) n (suc (k - suc i)) z ≡ true
  runs_z = runs_at (map_entry l) n k s i within chain

  z_low : 2 ≤ at (map_entry l) s i
  z_low = block_low n z (runs_block (map_entry l) n (k - suc i) z runs_z)

  z_high : at (map_entry l) s i ≤ n + 1
  z_high = block_high n z (runs_block (map_entry l) n (k - suc i) z runs_z)

  kept : (v y : ℕ) → v ≤ n + 1 → 2 ≤ y → y ≢ z → map_entry (set_entry l z v) y ≡ map_entry l y
  kept v y hv low ne = map_entry_set_entry_other l z v y (omega (arith, z_high)) (omega arith) z_low low ne

  -- with the entry 1 for it, those behind it are a chain as before
  rest_kept : (runs (map_entry (set_entry l z 1)) n (k - suc i) (map_entry l z) ≡ true)
      × (chain_blocks (map_entry (set_entry l z 1)) (k - suc i) (map_entry l z) ≡ chain_blocks (map_entry l) (k - suc i) (map_entry l z))
  unfolding chain_blocks
  rest_kept =
      let e = map_entry l in
      let r = runs_rest e n (k - suc i) z runs_z in
      chain_keep e (map_entry (set_entry l z 1)) n (k - suc i) (e z) r (λ b p.
      kept 1 b (omega arith) (chain_low e n (k - suc i) (e z) b r p)
      (other b z (chain_blocks e (k - suc i) (e z)) (chain_once e n (suc (k - suc i)) z z runs_z) p))

  pub rest_runs : (j y : ℕ) (m : List ℕ) (x : ℕ) → j ≡ suc i → y ≡ at (map_entry l) s i → m ≡ set_entry l y 1 → x ≡ map_entry l y
      → runs (map_entry m) n (k - j) x ≡ true
  rest_runs j y m x a b p q = rw (p, q, a, b) rest_kept.0

  pub short_leaves : (j y : ℕ) (m : List ℕ) (x : ℕ) → Bytes l → j ≡ suc i → y ≡ at (map_entry l) s i → m ≡ set_entry l y 1 → x ≡ map_entry l y
      → put_free m (chain_blocks (map_entry m) (k - j) x)
      ≡ put_free (put_chain l (take j (chain_blocks (map_entry l) k s))) (drop j (chain_blocks (map_entry l) k s))
  unfolding put_chain behind
  short_leaves j y m x h a b p q =
      let e = map_entry l in
      let front : put_chain l (chain_blocks e (suc i) s) ≡ set_entry l z 1 = ap (put_chain l) (sym (append-nil (chain_blocks e (suc i) s))) ∙ join_at l i s [] h in
      rw (p, q, a, b, take_chain e k s (suc i) (omega arith), drop_chain e k s i within, front, rest_kept.1)

-- ---- free blocks behind a chain of k blocks, z the last of them and x the lowest free block

first_free : (e : ℕ → ℕ) (n x : ℕ) → IsFree e n 2 x → blocks_free e n ≡ x ∷ free_from e n (x + 1)
first_free e n x f = free_all e n ∙ f.first ∙ free_hit e n x (omega (arith, f.high)) f.free

pub free_from_lem : (e : ℕ → ℕ) (n x : ℕ) → IsFree e n 2 x → blocks_free e n ≡ free_from e n x
free_from_lem e n x f = free_all e n ∙ f.first

first_taken : (x j : ℕ) (r : List ℕ) → 1 ≤ j → (behind (take j (x ∷ r)) ≡ x) × (first_or0 (take j (x ∷ r)) ≡ x)
unfolding behind first_or0
first_taken x zero r h = absurd (omega arith)
first_taken x (suc j) r h = (refl, refl)

pub first_new : (e : ℕ → ℕ) (n x j : ℕ) → IsFree e n 2 x → 1 ≤ j → (behind (take j (blocks_free e n)) ≡ x) × (first_or0 (take j (blocks_free e n)) ≡ x)
first_new e n x j f h = rw (first_free e n x f) (first_taken x j (free_from e n (x + 1)) h)

pub first_old : (e : ℕ → ℕ) (k s : ℕ) (r : List ℕ) → 0 < k → first_or0 (chain_blocks e k s ++ r) ≡ s
unfolding chain_blocks first_or0
first_old e zero s r h = absurd (omega arith)
first_old e (suc k) s r h = refl

pub no_chain : (e : ℕ → ℕ) (k s : ℕ) (r : List ℕ) → k ≡ 0 → chain_blocks e k s ++ r ≡ r
unfolding chain_blocks
no_chain e k s r h = rw h

-- none of them is taken: what stands is what is left
pub none_taken : (n : ℕ) (l : List ℕ) (k s need : ℕ) → Bytes l → (0 < k → runs (map_entry l) n k s ≡ true) → need ≡ 0
    → l ≡ put_chain l (chain_blocks (map_entry l) k s ++ take need (blocks_free (map_entry l) n))
none_taken n l k s need h c z = rw z (sym (ap (put_chain l) (append-nil (chain_blocks (map_entry l) k s)) ∙ standing n l k s h c))

pub none_first : (e : ℕ → ℕ) (k s : ℕ) (fs : List ℕ) (need : ℕ) → k ≡ 0 → need ≡ 0 → first_or0 (chain_blocks e k s ++ take need fs) ≡ 0
unfolding chain_blocks first_or0
none_first e k s fs need y z = rw (y, z)

module _ (n : ℕ) (l : List ℕ) (i s x : ℕ) (small : n ≤ 640) (big : 2048 ≤ length l) (chain : runs (map_entry l) n (suc i) s ≡ true)
    (f : IsFree (map_entry l) n 2 x) where
  abbrev w : ℕ
  w = at (map_entry l) s i

  last_entry : map_entry l w ≡ 1
  last_entry =
      let q : suc i - suc i ≡ 0 = omega arith in
      let r : runs (map_entry l) n (suc 0) w ≡ true = rw q at (runs_at (map_entry l) n (suc i) s i (omega arith) chain) in
      runs_end (map_entry l) n (map_entry l w) (runs_rest (map_entry l) n 0 w r)

  still : (y : ℕ) → 2 ≤ y → y ≢ w → map_entry (set_entry l w x) y ≡ map_entry l y
  still y low ne = kept n l (suc i) s i small big chain (omega arith) x y f.high low ne

  -- the free blocks stay free
  ext_zero : map_entry (set_entry l w x) x ≡ 0
  ext_zero = still x f.low (λ q. omega (arith, f.free, last_entry, ap (map_entry l) q)) ∙ f.free

  ext_free : free_from (map_entry (set_entry l w x)) n x ≡ free_from (map_entry l) n x
  ext_free = free_same (map_entry l) (map_entry (set_entry l w x)) n x (λ y p.
      elim (ℕ_discrete y w) [
        | yes q ↦ let v : map_entry (set_entry l w x) w ≡ x = map_entry_set_entry l w x (omega (arith, z_high n l (suc i) s i small big chain (omega arith)))
            (omega (arith, f.high)) in
            rw q (ne_eqb (map_entry (set_entry l w x) w) 0 (omega (arith, f.low)) ∙ sym (ne_eqb (map_entry l w) 0 (omega (arith, last_entry))))
        | no q ↦ ap (λ v. eqb v 0) (still y (omega (arith, f.low)) q)
      ])

  pub ext_requires : (y : ℕ) (m : List ℕ) (need : ℕ) → y ≡ at (map_entry l) s i → m ≡ set_entry l y x → need ≤ length (blocks_free (map_entry l) n)
      → (map_entry m x ≡ 0) × (need ≤ length (free_from (map_entry m) n x))
  ext_requires y m need b p h = rw (p, b) (ext_zero, omega (arith, ap length ext_free, ap length (free_from_lem (map_entry l) n x f)))

  pub ext_leaves : (k y : ℕ) (m : List ℕ) (need : ℕ) → Bytes l → 1 ≤ need → k ≡ suc i → y ≡ at (map_entry l) s i → m ≡ set_entry l y x
      → put_chain m (take need (free_from (map_entry m) n x)) ≡ put_chain l (chain_blocks (map_entry l) k s ++ take need (blocks_free (map_entry l) n))
  ext_leaves k y m need h one a b p =
      let r = take need (blocks_free (map_entry l) n) in
      let d = first_new (map_entry l) n x need f one in
      let new : take need (free_from (map_entry (set_entry l w x)) n x) ≡ r = ap (take need) (ext_free ∙ sym (free_from_lem (map_entry l) n x f)) in
      rw (p, a, b, new) (sym (join_at l i s r h ∙ ap (λ v. put_chain (set_entry l w v) r) d.0))
