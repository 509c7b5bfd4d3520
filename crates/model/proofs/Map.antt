-- Laws of the map: the sort of an entry, and chains. A chain never repeats a block, and all its blocks are 2 to N+1.
use Prim.Native.Nat.{ℕ, zero, suc, ◌+◌, ◌≤◌, ◌<◌}
use mathlib.Core.Path.{◌≡◌, refl, sym, ap, ◌∙◌}
use mathlib.Core.Bool.{Bool, true, false, not, ◌&&◌, cond}
use native.Mathlib.Omega.{arith}
use native.Mathlib.Decide.{ℕ_discrete}
use lib.ListN.{length}
use lib.Dec.{leb}
use borrow.Author.Tests.{eq-eqb, eqb-true, leb-true, le-leb}
use Rattle.model.specs.Lists.{times}
use Rattle.model.specs.Map.{is_block, sort_of, is_bad, Chain, last, more, runs, chain_blocks}
use Rattle.model.specs.declared.MapValue.TheVariants.{Next, Bad}
use Rattle.model.proofs.Lists.{and-true}
use Rattle.model.proofs.Times.{times_head, times_skip}

-- an entry is bad where it is above N+1
pub bad_above : (n v : ℕ) → is_bad (sort_of n v) ≡ not (leb v (n + 1))
unfolding is_bad sort_of
bad_above n zero = rw (le-leb 0 (n + 1) (omega arith))
bad_above n (suc zero) = rw (le-leb 1 (n + 1) (omega arith))
bad_above n (suc (suc v)) = go (leb (suc (suc v)) (n + 1))
  where
    go : (t : Bool) → is_bad (cond t (Next (record { 0 = suc (suc v) })) Bad) ≡ not t
    go true = refl
    go false = refl

-- ---- block numbers

pub block_low : (n b : ℕ) → is_block n b ≡ true → 2 ≤ b
unfolding is_block
block_low n b h = leb-true 2 b (and-true (leb 2 b) (leb b (n + 1)) h).0

pub block_high : (n b : ℕ) → is_block n b ≡ true → b ≤ n + 1
unfolding is_block
block_high n b h = leb-true b (n + 1) (and-true (leb 2 b) (leb b (n + 1)) h).1

pub is_block_lem : (n b : ℕ) → 2 ≤ b → b ≤ n + 1 → is_block n b ≡ true
unfolding is_block
is_block_lem n b low high = rw (le-leb 2 b low, le-leb b (n + 1) high)

-- ---- chains

module _ (e : ℕ → ℕ) (n : ℕ) where
  runs_suc : (k s : ℕ) → runs e n (suc k) s ≡ (is_block n s && runs e n k (e s))
  unfolding runs
  runs_suc k s = go (is_block n s)
    where
      go : (t : Bool) → elim t as (λ _. Bool) [ true ↦ runs e n k (e s) | false ↦ false ] ≡ (t && runs e n k (e s))
      go true = refl
      go false = refl

  -- a chain's first entry is a block's number, and from its entry runs the rest
  pub runs_block : (k s : ℕ) → runs e n (suc k) s ≡ true → is_block n s ≡ true
  runs_block k s h = (and-true (is_block n s) (runs e n k (e s)) (sym (runs_suc k s) ∙ h)).0

  pub runs_rest : (k s : ℕ) → runs e n (suc k) s ≡ true → runs e n k (e s) ≡ true
  runs_rest k s h = (and-true (is_block n s) (runs e n k (e s)) (sym (runs_suc k s) ∙ h)).1

  pub runs_more : (k s : ℕ) → is_block n s ≡ true → runs e n k (e s) ≡ true → runs e n (suc k) s ≡ true
  runs_more k s p q = runs_suc k s ∙ rw (p, q)

  -- behind the last block stands 1
  pub runs_end : (s : ℕ) → runs e n zero s ≡ true → s ≡ 1
  unfolding runs
  runs_end s h = eqb-true s 1 h

  pub end_runs : (s : ℕ) → s ≡ 1 → runs e n zero s ≡ true
  unfolding runs
  end_runs s h = eq-eqb s 1 h

  -- the test and document 01's own recursion say the same
  pub runs_chain : (k s : ℕ) → runs e n (suc k) s ≡ true → Chain e n (suc k) s
  runs_chain zero s h =
      let b = runs_block 0 s h in
      last s (block_low n s b) (block_high n s b) (runs_end (e s) (runs_rest 0 s h))
  runs_chain (suc k) s h =
      let b = runs_block (suc k) s h in
      more k s (block_low n s b) (block_high n s b) (runs_chain k (e s) (runs_rest (suc k) s h))

  pub chain_runs : {k s : ℕ} → Chain e n k s → runs e n k s ≡ true
  chain_runs (last s low high q) = runs_more 0 s (is_block_lem n s low high) (end_runs (e s) q)
  chain_runs (more k s low high c) = runs_more (suc k) s (is_block_lem n s low high) (chain_runs c)

  -- a block starts chains of one length only
  pub runs_unique : (j k s : ℕ) → runs e n j s ≡ true → runs e n k s ≡ true → j ≡ k
  runs_unique zero zero s p q = refl
  runs_unique zero (suc k) s p q = absurd (omega (arith, runs_end s p, block_low n s (runs_block k s q)))
  runs_unique (suc j) zero s p q = absurd (omega (arith, runs_end s q, block_low n s (runs_block j s p)))
  runs_unique (suc j) (suc k) s p q = ap suc (runs_unique j k (e s) (runs_rest j s p) (runs_rest k s q))

  -- a block of a chain starts a chain that is no longer
  pub runs_within : (k s b : ℕ) → runs e n k s ≡ true → 1 ≤ times b (chain_blocks e k s) → (j : ℕ) × (j < k) × (runs e n (suc j) b ≡ true)
  unfolding chain_blocks times
  runs_within zero s b h p = absurd (omega arith)
  runs_within (suc k) s b h p =
      elim (ℕ_discrete b s) [
        | yes q ↦ (k, omega arith, rw q h)
        | no q ↦ let r = runs_within k (e s) b (runs_rest k s h) (omega (arith, times_skip b s (chain_blocks e k (e s)) q)) in (r.0, omega (arith, r.1), r.2)
      ]

  pub chain_low : (k s b : ℕ) → runs e n k s ≡ true → 1 ≤ times b (chain_blocks e k s) → 2 ≤ b
  chain_low k s b h p = let r = runs_within k s b h p in block_low n b (runs_block r.0 b r.2)

  pub chain_high : (k s b : ℕ) → runs e n k s ≡ true → 1 ≤ times b (chain_blocks e k s) → b ≤ n + 1
  chain_high k s b h p = let r = runs_within k s b h p in block_high n b (runs_block r.0 b r.2)

  -- a chain never repeats a block
  pub chain_once : (k s b : ℕ) → runs e n k s ≡ true → times b (chain_blocks e k s) ≤ 1
  unfolding chain_blocks
  chain_once zero s b h = unfold times in omega arith
  chain_once (suc k) s b h =
      elim (ℕ_discrete b s) [
        | yes q ↦ elim (ℕ_discrete (times s (chain_blocks e k (e s))) 0) [
          | yes z ↦ rw q (omega (arith, times_head s (chain_blocks e k (e s))))
          | no z ↦ let r = runs_within k (e s) s (runs_rest k s h) (omega arith) in absurd (omega (arith, runs_unique (suc k) (suc r.0) s h r.2, r.1))
        ]
        | no q ↦ omega (arith, times_skip b s (chain_blocks e k (e s)) q, chain_once k (e s) b (runs_rest k s h))
      ]

pub length_chain : (e : ℕ → ℕ) (k s : ℕ) → length (chain_blocks e k s) ≡ k
unfolding chain_blocks
length_chain e zero s = refl
length_chain e (suc k) s = ap suc (length_chain e k (e s))
