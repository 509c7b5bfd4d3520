-- Chains: how many blocks one can have, and the block at a place of it.
use Prim.Native.Nat.{ℕ, zero, suc, ◌+◌, ◌≤◌, ◌<◌}
use mathlib.Core.Path.{◌≡◌, refl, ap, ◌∙◌}
use mathlib.Core.Bool.{true, cond}
use mathlib.Core.List.{List, [], ◌∷◌, append-nil}
use native.Mathlib.Omega.{arith}
use lib.ListN.{length, get_or}
use lib.Dec.{eqb}
use borrow.Author.Tests.{eq-eqb, ne_eqb}
use Rattle.model.specs.Lists.{flat, times}
use Rattle.model.specs.Map.{runs, chain_blocks}
use Rattle.model.proofs.Map.{block_low, block_high, runs_block, runs_rest, chain_once, length_chain}
use Rattle.laws.proofs.Sound.{held, Each, linked_keep, Sound}
use Rattle.laws.proofs.Chains.{runs_linked}
use Rattle.laws.proofs.Free.{free_count_lem}
use Rattle.blockmap.specs.Places.{HasPlace, IsPlace}

-- ---- a chain has at most N blocks

-- the entries of these blocks, and 0 for every other block
only : (ℕ → ℕ) → List ℕ → ℕ → ℕ
only e bs b = cond (eqb (times b bs) 0) 0 (e b)

only_sound : (e : ℕ → ℕ) (n k s : ℕ) → runs e n k s ≡ true → Sound (only e (chain_blocks e k s)) n (chain_blocks e k s ∷ [])
unfolding only held Each
only_sound e n k s h =
    let bs = chain_blocks e k s in
    record {
      linked = (linked_keep e (only e bs) n bs (runs_linked e n k s h).0 (λ b p. rw (ne_eqb (times b bs) 0 (omega arith))), tt);
      once = λ b. omega (arith, chain_once e n k s b h);
      rest = λ b low high z. rw (eq-eqb (times b bs) 0 (omega arith));
    }

pub chain_most : (e : ℕ → ℕ) (n k s : ℕ) → runs e n k s ≡ true → k ≤ n
unfolding flat
chain_most e n k s h =
    let bs = chain_blocks e k s in
    omega (arith, free_count_lem (only e bs) n (bs ∷ []) (only_sound e n k s h), ap length (append-nil bs), length_chain e k s)

-- ---- the block at a place

-- the block at place i of the chain from s
abbrev pub at : (ℕ → ℕ) → ℕ → ℕ → ℕ
at e s i = get_or (chain_blocks e (suc i) s) i 0

-- it is the same in a longer chain
pub at_place : (e : ℕ → ℕ) (s k i : ℕ) → i < k → at e s i ≡ get_or (chain_blocks e k s) i 0
unfolding chain_blocks
at_place e s zero i h = absurd (omega arith)
at_place e s (suc k) zero h = refl
at_place e s (suc k) (suc i) h = at_place e (e s) k i (omega arith)

pub at_first : (e : ℕ → ℕ) (s : ℕ) → s ≡ at e s 0
unfolding chain_blocks
at_first e s = refl

-- the next one is what its entry says
at_suc : (e : ℕ → ℕ) (s i : ℕ) → e (at e s i) ≡ at e s (suc i)
unfolding chain_blocks
at_suc e s zero = refl
at_suc e s (suc i) = at_suc e (e s) i

pub at_next : (e : ℕ → ℕ) (s i : ℕ) → e (at e s i) ≡ at e s (i + 1)
at_next e s i = at_suc e s i ∙ ap (at e s) (omega arith)

at_block : (e : ℕ → ℕ) (n s k i : ℕ) → runs e n k s ≡ true → i < k → (2 ≤ at e s i) × (at e s i ≤ n + 1)
unfolding chain_blocks
at_block e n s zero i h l = absurd (omega arith)
at_block e n s (suc k) zero h l = let b = runs_block e n k s h in (block_low n s b, block_high n s b)
at_block e n s (suc k) (suc i) h l = at_block e n (e s) k i (runs_rest e n k s h) (omega arith)

-- up to the place asked, each is a block with an entry in the map
pub at_inside : (e : ℕ → ℕ) (s place i : ℕ) → HasPlace e s place → i ≤ place → (2 ≤ at e s i) × (at e s i ≤ 641)
at_inside e s place i h l =
    let b = at_block e h.n s h.k i h.chain (omega (arith, h.within)) in
    (b.0, omega (arith, b.1, h.small))

pub is_place : (e : ℕ → ℕ) (s place : ℕ) → HasPlace e s place → IsPlace e s place (at e s place)
is_place e s place h = record {
  stands = λ k l. at_place e s k place l;
  low = (at_inside e s place place h (omega arith)).0;
  high = λ n k c l. (at_block e n s k place c l).1;
}
