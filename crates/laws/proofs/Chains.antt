-- Chains and forks as lists of blocks: a good fork is one whose fields fit a linked list.
use mathlib.Core.Path.{◌≡◌, refl, sym}
use mathlib.Core.Bool.{true}
use mathlib.Core.List.{List, [], ◌∷◌}
use Prim.Native.Nat.{ℕ, zero, suc, ◌*◌, ◌/◌, ◌≤◌, ◌<◌}
use native.Mathlib.Omega.{arith}
use native.Mathlib.Decide.{ℕ_discrete}
use native.Mathlib.Nat.{div-add-mod', zero-div, mul-div_left, mul-mod_left}
use lib.ListN.{length}
use borrow.Author.Tests.{eq-eqb, ne_eqb, le-leb, lt-ltb}
use Rattle.model.specs.Lists.{first_or0}
use Rattle.model.specs.Map.{behind, runs, chain_blocks}
use Rattle.model.specs.Directory.{block_count, fork_blocks}
use Rattle.model.specs.Check.{empty_fork, full_fork, good_fork}
use Rattle.model.specs.declared.ForkFacts.{ForkFacts}
use Rattle.model.proofs.Map.{block_low, block_high, is_block_lem, runs_block, runs_rest, runs_more, runs_end, end_runs, chain_runs, length_chain}
use Rattle.model.proofs.Check.{good_fork_lem}
use Rattle.laws.proofs.Sound.{Linked}

-- a chain's blocks are linked, and s is the first of them, or 1 where there are none
pub runs_linked : (e : ℕ → ℕ) (n k s : ℕ) → runs e n k s ≡ true → Linked e n (chain_blocks e k s) × (behind (chain_blocks e k s) ≡ s)
unfolding chain_blocks Linked behind
runs_linked e n zero s h = (tt, sym (runs_end e n s h))
runs_linked e n (suc k) s h =
    let b = runs_block e n k s h in
    let r = runs_linked e n k (e s) (runs_rest e n k s h) in
    ((block_low n s b, block_high n s b, sym r.1, r.0), refl)

-- linked blocks are a chain's
pub linked_runs : (e : ℕ → ℕ) (n : ℕ) (bs : List ℕ) → Linked e n bs → runs e n (length bs) (behind bs) ≡ true
unfolding Linked behind
linked_runs e n [] h = end_runs e n 1 refl
linked_runs e n (b ∷ bs) h = runs_more e n (length bs) b (is_block_lem n b h.0 h.1) (rw h.2 (linked_runs e n bs h.3))

pub linked_blocks : (e : ℕ → ℕ) (n : ℕ) (bs : List ℕ) → Linked e n bs → chain_blocks e (length bs) (behind bs) ≡ bs
unfolding chain_blocks Linked behind
linked_blocks e n [] h = refl
linked_blocks e n (b ∷ bs) h = rw (h.2, linked_blocks e n bs h.3)

-- ---- forks

-- the fields of a fork with these blocks
pub record Fields (a : ℕ) (g : ForkFacts) (bs : List ℕ) : Type 0 where
  pub start : g.start.0 ≡ first_or0 bs
  pub physical : g.physical ≡ length bs * a
  pub logical : g.logical ≤ length bs * a

-- as many as the count says
pub length_fork_blocks : (e : ℕ → ℕ) (a : ℕ) (g : ForkFacts) → length (fork_blocks e a g) ≡ block_count a g
unfolding fork_blocks
length_fork_blocks e a g = length_chain e (block_count a g) g.start.0

first_blocks : (e : ℕ → ℕ) (a k s : ℕ) → 0 < k * a → first_or0 (chain_blocks e k s) ≡ s
unfolding first_or0 chain_blocks
first_blocks e a zero s h = absurd (omega arith)
first_blocks e a (suc k) s h = refl

no_blocks : (e : ℕ → ℕ) (a p s : ℕ) → p ≡ 0 → chain_blocks e (p / a) s ≡ []
unfolding chain_blocks
no_blocks e a p s z = rw (z, zero-div)

-- a good fork's fields fit its blocks, which are linked
pub good : (e : ℕ → ℕ) (n a : ℕ) (g : ForkFacts) → good_fork e n a g ≡ true → Fields a g (fork_blocks e a g) × Linked e n (fork_blocks e a g)
unfolding fork_blocks block_count Linked first_or0
good e n a g h =
    let s = good_fork_lem e n a g h in
    elim (ℕ_discrete g.start.0 0) [
      | yes z ↦ rw (no_blocks e a g.physical g.start.0 (s.empty z).1)
          (record { start = z; physical = omega (arith, (s.empty z).1); logical = omega (arith, (s.empty z).0) }, tt)
      | no z ↦ let k = g.physical / a in
          let len = length_chain e k g.start.0 in
          let whole : g.physical ≡ k * a = omega (arith, div-add-mod' g.physical a, s.whole z) in (
            record {
              start = sym (first_blocks e a k g.start.0 (omega (arith, s.some z)));
              physical = rw len whole;
              logical = rw len (omega (arith, s.within z));
            },
            (runs_linked e n k g.start.0 (chain_runs e n (s.chain z))).0,
          )
    ]

module _ (e : ℕ → ℕ) (n a : ℕ) (g : ForkFacts) where
  -- and a fork with these fields has just these blocks, and is good
  pub fields_blocks : (bs : List ℕ) → 0 < a → Linked e n bs → Fields a g bs → fork_blocks e a g ≡ bs
  unfolding fork_blocks block_count first_or0 behind
  fields_blocks [] pos h f = no_blocks e a g.physical g.start.0 (omega (arith, f.physical))
  fields_blocks (b ∷ bs) pos h f = rw (f.physical, mul-div_left, f.start) (linked_blocks e n (b ∷ bs) h)

  pub fields_good : (bs : List ℕ) → 0 < a → Linked e n bs → Fields a g bs → good_fork e n a g ≡ true
  unfolding good_fork first_or0 empty_fork full_fork block_count Linked behind
  fields_good [] pos h f =
      rw (eq-eqb g.start.0 0 f.start, eq-eqb g.logical 0 (omega (arith, f.logical)), eq-eqb g.physical 0 (omega (arith, f.physical)))
  fields_good (b ∷ bs) pos h f =
      let p : 0 < g.physical = omega (arith, f.physical) in
      let l : g.logical ≤ g.physical = omega (arith, f.physical, f.logical) in
      rw (
        ne_eqb g.start.0 0 (omega (arith, f.start, h.0)),
        lt-ltb 0 g.physical p,
        le-leb g.logical g.physical l,
        f.physical,
        mul-mod_left,
        mul-div_left,
        f.start,
      )
      (linked_runs e n (b ∷ bs) h)
