-- Entries e and e' that agree on the blocks 2 to N+1, as those of a decoded map and of its image do: checks 5 and 8 to 10 say the
-- same of both. Only a chain that leaves these blocks can differ, and its fork is refused from both.
use Prim.Native.Nat.{ℕ, zero, suc, ◌+◌, ◌/◌, ◌≤◌}
use mathlib.Core.Path.{◌≡◌, refl, sym, ap, ◌∙◌}
use mathlib.Core.Bool.{Bool, true, false, ◌&&◌}
use mathlib.Core.List.{List, [], ◌∷◌, ◌++◌}
use native.Mathlib.Omega.{arith}
use native.Mathlib.Decide.{ℕ_discrete}
use lib.ListN.{length, get_or}
use lib.Dec.{eqb, ltb}
use Rattle.model.specs.Lists.{flat}
use Rattle.model.specs.Map.{sort_of, is_bad, is_block, runs, chain_blocks, blocks_free}
use Rattle.model.specs.Directory.{block_count, fork_blocks, owned_blocks}
use Rattle.model.specs.Check.{good_fork, full_fork, fires5, SoundFork}
use Rattle.model.specs.declared.ForkFacts.{ForkFacts}
use Rattle.model.proofs.Lists.{and-true}
use Rattle.model.proofs.Map.{block_low, block_high, runs_block, runs_rest, chain_runs}
use Rattle.model.proofs.Check.{good_fork_lem}
use Rattle.blockmap.specs.Marks.{fresh, marked, claims, claim_all, unowned}
use Rattle.blockmap.proofs.Ranges.{any_same, keep_same}
use Rattle.blockmap.proofs.Walks.{runs_in, runs_out}
use Rattle.blockmap.proofs.Marks.{no_blocks, claim_on, claim_not}
use Rattle.checks.specs.Numbers.{Claims}

module _ (e e' : ℕ → ℕ) (n : ℕ) (agree : (b : ℕ) → 2 ≤ b → b ≤ n + 1 → e b ≡ e' b) where
  -- ---- the scans

  pub five_alike : fires5 e n ≡ fires5 e' n
  unfolding fires5
  five_alike = any_same _ _ n 2 (λ b low high. ap (λ v. is_bad (sort_of n v)) (agree b low (omega arith)))

  pub unowned_alike : (t : List ℕ) → unowned e n t ≡ unowned e' n t
  unfolding unowned
  unowned_alike t = any_same _ _ n 2 (λ b low high. ap (λ v. ltb 0 v && eqb (get_or t b 0) 0) (agree b low (omega arith)))

  pub free_alike : length (blocks_free e n) ≡ length (blocks_free e' n)
  unfolding blocks_free
  free_alike = ap length (keep_same _ _ n 2 (λ b low high. ap (λ v. eqb v 0) (agree b low (omega arith))))

  -- ---- chains

  runs_alike : (k s : ℕ) → runs e n k s ≡ runs e' n k s
  unfolding runs
  runs_alike zero s = refl
  runs_alike (suc k) s = go (is_block n s) refl (runs_alike k (e s))
    where
      go : (t : Bool) → is_block n s ≡ t → runs e n k (e s) ≡ runs e' n k (e s) → runs e n (suc k) s ≡ runs e' n (suc k) s
      go true p r = runs_in e n k s p ∙ r ∙ ap (runs e' n k) (agree s (block_low n s p) (block_high n s p)) ∙ sym (runs_in e' n k s p)
      go false p r = runs_out e n k s p ∙ sym (runs_out e' n k s p)

  blocks_alike : (k s : ℕ) → runs e n k s ≡ true → chain_blocks e k s ≡ chain_blocks e' k s
  unfolding chain_blocks
  blocks_alike zero s h = refl
  blocks_alike (suc k) s h =
      let p = runs_block e n k s h in
      ap (λ bs. s ∷ bs) (blocks_alike k (e s) (runs_rest e n k s h) ∙ ap (chain_blocks e' k) (agree s (block_low n s p) (block_high n s p)))

  -- ---- forks

  module _ (a : ℕ) where
    good_alike : (g : ForkFacts) → good_fork e n a g ≡ good_fork e' n a g
    unfolding good_fork full_fork
    good_alike g = rw (runs_alike (block_count a g) g.start.0)

    fork_alike : (g : ForkFacts) → SoundFork e n a g → fork_blocks e a g ≡ fork_blocks e' a g
    unfolding fork_blocks block_count
    fork_alike g s =
        elim (ℕ_discrete g.start.0 0) [
          | yes z ↦ no_blocks e n a [] g (s.empty z).1 ∙ sym (no_blocks e' n a [] g (s.empty z).1)
          | no z ↦ blocks_alike (g.physical / a) g.start.0 (chain_runs e n (s.chain z))
        ]

    -- the claim of one fork
    module _ (t : List ℕ) (g : ForkFacts) where
      claimed_alike : claims e n a t g ≡ true → fork_blocks e a g ≡ fork_blocks e' a g
      unfolding claims
      claimed_alike h = fork_alike g (good_fork_lem e n a g (and-true (good_fork e n a g) (fresh t (fork_blocks e a g)) h).0)

      claims_alike : claims e n a t g ≡ claims e' n a t g
      unfolding claims
      claims_alike = go (good_fork e n a g) refl
        where
          go : (r : Bool) → good_fork e n a g ≡ r → (good_fork e n a g && fresh t (fork_blocks e a g)) ≡ (good_fork e' n a g && fresh t (fork_blocks e' a g))
          go true h = ap (λ r. r && fresh t (fork_blocks e a g)) (good_alike g) ∙ ap (λ bs. good_fork e' n a g && fresh t bs) (fork_alike g (good_fork_lem e n a g h))
          go false h = ap (λ r. r && fresh t (fork_blocks e a g)) h ∙ sym (ap (λ r. r && fresh t (fork_blocks e' a g)) (sym (good_alike g) ∙ h))

    -- the claims of all
    all_alike : (t : List ℕ) (gs : List ForkFacts) → claim_all e n a t gs ≡ claim_all e' n a t gs
    unfolding claim_all
    all_alike t [] = refl
    all_alike t (g ∷ gs) = go (claims e n a t g) refl (all_alike (marked t (fork_blocks e a g)) gs)
      where
        go : (r : Bool) → claims e n a t g ≡ r → claim_all e n a (marked t (fork_blocks e a g)) gs ≡ claim_all e' n a (marked t (fork_blocks e a g)) gs
            → claim_all e n a t (g ∷ gs) ≡ claim_all e' n a t (g ∷ gs)
        go true h q =
            claim_on e n a t g gs h ∙ q
            ∙ ap (λ bs. claim_all e' n a (marked t bs) gs) (claimed_alike t g h)
            ∙ sym (claim_on e' n a t g gs (sym (claims_alike t g) ∙ h))
        go false h q = claim_not e n a t g gs h ∙ sym (claim_not e' n a t g gs (sym (claims_alike t g) ∙ h))

    owned_alike : (t : List ℕ) (gs : List ForkFacts) → claim_all e n a t gs ≡ true → owned_blocks e a gs ≡ owned_blocks e' a gs
    unfolding owned_blocks flat claim_all
    owned_alike t [] h = refl
    owned_alike t (g ∷ gs) h =
        let p = and-true (claims e n a t g) (claim_all e n a (marked t (fork_blocks e a g)) gs) h in
        ap (λ bs. bs ++ owned_blocks e a gs) (claimed_alike t g p.0)
        ∙ ap (λ bs. fork_blocks e' a g ++ bs) (owned_alike (marked t (fork_blocks e a g)) gs p.1)

    pub claims_all_alike : (t : List ℕ) (gs : List ForkFacts) (r : Bool) (u : List ℕ) → Claims e n a t gs r u → Claims e' n a t gs r u
    claims_all_alike t gs r u c = record {
      claimed = c.claimed ∙ all_alike t gs;
      marks = λ y. c.marks y ∙ ap (marked t) (owned_alike t gs (sym c.claimed ∙ y));
    }
