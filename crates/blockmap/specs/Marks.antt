-- Checks 8 and 9 as code does them: marks, one to a block, 1 for those that a fork has claimed so far.
-- e b is the entry of block b, n is N, a is A, t are the marks.
use Rattle.std.specs.Prelude.{ℕ, Bool, true, ◌&&◌, List, [], ◌∷◌, get_or, set, eqb, ltb}
use Rattle.model.specs.Lists.{any, from}
use Rattle.model.specs.Directory.{fork_blocks}
use Rattle.model.specs.Check.{good_fork}
use Rattle.model.specs.declared.ForkFacts.{ForkFacts}

-- none of the blocks is marked
unfoldable pub fresh : List ℕ → List ℕ → Bool
fresh t [] = true
fresh t (b ∷ bs) = eqb (get_or t b 0) 0 && fresh t bs

-- the marks with each of the blocks set to 1
unfoldable pub marked : List ℕ → List ℕ → List ℕ
marked t [] = t
marked t (b ∷ bs) = marked (set t b 1) bs

-- the fork is good and has no marked block
unfoldable pub claims : (ℕ → ℕ) → ℕ → ℕ → List ℕ → ForkFacts → Bool
claims e n a t g = good_fork e n a g && fresh t (fork_blocks e a g)

-- so is each fork, one after the other, with the marks of those before it
unfoldable pub claim_all : (ℕ → ℕ) → ℕ → ℕ → List ℕ → List ForkFacts → Bool
claim_all e n a t [] = true
claim_all e n a t (g ∷ gs) = claims e n a t g && claim_all e n a (marked t (fork_blocks e a g)) gs

-- a block without a mark has an entry above 0
unfoldable pub unowned : (ℕ → ℕ) → ℕ → List ℕ → Bool
unowned e n t = any (λ b. ltb 0 (e b) && eqb (get_or t b 0) 0) (from n 2)
