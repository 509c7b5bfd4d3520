-- `fork_numbered` meets its contract. Assumes nothing.
use Prim.Native.Nat.{ℕ, zero, suc}
use mathlib.Core.Path.{◌≡◌, refl}
use Rattle.model.specs.declared.Fork.TheVariants.{Resource}
use Rattle.archive.specs.Forks.{fork_numbered}
use Rattle.archive.proofs.fork_numbered.Goals as goal

any_other : (n : ℕ) → (n ≡ 0 → ⊥) → Resource ≡ fork_numbered n
unfolding fork_numbered
any_other zero h = absurd (h refl)
any_other (suc n) h = refl

pub returns-then-number-eq0 : goal.returns-then-number-eq0
unfolding fork_numbered
returns-then-number-eq0 c = rw c.if-number-eq0.true

pub returns : goal.returns
returns c = any_other c.args.number c.if-number-eq0.false
