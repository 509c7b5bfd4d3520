-- `sort_value` meets its contract. Assumes nothing.
use Prim.Native.Nat.{ℕ, zero, suc, ◌+◌, ◌≤◌, ◌<◌}
use mathlib.Core.Path.{◌≡◌}
use native.Mathlib.Omega.{arith}
use borrow.Author.Tests.{le-leb, lt-leb}
use Rattle.model.specs.Map.{sort_of}
use Rattle.model.specs.declared.MapValue.TheVariants.{Next, Bad}
use Rattle.blockmap.proofs.scan.sort_value.Goals as goal

next_block : (v n : ℕ) → 2 ≤ v → v ≤ n + 1 → Next (record { 0 = v }) ≡ sort_of n v
unfolding sort_of
next_block zero n h k = absurd (omega arith)
next_block (suc zero) n h k = absurd (omega arith)
next_block (suc (suc v)) n h k = rw (le-leb (suc (suc v)) (n + 1) k)

too_large : (v n : ℕ) → 2 ≤ v → n + 1 < v → Bad ≡ sort_of n v
unfolding sort_of
too_large zero n h k = absurd (omega arith)
too_large (suc zero) n h k = absurd (omega arith)
too_large (suc (suc v)) n h k = rw (lt-leb (suc (suc v)) (n + 1) k)

pub returns-in-0 : goal.returns-in-0
unfolding sort_of
returns-in-0 c = rw c.in-0.is

pub returns-in-1 : goal.returns-in-1
unfolding sort_of
returns-in-1 c = rw c.in-1.is

pub returns-in-2-to-4094 : goal.returns-in-2-to-4094
returns-in-2-to-4094 c = next_block _ _ (omega arith) (omega arith)

pub returns-in_default : goal.returns-in_default
returns-in_default c = too_large _ _ (omega arith) (omega arith)

pub returns-in_default-2 : goal.returns-in_default-2
returns-in_default-2 c = too_large _ _ (omega arith) (omega arith)
