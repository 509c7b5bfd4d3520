-- `empty` meets its contract, by laws, so that its zeros are never counted. Assumes nothing.
use Prim.Native.Nat.{ℕ}
use lib.ListN.{length-replicate}
use Rattle.checks.proofs.Kept.{zeros_at}
use Rattle.checks.proofs.table.empty.Goals as goal

pub returns : goal.returns
returns c = record { long = length-replicate {A = ℕ} 6400 0; free = λ i. zeros_at 6400 i }
