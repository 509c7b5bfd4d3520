-- `free_chain` meets its contract. The invariant: the blocks still due are a chain's, and freeing them leaves what is promised.
-- Assumes nothing.
use Prim.Native.Nat.{◌-◌}
use mathlib.Core.Path.{◌≡◌}
use lib.ListN.{length}
use Rattle.model.specs.Map.{map_entry, chain_blocks, put_free}
use Rattle.blockmap.proofs.Frees.{Freeing}
use Rattle.blockmap.proofs.free.free_chain.Given as goal

abbrev pub invariant-loop : goal.invariant-loop
invariant-loop l = (length l.image ≡ length l.initial.image) × Freeing l.n l.image l.b (l.k - l.counter) (put_free l.initial.image (chain_blocks (map_entry l.initial.image) l.k l.initial.b))
