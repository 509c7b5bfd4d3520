-- A call's choice of fork has no third case: 0 is the data fork, any other number the resource fork.
use Rattle.std.specs.Prelude.{ℕ, zero, suc}
use Rattle.model.specs.declared.Fork.{Fork}
use Rattle.model.specs.declared.Fork.TheVariants.{Data, Resource}

unfoldable pub fork_numbered : ℕ → Fork
fork_numbered zero = Data
fork_numbered (suc n) = Resource
