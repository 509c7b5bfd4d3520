-- `any_bad` meets its contract. The invariant: the answer is that of the entries passed. Assumes nothing.
use mathlib.Core.Path.{◌≡◌}
use lib.ListN.{take}
use Rattle.std.specs.List.{list_any}
use Rattle.model.specs.Map.{sort_of, is_bad}
use Rattle.blockmap.proofs.scan.any_bad.Given as goal

abbrev pub invariant-loop-value : goal.invariant-loop-value
invariant-loop-value l = l.found ≡ list_any (λ v. is_bad (sort_of l.n v)) (take l.value-index l.value-items)
