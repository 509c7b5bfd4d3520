-- `find_room` meets its contract. Assumes nothing.
use Rattle.std.proofs.Common.{◌+◌, ◌*◌, rules}
use Rattle.entries.specs.Blocks.{Block}
use Rattle.entries.proofs.Rooming.{block_of_lem}
use Rattle.entries.proofs.Searching.{room_searched}
use Rattle.entries.proofs.search.find_room.Goals as goal

pub first_room-requires-clause-callable : goal.first_room-requires-clause-callable
first_room-requires-clause-callable c i h =
    let here : Block c.args.image.now (c.args.from.base + 512 * i)
    = block_of_lem c.args.image.now c.args.from c.requires.passes c.requires.at_value i h in
    search rules

pub returns : goal.returns
returns c = room_searched c.first_room.ensures c.args.image.now (λ i end k p. search rules)
