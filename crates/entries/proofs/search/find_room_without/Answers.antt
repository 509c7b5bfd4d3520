-- `find_room_without` meets its contract. Assumes nothing.
use Rattle.std.proofs.Common.{◌+◌, ◌*◌, rules}
use Rattle.directory.specs.Cursor.{Stands}
use Rattle.entries.specs.Blocks.{Block, StandsIn}
use Rattle.entries.proofs.Rooming.{block_of_lem}
use Rattle.entries.proofs.OnceOut.{stands_in, end_after}
use Rattle.entries.proofs.Searching.{room_searched}
use Rattle.entries.proofs.search.find_room_without.Goals as goal

pub first_room-requires-clause-callable : goal.first_room-requires-clause-callable
first_room-requires-clause-callable c i h =
    let a = c.args in
    let here : Block a.image.now (a.from.base + 512 * i) = block_of_lem a.image.now a.from c.requires.passes c.requires.at_value i h in
    let there : StandsIn a.image.now (a.from.base + 512 * i) a.e
    = stands_in a.image.now a.from c.requires.passes c.requires.at_value a.e c.requires.stands c.requires.lies i in
    let stands : Stands a.image.now a.e = c.requires.stands in
    search rules

pub returns : goal.returns
returns c l after p =
    let a = c.args in
    room_searched c.first_room.ensures after
    (λ i end k q. end_after a.image.now a.from c.requires.passes c.requires.at_value a.e c.requires.stands l i end (search rules) after p)
