-- `same` meets its contract. Assumes nothing.
use Rattle.directory.proofs.Parts.{name_part}
use Rattle.checks.proofs.Homes.{same_number, same_named}
use Rattle.checks.proofs.pairs.same.Goals as goal

pub returns-in-Number : goal.returns-in-Number
returns-in-Number c = same_number _ _ _ _ _ c.in-Number.is c.number_of.ensures c.number_of-in-Number.ensures

pub returns-in-Name : goal.returns-in-Name
returns-in-Name c =
    let one = name_part c.args.image.now c.args.d c.requires.stands in
    let two = name_part c.args.image.now c.args.e c.requires.stands_2 in
    same_named _ _ _ _ _ _ c.in-Name.is c.same_name.ensures one two
