-- `home` meets its contract. Assumes nothing.
use Rattle.directory.proofs.Parts.{name_part}
use Rattle.checks.proofs.Homes.{home_number, home_name}
use Rattle.checks.proofs.table.home.Goals as goal

pub returns-in-Number : goal.returns-in-Number
returns-in-Number c = home_number _ _ _ _ c.in-Number.is c.spread.ensures c.number_of.ensures

pub returns-in-Name : goal.returns-in-Name
returns-in-Name c = home_name _ _ _ _ _ c.in-Name.is c.spread-in-Name.ensures c.hash_name.ensures (name_part c.args.image.now c.args.e c.requires.stands)
