-- `history::part_cases` meets its contract.
use Rattle.history.proofs.PartCases.{part_cases}
use Rattle.history.proofs.part_cases.Goals as goal

pub returns : goal.returns
returns c = part_cases
