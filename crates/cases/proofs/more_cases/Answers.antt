-- `cases::more_cases` meets its contract.
use Rattle.cases.proofs.More.{more}
use Rattle.cases.proofs.more_cases.Goals as goal

pub returns : goal.returns
returns c = more
