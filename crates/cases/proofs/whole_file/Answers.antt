-- `cases::whole_file` meets its contract.
use Rattle.cases.proofs.WholeFile.{whole_file}
use Rattle.cases.proofs.whole_file.Goals as goal

pub returns : goal.returns
returns c = whole_file
