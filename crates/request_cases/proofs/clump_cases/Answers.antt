-- `request_cases::clump_cases` meets its contract.
use Rattle.request_cases.proofs.Clumps.{clump_cases}
use Rattle.request_cases.proofs.clump_cases.Goals as goal

pub returns : goal.returns
returns c = clump_cases
