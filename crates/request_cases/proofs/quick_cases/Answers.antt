-- `request_cases::quick_cases` meets its contract.
use Rattle.request_cases.proofs.QuickFinds.{quick_cases}
use Rattle.request_cases.proofs.quick_cases.Goals as goal

pub returns : goal.returns
returns c = quick_cases
