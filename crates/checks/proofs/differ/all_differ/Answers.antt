-- `all_differ` meets its contract. Assumes nothing.
use mathlib.Core.Path.{sym}
use Rattle.checks.proofs.differ.all_differ.Goals as goal

pub returns-in-Ok : goal.returns-in-Ok
returns-in-Ok c = sym c.in-Ok.ensures

pub returns-in-Err-Repeated : goal.returns-in-Err-Repeated
returns-in-Err-Repeated c = sym (rw c.in-Err-Repeated.field-0-is at c.in-Err-Repeated.ensures)
