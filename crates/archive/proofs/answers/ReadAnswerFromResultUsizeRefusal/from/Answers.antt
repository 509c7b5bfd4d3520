-- The answer that C has tells a refusal's number, and else zero. Assumes nothing.
use Rattle.model.specs.Calls.{only}
use Rattle.archive.proofs.answers.ReadAnswerFromResultUsizeRefusal.from.Goals as goal

pub returns-in-Err : goal.returns-in-Err
unfolding only
returns-in-Err c buffer = rw (c.in-Err.is, c.number.ensures)
