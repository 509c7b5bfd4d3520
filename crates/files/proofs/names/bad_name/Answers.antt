-- `bad_name` meets its contract. Assumes nothing.
use lib.ListN.{length}
use borrow.Author.Tests.{eq-eqb, ne_eqb}
use Rattle.model.specs.Calls.{bad_name}
use Rattle.files.proofs.names.bad_name.Goals as goal

pub returns-then-name-eq0 : goal.returns-then-name-eq0
unfolding bad_name
returns-then-name-eq0 c = rw (eq-eqb (length c.args.name.now) 0 c.if-name-eq0.true)

pub returns : goal.returns
unfolding bad_name
returns c = rw (ne_eqb (length c.args.name.now) 0 c.if-name-eq0.false)
