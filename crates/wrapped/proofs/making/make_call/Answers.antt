-- `make_call` meets its contract: whichever call is wanted, that call's own contract makes the event. Assumes nothing.
use mathlib.Core.Path.{refl}
use Rattle.model.specs.Calls.{lent, only, serves_wrapped}
use Rattle.volume.specs.Happens.{call_of}
use Rattle.volume.proofs.Happened.{happens, happens_told, whole_happens, outcome_check, outcome_entry, outcome_find, outcome_block, outcome_read, outcome_quick_find}
use Rattle.wrapped.proofs.Happened.{happens_wrapped, whole_happens_wrapped, happens_bare}
use Rattle.wrapped.proofs.making.make_call.Goals as goal

pub returns-in-Check : goal.returns-in-Check
unfolding call_of lent
returns-in-Check c = rw (c.in-Check.is, c.from.ensures) (happens_wrapped (rw (outcome_check c.check.result) c.check.ensures) refl)

pub returns-in-Entry : goal.returns-in-Entry
unfolding call_of lent
returns-in-Entry c = rw (c.in-Entry.is, c.from-in-Entry.ensures) (happens_wrapped (rw (outcome_entry c.entry.result) c.entry.ensures) refl)

pub returns-in-Find : goal.returns-in-Find
unfolding call_of lent
returns-in-Find c = rw (c.in-Find.is, c.from-in-Find.ensures) (happens_wrapped (rw (outcome_find c.find.result) c.find.ensures) refl)

pub returns-in-Block : goal.returns-in-Block
unfolding call_of lent
returns-in-Block c = rw (c.in-Block.is, c.from-in-Block.ensures) (happens_wrapped (rw (outcome_block c.block.result) c.block.ensures) refl)

pub returns-in-Read : goal.returns-in-Read
unfolding call_of lent
returns-in-Read c = rw (c.in-Read.is, c.from-in-Read.ensures) (whole_happens_wrapped refl c.read.auto.buffer (rw (outcome_read c.read.result c.read.new.buffer) c.read.ensures))

pub returns-in-Create : goal.returns-in-Create
unfolding call_of lent only
returns-in-Create c = rw (c.in-Create.is, c.from-in-Create.ensures) (happens_wrapped c.create.ensures refl)

pub returns-in-Write : goal.returns-in-Write
unfolding call_of lent only
returns-in-Write c = rw (c.in-Write.is, c.from-in-Write.ensures) (happens_wrapped c.write.ensures refl)

pub returns-in-Cut : goal.returns-in-Cut
unfolding call_of lent only
returns-in-Cut c = rw (c.in-Cut.is, c.from-in-Cut.ensures) (happens_wrapped c.cut.ensures refl)

pub returns-in-Delete : goal.returns-in-Delete
unfolding call_of lent only
returns-in-Delete c = rw (c.in-Delete.is, c.from-in-Delete.ensures) (happens_wrapped c.delete.ensures refl)

pub returns-in-Wrap : goal.returns-in-Wrap
unfolding call_of lent only serves_wrapped
returns-in-Wrap c = rw (c.in-Wrap.is, c.from-in-Wrap.ensures) (happens_bare refl (whole_happens refl c.wrap.auto.buffer c.wrap.ensures))

pub returns-in-Rename : goal.returns-in-Rename
unfolding call_of lent only serves_wrapped
returns-in-Rename c = rw (c.in-Rename.is, c.from-in-Rename.ensures) (happens_bare refl (happens c.rename.ensures refl))

pub returns-in-QuickFind : goal.returns-in-QuickFind
unfolding call_of lent serves_wrapped
returns-in-QuickFind c = rw (c.in-QuickFind.is, c.from-in-QuickFind.ensures) (happens_bare refl (happens_told (outcome_quick_find c.quick_find.result) c.quick_find.ensures refl))
