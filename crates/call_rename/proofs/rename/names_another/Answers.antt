-- `names_another` meets its contract: names differ, so the new name is another file's where its place is another. Assumes nothing.
use Rattle.call_rename.proofs.Another.{another_at, another_none}
use Rattle.call_rename.proofs.rename.names_another.Goals as goal

pub returns-in-Ok : goal.returns-in-Ok
returns-in-Ok c name e h = another_at c.requires.readable.accepted h c.in-Ok.ensures

pub returns-in-Err : goal.returns-in-Err
returns-in-Err c name e h = another_none c.requires.readable.accepted h c.requires.value c.in-Err.ensures
