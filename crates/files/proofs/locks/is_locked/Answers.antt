-- `is_locked` meets its contract. Assumes nothing.
use Prim.Native.Nat.{◌/◌, ◌%◌}
use borrow.Author.Tests.{eq-eqb, ne_eqb}
use Rattle.model.specs.Facts.{is_locked}
use Rattle.files.proofs.locks.is_locked.Goals as goal

pub returns-then-attributes-eq1 : goal.returns-then-attributes-eq1
unfolding is_locked
returns-then-attributes-eq1 c = rw (eq-eqb (c.args.f.attributes / 128 % 2) 1 c.if-attributes-eq1.true)

pub returns : goal.returns
unfolding is_locked
returns c = rw (ne_eqb (c.args.f.attributes / 128 % 2) 1 c.if-attributes-eq1.false)
