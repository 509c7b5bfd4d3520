-- `Cursor::entry` meets its contract: at each `return` the tests that led there say which part of check 6 fails, or that none
-- does. Assumes nothing.
use Prim.Native.Nat.{ℕ, ◌+◌, ◌<◌}
use mathlib.Core.Path.{refl}
use native.Mathlib.Omega.{arith}
use Rattle.model.specs.Bytes.{byte}
use Rattle.model.specs.Directory.{padded}
use Rattle.directory.proofs.Steps.{short, version, nameless, crosses, moves}
use Rattle.directory.proofs.Cursor.entry.Goals as goal

pub returns-then-at-gt-BLOCK : goal.returns-then-at-gt-BLOCK
returns-then-at-gt-BLOCK c = short c.args.image.now c.args.self c.requires.cursor_fits c.requires.at_value (omega arith)

pub returns-then-image-start-ne0 : goal.returns-then-image-start-ne0
returns-then-image-start-ne0 c = version c.args.image.now c.args.self c.requires.cursor_fits c.requires.at_value (omega arith) c.if-image-start-ne0.true

pub returns-then-name_length-eq0 : goal.returns-then-name_length-eq0
returns-then-name_length-eq0 c = nameless c.args.image.now c.args.self c.requires.cursor_fits c.requires.at_value (omega arith) c.if-name_length-eq0.true

pub overflow_add-next : goal.overflow_add-next
unfolding padded
overflow_add-next c =
    let title : ℕ = let a = c.args in byte a.image.now (a.self.base + a.self.at + 50) in
    let small : title < 256 = let a = c.args in (c.type_inv.image (a.self.base + a.self.at + 50)).fits in
    omega (arith, small, c.entry_size.ensures)

pub returns-then-next-gt-BLOCK : goal.returns-then-next-gt-BLOCK
returns-then-next-gt-BLOCK c = crosses c.args.image.now c.args.self c.requires.cursor_fits c.requires.at_value (omega arith) (omega (arith, c.entry_size.ensures))

pub returns : goal.returns
returns c =
    let title : ℕ = let a = c.args in byte a.image.now (a.self.base + a.self.at + 50) in
    let small : title < 256 = let a = c.args in (c.type_inv.image (a.self.base + a.self.at + 50)).fits in
    moves c.args.image.now c.args.self c.requires.cursor_fits c.requires.at_value (omega arith) title _ refl (omega arith)
    (omega (arith, small)) (omega arith) (omega (arith, c.entry_size.ensures)) (omega arith)
