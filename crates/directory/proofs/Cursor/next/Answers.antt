-- `Cursor::next` meets its contract. The loop's invariant: the entries from c on are those from the given cursor on. The measure
-- is the number of blocks left. Assumes nothing.
use mathlib.Core.Path.{◌≡◌, sym, ◌∙◌}
use native.Mathlib.Omega.{arith}
use mathlib.Core.Bool.{true}
use Rattle.model.specs.Directory.{ends_at}
use Rattle.directory.specs.Cursor.{block_of}
use Rattle.directory.proofs.Steps.{last_block, next_block, comes_block}
use Rattle.directory.proofs.Cursor.next.Goals as goal

pub returns-then-c-eq0 : goal.returns-then-c-eq0
returns-then-c-eq0 c =
    let ended : ends_at (block_of c.args.image.now c.loop-c.c) c.loop-c.c.at ≡ true = sym c.ends.ensures ∙ c.loop-c-test.true in
    let l = c.loop-c in
    l.invariant.1 ∙ last_block c.args.image.now l.c l.invariant.0 ended c.if-c-eq0.true

pub loop-c-preserved : goal.loop-c-preserved
loop-c-preserved c =
    let ended : ends_at (block_of c.args.image.now c.loop-c.c) c.loop-c.c.at ≡ true = sym c.ends.ensures ∙ c.loop-c-test.true in
    let l = c.loop-c in
    let image = c.args.image.now in (
      record { blocks = omega arith; place = omega arith },
      l.invariant.1 ∙ next_block image l.c l.invariant.0 ended c.if-c-eq0.false,
      omega arith,
      λ base blocks k. comes_block image l.c base blocks c.if-c-eq0.false (l.invariant.3 base blocks k),
    )
