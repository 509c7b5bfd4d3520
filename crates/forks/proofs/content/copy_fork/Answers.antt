-- `copy_fork` meets its contract. Assumes nothing.
use mathlib.Core.Path.{◌≡◌, sym, ◌∙◌}
use lib.ListN.{length}
use Rattle.model.specs.Calls.{read_count}
use Rattle.forks.proofs.Copying.{copied_fork}
use Rattle.forks.proofs.content.copy_fork.Goals as goal

pub returns-then-count-eq0 : goal.returns-then-count-eq0
unfolding read_count
returns-then-count-eq0 c =
    let count_is : let a = c.args in
    c.min-count.result ≡ read_count (length a.buffer.now) a.g.logical a.offset = c.min-count.ensures in
    let a = c.args in
    let none = sym c.if-count-eq0.true ∙ count_is in
    record {
      count = none;
      bytes = copied_fork a.image.now a.start a.size a.g c.requires.0 a.offset 0 a.buffer.now none;
    }

pub returns : goal.returns
unfolding read_count
returns c =
    let count_is : let a = c.args in
    c.min-count.result ≡ read_count (length a.buffer.now) a.g.logical a.offset = c.min-count.ensures in
    let a = c.args in
    let n = c.min-count.result in record {
      count = count_is;
      bytes = c.copy_blocks.ensures
          ∙ copied_fork a.image.now a.start a.size a.g c.requires.0 a.offset n a.buffer.now (count_is);
    }
