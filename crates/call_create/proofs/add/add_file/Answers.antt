-- `add_file` meets its contract. Assumes nothing.
use native.Mathlib.Omega.{arith}
use lib.ListN.{length}
use Rattle.call_create.proofs.Added.{adds_block, adds_behind, files_more, added}
use Rattle.call_create.proofs.add.add_file.Goals as goal

pub insert_entry-requires : goal.insert_entry-requires
insert_entry-requires c =
    let a = c.args in record {
      block = adds_block c.requires.readable (length a.name.now) a.room.base a.room.end c.requires.adds;
      end_value = adds_behind c.requires.readable (length a.name.now) a.room.base a.room.end c.requires.adds;
    }

pub overflow_add-f : goal.overflow_add-f
overflow_add-f c = omega (arith, files_more c.requires.readable)

pub returns : goal.returns
returns c =
    let a = c.args in
    added c.requires.readable a.name.now a.finder.now a.created a.changed a.room.base a.room.end c.requires.adds c.whole.ensures.0 _ _ _
    c.insert_entry.ensures c.put_next.ensures c.put_files.ensures
