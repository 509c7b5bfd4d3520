-- `Cursor::new` meets its contract. Assumes nothing.
use Prim.Native.Nat.{◌*◌}
use mathlib.Core.Path.{refl, sym}
use native.Mathlib.Omega.{arith}
use Rattle.directory.proofs.Steps.{blocks_rest}
use Rattle.directory.proofs.Cursor.new.Goals as goal

pub returns : goal.returns
returns c =
    let blocks = c.args.length in
    let base = c.byte-base.ensures in
    record {
      base = base;
      at = refl;
      left = omega arith;
      rest = λ image. rw base (sym (blocks_rest image blocks (512 * c.args.start.0) (λ z. omega arith)));
    }
