-- `advance` meets its contract. Assumes nothing.
use Rattle.directory.proofs.Each.{steps, advances}
use Rattle.directory.proofs.Cursor.advance.Goals as goal

pub unwrap-requires : goal.unwrap-requires
unwrap-requires c = steps c.requires _ c.next.ensures

pub returns : goal.returns
returns c = advances c.requires _ (rw c.unwrap.ensures at c.next.ensures)
