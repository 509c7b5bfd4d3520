-- `whole` meets its contract. Assumes nothing.
use Rattle.files.proofs.Octets.{octets}
use Rattle.call_create.proofs.add.whole.Goals as goal

pub returns : goal.returns
returns c = (c.told-finder, octets _ c.shared_slice_known-1.given)
