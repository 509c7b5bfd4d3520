-- `check` gave facts, so they are those of an accepted image.
use Rattle.volume.proofs.Checked.{checked}
use Rattle.list.proofs.list.Goals as goal

pub serve_entry-requires : goal.serve_entry-requires
serve_entry-requires g c = checked _ c.in-Ok.ensures
