-- An entry's flags.
use Prim.Native.Nat.{ℕ, ◌+◌}
use mathlib.Core.Path.{◌≡◌}
use mathlib.Core.List.{List}
use native.Mathlib.Omega.{arith}
use Rattle.model.specs.Bytes.{byte}
use Rattle.model.specs.Directory.{padded}
use Rattle.directory.specs.declared.EntryAt.{EntryAt}
use Rattle.directory.specs.Cursor.{bytes_at, Stands}
use Rattle.directory.proofs.Parts.{part_byte, long}

-- the flags stand at the entry's start
pub flags_at : (image : List ℕ) (e : EntryAt) → Stands image e → byte (bytes_at image e) 0 ≡ byte image (e.start + 0)
flags_at image e s = part_byte image e.start (padded (51 + e.name_length)) 0 (omega (arith, long image e s))
