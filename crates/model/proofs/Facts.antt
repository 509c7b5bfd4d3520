-- Laws of the volume facts.
use Prim.Native.Nat.{ℕ}
use mathlib.Core.Path.{◌≡◌}
use mathlib.Core.List.{List}
use Rattle.model.specs.Bytes.{byte, be16, be32, part}
use Rattle.model.specs.Facts.{facts_in}
use Rattle.model.specs.declared.VolumeFacts.{VolumeFacts}

-- facts whose every field is as it stands in the volume information
pub facts_are : (v : List ℕ) (f : VolumeFacts)
    → f.signature ≡ be16 v 0
    → f.created ≡ be32 v 2
    → f.backup ≡ be32 v 6
    → f.attributes ≡ be16 v 10
    → f.files ≡ be16 v 12
    → f.directory_start.0 ≡ be16 v 14
    → f.directory_length ≡ be16 v 16
    → f.allocation_blocks ≡ be16 v 18
    → f.block_size ≡ be32 v 20
    → f.clump_size ≡ be32 v 24
    → f.allocation_start.0 ≡ be16 v 28
    → f.next_number ≡ be32 v 30
    → f.free_blocks ≡ be16 v 34
    → f.name_length ≡ byte v 36
    → f.name ≡ part 37 27 v
    → f ≡ facts_in v
unfolding facts_in
facts_are v f signature created backup attributes files start length blocks size clump first next free title name = λ i. record {
  signature = signature i;
  created = created i;
  backup = backup i;
  attributes = attributes i;
  files = files i;
  directory_start = record { 0 = start i };
  directory_length = length i;
  allocation_blocks = blocks i;
  block_size = size i;
  clump_size = clump i;
  allocation_start = record { 0 = first i };
  next_number = next i;
  free_blocks = free i;
  name_length = title i;
  name = name i;
}
