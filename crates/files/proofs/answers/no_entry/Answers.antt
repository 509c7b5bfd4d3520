-- `no_entry` meets its contract: 52 zero bytes read as its record. Assumes nothing.
use Rattle.model.specs.Bytes.{be16, be32, zeros}
use Rattle.model.specs.Directory.{fork_of, fork_in, wide, name_in, finder_in, number_in, entry_in, no_entry}
use Rattle.files.proofs.answers.no_entry.Goals as goal

pub returns : goal.returns
unfolding no_entry entry_in fork_of fork_in wide name_in finder_in number_in be32 be16
returns c =
    λ i. record {
      flags = 0;
      version = 0;
      finder = zeros 16;
      number = 0;
      «data» = c.no_fork.ensures i;
      resource = c.no_fork-2.ensures i;
      created = 0;
      changed = 0;
      name_length = 0;
      name = zeros 255;
    }
