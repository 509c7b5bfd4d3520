-- `no_facts` meets its contract: 64 zero bytes read as its record. Assumes nothing.
use mathlib.Core.Path.{refl}
use Rattle.model.specs.Bytes.{be16, be32}
use Rattle.model.specs.Facts.{facts_in, no_facts}
use Rattle.files.proofs.answers.no_facts.Goals as goal

pub returns : goal.returns
unfolding no_facts facts_in be32 be16
returns c = refl
