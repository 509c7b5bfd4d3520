-- The further worked cases hold: antt computes them.
use mathlib.Core.Path.{refl}
use Rattle.model.specs.Cases.{AllRight, end, ◌&◌}
use Rattle.model.proofs.Cases.{everything, row}
use Rattle.cases.specs.More.{bad_volumes, readings, creations, changings, orders, old_disk, border_disk, foldings, sampled, spelt_disk, locked_disk, spellings}
use Rattle.cases.specs.More.{contents, wide_disk, wide_grown, wide_forks, old_facts, old_names}
use Rattle.cases.specs.More.{left_disk, renames, week_disk, packed_disk, in_parts, limited, Limits, MoreCases}

bad_volumes_lem : AllRight bad_volumes
unfolding everything bad_volumes
bad_volumes_lem = row & row & row & row & row & row & row & row & row & row & row & row & row & row & row & row & row & row & row & row & row & row & row & row &
    row & row & row & row & row & row & row & row & end

all_readings : AllRight readings
unfolding everything readings
all_readings = row & row & row & row & row & row & row & row & row & row & row & row & row & row & end

all_creations : AllRight creations
unfolding everything creations
all_creations = row & row & row & row & row & row & end

all_changings : AllRight changings
unfolding everything changings
all_changings = row & row & row & row & row & row & row & row & row & row & row & row & row & end

all_orders : AllRight orders
unfolding everything orders
all_orders = row & row & row & row & row & row & row & row & row & row & end

all_foldings : AllRight foldings
unfolding everything border_disk old_disk foldings
all_foldings = row & row & row & row & row & row & row & row & row & end

all_spellings : AllRight spellings
unfolding everything border_disk sampled spelt_disk locked_disk spellings
all_spellings = row & row & row & row & row & row & row & row & row & row & row & row & end

all_contents : AllRight contents
unfolding everything sampled contents
all_contents = row & row & row & row & end

all_wide_forks : AllRight wide_forks
unfolding everything sampled wide_disk wide_grown wide_forks
all_wide_forks = row & row & row & row & end

all_old_names : AllRight old_names
unfolding everything old_disk old_facts old_names
all_old_names = row & row & row & row & row & row & row & row & row & row & row & row & row & row & row & end

all_renames : AllRight renames
unfolding everything sampled left_disk renames
all_renames = row & row & row & row & row & row & row & row & row & row & row & row & row & row & row & row & row & row & row & row & row & end

all_in_parts : AllRight in_parts
unfolding everything week_disk packed_disk in_parts
all_in_parts = row & row & row & row & row & row & end

limits : Limits
unfolding everything limited Limits
limits = (refl, refl, refl, refl, refl, refl, refl, refl)

pub more : MoreCases
unfolding MoreCases
more = (
  bad_volumes_lem,
  all_readings,
  all_creations,
  all_changings,
  all_orders,
  all_foldings,
  all_spellings,
  all_contents,
  all_wide_forks,
  all_old_names,
  all_renames,
  all_in_parts,
  limits,
)
