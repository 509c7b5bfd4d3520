-- The worked cases of clumps hold: antt computes them.
use Rattle.model.specs.Cases.{AllRight, end, ◌&◌}
use Rattle.model.proofs.Cases.{everything, row}
use Rattle.request_cases.specs.Clumps.{mapped, with_rates, with_rates_resource, used_disk, third_block, fourth_block, full_blocks, cut_disk}
use Rattle.request_cases.specs.Clumps.{short_disk, sizes, counts, after_others, ClumpCases}

all_sizes : AllRight sizes
unfolding everything mapped used_disk third_block fourth_block sizes
all_sizes = row & row & row & row & row & row & row & row & row & end

all_counts : AllRight counts
unfolding everything mapped with_rates with_rates_resource used_disk fourth_block full_blocks counts
all_counts = row & row & row & row & row & row & row & row & row & row & end

all_after_others : AllRight after_others
unfolding everything mapped third_block fourth_block full_blocks cut_disk short_disk after_others
all_after_others = row & row & row & row & row & row & row & row & end

pub clump_cases : ClumpCases
unfolding ClumpCases
clump_cases = (all_sizes, all_counts, all_after_others)
