-- The worked cases of quick find hold: antt computes them.
use Rattle.model.specs.Cases.{AllRight, end, ◌&◌}
use Rattle.model.proofs.Cases.{everything, row}
use Rattle.request_cases.specs.QuickFinds.{plain, plain_facts, nameless, long_block, unused, odd_entry, odd_facts, sound, stopping, unsound, QuickCases}

all_sound : AllRight sound
unfolding everything sound
all_sound = row & row & row & row & row & row & row & row & row & row & row & row & row & row & end

all_stopping : AllRight stopping
unfolding everything plain plain_facts nameless long_block stopping
all_stopping = row & row & row & row & row & row & row & row & row & row & row & row & row & row & end

all_unsound : AllRight unsound
unfolding everything plain plain_facts unused odd_entry odd_facts unsound
all_unsound = row & row & row & row & row & row & row & row & row & end

pub quick_cases : QuickCases
unfolding QuickCases
quick_cases = (all_sound, all_stopping, all_unsound)
