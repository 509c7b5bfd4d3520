-- What the calls' answers tell, in the model's terms.
use Rattle.std.specs.Prelude.{ℕ, List, [], Result, Ok, Err}
use Rattle.model.specs.Facts.{no_facts}
use Rattle.model.specs.Directory.{no_entry}
use Rattle.model.specs.Refusals.{number_of, done_number}
use Rattle.model.specs.Calls.{Answer, only, counted}
use Rattle.model.specs.declared.AllocationBlock.{AllocationBlock}
use Rattle.model.specs.declared.VolumeFacts.{VolumeFacts}
use Rattle.model.specs.declared.DirectoryEntry.{DirectoryEntry}
use Rattle.model.specs.declared.refusal.Refusal.{Refusal}
use Rattle.files.specs.declared.FoundFile.{FoundFile}
use Rattle.files.specs.declared.QuickFound.{QuickFound}
use Rattle.files.specs.declared.QuickRefusal.{QuickRefusal}

abbrev pub told_check : Result VolumeFacts Refusal → Answer
told_check (Ok facts) = record { number = 0; facts = facts; place = 0; entry = no_entry; block = record { 0 = 0 }; count = 0; buffer = [] }
told_check (Err refusal) = only (number_of refusal) []

abbrev pub told_entry : Result DirectoryEntry Refusal → Answer
told_entry (Ok entry) = record { number = 0; facts = no_facts; place = 0; entry = entry; block = record { 0 = 0 }; count = 0; buffer = [] }
told_entry (Err refusal) = only (number_of refusal) []

abbrev pub told_find : Result FoundFile Refusal → Answer
told_find (Ok found) =
    record { number = 0; facts = no_facts; place = found.place; entry = found.entry; block = record { 0 = 0 }; count = 0; buffer = [] }
told_find (Err refusal) = only (number_of refusal) []

abbrev pub told_block : Result AllocationBlock Refusal → Answer
told_block (Ok block) = record { number = 0; facts = no_facts; place = 0; entry = no_entry; block = block; count = 0; buffer = [] }
told_block (Err refusal) = only (number_of refusal) []

-- read's buffer after it is part of the answer
abbrev pub told_read : Result ℕ Refusal → List ℕ → Answer
told_read (Ok count) buffer =
    record { number = 0; facts = no_facts; place = 0; entry = no_entry; block = record { 0 = 0 }; count = count; buffer = buffer }
told_read (Err refusal) buffer = only (number_of refusal) buffer

-- quick find's count is that of the directory blocks looked at
abbrev pub told_quick_find : Result QuickFound QuickRefusal → Answer
told_quick_find (Ok found) =
    record { number = 0; facts = no_facts; place = found.place; entry = found.entry; block = record { 0 = 0 }; count = found.looked; buffer = [] }
told_quick_find (Err refused) = counted (number_of refused.refusal) refused.looked []

-- the calls that change the image tell nothing but whether they are refused
abbrev pub told_number : Result Unit Refusal → Answer
told_number done = only (done_number done) []
