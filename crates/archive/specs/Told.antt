-- What the answers that C has tell, in the model's terms.
use Rattle.std.specs.Prelude.{ℕ, ◌≡◌, List, [], Result}
use Rattle.files.specs.Told.{told_read as read_tells}
use Rattle.model.specs.declared.refusal.Refusal.{Refusal}
use Rattle.model.specs.Facts.{no_facts}
use Rattle.model.specs.Directory.{no_entry}
use Rattle.model.specs.Calls.{Answer, only}
use Rattle.archive.specs.declared.answers.CheckAnswer.{CheckAnswer}
use Rattle.archive.specs.declared.answers.EntryAnswer.{EntryAnswer}
use Rattle.archive.specs.declared.answers.FindAnswer.{FindAnswer}
use Rattle.archive.specs.declared.answers.BlockAnswer.{BlockAnswer}
use Rattle.archive.specs.declared.answers.ReadAnswer.{ReadAnswer}
use Rattle.archive.specs.declared.answers.QuickFindAnswer.{QuickFindAnswer}

abbrev pub told_check : CheckAnswer → Answer
told_check r = record { number = r.number; facts = r.facts; place = 0; entry = no_entry; block = record { 0 = 0 }; count = 0; buffer = [] }

abbrev pub told_entry : EntryAnswer → Answer
told_entry r = record { number = r.number; facts = no_facts; place = 0; entry = r.entry; block = record { 0 = 0 }; count = 0; buffer = [] }

abbrev pub told_find : FindAnswer → Answer
told_find r = record { number = r.number; facts = no_facts; place = r.place; entry = r.entry; block = record { 0 = 0 }; count = 0; buffer = [] }

abbrev pub told_block : BlockAnswer → Answer
told_block r = record { number = r.number; facts = no_facts; place = 0; entry = no_entry; block = r.block; count = 0; buffer = [] }

-- read's buffer after it is part of the answer
abbrev pub told_read : ReadAnswer → List ℕ → Answer
told_read r buffer = record { number = r.number; facts = no_facts; place = 0; entry = no_entry; block = record { 0 = 0 }; count = r.count; buffer = buffer }

-- quick find's count is that of the directory blocks looked at
abbrev pub told_quick_find : QuickFindAnswer → Answer
told_quick_find r =
    record { number = r.number; facts = no_facts; place = r.place; entry = r.entry; block = record { 0 = 0 }; count = r.looked; buffer = [] }

-- the calls that change the image give back their number alone
abbrev pub told_number : ℕ → Answer
told_number n = only n []

-- an answer of read tells what the result does, whatever the buffer
abbrev pub ReadAs : Result ℕ Refusal → ReadAnswer → Type 0
ReadAs r a = (buffer : List ℕ) → told_read a buffer ≡ read_tells r buffer
