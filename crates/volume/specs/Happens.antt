-- Whichever public call is made, it is an event of the claim on every run.
use Rattle.std.specs.Prelude.{ℕ, ◌≡◌, List, length, take, drop, Result, Ok, Err}
use Rattle.model.specs.Check.{Accepted}
use Rattle.model.specs.Calls.{Call, Answer, lent, Does}
use Rattle.model.specs.Calls.Call.{check, entry, find, block, read, create, write, cut, delete, wrap, rename, quick_find}
use Rattle.history.specs.History.{History, Agrees, InStep}
use Rattle.model.specs.Facts.{no_facts}
use Rattle.model.specs.Directory.{no_entry}
use Rattle.model.specs.declared.Fork.{Fork}
use Rattle.model.specs.Refusals.{number_of, done_number}
use Rattle.model.specs.declared.AllocationBlock.{AllocationBlock}
use Rattle.model.specs.declared.VolumeFacts.{VolumeFacts}
use Rattle.model.specs.declared.DirectoryEntry.{DirectoryEntry}
use Rattle.model.specs.declared.refusal.Refusal.{Refusal}
use Rattle.files.specs.declared.FoundFile.{FoundFile}
use Rattle.files.specs.declared.QuickFound.{QuickFound}
use Rattle.files.specs.declared.QuickRefusal.{QuickRefusal}
use Rattle.volume.specs.declared.Outcome.{Outcome}
use Rattle.volume.specs.declared.Wanted.{Wanted}
use Rattle.volume.specs.declared.Wanted.TheVariants.{Check, Entry, Find, Block, Read, Create, Write, Cut, Delete, Wrap, Rename, QuickFind}

-- the call that is wanted, with what it needs of the arguments; a rename takes the bytes for the new name
unfoldable pub call_of : Wanted → (name : List ℕ) → Fork → (place : ℕ) → (buffer finder bytes : List ℕ) → (created changed format : ℕ) → Call
call_of Check name fork place buffer finder bytes created changed format = check
call_of Entry name fork place buffer finder bytes created changed format = entry place
call_of Find name fork place buffer finder bytes created changed format = find name
call_of Block name fork place buffer finder bytes created changed format = block name fork place
call_of Read name fork place buffer finder bytes created changed format = read name fork place buffer
call_of Create name fork place buffer finder bytes created changed format = create name finder created changed
call_of Write name fork place buffer finder bytes created changed format = write name fork place bytes changed
call_of Cut name fork place buffer finder bytes created changed format = cut name fork place changed
call_of Delete name fork place buffer finder bytes created changed format = delete name
call_of Wrap name fork place buffer finder bytes created changed format = wrap name format buffer
call_of Rename name fork place buffer finder bytes created changed format = rename name bytes changed
call_of QuickFind name fork place buffer finder bytes created changed format = quick_find name

-- what any call gives back, as an answer of the model's; the buffer is the one lent, after it
abbrev pub told_outcome : Outcome → List ℕ → Answer
told_outcome o buffer = record {
  number = o.number;
  facts = o.facts;
  place = o.place;
  entry = o.entry;
  block = o.block;
  count = o.count;
  buffer = buffer;
}

-- each call's answer as an outcome: what it does not tell is zero
abbrev pub from_number : ℕ → Outcome
from_number number = record { number = number; facts = no_facts; place = 0; entry = no_entry; block = record { 0 = 0 }; count = 0 }

abbrev pub from_done : Result Unit Refusal → Outcome
from_done r = from_number (done_number r)

abbrev pub from_check : Result VolumeFacts Refusal → Outcome
from_check (Ok facts) = record { number = 0; facts = facts; place = 0; entry = no_entry; block = record { 0 = 0 }; count = 0 }
from_check (Err refusal) = from_number (number_of refusal)

abbrev pub from_entry : Result DirectoryEntry Refusal → Outcome
from_entry (Ok e) = record { number = 0; facts = no_facts; place = 0; entry = e; block = record { 0 = 0 }; count = 0 }
from_entry (Err refusal) = from_number (number_of refusal)

abbrev pub from_find : Result FoundFile Refusal → Outcome
from_find (Ok found) = record { number = 0; facts = no_facts; place = found.place; entry = found.entry; block = record { 0 = 0 }; count = 0 }
from_find (Err refusal) = from_number (number_of refusal)

abbrev pub from_block : Result AllocationBlock Refusal → Outcome
from_block (Ok b) = record { number = 0; facts = no_facts; place = 0; entry = no_entry; block = b; count = 0 }
from_block (Err refusal) = from_number (number_of refusal)

abbrev pub from_read : Result ℕ Refusal → Outcome
from_read (Ok count) = record { number = 0; facts = no_facts; place = 0; entry = no_entry; block = record { 0 = 0 }; count = count }
from_read (Err refusal) = from_number (number_of refusal)

abbrev pub from_quick_find : Result QuickFound QuickRefusal → Outcome
from_quick_find (Ok found) =
    record { number = 0; facts = no_facts; place = found.place; entry = found.entry; block = record { 0 = 0 }; count = found.looked }
from_quick_find (Err refused) =
    record { number = number_of refused.refusal; facts = no_facts; place = 0; entry = no_entry; block = record { 0 = 0 }; count = refused.looked }

-- The call was made on the image. It gave back o, left the buffer `after` where `buffer` came, and left this image.
pub record Happens (call : Call) (image : List ℕ) (o : Outcome) (buffer after left : List ℕ) : Type 0 where
  -- the answer is the one that demand 2 fixes, what was lent of the buffer with it, and so is the image
  pub does : Does call image (told_outcome o (take (length (lent call)) after)) left
  -- the rest of the buffer is as it came
  pub rest : drop (length (lent call)) after ≡ drop (length (lent call)) buffer
  -- on an accepted image that reads as a history, it keeps step with that history, as the claim on every run says
  pub steps : (h : History) → Accepted image → Agrees image h
      → InStep (record { call = call; given = told_outcome o (take (length (lent call)) after); left = left }) image h
