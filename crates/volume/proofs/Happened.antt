-- An event that demand 2 allows keeps step with every history that its image reads as.
use Rattle.std.proofs.Common.{Result, Ok, Err}
use Prim.Native.Nat.{ℕ, ◌≤◌}
use mathlib.Core.Path.{◌≡◌, refl, sym, ap, ◌∙◌}
use mathlib.Core.List.{List, []}
use native.Mathlib.Omega.{arith}
use lib.ListN.{length, take, drop, drop_of_length-le}
use lib.Seq.{take_all}
use Rattle.model.specs.Calls.{Call, Answer, lent, only, Does}
use Rattle.history.proofs.Run.{event}
use Rattle.model.specs.declared.AllocationBlock.{AllocationBlock}
use Rattle.model.specs.declared.VolumeFacts.{VolumeFacts}
use Rattle.model.specs.declared.DirectoryEntry.{DirectoryEntry}
use Rattle.model.specs.declared.refusal.Refusal.{Refusal}
use Rattle.files.specs.declared.FoundFile.{FoundFile}
use Rattle.files.specs.declared.QuickFound.{QuickFound}
use Rattle.files.specs.declared.QuickRefusal.{QuickRefusal}
use Rattle.files.specs.Told.{told_check, told_entry, told_find, told_block, told_read, told_quick_find}
use Rattle.volume.specs.declared.Outcome.{Outcome}
use Rattle.volume.specs.Happens.{told_outcome, from_check, from_entry, from_find, from_block, from_read, from_quick_find, Happens}

pub happens : {call : Call} {image : List ℕ} {o : Outcome} {buffer after left : List ℕ} → Does call image (told_outcome o (take (length (lent call)) after)) left
    → drop (length (lent call)) after ≡ drop (length (lent call)) buffer → Happens call image o buffer after left
happens {call} {image} {o} {buffer} {after} {left} d b = record {
  does = d;
  rest = b;
  steps = λ h acc a. event (record { call = call; given = told_outcome o (take (length (lent call)) after); left = left }) image h acc a d;
}

-- by what the call itself told
pub happens_told : {call : Call} {image : List ℕ} {o : Outcome} {buffer after left : List ℕ} {a : Answer}
    → told_outcome o (take (length (lent call)) after) ≡ a → Does call image a left
    → drop (length (lent call)) after ≡ drop (length (lent call)) buffer → Happens call image o buffer after left
happens_told q d b = happens (rw q d) b

-- an outcome tells what the answer told that it was made of
pub outcome_check : (r : Result VolumeFacts Refusal) → told_outcome (from_check r) [] ≡ told_check r
unfolding only
outcome_check (Ok facts) = refl
outcome_check (Err refusal) = refl

pub outcome_entry : (r : Result DirectoryEntry Refusal) → told_outcome (from_entry r) [] ≡ told_entry r
unfolding only
outcome_entry (Ok entry) = refl
outcome_entry (Err refusal) = refl

pub outcome_find : (r : Result FoundFile Refusal) → told_outcome (from_find r) [] ≡ told_find r
unfolding only
outcome_find (Ok found) = refl
outcome_find (Err refusal) = refl

pub outcome_block : (r : Result AllocationBlock Refusal) → told_outcome (from_block r) [] ≡ told_block r
unfolding only
outcome_block (Ok block) = refl
outcome_block (Err refusal) = refl

pub outcome_read : (r : Result ℕ Refusal) (buffer : List ℕ) → told_outcome (from_read r) buffer ≡ told_read r buffer
unfolding only
outcome_read (Ok count) buffer = refl
outcome_read (Err refusal) buffer = refl

pub outcome_quick_find : (r : Result QuickFound QuickRefusal) → told_outcome (from_quick_find r) [] ≡ told_quick_find r
outcome_quick_find (Ok found) = refl
outcome_quick_find (Err refused) = refl

-- read and wrap, whose buffer is lent whole: all of it is told, and none is left
module _ (call : Call) {buffer : List ℕ} (after : List ℕ) (q : lent call ≡ buffer) (l : length after ≡ length buffer) where
  size : length (lent call) ≡ length buffer
  size = ap (λ (k : List ℕ). length k) q

  pub whole_told : take (length (lent call)) after ≡ after
  whole_told = take_all (length (lent call)) after (omega (arith, size))

  pub none_left : drop (length (lent call)) after ≡ drop (length (lent call)) buffer
  none_left =
      let a : length after ≤ length (lent call) = omega (arith, size) in
      let b : length buffer ≤ length (lent call) = omega (arith, size) in
      drop_of_length-le after a ∙ sym (drop_of_length-le buffer b)

pub whole_happens : {call : Call} {image : List ℕ} {o : Outcome} {buffer after left : List ℕ} → lent call ≡ buffer → length after ≡ length buffer
    → Does call image (told_outcome o after) left → Happens call image o buffer after left
whole_happens {call} {after = after} q l d = happens (rw (whole_told call after q l) d) (none_left call after q l)
