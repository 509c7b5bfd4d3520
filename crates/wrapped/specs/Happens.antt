-- Whichever call is made on a wrapped file, it is an event of the claim on every list of calls on wrapped files.
use Rattle.std.specs.Prelude.{ℕ, ◌≡◌, true, false, List, length, take, drop}
use Rattle.model.specs.Check.{Accepted}
use Rattle.model.specs.Container.{inside, SoundContainer}
use Rattle.model.specs.Calls.{Call, lent, serves_wrapped, Does}
use Rattle.model.specs.Wrapped.{DoesWrapped}
use Rattle.history.specs.History.{History, Agrees}
use Rattle.history.specs.WrappedRuns.{WrappedStep}
use Rattle.volume.specs.declared.Outcome.{Outcome}
use Rattle.volume.specs.Happens.{told_outcome}

-- The call was made on the file. It gave back o, left the buffer `after` where `buffer` came, and left this file.
pub record HappensWrapped (call : Call) (file : List ℕ) (o : Outcome) (buffer after left : List ℕ) : Type 0 where
  -- one of the nine: the answer is the one that demand 2 fixes of the data inside, what was lent of the buffer with it, and so is the file
  pub does : serves_wrapped call ≡ true → DoesWrapped call file (told_outcome o (take (length (lent call)) after)) left
  -- a later call: the file is taken for a bare image
  pub bare : serves_wrapped call ≡ false → Does call file (told_outcome o (take (length (lent call)) after)) left
  -- the rest of the buffer is as it came
  pub rest : drop (length (lent call)) after ≡ drop (length (lent call)) buffer
  -- one of the nine on a sound container with an accepted image inside that reads as a history keeps step with that history
  pub steps : serves_wrapped call ≡ true → (h : History) → SoundContainer file → Accepted (inside file) → Agrees (inside file) h
      → WrappedStep (record { call = call; given = told_outcome o (take (length (lent call)) after); left = left }) file h
