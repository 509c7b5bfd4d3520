-- For the auditor: no call makes up a date.
use Rattle.std.specs.Prelude.{ℕ, ◌≡◌, Bool, true, false, ◌&&◌, List, ◌↔◌, eqb}
use Rattle.model.specs.Check.{Accepted}
use Rattle.model.specs.Calls.{Call, Answer, Does}
use Rattle.history.specs.History.{File, touches, dates_given}
use Rattle.history.specs.Among.{HasFile}

-- the call was not refused, and changes the file of this name
unfoldable pub touched : Call → Answer → File → Bool
touched call given x = eqb given.number 0 && touches call x.name

-- The files that a call does not touch are the same after it as before, dates and all; a file that it touched and left has the
-- dates that the call was given.
unfoldable pub Dates : Type 0
Dates =
    (image left : List ℕ) (call : Call) (given : Answer) (x : File) → Accepted image → Does call image given left
    → (touched call given x ≡ false → (HasFile left x ↔ HasFile image x))
    × (touched call given x ≡ true → HasFile left x → dates_given call (HasFile image) x)
