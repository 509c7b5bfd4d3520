-- For the auditor: after any list of calls, a file that no changing call named is what it was.
use Rattle.std.specs.Prelude.{ℕ, ◌≡◌, false, List, [], ◌∷◌}
use Rattle.model.specs.Check.{Accepted}
use Rattle.history.specs.History.{File, Event, Run, touches}
use Rattle.history.specs.Among.{HasFile, last_image}

-- no call of the list may change the file of this name: none that changes the image is given it, a rename neither as
-- the old name nor as the new
unfoldable pub NoneNames : List ℕ → List Event → Type 0
NoneNames name [] = Unit {0}
NoneNames name (e ∷ events) = (touches e.call name ≡ false) × NoneNames name events

unfoldable pub Untouched : Type 0
Untouched =
    (image : List ℕ) (events : List Event) (x : File) → Accepted image → Run image events
    → HasFile image x → NoneNames x.name events → HasFile (last_image image events) x
