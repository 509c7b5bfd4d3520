-- For the auditor: a rename gives one file a name and a date of change, and leaves all else of every file.
use Rattle.std.specs.Prelude.{ℕ, ◌≡◌, List}
use Rattle.model.specs.Check.{Accepted}
use Rattle.model.specs.Calls.{Answer, Does}
use Rattle.model.specs.Calls.Call.{rename}
use Rattle.history.specs.History.{File, on_called, retitled_file}
use Rattle.history.specs.Among.{HasFile}

-- every file is there afterwards, the one of the old name with the new name and the date given, and no other file is there
unfoldable pub Renaming : Type 0
Renaming =
    (image name new left : List ℕ) (changed : ℕ) (given : Answer) → Accepted image → Does (rename name new changed) image given left
    → given.number ≡ 0
    → ((x : File) → HasFile image x → HasFile left (on_called name (retitled_file new changed) x))
    × ((y : File) → HasFile left y → (x : File) × HasFile image x × (on_called name (retitled_file new changed) x ≡ y))
