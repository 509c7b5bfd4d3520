-- For the auditor: deleting one file changes no byte of another's forks and no date of another.
use Rattle.std.specs.Prelude.{ℕ, ◌≡◌, false, List}
use Rattle.model.specs.Directory.{same_name}
use Rattle.model.specs.Check.{Accepted}
use Rattle.model.specs.Calls.{Answer, Does}
use Rattle.model.specs.Calls.Call.{delete}
use Rattle.history.specs.History.{File}
use Rattle.history.specs.Among.{HasFile}

unfoldable pub Deleting : Type 0
Deleting =
    (image name left : List ℕ) (given : Answer) (x : File) → Accepted image → Does (delete name) image given left
    → same_name name x.name ≡ false → HasFile image x → HasFile left x
