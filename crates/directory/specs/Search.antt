-- What a search among the entries es finds.
use Rattle.std.specs.Prelude.{ℕ, ◌≤◌, ◌<◌, ◌≡◌, true, false, List, [], length, get_or, Option, Some, None}
use Rattle.std.specs.declared.ops.ControlFlow.{ControlFlow}
use Rattle.std.specs.declared.ops.ControlFlow.TheVariants.{Break, Continue}
use Rattle.model.specs.Lists.{any, first, place_of}
use Rattle.model.specs.Directory.{named}
use Rattle.model.specs.Quick.{quick_listing, looked_at}
use Rattle.directory.specs.declared.EntryAt.{EntryAt}
use Rattle.directory.specs.declared.Found.{Found}
use Rattle.directory.specs.declared.QuickEntry.{QuickEntry}
use Rattle.directory.specs.declared.Cursor.{Cursor}
use Rattle.directory.specs.Cursor.{bytes_at, Stands, Comes, Lies}

-- the first entry of the name is e, at that place
pub record FirstNamed (image name : List ℕ) (es : List (List ℕ)) (place : ℕ) (e : EntryAt) : Type 0 where
  pub exists : any (named name) es ≡ true
  pub there : place ≡ place_of (named name) es
  pub bytes : bytes_at image e ≡ first (named name) [] es
  pub stands : Stands image e

abbrev pub Finds : List ℕ → List ℕ → List (List ℕ) → Option Found → Type 0
Finds image name es (Some f) = FirstNamed image name es f.place f.entry
Finds image name es None = any (named name) es ≡ false

-- and where in the directory it stands
abbrev pub Located : List ℕ → Cursor → Option Found → Type 0
Located image c (Some f) = (base blocks : ℕ) → Comes image base blocks c → Lies image base blocks f.entry
Located image c None = Unit {0}

-- the entry at the place asked is e
pub record Placed (image : List ℕ) (es : List (List ℕ)) (asked place : ℕ) (e : EntryAt) : Type 0 where
  pub there : place ≡ asked
  pub below : asked < length es
  pub bytes : bytes_at image e ≡ get_or es asked []
  pub stands : Stands image e

abbrev pub Gives : List ℕ → List (List ℕ) → ℕ → Option Found → Type 0
Gives image es asked (Some f) = Placed image es asked f.place f.entry
Gives image es asked None = length es ≤ asked

-- ---- in a directory that was not checked

-- of one block, whose entries so read are es
abbrev pub Searched : List ℕ → List ℕ → List (List ℕ) → ControlFlow Found ℕ → Type 0
Searched image name es (Break f) = FirstNamed image name es f.place f.entry
Searched image name es (Continue count) = (any (named name) es ≡ false) × (count ≡ length es)

-- of the directory blocks bs, with the number of them looked at
abbrev pub QuickFinds : List ℕ → List ℕ → List (List ℕ) → Option QuickEntry → Type 0
QuickFinds image name bs (Some f) = FirstNamed image name (quick_listing bs) f.place f.entry × (f.looked ≡ looked_at name bs)
QuickFinds image name bs None = any (named name) (quick_listing bs) ≡ false
