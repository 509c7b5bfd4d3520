-- What the corollaries for the auditor are made of: a file among an image's, and the image at the end of a run.
use Rattle.std.specs.Prelude.{ℕ, ◌<◌, ◌≡◌, List, [], ◌∷◌, length, get_or}
use Rattle.history.specs.History.{File, no_file, files_in, Event}

-- The image has this file at some place: number, name, flags, Finder bytes, dates, and each fork's bytes and count of blocks.
abbrev pub HasFile : List ℕ → File → Type 0
HasFile image x = (i : ℕ) × (i < length (files_in image)) × (get_or (files_in image) i no_file ≡ x)

-- the image that the last event of a list left
unfoldable pub last_image : List ℕ → List Event → List ℕ
last_image image [] = image
last_image image (e ∷ events) = last_image e.left events
