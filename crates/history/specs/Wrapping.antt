-- A wrapped image unwraps to the image.
use Rattle.std.specs.Prelude.{ℕ, ◌≤◌, ◌≡◌, List, [], length}
use Rattle.model.specs.Check.{Accepted}
use Rattle.model.specs.Container.{inside, tags, SoundContainer}
use Rattle.model.specs.Calls.{Call, Answer, Does}
use Rattle.model.specs.Calls.Call.{wrap}
use Rattle.model.specs.Wrapped.{DoesWrapped}

-- Wrapping an accepted 400K image into a buffer of 409,684 bytes, by a name of up to 63, is not refused. What the buffer then holds
-- is a sound container without tags, whose data are the image; and each of the nine calls answers on it as on the image, so that check
-- tells the same facts, and leaves inside it what it leaves of the image.
unfoldable pub Wrapping : Type 0
Wrapping =
    (image name buffer : List ℕ) (format : ℕ) (given : Answer) (left : List ℕ) → Accepted image → length image ≡ 409600 → length buffer ≡ 409684
    → length name ≤ 63 → Does (wrap name format buffer) image given left
    → (given.number ≡ 0) × SoundContainer given.buffer × (tags given.buffer ≡ []) × (inside given.buffer ≡ image)
    × ((call : Call) (bare wrapped : Answer) (left after : List ℕ) → Does call image bare left → DoesWrapped call given.buffer wrapped after
    → (wrapped ≡ bare) × (inside after ≡ left))
