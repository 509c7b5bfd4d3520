-- Readings that come in bits (document 02, T-06): one week may come in one write or in forty. The bytes of a write are cut into one or
-- more parts, of length 0 too, and written one behind the other from the same offset with the same date.
use Rattle.std.specs.Prelude.{ℕ, ◌+◌, ◌≡◌, List, [], ◌∷◌, ◌⊎◌, length}
use Rattle.model.specs.Lists.{flat}
use Rattle.model.specs.Calls.{Answer, Does}
use Rattle.model.specs.Calls.Call.{write}
use Rattle.history.specs.History.{Event, Run}
use Rattle.history.specs.Among.{last_image}
use Rattle.model.specs.declared.Fork.{Fork}

-- the events are writes of the parts, one behind the other from this offset on, all with this date: of every part, or of those up to one
-- that is refused
unfoldable pub WritesParts : List ℕ → Fork → ℕ → List (List ℕ) → ℕ → List Event → Type 0
WritesParts name fork offset [] changed [] = Unit {0}
WritesParts name fork offset [] changed (e ∷ events) = ⊥
WritesParts name fork offset (bytes ∷ parts) changed [] = ⊥
WritesParts name fork offset (bytes ∷ parts) changed (e ∷ events) =
    (e.call ≡ write name fork offset bytes changed)
    × (WritesParts name fork (offset + length bytes) parts changed events ⊎ ((e.given.number ≡ 0 → ⊥) × (events ≡ [])))

-- every call succeeds
unfoldable pub Succeed : List Event → Type 0
Succeed [] = Unit {0}
Succeed (e ∷ events) = (e.given.number ≡ 0) × Succeed events

-- some call gives this number, and those before it succeed
unfoldable pub Meets : ℕ → List Event → Type 0
Meets number [] = ⊥
Meets number (e ∷ events) = (e.given.number ≡ number) ⊎ ((e.given.number ≡ 0) × Meets number events)

-- the first call gives this number
unfoldable pub FirstGives : ℕ → List Event → Type 0
FirstGives number [] = ⊥
FirstGives number (e ∷ events) = e.given.number ≡ number

-- the single write gave this answer and left this image; the parts are a run from the same image
pub record AsOne (image : List ℕ) (given : Answer) (left : List ℕ) (parts : List Event) : Type 0 where
  -- Where the single write succeeds, every part succeeds, and they leave the very image that the single write leaves.
  pub same : given.number ≡ 0 → Succeed parts × (last_image image parts ≡ left)
  -- If the single write is refused for room, the run of parts meets 17 at some part, and the parts before it succeed.
  pub full : given.number ≡ 17 → Meets 17 parts
  -- If it is refused otherwise, the first part gets the same number.
  pub other : (given.number ≡ 0 → ⊥) → (given.number ≡ 17 → ⊥) → FirstGives given.number parts

-- for every image, accepted or not, every write, and every way to cut its bytes
unfoldable pub InParts : Type 0
InParts =
    (image name : List ℕ) (fork : Fork) (offset : ℕ) (bytes : List ℕ) (parts : List (List ℕ)) (changed : ℕ) (given : Answer) (left : List ℕ)
    (events : List Event) → Does (write name fork offset (flat (bytes ∷ parts)) changed) image given left → Run image events
    → WritesParts name fork offset (bytes ∷ parts) changed events → AsOne image given left events

-- No way to cut falls out of that: whatever write is made, its parts can be written, up to one that is refused.
unfoldable pub EveryCut : Type 0
EveryCut =
    (image name : List ℕ) (fork : Fork) (offset : ℕ) (bytes : List ℕ) (parts : List (List ℕ)) (changed : ℕ) (given : Answer) (left : List ℕ)
    → Does (write name fork offset (flat (bytes ∷ parts)) changed) image given left
    → (events : List Event) × Run image events × WritesParts name fork offset (bytes ∷ parts) changed events
