-- For the auditor: what read gives of a fork that was written in pieces is the bytes written, in place.
use Rattle.std.specs.Prelude.{ℕ, ◌+◌, ◌≡◌, List, [], ◌∷◌, length}
use Rattle.model.specs.Lists.{flat}
use Rattle.model.specs.Check.{Accepted}
use Rattle.model.specs.Calls.{Answer, Does}
use Rattle.model.specs.Calls.Call.{read, write}
use Rattle.history.specs.History.{Event, Run}
use Rattle.history.specs.Among.{last_image}
use Rattle.model.specs.declared.Fork.{Fork}

-- the events are writes of the pieces, one behind the other from offset o, each at some date, and none is refused
unfoldable pub Writes : List ℕ → Fork → ℕ → List (List ℕ) → List Event → Type 0
Writes name fork o [] [] = Unit {0}
Writes name fork o [] (e ∷ events) = ⊥
Writes name fork o (xs ∷ pieces) [] = ⊥
Writes name fork o (xs ∷ pieces) (e ∷ events) =
    ((changed : ℕ) × (e.call ≡ write name fork o xs changed)) × (e.given.number ≡ 0) × Writes name fork (o + length xs) pieces events

unfoldable pub InPieces : Type 0
InPieces =
    (image name : List ℕ) (fork : Fork) (o : ℕ) (xs : List ℕ) (pieces : List (List ℕ)) (events : List Event) → Accepted image → Run image events
    → Writes name fork o (xs ∷ pieces) events
    → (buffer : List ℕ) (given : Answer) (left : List ℕ) → Does (read name fork o buffer) (last_image image events) given left
    → length buffer ≡ length (flat (xs ∷ pieces))
    → (given.number ≡ 0) × (given.count ≡ length buffer) × (given.buffer ≡ flat (xs ∷ pieces))
