-- No list of calls falls out of the claim: whatever is called, with arguments that fit their types, there is a run of it.
use Rattle.std.specs.Prelude.{ℕ, List, [], ◌∷◌}
use Rattle.model.specs.Bytes.{Bytes}
use Rattle.model.specs.Check.{Accepted}
use Rattle.model.specs.Calls.{Call, answer, after, Fits}
use Rattle.history.specs.History.{Event, Run, reading, Holds}

-- the events that demand 2 makes of a list of calls
unfoldable pub made : List ℕ → List Call → List Event
made image [] = []
made image (c ∷ calls) = record { call = c; given = answer c image; left = after c image } ∷ made (after c image) calls

unfoldable pub AllFit : List Call → Type 0
AllFit [] = Unit {0}
AllFit (c ∷ calls) = Fits c × AllFit calls

unfoldable pub EveryList : Type 0
EveryList =
    (image : List ℕ) (calls : List Call) → Accepted image → Bytes image → AllFit calls
    → Run image (made image calls) × Holds image (reading image) (made image calls)
