-- Readings that come in bits (document 02, T-06) on wrapped files: the parts of a write leave the very file that the single write leaves,
-- its data checksum too, and are refused as on a bare image; 22 to 24 are numbers that the first part gets.
use Rattle.std.specs.Prelude.{ℕ, List, ◌∷◌}
use Rattle.model.specs.Lists.{flat}
use Rattle.model.specs.Calls.{Answer}
use Rattle.model.specs.Calls.Call.{write}
use Rattle.model.specs.Wrapped.{DoesWrapped}
use Rattle.history.specs.History.{Event}
use Rattle.history.specs.InParts.{WritesParts, AsOne}
use Rattle.history.specs.WrappedRuns.{WrappedRun}
use Rattle.model.specs.declared.Fork.{Fork}

-- for every file, sound or not, every write, and every way to cut its bytes
unfoldable pub WrappedInParts : Type 0
WrappedInParts =
    (file name : List ℕ) (fork : Fork) (offset : ℕ) (bytes : List ℕ) (parts : List (List ℕ)) (changed : ℕ) (given : Answer) (left : List ℕ)
    (events : List Event) → DoesWrapped (write name fork offset (flat (bytes ∷ parts)) changed) file given left → WrappedRun file events
    → WritesParts name fork offset (bytes ∷ parts) changed events → AsOne file given left events

-- No way to cut falls out of that: whatever write is made, its parts can be written, up to one that is refused.
unfoldable pub EveryWrappedCut : Type 0
EveryWrappedCut =
    (file name : List ℕ) (fork : Fork) (offset : ℕ) (bytes : List ℕ) (parts : List (List ℕ)) (changed : ℕ) (given : Answer) (left : List ℕ)
    → DoesWrapped (write name fork offset (flat (bytes ∷ parts)) changed) file given left
    → (events : List Event) × WrappedRun file events × WritesParts name fork offset (bytes ∷ parts) changed events
