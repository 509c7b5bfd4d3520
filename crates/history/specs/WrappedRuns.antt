-- Demand 3 for wrapped files (document 02, T-02): one claim over every list of the nine calls.
use Rattle.std.specs.Prelude.{ℕ, ◌≤◌, ◌<◌, ◌≡◌, true, false, ◌&&◌, List, [], ◌∷◌, map, ◌⊎◌, length, eqb}
use Rattle.model.specs.Bytes.{byte, Bytes}
use Rattle.model.specs.Check.{Accepted}
use Rattle.model.specs.Container.{inside, SoundContainer}
use Rattle.model.specs.Calls.{Call, serves_wrapped}
use Rattle.model.specs.Wrapped.{file_answer, file_after, DoesWrapped}
use Rattle.history.specs.History.{History, Event, Run, reading, Agrees, step, is18, changes, InStep}
use Rattle.history.specs.EveryList.{AllFit}

-- a call on a file, as one on the data inside
unfoldable pub within : Event → Event
within e = record { call = e.call; given = e.given; left = inside e.left }

-- Only the file passes from call to call: each event is one that demand 2 allows on the file that the event before it left.
unfoldable pub WrappedRun : List ℕ → List Event → Type 0
WrappedRun file [] = Unit
WrappedRun file (e ∷ events) = DoesWrapped e.call file e.given e.left × WrappedRun e.left events

-- a byte outside the data that is none of the four of the data checksum
unfoldable pub Outside : ℕ → Type 0
Outside i = (i < 72) ⊎ (((76 ≤ i) × (i < 84)) ⊎ (409684 ≤ i))

-- what must hold after an event on a file whose data read as the history h
pub record WrappedStep (e : Event) (file : List ℕ) (h : History) : Type 0 where
  -- the file is bytes, and a sound container
  pub bytes : Bytes e.left
  pub sound : SoundContainer e.left
  -- the data inside keep step with the history exactly as a bare image does
  pub keeps : InStep (within e) (inside file) h
  -- outside the data only the data checksum differs
  pub size : length e.left ≡ length file
  pub kept : (i : ℕ) → Outside i → byte e.left i ≡ byte file i
  -- a refused call and one that only reads change nothing
  pub still : (changes e.call && eqb e.given.number 0) ≡ false → e.left ≡ file

-- every event of the list keeps step with the history
unfoldable pub WrappedHolds : List ℕ → History → List Event → Type 0
WrappedHolds file h [] = Unit
WrappedHolds file h (e ∷ events) = WrappedStep e file h × WrappedHolds e.left (step h (is18 e) e.call) events

-- For every list of the nine calls from a sound container with an accepted image inside, refused ones included: the calls are a run
-- on the data inside, and every event keeps step with the history.
unfoldable pub WrappedRuns : Type 0
WrappedRuns =
    (file : List ℕ) (events : List Event) → SoundContainer file → Accepted (inside file) → WrappedRun file events
    → Agrees (inside file) (reading (inside file)) × Run (inside file) (map within events) × WrappedHolds file (reading (inside file)) events

-- ---- No list of the nine calls falls out of the claim

-- the events that demand 2 makes of a list of calls
unfoldable pub made_wrapped : List ℕ → List Call → List Event
made_wrapped file [] = []
made_wrapped file (c ∷ calls) = record { call = c; given = file_answer c file; left = file_after c file } ∷ made_wrapped (file_after c file) calls

unfoldable pub AllServe : List Call → Type 0
AllServe [] = Unit {0}
AllServe (c ∷ calls) = (serves_wrapped c ≡ true) × AllServe calls

-- Whatever of the nine is called, with arguments that fit their types, there is a run of it.
unfoldable pub EveryWrappedList : Type 0
EveryWrappedList =
    (file : List ℕ) (calls : List Call) → SoundContainer file → Accepted (inside file) → Bytes file → AllFit calls → AllServe calls
    → WrappedRun file (made_wrapped file calls) × WrappedHolds file (reading (inside file)) (made_wrapped file calls)
