-- Worked cases of what InParts says of events: which are the writes of the parts, and what is said of their numbers.
use Rattle.std.specs.Prelude.{ℕ, List, [], ◌∷◌}
use Rattle.model.specs.Calls.{only}
use Rattle.model.specs.Calls.Call.{write}
use Rattle.model.specs.Cases.{WEEK1}
use Rattle.history.specs.History.{Event}
use Rattle.history.specs.InParts.{WritesParts, Succeed, Meets, FirstGives}
use Rattle.model.specs.declared.Fork.TheVariants.{Data}

-- a write to WEEK1 that gave this number
unfoldable pub wrote : ℕ → List ℕ → ℕ → ℕ → Event
wrote offset bytes changed number = record { call = write WEEK1 Data offset bytes changed; given = only number []; left = [] }

-- writes of the parts 1 2, none and 3 from 700 on, with the date 9
unfoldable pub Three : List Event → Type 0
Three events = WritesParts WEEK1 Data 700 ((1 ∷ 2 ∷ []) ∷ [] ∷ (3 ∷ []) ∷ []) 9 events

-- events that gave these numbers
unfoldable pub gave : List ℕ → List Event
gave [] = []
gave (n ∷ ns) = wrote 0 [] 0 n ∷ gave ns

pub record PartCases : Type 0 where
  -- of every part; up to one that is refused; and behind that too
  pub every : Three (wrote 700 (1 ∷ 2 ∷ []) 9 0 ∷ wrote 702 [] 9 0 ∷ wrote 702 (3 ∷ []) 9 0 ∷ [])
  pub stopped : Three (wrote 700 (1 ∷ 2 ∷ []) 9 0 ∷ wrote 702 [] 9 17 ∷ [])
  pub onwards : Three (wrote 700 (1 ∷ 2 ∷ []) 9 0 ∷ wrote 702 [] 9 17 ∷ wrote 702 (3 ∷ []) 9 16 ∷ [])
  -- no part; a part left out; one too many; at another offset; other bytes; another date
  pub none : Three [] → ⊥
  pub fewer : Three (wrote 700 (1 ∷ 2 ∷ []) 9 0 ∷ wrote 702 [] 9 0 ∷ []) → ⊥
  pub more : Three (wrote 700 (1 ∷ 2 ∷ []) 9 0 ∷ wrote 702 [] 9 0 ∷ wrote 702 (3 ∷ []) 9 0 ∷ wrote 703 [] 9 0 ∷ []) → ⊥
  pub elsewhere : Three (wrote 700 (1 ∷ 2 ∷ []) 9 0 ∷ wrote 702 [] 9 0 ∷ wrote 700 (3 ∷ []) 9 0 ∷ []) → ⊥
  pub others : Three (wrote 700 (1 ∷ 2 ∷ []) 9 0 ∷ wrote 702 [] 9 0 ∷ wrote 702 (4 ∷ []) 9 0 ∷ []) → ⊥
  pub later : Three (wrote 700 (1 ∷ 2 ∷ []) 9 0 ∷ wrote 702 [] 9 0 ∷ wrote 702 (3 ∷ []) 10 0 ∷ []) → ⊥
  -- all succeed, or one does not
  pub succeed : Succeed (gave (0 ∷ 0 ∷ []))
  pub refused : Succeed (gave (0 ∷ 17 ∷ [])) → ⊥
  -- 17 at the first, at a later one, at none; another number before it
  pub first17 : Meets 17 (gave (17 ∷ 16 ∷ []))
  pub later17 : Meets 17 (gave (0 ∷ 0 ∷ 17 ∷ []))
  pub never17 : Meets 17 (gave (0 ∷ 0 ∷ [])) → ⊥
  pub behind17 : Meets 17 (gave (0 ∷ 16 ∷ 17 ∷ [])) → ⊥
  -- the first number
  pub first : FirstGives 16 (gave (16 ∷ 0 ∷ []))
  pub second : FirstGives 16 (gave (0 ∷ 16 ∷ [])) → ⊥
