-- What the functions for checks 6 and 7 say of the entries es.
use Rattle.std.specs.Prelude.{ℕ, ◌≡◌, true, false, List, length, Result, Ok, Err}
use Rattle.model.specs.Lists.{every}
use Rattle.model.specs.Check.{fires6, good_number}
use Rattle.directory.specs.declared.BadEntry.{BadEntry}
use Rattle.checks.specs.declared.tally.Tally.{Tally}

-- check 6 does not fire: the entries are counted and their file numbers tested
pub record Counted (next : ℕ) (es : List (List ℕ)) (t : Tally) : Type 0 where
  pub six : fires6 es ≡ false
  pub counted : t.count ≡ length es
  pub tested : t.numbered ≡ every (good_number next) es

-- check 6, and where it does not fire, the count and the test
abbrev pub Tallied : ℕ → List (List ℕ) → Result Tally BadEntry → Type 0
Tallied next es (Ok t) = Counted next es t
Tallied next es (Err _) = fires6 es ≡ true
