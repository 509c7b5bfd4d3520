-- The nine calls on a wrapped file (document 02, T-02), where the caller says that the file is wrapped.
use Rattle.std.specs.Prelude.{ℕ, ◌≡◌, true, cond, List, eqb}
use Rattle.model.specs.Bytes.{Bytes}
use Rattle.model.specs.Check.{first_refusal}
use Rattle.model.specs.Container.{inside, container_verdict, renewed}
use Rattle.model.specs.Calls.{Call, Answer, only, lent, Fits, serves_wrapped, refusal, reply, change}

-- Refusals: 22, 23, 24, in that order before 1; then those of the call on the data inside.
unfoldable pub file_refusal : Call → List ℕ → ℕ
file_refusal call file = let own = refusal call (inside file) in first_refusal (container_verdict file) own

-- A refusal gives its number, all other results are zero, and no lent byte changes; else the call answers as on the data inside.
unfoldable pub file_answer : Call → List ℕ → Answer
file_answer call file =
    let r = reply call (inside file) in
    let n = file_refusal call file in
    cond (eqb n 0) r (only n (lent call))

-- A change also renews the data checksum, and no other byte outside the data changes; a refusal leaves the file. A call that only
-- reads leaves the data, and so the checksum that they have.
unfoldable pub file_after : Call → List ℕ → List ℕ
file_after call file = let changed = renewed file (change call (inside file)) in cond (eqb (file_refusal call file) 0) changed file

-- the call on the file gave this answer and left this file; later calls take only bare images
pub record DoesWrapped (call : Call) (file : List ℕ) (given : Answer) (left : List ℕ) : Type 0 where
  pub bytes : Bytes file
  pub fits : Fits call
  pub serves : serves_wrapped call ≡ true
  pub answers : given ≡ file_answer call file
  pub leaves : left ≡ file_after call file
