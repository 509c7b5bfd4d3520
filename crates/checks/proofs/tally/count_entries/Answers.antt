-- `count_entries` meets its contract. The loop's invariant: check 6 fires for the entries from c on where it does for all, those with the
-- ones counted are all, and so it is with their file numbers. Assumes nothing.
use Prim.Native.Nat.{ℕ}
use mathlib.Core.Path.{◌≡◌, sym, ap, ◌∙◌}
use mathlib.Core.Bool.{true, ◌&&◌, and-true}
use mathlib.Core.List.{List}
use native.Mathlib.Omega.{arith}
use lib.ListN.{length}
use Rattle.model.specs.Lists.{every}
use Rattle.model.specs.Check.{fires6, good_number}
use Rattle.std.specs.Prelude.{Result, Ok, Err, IsErr}
use Rattle.directory.specs.declared.BadEntry.{BadEntry}
use Rattle.checks.specs.declared.tally.Tally.{Tally}
use Rattle.directory.specs.Cursor.{Moves}
use Rattle.checks.specs.Tallied.{Tallied}
use Rattle.directory.proofs.Each.{six_more, six_none, six_fails}
use Rattle.directory.proofs.Tests.{every_more}
use Rattle.checks.proofs.tally.count_entries.Goals.{In-Some}
use Rattle.checks.proofs.tally.count_entries.Goals as goal

err : (next : ℕ) (es : List (List ℕ)) (r : Result Tally BadEntry) → IsErr r → fires6 es ≡ true → Tallied next es r
err next es (Ok t) i h = absurd (cc)
err next es (Err e) i h = h

step : (c : In-Some) → Moves c.args.image.now c.loop-e.c c.in-Some.e c.in-Some.behind
step c = rw c.in-Some.is at c.in_ok-e.ensures

pub loop-e-preserved : goal.loop-e-preserved
loop-e-preserved c =
    let m = step (goal.at.loop-e-preserved c).In-Some in
    let l = c.loop-e in
    record {
      fits = m.fits;
      few = omega (arith, m.less);
      six = l.invariant.six ∙ six_more m;
      counted = omega (arith, ap (length {A = List ℕ}) m.rest);
      tested = l.invariant.tested ∙ rw c.good_number-numbered.ensures (every_more m.rest (good_number c.args.next) l.numbered);
    }

pub returns : goal.returns
unfolding every
returns c =
    let l = c.loop-e in
    let none = rw c.in_default.is at c.in_ok-e.ensures in
    record {
      six = l.invariant.six ∙ six_none none;
      counted = omega (arith, ap (length {A = List ℕ}) none);
      tested =
          sym (l.invariant.tested ∙ ap (λ (es : List (List ℕ)). l.numbered && every (good_number c.args.next) es) none ∙ and-true l.numbered);
    }

pub returns-in_err-e : goal.returns-in_err-e
returns-in_err-e c =
    err _ _ _ c.from_residual.ensures.0 (c.loop-e.invariant.six ∙ six_fails c.in_err-e.ensures)
