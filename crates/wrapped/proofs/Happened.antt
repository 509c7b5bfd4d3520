-- A call that was made on a wrapped file is an event of the claim on every list of calls on wrapped files.
use Prim.Native.Nat.{ℕ}
use mathlib.Core.Path.{◌≡◌}
use mathlib.Core.Bool.{false}
use mathlib.Core.List.{List}
use lib.ListN.{length, take, drop}
use Rattle.model.specs.Calls.{Call, lent, serves_wrapped}
use Rattle.model.specs.Wrapped.{DoesWrapped}
use Rattle.model.proofs.Lists.{so_not}
use Rattle.history.proofs.Wrapped.{wrapped_event}
use Rattle.volume.specs.declared.Outcome.{Outcome}
use Rattle.volume.specs.Happens.{told_outcome, Happens}
use Rattle.volume.proofs.Happened.{whole_told, none_left}
use Rattle.wrapped.specs.Happens.{HappensWrapped}

module _ {call : Call} {file : List ℕ} {o : Outcome} {buffer after left : List ℕ} where
  -- one of the nine
  pub happens_wrapped : DoesWrapped call file (told_outcome o (take (length (lent call)) after)) left
      → drop (length (lent call)) after ≡ drop (length (lent call)) buffer → HappensWrapped call file o buffer after left
  happens_wrapped d b = record {
    does = λ _. d;
    bare = λ q. absurd (so_not _ q d.serves);
    rest = b;
    steps = λ _ h s acc a. wrapped_event (record { call = call; given = told_outcome o (take (length (lent call)) after); left = left }) file s acc d h a;
  }

  -- read, whose buffer is lent whole
  pub whole_happens_wrapped : lent call ≡ buffer → length after ≡ length buffer → DoesWrapped call file (told_outcome o after) left
      → HappensWrapped call file o buffer after left
  whole_happens_wrapped q l d = happens_wrapped (rw (whole_told call after q l) d) (none_left call after q l)

  -- a later call, as on a bare image
  pub happens_bare : serves_wrapped call ≡ false → Happens call file o buffer after left → HappensWrapped call file o buffer after left
  happens_bare serves e = record {
    does = λ q. absurd (so_not _ serves q);
    bare = λ _. e.does;
    rest = e.rest;
    steps = λ q. absurd (so_not _ serves q);
  }
