-- Laws of one step of the cursor: an entry more, no entry, an entry that fails.
use Prim.Native.Nat.{ℕ}
use mathlib.Core.Path.{◌≡◌, refl, sym, ◌∙◌}
use mathlib.Core.Bool.{true, false}
use mathlib.Core.List.{List, []}
use Rattle.model.specs.Lists.{every}
use Rattle.model.specs.Check.{fires6}
use Rattle.model.proofs.Lists.{so_not}
use Rattle.directory.specs.declared.Cursor.{Cursor}
use Rattle.directory.specs.declared.EntryAt.{EntryAt}
use Rattle.directory.specs.declared.BadEntry.{BadEntry}
use Rattle.directory.specs.Cursor.{rest_of, Passes, Moves, Fails, Stepped, Advanced}
use Rattle.std.specs.Prelude.{Option, Some, None, Result, Ok, Err, IsOk}

-- ---- check 6

pub six_none : {es : List (List ℕ)} → es ≡ [] → fires6 es ≡ false
unfolding fires6 every
six_none r = rw r

module _ {image : List ℕ} {c : Cursor} where
  pub six_more : {e : EntryAt} {d : Cursor} → Moves image c e d → fires6 (rest_of image c) ≡ fires6 (rest_of image d)
  unfolding fires6 every
  six_more m = rw (m.rest, m.good)

  pub six_fails : Fails image c → fires6 (rest_of image c) ≡ true
  unfolding fires6 every
  six_fails m = rw (m.rest, m.bad)

-- a reading that passes it: the entries behind the next one do too, and no step finds one that fails
module _ {image : List ℕ} {c : Cursor} (p : Passes image c) where
  pub passes_more : {e : EntryAt} {d : Cursor} → Moves image c e d → Passes image d
  passes_more m = record { fits = m.fits; good = sym (six_more m) ∙ p.good }

  pub never_fails : Fails image c → ⊥
  never_fails h = so_not (fires6 (rest_of image c)) p.good (six_fails h)

  -- so a step finds an entry or none
  pub steps : (s : Result (Option (EntryAt × Cursor)) BadEntry) → Stepped image c s → IsOk s
  steps (Ok m) h = refl
  steps (Err e) h = absurd (never_fails h)

  pub advances : (m : Option (EntryAt × Cursor)) → Stepped image c (Ok m) → Advanced image c m
  advances (Some m) h = record { moves = h; passes = passes_more h }
  advances None h = h
