-- `probe` meets its contract. The loop's invariant: what stands from the entry's home slot up to slot i differs from it. The
-- measure is the number of slots left. Assumes nothing.
use mathlib.Core.Path.{◌≡◌, sym, ap, ◌∙◌, subst⁻¹}
use native.Mathlib.Omega.{arith}
use Rattle.directory.specs.declared.EntryAt.{EntryAt}
use Rattle.directory.specs.Cursor.{bytes_at, Stands}
use Rattle.checks.specs.Same.{same_by}
use Rattle.checks.specs.Table.{occupant, Occupied}
use Rattle.checks.proofs.Kept.{passed_none, passed_more}
use Rattle.checks.proofs.table.probe.Goals as goal

pub returns-then-e-ge-LIMIT : goal.returns-then-e-ge-LIMIT
returns-then-e-ge-LIMIT c = tt

pub home-i-requires : goal.home-i-requires
home-i-requires c = record {
  stands = c.requires.stands;
  folds = c.requires.folds;
}

pub loop-i-init : goal.loop-i-init
loop-i-init c = passed_none _ _ _ _ _ c.home-i.ensures

pub returns-then-kept-eq0 : goal.returns-then-kept-eq0
returns-then-kept-eq0 c = record { small = c.if-e-ge-LIMIT.false; within = omega arith; free = c.if-kept-eq0.true; passed = c.loop-i.invariant }

pub entry_in_slot-d-requires : goal.entry_in_slot-d-requires
entry_in_slot-d-requires c =
    let held : Occupied c.args.table.now c.loop-i.i = omega arith in
    record {
      le_kept = held;
      stands = c.requires.filled _ held;
    }

pub same-requires : goal.same-requires
same-requires c =
    let held : Occupied c.args.table.now c.loop-i.i = omega arith in
    record {
      stands = subst⁻¹ (Stands c.args.image.now) c.entry_in_slot-d.ensures (c.requires.filled _ held);
      stands_2 = c.requires.stands;
      folds = c.requires.folds;
    }

pub returns-then-same : goal.returns-then-same
returns-then-same c =
    let held : Occupied c.args.table.now c.loop-i.i = omega arith in
    let a = c.args in
    let tested : c.same.result ≡ same_by a.field (occupant a.image.now a.table.now c.loop-i.i) (bytes_at a.image.now a.e) =
    c.same.ensures ∙ ap (λ (d : EntryAt). same_by a.field (bytes_at a.image.now d) (bytes_at a.image.now a.e))
    c.entry_in_slot-d.ensures in
    record { slot = c.loop-i.i; held = held; same = sym tested ∙ c.if-same.true }

pub loop-i-preserved : goal.loop-i-preserved
loop-i-preserved c =
    let held : Occupied c.args.table.now c.loop-i.i = omega arith in
    let a = c.args in
    let tested : c.same.result ≡ same_by a.field (occupant a.image.now a.table.now c.loop-i.i) (bytes_at a.image.now a.e) =
    c.same.ensures ∙ ap (λ (d : EntryAt). same_by a.field (bytes_at a.image.now d) (bytes_at a.image.now a.e))
    c.entry_in_slot-d.ensures in
    passed_more _ _ _ _ _ c.loop-i.invariant held (sym tested ∙ c.if-same.false)

pub returns : goal.returns
returns c = tt
