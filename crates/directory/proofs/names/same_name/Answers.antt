-- `same_name` meets its contract. The loop's invariant: the names are equal from `i` on. Assumes nothing.
use Prim.Native.Nat.{◌-◌}
use mathlib.Core.Path.{sym, ◌∙◌}
use native.Mathlib.Omega.{arith}
use lib.ListN.{length}
use Rattle.directory.proofs.Same.{lengths_differ, name_same, name_differs, name_end}
use Rattle.directory.proofs.names.same_name.Goals as goal

pub returns-then-a-b : goal.returns-then-a-b
returns-then-a-b c = sym (lengths_differ _ _ c.if-a-b.true)

pub loop-i-init : goal.loop-i-init
loop-i-init c = name_end c.args.a.now c.args.b.now (length c.args.a.now) (omega arith) (omega arith)

pub returns-then-not-same_byte : goal.returns-then-not-same_byte
returns-then-not-same_byte c =
    sym
    (name_differs c.args.a.now c.args.b.now (c.loop-i.i - 1) (omega arith) (omega arith) (sym c.same_byte.ensures ∙ c.if-not-same_byte.true))

pub loop-i-preserved : goal.loop-i-preserved
loop-i-preserved c =
    let same = sym c.same_byte.ensures ∙ c.if-not-same_byte.false in
    name_same c.args.a.now c.args.b.now c.loop-i.i (omega arith) (omega arith) (omega arith) same c.loop-i.invariant
