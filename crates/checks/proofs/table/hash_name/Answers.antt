-- `hash_name` meets its contract. The loop's invariant: what is left of the name, hashed into h, is the whole name hashed. Assumes nothing.
use Prim.Native.Nat.{ℕ, ◌+◌, ◌*◌, ◌%◌, ◌<◌}
use mathlib.Core.Path.{◌≡◌, refl, sym, ap, ◌∙◌}
use native.Mathlib.Omega.{arith}
use lib.ListN.{drop}
use Rattle.model.specs.Bytes.{byte}
use Rattle.directory.specs.Folding.{fold, folded}
use Rattle.directory.proofs.Folding.{fold_byte}
use Rattle.checks.specs.Table.{hashed}
use Rattle.checks.proofs.Homes.{hash_more, hash_end}
use Rattle.checks.proofs.table.hash_name.Goals as goal

pub loop-x-init : goal.loop-x-init
loop-x-init c = (omega arith, refl)

pub overflow_cast-b : goal.overflow_cast-b
overflow_cast-b c = omega (arith, c.type_inv.name c.loop-x.x-index)

pub bounds-fold-x : goal.bounds-fold-x
bounds-fold-x c = omega (arith, c.type_inv.name c.loop-x.x-index)

pub overflow_cast-h : goal.overflow_cast-h
overflow_cast-h c =
    let octet : byte c.args.name.now c.loop-x.x-index < 256 = omega (arith, c.type_inv.name c.loop-x.x-index) in
    let entry : let a = c.args in
    byte a.fold.now (byte a.name.now c.loop-x.x-index) ≡ fold (byte a.name.now c.loop-x.x-index) = c.requires _ octet in
    omega (arith, entry, fold_byte _ octet)

pub overflow_add-h : goal.overflow_add-h
overflow_add-h c =
    let octet : byte c.args.name.now c.loop-x.x-index < 256 = omega (arith, c.type_inv.name c.loop-x.x-index) in
    let entry : let a = c.args in
    byte a.fold.now (byte a.name.now c.loop-x.x-index) ≡ fold (byte a.name.now c.loop-x.x-index) = c.requires _ octet in
    omega (arith, entry, fold_byte _ octet)

pub loop-x-preserved : goal.loop-x-preserved
loop-x-preserved c =
    let octet : byte c.args.name.now c.loop-x.x-index < 256 = omega (arith, c.type_inv.name c.loop-x.x-index) in
    let entry : let a = c.args in
    byte a.fold.now (byte a.name.now c.loop-x.x-index) ≡ fold (byte a.name.now c.loop-x.x-index) = c.requires _ octet in
    let a = c.args in
    let h = c.loop-x.h in
    let more = hash_more a.name.now h c.loop-x.x-index (omega arith) in
    let same = ap (λ (x : ℕ). hashed ((h * 293 + x) % 65536) (folded (drop (c.loop-x.x-index + 1) a.name.now))) entry in
    (omega arith, same ∙ sym more ∙ c.loop-x.invariant.1)

pub returns : goal.returns
returns c = sym (hash_end c.args.name.now c.loop-x.h c.loop-x.x-index (omega arith)) ∙ c.loop-x.invariant.1
