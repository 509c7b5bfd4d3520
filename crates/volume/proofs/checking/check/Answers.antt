-- `check` meets its contract: each return is a refusal by the check that fires, or the facts of an accepted image. Assumes nothing.
use Rattle.std.proofs.lemmas.Result.{err_from_is_err_and}
use mathlib.Core.Path.{refl, ◌≡◌, sym, ◌∙◌}
use mathlib.Core.Bool.{false}
use native.Mathlib.Omega.{arith}
use lib.ListN.{length}
use Rattle.model.specs.Bytes.{Bytes}
use Rattle.model.specs.Check.{fires1}
use Rattle.model.proofs.Refusals.{number_some}
use Rattle.checks.proofs.Numbers.{judged}
use Rattle.checks.proofs.Numbered.{long_blocks}
use Rattle.volume.proofs.Checked.{does_1, does_number, does_facts}
use Rattle.volume.proofs.checking.check.Goals as goal

pub returns-then-bad_length : goal.returns-then-bad_length
unfolding Bytes
returns-then-bad_length c =
    let bytes : Bytes c.args.image.now = λ i. omega (arith, c.type_inv.image i) in
    does_1 _ bytes (sym c.bad_length.ensures ∙ c.if-bad_length.true)

pub read-facts-requires : goal.read-facts-requires
read-facts-requires c =
    let long : fires1 (length c.args.image.now) ≡ false = sym c.bad_length.ensures ∙ c.if-bad_length.false in
    let b = long_blocks _ long in omega arith

pub judge-requires : goal.judge-requires
unfolding Bytes
judge-requires c =
    let bytes : Bytes c.args.image.now = λ i. omega (arith, c.type_inv.image i) in
    let long : fires1 (length c.args.image.now) ≡ false = sym c.bad_length.ensures ∙ c.if-bad_length.false in
    judged _ _ bytes c.read-facts.ensures long

pub returns-in_err-judge : goal.returns-in_err-judge
unfolding Bytes
returns-in_err-judge c =
    let bytes : Bytes c.args.image.now = λ i. omega (arith, c.type_inv.image i) in
    let long : fires1 (length c.args.image.now) ≡ false = sym c.bad_length.ensures ∙ c.if-bad_length.false in
    let p = err_from_is_err_and c.from_residual.result c.from_residual.ensures.1 in
    rw (p.1, p.2) (does_number _ bytes long _ c.read-facts.ensures _ c.in_err-judge.ensures (number_some _))

pub returns : goal.returns
unfolding Bytes
returns c =
    let bytes : Bytes c.args.image.now = λ i. omega (arith, c.type_inv.image i) in
    let long : fires1 (length c.args.image.now) ≡ false = sym c.bad_length.ensures ∙ c.if-bad_length.false in
    does_facts _ bytes long _ c.read-facts.ensures _ c.in_ok-judge.ensures refl
