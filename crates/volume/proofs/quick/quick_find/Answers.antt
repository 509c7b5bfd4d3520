-- `quick_find` meets its contract: each return is a refusal by the first of checks 1 to 4 that fires, or what is answered behind them. Assumes
-- nothing.
use Rattle.std.proofs.Common.{Err}
use Rattle.std.proofs.lemmas.Result.{err_from_is_err_and}
use mathlib.Core.Path.{◌≡◌, refl, sym, ap, ◌∙◌}
use mathlib.Core.Bool.{false}
use native.Mathlib.Omega.{arith}
use lib.ListN.{length}
use Rattle.model.specs.Bytes.{Bytes}
use Rattle.model.specs.Check.{fires1}
use Rattle.checks.proofs.Numbers.{judged, judged_sized}
use Rattle.checks.proofs.Numbered.{long_blocks}
use Rattle.model.proofs.Refusals.{number_some}
use Rattle.files.specs.Told.{told_quick_find}
use Rattle.files.proofs.Octets.{octets}
use Rattle.volume.proofs.Opens.{stopped_1, stopped_facts, opened}
use Rattle.volume.proofs.quick.quick_find.Goals as goal

pub returns-then-bad_length : goal.returns-then-bad_length
returns-then-bad_length c =
    let image_bytes : Bytes c.args.image.now = octets _ c.type_inv.image in
    let letters : Bytes c.args.name.now = octets _ c.type_inv.name in
    stopped_1 _ image_bytes letters (ap (λ q. told_quick_find (Err q)) c.from.ensures) (sym c.bad_length.ensures ∙ c.if-bad_length.true)

pub read-facts-requires : goal.read-facts-requires
read-facts-requires c =
    let long : fires1 (length c.args.image.now) ≡ false = sym c.bad_length.ensures ∙ c.if-bad_length.false in
    let b = long_blocks _ long in omega arith

pub judge_facts-requires : goal.judge_facts-requires
judge_facts-requires c =
    let image_bytes : Bytes c.args.image.now = octets _ c.type_inv.image in
    let long : fires1 (length c.args.image.now) ≡ false = sym c.bad_length.ensures ∙ c.if-bad_length.false in
    judged_sized _ _ (judged _ _ image_bytes c.read-facts.ensures long)

pub returns-in_err-judge_facts : goal.returns-in_err-judge_facts
returns-in_err-judge_facts c =
    let image_bytes : Bytes c.args.image.now = octets _ c.type_inv.image in
    let letters : Bytes c.args.name.now = octets _ c.type_inv.name in
    let long : fires1 (length c.args.image.now) ≡ false = sym c.bad_length.ensures ∙ c.if-bad_length.false in
    let p = err_from_is_err_and c.from_residual.result c.from_residual.ensures.1 in
    rw (p.1, p.2) (stopped_facts _ image_bytes letters _ c.read-facts.ensures long _ c.in_err-judge_facts.ensures (number_some _) refl)

pub serve_quick_find-requires : goal.serve_quick_find-requires
serve_quick_find-requires c =
    let long : fires1 (length c.args.image.now) ≡ false = sym c.bad_length.ensures ∙ c.if-bad_length.false in
    opened _ _ c.read-facts.ensures long _ c.in_ok-judge_facts.ensures refl
