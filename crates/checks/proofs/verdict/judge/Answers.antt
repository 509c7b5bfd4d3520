-- `judge` meets its contract: the first of checks 2 to 10 that fires. Assumes nothing.
use Rattle.std.proofs.lemmas.Result.{err_from_is_err_and}
use mathlib.Core.Path.{◌≡◌, refl, sym, ◌∙◌}
use native.Mathlib.Omega.{arith}
use lib.ListN.{length}
use Rattle.model.specs.Directory.{directory}
use Rattle.model.specs.Check.{SoundFacts}
use Rattle.model.proofs.Refusals.{number_some}
use Rattle.directory.specs.Cursor.{rest_of, CursorFits}
use Rattle.directory.proofs.Whole.{begins_fits}
use Rattle.checks.proofs.Agreeing.{five_alike}
use Rattle.checks.proofs.Numbers.{by_facts, facts_sound, by_map5, by_directory, by_forks, directory_passes, rest_directory, judged_sized}
use Rattle.checks.proofs.verdict.judge.Goals as goal

pub judge_facts-requires : goal.judge_facts-requires
judge_facts-requires c = judged_sized _ _ c.requires

pub returns-in_err-judge_facts : goal.returns-in_err-judge_facts
returns-in_err-judge_facts c =
    let p = err_from_is_err_and c.from_residual.result c.from_residual.ensures.1 in
    rw (p.1, p.2) (by_facts _ _ _ c.in_err-judge_facts.ensures (number_some _))

pub decode-requires : goal.decode-requires
decode-requires c =
    let sound : SoundFacts c.args.f (length c.args.image.now) = facts_sound c.args.f c.args.image.now _ c.in_ok-judge_facts.ensures refl c.requires.long in
    (sound.layout.most, omega arith)

pub any_bad-requires : goal.any_bad-requires
any_bad-requires c =
    let sound : SoundFacts c.args.f (length c.args.image.now) = facts_sound c.args.f c.args.image.now _ c.in_ok-judge_facts.ensures refl c.requires.long in
    sound.layout.most

pub returns-then-any_bad : goal.returns-then-any_bad
returns-then-any_bad c =
    let five = sym (c.any_bad.ensures ∙ five_alike _ _ _ c.decode.ensures.same) in
    by_map5 _ _ _ c.in_ok-judge_facts.ensures refl (five ∙ c.if-any_bad.true)

pub new-c-requires : goal.new-c-requires
new-c-requires c =
    let sound : SoundFacts c.args.f (length c.args.image.now) = facts_sound c.args.f c.args.image.now _ c.in_ok-judge_facts.ensures refl c.requires.long in
    sound.layout.dir_some

pub judge_directory-requires : goal.judge_directory-requires
judge_directory-requires c =
    let sound : SoundFacts c.args.f (length c.args.image.now) = facts_sound c.args.f c.args.image.now _ c.in_ok-judge_facts.ensures refl c.requires.long in
    begins_fits _ _ _ _ c.new-c.ensures (omega arith)

pub returns-in_err-judge_directory : goal.returns-in_err-judge_directory
returns-in_err-judge_directory c =
    let five = sym (c.any_bad.ensures ∙ five_alike _ _ _ c.decode.ensures.same) in
    let entries : rest_of c.args.image.now c.new-c.result ≡ directory c.args.image.now = rest_directory _ _ c.requires.facts _ c.new-c.ensures in
    let p = err_from_is_err_and c.from_residual-in_err-judge_directory.result c.from_residual-in_err-judge_directory.ensures.1 in
    rw (p.1, p.2)
    (by_directory _ _ _ c.in_ok-judge_facts.ensures refl (five ∙ c.if-any_bad.false) _ entries _ c.in_err-judge_directory.ensures (number_some _))

pub judge_map-requires : goal.judge_map-requires
judge_map-requires c =
    let sound : SoundFacts c.args.f (length c.args.image.now) = facts_sound c.args.f c.args.image.now _ c.in_ok-judge_facts.ensures refl c.requires.long in
    let fits : CursorFits c.args.image.now c.new-c.result = begins_fits _ _ _ _ c.new-c.ensures (omega arith) in
    record {
      facts = sound;
      passes = record { fits = fits; good = directory_passes _ _ _ _ c.in_ok-judge_directory.ensures refl };
      decoded = c.decode.ensures;
    }

pub returns : goal.returns
returns c =
    let five = sym (c.any_bad.ensures ∙ five_alike _ _ _ c.decode.ensures.same) in
    let entries : rest_of c.args.image.now c.new-c.result ≡ directory c.args.image.now = rest_directory _ _ c.requires.facts _ c.new-c.ensures in
    by_forks _ _ _ c.in_ok-judge_facts.ensures refl (five ∙ c.if-any_bad.false) _ entries _ c.in_ok-judge_directory.ensures refl _ c.judge_map.ensures
