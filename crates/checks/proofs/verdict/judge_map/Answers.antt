-- `judge_map` meets its contract: the first of checks 8 to 10 that fires, by the marks that the claims leave. Assumes nothing.
use mathlib.Core.Path.{sym, ◌∙◌}
use Rattle.checks.proofs.Agreeing.{unowned_alike, free_alike, claims_all_alike}
use Rattle.checks.proofs.Claims.{number_8, number_9, number_10, number_0}
use Rattle.checks.proofs.verdict.judge_map.Goals as goal

pub returns-then-not-claim_all : goal.returns-then-not-claim_all
returns-then-not-claim_all c =
    let claimed = claims_all_alike _ _ _ c.requires.decoded.same _ _ _ _ _ c.claim_all.ensures in
    number_8 _ c.requires.facts.layout.most _ _ _ _ claimed c.if-not-claim_all.true

pub returns-then-any_unowned : goal.returns-then-any_unowned
returns-then-any_unowned c =
    let claimed = claims_all_alike _ _ _ c.requires.decoded.same _ _ _ _ _ c.claim_all.ensures in
    let lost = sym (c.any_unowned.ensures ∙ unowned_alike _ _ _ c.requires.decoded.same _) in
    number_9 _ c.requires.facts.layout.most _ _ _ _ claimed c.if-not-claim_all.false (lost ∙ c.if-any_unowned.true)

pub returns-then-free_count-f : goal.returns-then-free_count-f
returns-then-free_count-f c =
    let claimed = claims_all_alike _ _ _ c.requires.decoded.same _ _ _ _ _ c.claim_all.ensures in
    let lost = sym (c.any_unowned.ensures ∙ unowned_alike _ _ _ c.requires.decoded.same _) in
    let counted = c.free_count.ensures ∙ free_alike _ _ _ c.requires.decoded.same in
    number_10 _ c.requires.facts.layout.most _ _ _ _ claimed c.if-not-claim_all.false (lost ∙ c.if-any_unowned.false) _ counted c.if-free_count-f.true

pub returns : goal.returns
returns c =
    let claimed = claims_all_alike _ _ _ c.requires.decoded.same _ _ _ _ _ c.claim_all.ensures in
    let lost = sym (c.any_unowned.ensures ∙ unowned_alike _ _ _ c.requires.decoded.same _) in
    let counted = c.free_count.ensures ∙ free_alike _ _ _ c.requires.decoded.same in
    number_0 _ c.requires.facts.layout.most _ _ _ _ claimed c.if-not-claim_all.false (lost ∙ c.if-any_unowned.false) _ counted c.if-free_count-f.false
