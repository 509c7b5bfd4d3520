-- `claim_fork` meets its contract: each refusal is of a fork that check 8 refuses, and the walk answers for the others.
-- Assumes nothing.
use mathlib.Core.Path.{◌∙◌, ap}
use native.Mathlib.Omega.{arith}
use borrow.Author.Tests.{eqb-true, ne_eqb, lt-leb}
use Rattle.model.specs.Map.{chain_blocks}
use Rattle.model.specs.Directory.{block_count, fork_blocks}
use Rattle.blockmap.specs.Decoded.{decoded_entry}
use Rattle.blockmap.specs.Marks.{marked}
use Rattle.blockmap.proofs.Marks.{refused, sound_most, claims_empty, empty_marked, claims_walk}
use Rattle.blockmap.proofs.chain.claim_fork.Goals as goal
use Rattle.blockmap.proofs.chain.claim_fork.Goals.{then-physical-eq0-via-then-physical-eq0, then-physical-eq0-via-else-physical-eq0+then-physical-a-ne0, then-physical-eq0-via-else-physical-eq0+else-physical-a-ne0+then-physical-logical}

pub returns-then-logical-eq0 : goal.returns-then-logical-eq0
returns-then-logical-eq0 c =
    let a = c.args in
    let e = decoded_entry a.entries.now in record {
      answer = claims_empty e a.n a.a a.marks.now a.g c.if-first-eq0.true c.if-logical-eq0.true;
      after = λ r. empty_marked e a.n a.a a.marks.now a.g (eqb-true a.g.physical 0 r);
    }

pub returns-else-logical-eq0-clause-answer : goal.returns-else-logical-eq0-clause-answer
returns-else-logical-eq0-clause-answer c =
    let a = c.args in
    ne_eqb a.g.logical 0 c.if-logical-eq0.false
    ∙ refused (decoded_entry a.entries.now) a.n a.a a.marks.now a.g (λ s. c.if-logical-eq0.false (s.empty c.if-first-eq0.true).0)

pub returns-then-physical-eq0-clause-answer : goal.returns-then-physical-eq0-clause-answer
returns-then-physical-eq0-clause-answer c =
    let a = c.args in
    refused (decoded_entry a.entries.now) a.n a.a a.marks.now a.g (λ s. elim c.then-physical-eq0.branch [
      | then-physical-eq0-via-then-physical-eq0 w ↦ omega (arith, s.some c.if-first-eq0.false)
      | then-physical-eq0-via-else-physical-eq0+then-physical-a-ne0 w ↦ w.if-physical-a-ne0.true (s.whole c.if-first-eq0.false)
      | then-physical-eq0-via-else-physical-eq0+else-physical-a-ne0+then-physical-logical w ↦ omega (arith, s.within c.if-first-eq0.false)
    ])

pub returns-then-k-n : goal.returns-then-k-n
unfolding fork_blocks
returns-then-k-n c =
    let a = c.args in
    let e = decoded_entry a.entries.now in
    let w = claims_walk e a.n a.a a.marks.now a.g c.if-first-eq0.false c.if-physical-eq0.false c.if-physical-a-ne0.false c.if-physical-logical.false
    c.block_count-k.result c.block_count-k.ensures in record {
      answer = c.walk.ensures.answer ∙ w;
      after = λ r. c.walk.ensures.after r ∙ ap (λ j. marked a.marks.now (chain_blocks e j a.g.start.0)) c.block_count-k.ensures;
    }

pub returns-else-k-n-clause-answer : goal.returns-else-k-n-clause-answer
unfolding block_count
returns-else-k-n-clause-answer c =
    let a = c.args in
    lt-leb c.block_count-k.result a.n (omega arith)
    ∙ refused (decoded_entry a.entries.now) a.n a.a a.marks.now a.g (λ s. omega (
      arith,
      c.block_count-k.ensures,
      sound_most (decoded_entry a.entries.now) a.n a.a a.marks.now a.g s c.if-first-eq0.false,
    ))
