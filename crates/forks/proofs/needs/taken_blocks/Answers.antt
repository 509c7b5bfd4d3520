-- `taken_blocks` meets its contract. Assumes nothing.
use Prim.Native.Nat.{◌+◌}
use mathlib.Core.Path.{◌≡◌, sym, ap, ap₂, ◌∙◌}
use native.Mathlib.Omega.{arith}
use Rattle.model.specs.Facts.{A, clump}
use Rattle.model.specs.Directory.{block_count}
use Rattle.model.specs.Calls.{rounded, taken}
use Rattle.laws.proofs.Counts.{clump_some, taken_none, taken_whole, taken_exact}
use Rattle.forks.proofs.Growing.{rounded_next}
use Rattle.forks.proofs.needs.taken_blocks.Goals as goal

pub returns-then-need-eq0 : goal.returns-then-need-eq0
returns-then-need-eq0 c =
    let a = c.args in
    let count = block_count (A a.f) a.g in
    sym (ap (taken (clump a.f) a.free count) c.if-need-eq0.true ∙ taken_none (clump a.f) a.free count)

pub next_multiple_of-whole-requires-clause-nonzero : goal.next_multiple_of-whole-requires-clause-nonzero
next_multiple_of-whole-requires-clause-nonzero c = omega (arith, c.clump_blocks-clump.ensures, clump_some c.args.f (omega arith))

pub returns-then-free-more : goal.returns-then-free-more
returns-then-free-more c =
    let a = c.args in
    let count = block_count (A a.f) a.g in
    let w = c.next_multiple_of-whole in
    let whole : w.result ≡ rounded (clump a.f) (count + a.need) =
    rounded_next c.clump_blocks-clump.result (c.block_count-has.result + a.need) w.result (omega (arith, c.clump_blocks-clump.ensures, clump_some a.f (omega arith))) w.ensures.multiple w.ensures.lower_bound w.ensures.upper_bound
    ∙ ap₂ (λ c n. rounded c (n + a.need)) c.clump_blocks-clump.ensures c.block_count-has.ensures in
    sym (taken_exact (clump a.f) a.free count a.need (omega arith) (omega (arith, whole)))

pub returns : goal.returns
returns c =
    let a = c.args in
    let count = block_count (A a.f) a.g in
    let w = c.next_multiple_of-whole in
    let whole : w.result ≡ rounded (clump a.f) (count + a.need) =
    rounded_next c.clump_blocks-clump.result (c.block_count-has.result + a.need) w.result (omega (arith, c.clump_blocks-clump.ensures, clump_some a.f (omega arith))) w.ensures.multiple w.ensures.lower_bound w.ensures.upper_bound
    ∙ ap₂ (λ c n. rounded c (n + a.need)) c.clump_blocks-clump.ensures c.block_count-has.ensures in
    omega (arith, whole, taken_whole (clump a.f) a.free count a.need (omega arith) (omega (arith, whole)))
