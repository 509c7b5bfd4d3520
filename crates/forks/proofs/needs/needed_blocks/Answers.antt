-- `needed_blocks` meets its contract. Assumes nothing.
use Prim.Native.Nat.{◌+◌, ◌≤◌, max}
use mathlib.Core.Path.{◌≡◌, ap, ◌∙◌}
use native.Mathlib.Omega.{arith}
use Rattle.std.proofs.Common.{rules}
use Rattle.std.specs.Prelude.{Ok, Err}
use Rattle.model.specs.Calls.{fewest}
use Rattle.model.specs.declared.refusal.Refusal.TheVariants.{VolumeFull}
use Rattle.forks.proofs.Growing.{fewest_ceil, needed_blocks_lem, too_many, grows, grows_not}
use Rattle.forks.proofs.needs.needed_blocks.Goals as goal

pub returns-in_err-end : goal.returns-in_err-end
returns-in_err-end c =
    let a = c.args in
    let told : c.from_residual.result ≡ Err VolumeFull = search rules in
    let wraps : 18446744073709551616 ≤ a.offset + a.count = search rules in
    let more = too_many a.f a.g a.offset a.count c.requires.0 c.requires.1 (omega (arith, c.well_formed)) (omega (arith, c.well_formed)) (omega arith) in
    rw told (grows_not a.f a.g a.offset a.count more)

pub returns-then-f-need : goal.returns-then-f-need
returns-then-f-need c =
    let a = c.args in
    let size : c.max-size.result ≡ max a.g.logical (a.offset + a.count) = search rules in
    let due : c.div_ceil-due.result ≡ fewest (max a.g.logical (a.offset + a.count)) a.f.block_size = c.div_ceil-due.ensures ∙ fewest_ceil c.max-size.result a.f.block_size (omega arith) ∙ ap (λ n. fewest n a.f.block_size) size in
    let need = needed_blocks_lem a.f a.g a.offset a.count c.div_ceil-due.result c.block_count-has.result due c.block_count-has.ensures in
    grows_not a.f a.g a.offset a.count (omega arith)

pub returns : goal.returns
returns c =
    let a = c.args in
    let size : c.max-size.result ≡ max a.g.logical (a.offset + a.count) = search rules in
    let due : c.div_ceil-due.result ≡ fewest (max a.g.logical (a.offset + a.count)) a.f.block_size = c.div_ceil-due.ensures ∙ fewest_ceil c.max-size.result a.f.block_size (omega arith) ∙ ap (λ n. fewest n a.f.block_size) size in
    let need = needed_blocks_lem a.f a.g a.offset a.count c.div_ceil-due.result c.block_count-has.result due c.block_count-has.ensures in
    grows a.f a.g a.offset a.count (Ok c.saturating_sub-need.result) (omega arith) (ap (λ k. Ok k) (omega arith))
