-- `store` meets its contract: the pair is put back with one of its entries changed. Assumes nothing.
use mathlib.Core.Path.{◌≡◌, ◌∙◌, ap}
use native.Mathlib.Omega.{arith}
use Rattle.model.specs.Bytes.{Bytes}
use Rattle.model.specs.Map.{three_bytes, entries_in}
use Rattle.blockmap.proofs.Pairs.{put_first, put_second}
use Rattle.blockmap.proofs.packed.store.Goals as goal

pub returns-in-0 : goal.returns-in-0
unfolding Bytes
returns-in-0 c =
    let pair : c.split-pair.result ≡ entries_in (three_bytes c.args.image.now c.pair_byte-at.result) = c.split-pair.ensures.0 ∙ ap entries_in c.three_bytes.ensures in
    let bytes : Bytes c.args.image.now = λ i. (c.slice_known-1.given i).fits in
    let a = c.args in
    c.put_pair.ensures
    ∙ put_first a.image.now a.b.0 a.value c.pair_byte-at.result c.split-pair.result bytes c.requires.0
    c.pair_byte-at.ensures pair (omega arith)

pub returns-in_default : goal.returns-in_default
unfolding Bytes
returns-in_default c =
    let pair : c.split-pair.result ≡ entries_in (three_bytes c.args.image.now c.pair_byte-at.result) = c.split-pair.ensures.0 ∙ ap entries_in c.three_bytes.ensures in
    let bytes : Bytes c.args.image.now = λ i. (c.slice_known-1.given i).fits in
    let a = c.args in
    c.put_pair-in_default.ensures
    ∙ put_second a.image.now a.b.0 a.value c.pair_byte-at.result c.split-pair.result bytes c.requires.0
    c.pair_byte-at.ensures pair (omega arith)
