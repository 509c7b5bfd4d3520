-- `fill` meets its contract: header and image, one behind the other. Assumes nothing.
use Rattle.std.proofs.Common.{◌≡◌, ◌-◌, ℕ, List, length, ◌++◌, drop, sym, ap, ◌∙◌, arith, length-append}
use borrow.Rule.Slice.PartMut.{put_mid}
use lib.Seq.{length-take-le}
use Rattle.model.specs.Container.{header_for, wrapping}
use Rattle.model.proofs.Container.{header_length}
use Rattle.container.proofs.Filling.{filled}
use Rattle.container.proofs.wrapping.fill.Goals as goal

pub slice_bounds-copy_from_slice-end-2 : goal.slice_bounds-copy_from_slice-end-2
slice_bounds-copy_from_slice-end-2 c = sym (length-take-le 84 c.args.buffer.now (omega (arith, c.requires.0)))

pub copy_from_slice-requires : goal.copy_from_slice-requires
copy_from_slice-requires c =
    let a = c.args in
    length-take-le 84 a.buffer.now (omega (arith, c.requires.0))
    ∙ sym (ap (length {A = ℕ}) c.new_header.ensures ∙ header_length a.name.now a.format c.checksum.result c.requires.2)

pub returns : goal.returns
unfolding wrapping
returns c =
    let a = c.args in
    let header = c.copy_from_slice.new.self in
    let rest = drop 84 a.buffer.now in
    let k = length (header ++ rest) - 84 in
    let long : length header ≡ 84 = ap (length {A = ℕ}) (c.copy_from_slice.ensures.after ∙ c.new_header.ensures)
    ∙ header_length a.name.now a.format c.checksum.result c.requires.2 in
    ap (put_mid 84 k (header ++ rest)) c.copy_from_slice-2.ensures.after
    ∙ filled header rest a.image.now 84 k long (omega (arith, length-append header rest))
    ∙ ap (λ (l : List ℕ). l ++ a.image.now)
    (c.copy_from_slice.ensures.after ∙ c.new_header.ensures ∙ ap (header_for a.name.now a.format) c.checksum.ensures)
