-- `new_header` meets its contract: the fields stored over zeros, then the name. Assumes nothing.
use Rattle.std.proofs.Common.{length, ◌+◌, ◌-◌, arith, refl}
use Rattle.std.proofs.lemmas.Slice.{put_mid-paste}
use Rattle.container.proofs.Filling.{header_made}
use Rattle.container.proofs.wrapping.new_header.Goals as goal

pub returns : goal.returns
returns c =
    let a = c.args in
    header_made a.name.now a.format a.sum (omega arith) _ _ _ _ c.put32_at.ensures c.put32_at-2.ensures c.put16_at.ensures
    (put_mid-paste 1 (1 + length a.name.now - 1) _ _ a.name.now (length a.name.now) c.copy_from_slice.ensures.after (omega arith) refl)
