-- `put32_at` meets its contract. Assumes nothing.
use Rattle.std.proofs.Common.{◌≡◌, ◌/◌, ◌%◌, refl, ◌∙◌, arith}
use Rattle.model.specs.Bytes.{bytes32}
use Rattle.entries.proofs.Stored.{number_stored}
use Rattle.entries.proofs.numbers.put32_at.Goals as goal

pub returns : goal.returns
returns c =
    let a = c.args in
    let high : a.v / 16777216 % 256 ≡ a.v / 16777216 = omega arith in
    number_stored a.s.now a.at 4 _ (bytes32 a.v) (c.copy_from_slice.ensures.after ∙ c.to_be_bytes.ensures ∙ rw high) refl c.requires
