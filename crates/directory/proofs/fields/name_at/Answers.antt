-- `name_at` meets its contract. Assumes nothing.
use Prim.Native.Nat.{ℕ, ◌+◌, ◌-◌}
use mathlib.Core.Path.{◌≡◌, ap, ◌∙◌}
use mathlib.Core.List.{List, ◌++◌}
use native.Mathlib.Omega.{arith}
use lib.ListN.{take, drop, length-drop}
use lib.Seq.{length-take-le}
use Rattle.model.specs.Bytes.{zeros, part}
use Rattle.directory.proofs.Parts.{wide_are}
use Rattle.directory.proofs.fields.name_at.Goals as goal

pub returns : goal.returns
returns c =
    let a = c.args in
    let s = drop a.at a.image.now in
    let long = length-take-le a.count s (omega (arith, length-drop a.at a.image.now)) in
    let n : a.at + a.count - a.at ≡ a.count = omega arith in
    ap (λ (l : List ℕ). l ++ drop a.count (zeros 255)) (c.copy_from_slice.ensures.after ∙ ap (λ (k : ℕ). take k s) n)
    ∙ wide_are (part a.at a.count a.image.now) a.count long
