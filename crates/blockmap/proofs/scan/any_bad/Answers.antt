-- `any_bad` meets its contract. The invariant: the answer is that of the entries passed. Assumes nothing.
use Prim.Native.Nat.{ℕ}
use mathlib.Core.Path.{◌≡◌, refl, sym, ap, ◌∙◌}
use mathlib.Core.Bool.{false}
use native.Mathlib.Omega.{arith}
use Rattle.std.specs.List.{list_any}
use Rattle.std.proofs.lemmas.List.Folds.{list_any_more}
use Rattle.model.specs.Map.{is_bad, sort_of}
use Rattle.model.specs.Check.{fires5}
use Rattle.model.specs.declared.MapValue.{MapValue}
use Rattle.model.specs.declared.MapValue.TheVariants.{Free, Last, Next, Bad}
use Rattle.blockmap.specs.Decoded.{decoded_entry}
use Rattle.blockmap.proofs.Ranges.{part_all, any_part}
use Rattle.blockmap.proofs.scan.any_bad.Goals as goal
use Rattle.blockmap.proofs.scan.any_bad.Goals.{in-Bad, in_default}

-- no other is bad
not_bad : (v : MapValue) → (v ≡ Bad → ⊥) → false ≡ is_bad v
unfolding is_bad
not_bad Free h = refl
not_bad Last h = refl
not_bad (Next b) h = refl
not_bad Bad h = absurd (h refl)

pub loop-value-preserved : goal.loop-value-preserved
unfolding is_bad
loop-value-preserved c =
    let l = c.loop-value in
    let found : c.match-matches.matches ≡ is_bad c.sort_value.result = elim c.match-matches.branch [
      | in-Bad w ↦ w.matches-is ∙ sym (ap is_bad w.in-Bad.is)
      | in_default w ↦ w.matches-is ∙ not_bad c.sort_value.result w.in_default.not-Bad
    ] in
    rw (found, c.sort_value.ensures, l.invariant) (sym (list_any_more (λ v. is_bad (sort_of c.args.n v)) _ l.value-index 0 c.loop-value-test.true))

pub returns : goal.returns
unfolding fires5 decoded_entry
returns c =
    let a = c.args in
    let l = c.loop-value in
    let p = λ (v : ℕ). is_bad (sort_of a.n v) in
    l.invariant ∙ ap (list_any p) (part_all a.entries.now a.n l.value-index c.loop-value-test.false) ∙ sym (any_part p a.entries.now a.n 2 (omega arith))
