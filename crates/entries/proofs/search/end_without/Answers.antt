-- `end_without` meets its contract: an entry that begins in the block ends within its reading. Assumes nothing.
use Prim.Native.Nat.{ℕ, ◌+◌, ◌-◌, ◌≤◌, ◌<◌}
use mathlib.Core.Path.{◌≡◌, sym, ap, ◌∙◌}
use mathlib.Core.List.{List, ◌++◌}
use mathlib.Core.Logic.{◌⊎◌, inl, inr}
use native.Mathlib.Omega.{arith}
use lib.ListN.{length}
use Rattle.model.specs.Lists.{flat}
use Rattle.model.specs.Bytes.{part}
use Rattle.model.specs.Directory.{size_for, read_end}
use Rattle.directory.specs.declared.EntryAt.{EntryAt}
use Rattle.directory.specs.Cursor.{Stands, Lies}
use Rattle.entries.specs.Blocks.{Block}
use Rattle.entries.proofs.Blocks.{start_here, starts_within, others_here}
use Rattle.entries.proofs.search.end_without.Goals as goal
use Rattle.entries.proofs.search.end_without.Goals.{else-base-e-via-then-base-e+else-e-base, else-base-e-via-else-base-e}

-- without the entry, the others' bytes are left
others_left : (image : List ℕ) (base : ℕ) (e : EntryAt) → Block image base → Stands image e → (size end : ℕ)
    → size ≡ size_for e.name_length → end ≡ read_end (part base 512 image) → (l : Lies image base 1 e) → length (flat (l.before ++ l.behind)) + size ≡ end
others_left image base e b s size end h g l =
    ap (λ (n : ℕ). length (flat (l.before ++ l.behind)) + n) h ∙ others_here image base e b s l ∙ sym g

size_below : (a b end : ℕ) → a + b ≡ end → b ≤ end
size_below a b end h = omega arith

without : (a b end : ℕ) → a + b ≡ end → end - b ≡ a
without a b end h = omega arith

below : (end n : ℕ) → end ≤ 512 → end - n ≤ 512
below end n h = omega arith

outside : (a s : ℕ) → a ≤ s → s < a + 512 → (s < a) ⊎ (a + 512 ≤ s) → ⊥
outside a s h k (inl x) = omega arith
outside a s h k (inr x) = omega arith

-- the entry begins in the block, so it is one of the block's
pub overflow_sub-result : goal.overflow_sub-result
overflow_sub-result c =
    let a = c.args in
    let here = c.requires.stands_in c.if-base-e.true c.if-e-base.true in
    let left = others_left a.image.now a.base a.e c.requires.block c.requires.stands _ _ c.entry_size.ensures c.read_end-end.ensures.0 in
    size_below _ _ _ (left here)

pub returns-then-e-base : goal.returns-then-e-base
returns-then-e-base c =
    let a = c.args in
    let left = others_left a.image.now a.base a.e c.requires.block c.requires.stands _ _ c.entry_size.ensures c.read_end-end.ensures.0 in
    record {
      own = λ l. without _ _ _ (left l);
      other = λ o. absurd (outside _ _ c.if-base-e.true c.if-e-base.true o);
      most = below _ _ c.read_end-end.ensures.1;
    }

pub returns-else-base-e : goal.returns-else-base-e
returns-else-base-e c =
    let a = c.args in
    let own : (l : Lies a.image.now a.base 1 a.e) → ⊥
    = λ l. let low = start_here a.image.now a.base a.e c.requires.block c.requires.stands l in
    let high = starts_within a.image.now a.base a.e c.requires.block c.requires.stands l in
    elim c.else-base-e.branch [
      | else-base-e-via-then-base-e+else-e-base w ↦ omega (arith, w.if-e-base.false)
      | else-base-e-via-else-base-e w ↦ omega (arith, w.if-base-e.false)
    ] in
    record {
      own = λ l. absurd (own l);
      other = λ _. c.read_end-end.ensures.0;
      most = c.read_end-end.ensures.1;
    }
