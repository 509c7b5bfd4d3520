-- `bad_layout` meets its contract: where a test holds, a fact that check 3 asks for fails. Assumes nothing.
use Prim.Native.Nat.{ℕ, ◌+◌, ◌*◌, ◌/◌, ◌≤◌, ◌<◌}
use native.Mathlib.Omega.{arith}
use mir.Syntax.{w32, w64}
use mir.Val.{Fits}
use Rattle.model.specs.Facts.{N, A}
use Rattle.model.proofs.Check.{layout_left}
use Rattle.checks.proofs.Numbered.{layout_fires, area_fits}
use Rattle.checks.proofs.limits.bad_layout.Goals as goal

never : (m n : ℕ) → m < n → n ≤ m → ⊥
never m n h k = omega arith

-- so they and the place behind them fit
small_fits : (p : ℕ) → p ≤ 20971520 → Fits w32 p
small_fits p h = omega arith

end_fits : (s p : ℕ) → s < 65536 → p ≤ 20971520 → Fits w32 (s + p / 512)
end_fits s p k h = omega arith

end_wide : (s p : ℕ) → s < 65536 → p ≤ 20971520 → Fits w64 (s + p / 512)
end_wide s p k h = omega arith

pub returns-then-a-ne0 : goal.returns-then-a-ne0
returns-then-a-ne0 c = layout_fires _ _ (λ s. c.if-a-ne0.true s.multiple)

pub returns-then-a-lt-LEAST_BLOCK_SIZE : goal.returns-then-a-lt-LEAST_BLOCK_SIZE
returns-then-a-lt-LEAST_BLOCK_SIZE c = layout_fires _ _ (λ s. never _ _ c.if-a-lt-LEAST_BLOCK_SIZE.true s.large)

pub returns-then-a-gt-MOST_BLOCK_SIZE : goal.returns-then-a-gt-MOST_BLOCK_SIZE
returns-then-a-gt-MOST_BLOCK_SIZE c = layout_fires _ _ (λ s. never _ _ c.if-a-gt-MOST_BLOCK_SIZE.true s.small)

pub returns-then-n-lt1 : goal.returns-then-n-lt1
returns-then-n-lt1 c = layout_fires _ _ (λ s. never _ _ c.if-n-lt1.true s.some)

pub returns-then-n-gt-MOST_ALLOCATION_BLOCKS : goal.returns-then-n-gt-MOST_ALLOCATION_BLOCKS
returns-then-n-gt-MOST_ALLOCATION_BLOCKS c = layout_fires _ _ (λ s. never _ _ c.if-n-gt-MOST_ALLOCATION_BLOCKS.true s.most)

pub returns-then-length-lt1 : goal.returns-then-length-lt1
returns-then-length-lt1 c = layout_fires _ _ (λ s. never _ _ c.if-length-lt1.true s.dir_some)

pub returns-then-length-gt-MOST_DIRECTORY_BLOCKS : goal.returns-then-length-gt-MOST_DIRECTORY_BLOCKS
returns-then-length-gt-MOST_DIRECTORY_BLOCKS c = layout_fires _ _ (λ s. never _ _ c.if-length-gt-MOST_DIRECTORY_BLOCKS.true s.dir_most)

pub returns-then-start-lt-LEAST_DIRECTORY_START : goal.returns-then-start-lt-LEAST_DIRECTORY_START
returns-then-start-lt-LEAST_DIRECTORY_START c = layout_fires _ _ (λ s. never _ _ c.if-start-lt-LEAST_DIRECTORY_START.true s.dir_behind)

pub returns-then-s-start : goal.returns-then-s-start
returns-then-s-start c = layout_fires _ _ (λ s. never _ _ c.if-s-start.true s.dir_before)

pub overflow_mul-end : goal.overflow_mul-end
overflow_mul-end c =
    let area : let f = c.args.f in N f * A f ≤ 20971520 = area_fits _ _ c.if-n-gt-MOST_ALLOCATION_BLOCKS.false c.if-a-gt-MOST_BLOCK_SIZE.false in
    small_fits _ area

pub overflow_add-end : goal.overflow_add-end
overflow_add-end c =
    let area : let f = c.args.f in N f * A f ≤ 20971520 = area_fits _ _ c.if-n-gt-MOST_ALLOCATION_BLOCKS.false c.if-a-gt-MOST_BLOCK_SIZE.false in
    end_fits _ _ c.requires.allocation area

pub overflow_cast-end-2 : goal.overflow_cast-end-2
overflow_cast-end-2 c =
    let area : let f = c.args.f in N f * A f ≤ 20971520 = area_fits _ _ c.if-n-gt-MOST_ALLOCATION_BLOCKS.false c.if-a-gt-MOST_BLOCK_SIZE.false in
    end_wide _ _ c.requires.allocation area

pub returns-then-blocks-end : goal.returns-then-blocks-end
returns-then-blocks-end c = layout_fires _ _ (λ s. never _ _ c.if-blocks-end.true s.backup)

pub returns : goal.returns
returns c =
    layout_left _ _ (record {
      multiple = c.if-a-ne0.false;
      large = c.if-a-lt-LEAST_BLOCK_SIZE.false;
      small = c.if-a-gt-MOST_BLOCK_SIZE.false;
      some = c.if-n-lt1.false;
      most = c.if-n-gt-MOST_ALLOCATION_BLOCKS.false;
      dir_some = c.if-length-lt1.false;
      dir_most = c.if-length-gt-MOST_DIRECTORY_BLOCKS.false;
      dir_behind = c.if-start-lt-LEAST_DIRECTORY_START.false;
      dir_before = c.if-s-start.false;
      backup = c.if-blocks-end.false;
    })
