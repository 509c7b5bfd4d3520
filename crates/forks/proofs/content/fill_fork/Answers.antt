-- `fill_fork` meets its contract. The invariant: the bytes that are left are due from the block behind `block` on. Assumes nothing.
use Prim.Native.Nat.{◌+◌, ◌-◌, ◌%◌, ◌≤◌, min}
use mathlib.Core.Path.{◌≡◌, sym, ap, ap₂, ◌∙◌}
use mathlib.Core.List.{◌++◌}
use native.Mathlib.Omega.{arith}
use lib.ListN.{length, drop, length-append, take-append-drop}
use Rattle.std.proofs.Common.{rules}
use Rattle.forks.proofs.Filling.{due_block, due_lies, due_part, behind_due, behind_none, part_ends}
use Rattle.forks.proofs.Filling.{fill_none, fill_due}
use Rattle.forks.proofs.content.fill_fork.Goals as goal

-- no bytes
pub returns-then-is_empty : goal.returns-then-is_empty
returns-then-is_empty c =
    let a = c.args in
    let none : length a.bytes.now ≡ 0 = search rules in
    fill_none a.image.now a.start a.size a.first.0 a.blocks c.requires.0 a.offset a.bytes.now c.requires.1 none

pub copy_part-requires : goal.copy_part-requires
copy_part-requires c =
    let a = c.args in
    let some : 1 ≤ length a.bytes.now = search rules in
    let small : 512 ≤ a.size = c.requires.0.area.block in
    let begins = fill_due a.image.now a.start a.size a.first.0 a.blocks c.requires.0 a.offset a.bytes.now c.requires.1 some
    c.block_at-block.result.0 c.block_at-block.ensures in
    let lies = due_lies a.image.now a.start a.size a.image.now c.block_at-block.result.0 (a.offset % a.size) a.bytes.now _ begins in
    let here : length c.split_at.result.0.now ≡ min (length a.bytes.now) (a.size - a.offset % a.size) = search rules in
    (omega arith, omega (arith, lies))

pub loop-part-init : goal.loop-part-init
loop-part-init c =
    let a = c.args in
    let some : 1 ≤ length a.bytes.now = search rules in
    let small : 512 ≤ a.size = c.requires.0.area.block in
    let begins = fill_due a.image.now a.start a.size a.first.0 a.blocks c.requires.0 a.offset a.bytes.now c.requires.1 some
    c.block_at-block.result.0 c.block_at-block.ensures in
    let head = c.split_at.result.0.now in
    let back = c.into_iter-part-iterator.result.rest.now in
    let here : length head ≡ min (length a.bytes.now) (a.size - a.offset % a.size) = search rules in
    let behind : back ≡ drop c.min.result a.bytes.now = search rules in
    let all : a.bytes.now ≡ head ++ back = sym (ap₂ (λ x y. x ++ y) c.split_at.ensures.front behind ∙ take-append-drop c.min.result a.bytes.now) in
    let number : length a.bytes.now ≡ length head + length back = ap length all ∙ length-append head back in (
      search rules,
      search rules,
      due_part a.image.now a.start a.size a.image.now c.block_at-block.result.0 (a.offset % a.size) a.bytes.now _ begins
          c.byte_in-to.result head back c.copy_part.new.buffer all (omega arith)
          (part_ends (length head) (length back) (a.offset % a.size) a.size (omega arith) (omega arith)) c.byte_in-to.ensures c.copy_part.ensures,
    )

pub byte_in-to-requires-in-loop-part : goal.byte_in-to-requires-in-loop-part
byte_in-to-requires-in-loop-part c =
    let a = c.args in
    let l = c.loop-part in
    let rest = l.part-iterator.rest.now in
    let some : 1 ≤ length rest = search rules in
    let due = behind_due a.image.now a.start a.size l.image l.block.0 rest _ l.invariant.2 c.load.result c.load.ensures.0 some in
    let b = due_block a.image.now a.start a.size l.image c.load.result 0 rest _ due in
    let area = c.requires.0.area in
    (b.0, b.1, area.most, omega (arith, area.whole), area.start, omega (arith, area.block))

pub copy_part-requires-in-loop-part : goal.copy_part-requires-in-loop-part
copy_part-requires-in-loop-part c =
    let a = c.args in
    let l = c.loop-part in
    let rest = l.part-iterator.rest.now in
    let some : 1 ≤ length rest = search rules in
    let due = behind_due a.image.now a.start a.size l.image l.block.0 rest _ l.invariant.2 c.load.result c.load.ensures.0 some in
    let lies = due_lies a.image.now a.start a.size l.image c.load.result 0 rest _ due in
    let here : length c.in-Some.part.now ≤ a.size = search rules in
    (omega arith, omega (arith, lies))

pub loop-part-preserved : goal.loop-part-preserved
loop-part-preserved c =
    let a = c.args in
    let l = c.loop-part in
    let rest = l.part-iterator.rest.now in
    let some : 1 ≤ length rest = search rules in
    let due = behind_due a.image.now a.start a.size l.image l.block.0 rest _ l.invariant.2 c.load.result c.load.ensures.0 some in
    let part = c.in-Some.part.now in
    let back = c.next.new.self.rest.now in
    let all : rest ≡ part ++ back = search rules in
    let here : length part ≡ min l.part-iterator.size (length rest) = search rules in
    let number : length rest ≡ length part + length back = ap length all ∙ length-append part back in (
      c.copy_part-in-loop-part.auto.buffer ∙ l.invariant.0,
      search rules,
      due_part a.image.now a.start a.size l.image c.load.result 0 rest _ due
          c.byte_in-to-in-loop-part.result part back c.copy_part-in-loop-part.new.buffer all (omega arith)
          (part_ends (length part) (length back) 0 a.size (omega arith) (omega arith)) c.byte_in-to-in-loop-part.ensures c.copy_part-in-loop-part.ensures,
    )

pub returns : goal.returns
returns c =
    let a = c.args in
    let l = c.loop-part in
    let none : length l.part-iterator.rest.now ≡ 0 = search rules in
    behind_none a.image.now a.start a.size l.image l.block.0 l.part-iterator.rest.now _ l.invariant.2 none
