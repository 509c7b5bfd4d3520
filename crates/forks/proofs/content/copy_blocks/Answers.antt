-- `copy_blocks` meets its contract. The invariant: the first `done` bytes are copied, and those that are left stand behind block b.
-- Assumes nothing.
use Prim.Native.Nat.{◌+◌, ◌%◌, ◌≤◌, ◌<◌}
use mathlib.Core.Path.{◌≡◌, refl, ap, ◌∙◌, subst}
use mathlib.Core.List.{◌++◌}
use native.Mathlib.Omega.{arith}
use lib.ListN.{length, take, drop, length-drop}
use lib.Seq.{drop-drop}
use Rattle.forks.proofs.Copying.{Farther, onward_block, onward_lies, onward_behind, farther_onward, copied_more, bytes_from}
use Rattle.forks.proofs.Copying.{fork_enough, fork_part, place_small, has_place, fork_onward}
use Rattle.forks.proofs.content.copy_blocks.Goals as goal

pub overflow_cast-offset : goal.overflow_cast-offset
overflow_cast-offset c =
    let a = c.args in
    omega (arith, place_small a.image.now a.start a.size a.g c.requires.0 a.offset (omega (arith, c.requires.1, c.requires.2)))

pub block_at-b-requires : goal.block_at-b-requires
block_at-b-requires c =
    let a = c.args in
    let area = c.requires.0.area in
    (has_place a.image.now a.start a.size a.g c.requires.0 a.offset (omega (arith, c.requires.1, c.requires.2)), omega (arith, area.low, area.room))

pub byte_in-from-requires : goal.byte_in-from-requires
byte_in-from-requires c =
    let a = c.args in
    let before_end : a.offset < a.g.logical = omega (arith, c.requires.1, c.requires.2) in
    let begins = fork_onward a.image.now a.start a.size a.g c.requires.0 a.offset before_end c.block_at-b.result.0 c.block_at-b.ensures in
    let b = onward_block a.image.now a.start a.size _ c.block_at-b.result.0 (a.offset % a.size) begins in
    let area = c.requires.0.area in
    (b.0, b.1, area.most, omega (arith, area.whole), area.start, omega (arith, area.block))

pub copy_part-requires : goal.copy_part-requires
copy_part-requires c =
    let a = c.args in
    let before_end : a.offset < a.g.logical = omega (arith, c.requires.1, c.requires.2) in
    let begins = fork_onward a.image.now a.start a.size a.g c.requires.0 a.offset before_end c.block_at-b.result.0 c.block_at-b.ensures in
    let lies = onward_lies a.image.now a.start a.size _ c.block_at-b.result.0 (a.offset % a.size) begins in
    let small : 512 ≤ a.size = c.requires.0.area.block in
    (omega (arith, lies), omega arith)

pub loop-done-init : goal.loop-done-init
loop-done-init c =
    let a = c.args in
    let before_end : a.offset < a.g.logical = omega (arith, c.requires.1, c.requires.2) in
    let begins = fork_onward a.image.now a.start a.size a.g c.requires.0 a.offset before_end c.block_at-b.result.0 c.block_at-b.ensures in
    let xs = bytes_from a.image.now a.start a.size a.g a.offset in
    let small : 512 ≤ a.size = c.requires.0.area.block in
    let done = c.min-done.result in (
      omega arith,
      c.copy_part.auto.buffer,
      copied_more a.image.now a.start a.size xs a.buffer.now a.buffer.now c.copy_part.new.buffer 0 done done c.block_at-b.result.0 (a.offset % a.size)
          c.byte_in-from.result begins (omega arith) (omega arith) (omega arith) (omega arith) refl c.byte_in-from.ensures c.copy_part.ensures,
      λ more. onward_behind a.image.now a.start a.size xs c.block_at-b.result.0 (a.offset % a.size) begins done (omega arith),
    )

pub load-requires : goal.load-requires
load-requires c =
    let b = (c.loop-done.invariant.3 (omega arith)).block in
    let area = c.requires.0.area in
    (b.0, b.1, omega (arith, area.low, area.room))

pub byte_in-from-requires-in-loop-done : goal.byte_in-from-requires-in-loop-done
byte_in-from-requires-in-loop-done c =
    let a = c.args in
    let l = c.loop-done in
    let xs = bytes_from a.image.now a.start a.size a.g a.offset in
    let enough : a.count ≤ length xs = fork_enough a.image.now a.start a.size a.g c.requires.0 a.offset a.count c.requires.2 in
    let some : 1 ≤ length (drop l.done xs) = omega (arith, length-drop l.done xs) in
    let goes_on = farther_onward a.image.now a.start a.size (drop l.done xs) l.b.0 c.load.result (l.invariant.3 (omega arith)) c.load.ensures.0 some in
    let b = onward_block a.image.now a.start a.size (drop l.done xs) c.load.result 0 goes_on in
    let area = c.requires.0.area in
    (b.0, b.1, area.most, omega (arith, area.whole), area.start, omega (arith, area.block))

pub copy_part-requires-in-loop-done : goal.copy_part-requires-in-loop-done
copy_part-requires-in-loop-done c =
    let a = c.args in
    let l = c.loop-done in
    let xs = bytes_from a.image.now a.start a.size a.g a.offset in
    let enough : a.count ≤ length xs = fork_enough a.image.now a.start a.size a.g c.requires.0 a.offset a.count c.requires.2 in
    let some : 1 ≤ length (drop l.done xs) = omega (arith, length-drop l.done xs) in
    let goes_on = farther_onward a.image.now a.start a.size (drop l.done xs) l.b.0 c.load.result (l.invariant.3 (omega arith)) c.load.ensures.0 some in
    let lies = onward_lies a.image.now a.start a.size (drop l.done xs) c.load.result 0 goes_on in
    (omega (arith, lies), omega arith)

pub loop-done-preserved : goal.loop-done-preserved
loop-done-preserved c =
    let a = c.args in
    let l = c.loop-done in
    let xs = bytes_from a.image.now a.start a.size a.g a.offset in
    let enough : a.count ≤ length xs = fork_enough a.image.now a.start a.size a.g c.requires.0 a.offset a.count c.requires.2 in
    let some : 1 ≤ length (drop l.done xs) = omega (arith, length-drop l.done xs) in
    let goes_on = farther_onward a.image.now a.start a.size (drop l.done xs) l.b.0 c.load.result (l.invariant.3 (omega arith)) c.load.ensures.0 some in
    let n = c.min-n.result in (
      omega arith,
      c.copy_part-in-loop-done.auto.buffer ∙ l.invariant.1,
      copied_more a.image.now a.start a.size xs a.buffer.now l.buffer c.copy_part-in-loop-done.new.buffer l.done n (l.done + n) c.load.result 0
          c.byte_in-from-in-loop-done.result goes_on (omega arith) refl (omega arith) (omega arith) l.invariant.2
          c.byte_in-from-in-loop-done.ensures c.copy_part-in-loop-done.ensures,
      λ more. subst (λ x. Farther a.image.now a.start a.size x c.load.result) (drop-drop n l.done xs)
          (onward_behind a.image.now a.start a.size (drop l.done xs) c.load.result 0 goes_on n (omega arith)),
    )

pub returns : goal.returns
returns c =
    let a = c.args in
    let l = c.loop-done in
    let xs = bytes_from a.image.now a.start a.size a.g a.offset in
    let end : l.done ≡ a.count = omega arith in
    l.invariant.2 ∙ ap (λ i. take i xs ++ drop i a.buffer.now) end
    ∙ ap (λ x. x ++ drop a.count a.buffer.now) (fork_part a.image.now a.start a.size a.g c.requires.0 a.offset a.count c.requires.2)
