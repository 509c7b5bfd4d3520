-- `remove_entry` meets its contract. Assumes nothing.
use Rattle.std.proofs.Common.{ℕ, List, ◌≡◌, ◌+◌, ◌-◌, ◌≤◌, arith}
use Rattle.model.specs.Bytes.{part}
use Rattle.model.specs.Directory.{size_for, read_end}
use Rattle.directory.specs.declared.EntryAt.{EntryAt}
use Rattle.directory.specs.Cursor.{Stands, Lies}
use Rattle.entries.specs.Blocks.{Block, block_start}
use Rattle.entries.proofs.Blocks.{behind_within, zeros_put, removed_stores}
use Rattle.entries.proofs.remove.remove_entry.Goals as goal

-- the entry, with the size that the code has, ends within the reading of its block
within : (image : List ℕ) (base : ℕ) (e : EntryAt) → Block image base → Stands image e → Lies image base 1 e → (size end : ℕ)
    → size ≡ size_for e.name_length → end ≡ read_end (part base 512 image) → e.start + size ≤ base + end
within image base e k s l size end h g = omega (arith, behind_within image base e k s l)

pub overflow_add-next : goal.overflow_add-next
overflow_add-next c =
    omega (
      arith,
      within _ _ _ c.requires.block c.requires.stands c.requires.lies _ _ c.entry_size.ensures c.read_end.ensures.0,
    )

pub copy_within-requires-clause-start_le_end : goal.copy_within-requires-clause-start_le_end
copy_within-requires-clause-start_le_end c =
    within _ _ _ c.requires.block c.requires.stands c.requires.lies _ _ c.entry_size.ensures c.read_end.ensures.0

pub overflow_sub-end : goal.overflow_sub-end
overflow_sub-end c =
    within _ _ _ c.requires.block c.requires.stands c.requires.lies _ _ c.entry_size.ensures c.read_end.ensures.0

pub returns : goal.returns
returns c =
    let a = c.args in
    let base = block_start a.e in
    let next = a.e.start + c.entry_size.result in
    let n = base + c.read_end.result - next in
    let cleared = zeros_put (a.e.start + n) (base + 512) _ _ (omega (arith, c.requires.block.within, c.copy_within.auto.self))
    (c.fill.ensures.after (λ y e. e)) in
    λ l. removed_stores a.image.now base a.e c.requires.block c.requires.stands l next n (base + 512 - (a.e.start + n))
    (omega (arith, c.entry_size.ensures)) (omega (arith, c.read_end.ensures.0)) (omega arith)
    _ _ c.copy_within.ensures.after cleared
