-- Laws of the entry of a name in an image whose facts and directory are still those of the accepted image: it stands where it
-- stood, and what is stored there is the model's change of the directory.
use Prim.Native.Nat.{ℕ, ◌+◌, ◌-◌, ◌*◌, ◌%◌, ◌≤◌}
use mathlib.Core.Path.{◌≡◌, sym, ap, subst, ◌∙◌}
use mathlib.Core.Bool.{true}
use mathlib.Core.List.{List}
use native.Mathlib.Omega.{arith}
use lib.ListN.{length}
use lib.Seq.{sets}
use Rattle.model.specs.Lists.{distinct, flat}
use Rattle.model.specs.Bytes.{bytes32}
use Rattle.model.specs.Facts.{facts_of, dir_start, dir_length}
use Rattle.model.specs.Directory.{padded, listing, directory, directory_blocks, fork_place, named}
use Rattle.model.specs.Check.{Accepted, same_names}
use Rattle.model.specs.Calls.{removed, rewritten, with_fork, with_directory}
use Rattle.model.specs.declared.VolumeFacts.{VolumeFacts}
use Rattle.model.specs.declared.Fork.{Fork}
use Rattle.model.proofs.Check.{accepted_passes}
use Rattle.laws.proofs.Blocks.{Cleans}
use Rattle.laws.proofs.Kept.{named_first}
use Rattle.laws.proofs.MapSteps.{fork_with}
use Rattle.laws.proofs.DirectorySteps as steps
use Rattle.laws.proofs.DirectorySteps.{Based}
use Rattle.directory.specs.Cursor.{bytes_at, Stands, Lies}
use Rattle.entries.specs.Blocks.{Block, Removes}
use Rattle.directory.specs.declared.EntryAt.{EntryAt}
use Rattle.entries.proofs.Blocks.{size_here}
use Rattle.entries.proofs.Stored.{fields}
use Rattle.entries.proofs.Located.{entry_within, fork_stored, own_block, own_start, lies_block, entry_removed}
use Rattle.entries.proofs.Elsewhere.{bytes_elsewhere, lies_elsewhere, stands_elsewhere}
use Rattle.files.specs.Lookup.{NamedEntry, FileAt}

module _ {image name : List ℕ} {place : ℕ} {e : EntryAt} (acc : Accepted image) (h : NamedEntry image name place e) (base : List ℕ) (b : Based image base) where
  abbrev f : VolumeFacts
  f = facts_of image

  r : steps.ReadableDirectory image
  r = steps.readable image (accepted_passes image acc)

  clean : Cleans (directory_blocks f image)
  clean = steps.clean_now image r

  differ : distinct same_names (listing (directory_blocks f image)) ≡ true
  unfolding directory
  differ = steps.names_now image r

  has : named name (bytes_at image e) ≡ true
  has =
      let alone = steps.named_now image r name h.there.exists in
      ap (named name) (h.there.bytes ∙ named_first name (directory image) alone) ∙ alone.passes

  within : length (flat h.lies.before) + padded (51 + e.name_length) ≤ 512
  within =
      let base0 = 512 * (dir_start f).0 + 512 * h.lies.index in
      let own = own_block f image e h.lies name has differ clean r.within in
      let size = size_here image base0 e own h.there.stands (lies_block f image e h.lies) in
      omega (arith, size, entry_within f image e h.lies name has differ clean)

  -- the same in base
  abbrev lies : Lies base (512 * (dir_start f).0) (dir_length f) e
  lies = lies_elsewhere f image base b.blocks e h.lies within

  bytes_same : bytes_at base e ≡ bytes_at image e
  bytes_same = bytes_elsewhere f image base b.blocks e h.lies within

  has_same : named name (bytes_at base e) ≡ true
  has_same = ap (named name) bytes_same ∙ has

  differ_same : distinct same_names (listing (directory_blocks f base)) ≡ true
  differ_same = ap (λ (bs : List (List ℕ)). distinct same_names (listing bs)) b.blocks ∙ differ

  clean_same : Cleans (directory_blocks f base)
  clean_same = subst Cleans (sym b.blocks) clean

  within_same : 512 * (dir_start f).0 + 512 * dir_length f ≤ length base
  within_same = omega (arith, b.long, r.within)

  pub stands : Stands base e
  stands = stands_elsewhere f image base b.blocks e h.lies within b.long h.there.stands

  pub stored : (fork : Fork) (a logical : ℕ) (bs : List ℕ) (changed : ℕ)
      → sets (sets base (e.start + fork_place fork) (fields (fork_with a logical bs))) (e.start + 46) (bytes32 changed)
      ≡ with_directory f base (rewritten name (with_fork fork a logical bs changed) (directory_blocks f image))
  stored fork a logical bs changed =
      fork_stored f base e lies name has_same differ_same clean_same within_same fork a logical bs changed
      ∙ ap (λ (t : List (List ℕ)). with_directory f base (rewritten name (with_fork fork a logical bs changed) t)) b.blocks

  start : e.start - e.start % 512 ≡ 512 * (dir_start f).0 + 512 * lies.index
  start = own_start f base e lies name has_same differ_same clean_same

  pub block : Block base (e.start - e.start % 512)
  block = subst (Block base) (sym start) (own_block f base e lies name has_same differ_same clean_same within_same)

  pub lies_own : Lies base (e.start - e.start % 512) 1 e
  lies_own = subst (λ (p : ℕ). Lies base p 1 e) (sym start) (lies_block f base e lies)

  pub taken : (after : List ℕ) → Removes base (e.start - e.start % 512) e after
      → after ≡ with_directory f base (removed name (directory_blocks f image))
  taken after s =
      entry_removed f base e lies name has_same differ_same clean_same within_same after (subst (λ (p : ℕ). Removes base p e after) start s)
      ∙ ap (λ (t : List (List ℕ)). with_directory f base (removed name t)) b.blocks

module _ {f : VolumeFacts} {image : List ℕ} {e : EntryAt} (h : FileAt f image e) (base : List ℕ) (b : Based image base) where
  pub held_stands : Stands base e
  held_stands = stands h.readable.accepted h.found base b

  -- the stores of a fork's fields and the change date
  pub held_stored : (fork : Fork) (a logical : ℕ) (bs : List ℕ) (changed : ℕ)
      → sets (sets base (e.start + fork_place fork) (fields (fork_with a logical bs))) (e.start + 46) (bytes32 changed)
      ≡ with_directory f base (rewritten h.name (with_fork fork a logical bs changed) (directory_blocks f image))
  held_stored fork a logical bs changed =
      stored h.readable.accepted h.found base b fork a logical bs changed
      ∙ ap (λ (g : VolumeFacts). with_directory g base (rewritten h.name (with_fork fork a logical bs changed) (directory_blocks g image)))
      (sym h.readable.facts)

  -- its directory block, counted from the entry's first byte
  pub held_block : Block base (e.start - e.start % 512)
  held_block = block h.readable.accepted h.found base b

  pub held_lies : Lies base (e.start - e.start % 512) 1 e
  held_lies = lies_own h.readable.accepted h.found base b

  pub held_removed : (after : List ℕ) → Removes base (e.start - e.start % 512) e after
      → after ≡ with_directory f base (removed h.name (directory_blocks f image))
  held_removed after s =
      taken h.readable.accepted h.found base b after s
      ∙ ap (λ (g : VolumeFacts). with_directory g base (removed h.name (directory_blocks g image))) (sym h.readable.facts)
