-- Laws of the search for room once an entry is out: where the reading of each directory block ends without it.
use Prim.Native.Nat.{ℕ, ◌+◌, ◌*◌, ◌≤◌, ◌<◌}
use mathlib.Core.Path.{◌≡◌, sym, ap, subst, ◌∙◌}
use mathlib.Core.Bool.{true}
use mathlib.Core.List.{List, ◌∷◌, ◌++◌}
use mathlib.Core.Logic.{◌⊎◌, inl, inr}
use native.Mathlib.Omega.{arith}
use native.Mathlib.Decide.{ℕ_discrete, dec_lt}
use lib.ListN.{length}
use lib.Seq.{paste, take_all}
use Rattle.std.specs.Prelude.{Option}
use Rattle.model.specs.Lists.{every, distinct, flat}
use Rattle.model.specs.Bytes.{part}
use Rattle.model.specs.Facts.{dir_start, dir_length}
use Rattle.model.specs.Directory.{entries, read_end, directory_blocks, listing, named}
use Rattle.model.specs.Check.{same_names}
use Rattle.model.specs.Calls.{filled, removed, with_directory}
use Rattle.model.specs.declared.VolumeFacts.{VolumeFacts}
use Rattle.model.proofs.Lists.{and-true, middle, reordered_every}
use Rattle.laws.proofs.Block.{sound, split, length_filled, read_filled}
use Rattle.laws.proofs.Blocks.{Cleans}
use Rattle.laws.proofs.Content.{part_same, part_clear}
use Rattle.directory.specs.declared.Cursor.{Cursor}
use Rattle.directory.specs.declared.EntryAt.{EntryAt}
use Rattle.directory.specs.Cursor.{bytes_at, Passes, Stands, Lies}
use Rattle.entries.specs.Blocks.{Block, StandsIn, EndsWithout}
use Rattle.entries.specs.Rooms.{Roomy, RoomyWithout}
use Rattle.entries.specs.declared.Room.{Room}
use Rattle.entries.proofs.Blocks.{block_clean, end_within, starts_within, others_here}
use Rattle.entries.proofs.Located.{lies_alone, removed_paste}
use Rattle.entries.proofs.Rooming.{block_of_lem}

-- the image without the entry
abbrev pub without : (image : List ℕ) (first blocks : ℕ) (e : EntryAt) → Lies image first blocks e → List ℕ
without image first blocks e l = paste image (first + 512 * l.index) (filled (l.before ++ l.behind)) 512

-- ---- one block

module _ (image : List ℕ) (base : ℕ) (e : EntryAt) (k : Block image base) (s : Stands image e) (l : Lies image base 1 e) where
  others_short : length (flat (l.before ++ l.behind)) ≤ 512
  others_short = omega (arith, others_here image base e k s l, end_within image base k)

  -- its reading is the others
  others_end : read_end (filled (l.before ++ l.behind)) ≡ length (flat (l.before ++ l.behind))
  unfolding read_end every
  others_end =
      let same : base + 512 * l.index ≡ base = omega (arith, l.within) in
      let all : every sound (l.before ++ (bytes_at image e ∷ l.behind)) ≡ true
      = ap (every sound) (sym l.split) ∙ ap (λ (p : ℕ). every sound (entries (part p 512 image))) same
      ∙ (split (part base 512 image) (block_clean image base k)).sounds in
      let others = (and-true (sound (bytes_at image e)) (every sound (l.before ++ l.behind))
      (sym (reordered_every sound (middle (bytes_at image e) l.before l.behind)) ∙ all)).1 in
      ap (λ (es : List (List ℕ)). length (flat es)) (read_filled (l.before ++ l.behind) others others_short)

-- ---- places of two blocks

apart : (first i j : ℕ) → (i ≡ j → ⊥) → (first + 512 * i + 512 ≤ first + 512 * j) ⊎ (first + 512 * j + 512 ≤ first + 512 * i)
apart first i j h = go (dec_lt i j)
  where
    go : Dec (i < j) → (first + 512 * i + 512 ≤ first + 512 * j) ⊎ (first + 512 * j + 512 ≤ first + 512 * i)
    go (yes k) = inl (omega arith)
    go (no k) = inr (let n : j < i = omega arith in omega arith)

module _ (image : List ℕ) (c : Cursor) (p : Passes image c) (z : c.at ≡ 0) (e : EntryAt) (s : Stands image e)
    (l : Lies image c.base (c.left + 1) e) where
  abbrev own : ℕ
  own = c.base + 512 * l.index

  own_block : Block image own
  own_block = block_of_lem image c p z l.index (omega (arith, l.within))

  abbrev own_lies : Lies image own 1 e
  own_lies = lies_alone image c.base (c.left + 1) e l

  starts_low : own ≤ e.start
  starts_low = omega (arith, l.place)

  starts_high : e.start < own + 512
  starts_high = starts_within image own e own_block s own_lies

  pub stands_in : (i : ℕ) → StandsIn image (c.base + 512 * i) e
  stands_in i low high =
      let same : l.index ≡ i = omega (arith, starts_low, starts_high) in
      subst (λ (j : ℕ). Lies image (c.base + 512 * j) 1 e) same own_lies

  block_long : length (filled (l.before ++ l.behind)) ≡ 512
  unfolding lies_alone
  block_long = length_filled (l.before ++ l.behind) (others_short image own e own_block s own_lies)

  block_full : 512 ≤ length (filled (l.before ++ l.behind))
  block_full = omega (arith, block_long)

  -- where the reading of block i ends without it
  end_own : (end : ℕ) → EndsWithout image own e end → end ≡ read_end (part own 512 (without image c.base (c.left + 1) e l))
  unfolding lies_alone
  end_own end w =
      let bytes : part own 512 (without image c.base (c.left + 1) e l) ≡ filled (l.before ++ l.behind)
      = part_same image own (filled (l.before ++ l.behind)) 512 own_block.within block_full
      ∙ take_all 512 (filled (l.before ++ l.behind)) (omega (arith, block_long)) in
      w.own own_lies ∙ sym (others_end image own e own_block s own_lies) ∙ ap read_end (sym bytes)

  outside : (i : ℕ) → (c.base + 512 * i + 512 ≤ own) ⊎ (own + 512 ≤ c.base + 512 * i)
      → (e.start < c.base + 512 * i) ⊎ (c.base + 512 * i + 512 ≤ e.start)
  outside i (inl h) = inr (omega (arith, starts_low))
  outside i (inr h) = inl (omega (arith, starts_high))

  end_other : (i end : ℕ) → (i ≡ l.index → ⊥) → EndsWithout image (c.base + 512 * i) e end
      → end ≡ read_end (part (c.base + 512 * i) 512 (without image c.base (c.left + 1) e l))
  end_other i end h w =
      let far = apart c.base i l.index h in
      w.other (outside i far)
      ∙ ap read_end (sym (part_clear image own (filled (l.before ++ l.behind)) 512 own_block.within block_full (c.base + 512 * i) 512 far))

  pub end_after : (i end : ℕ) → EndsWithout image (c.base + 512 * i) e end → (after : List ℕ)
      → after ≡ without image c.base (c.left + 1) e l → end ≡ read_end (part (c.base + 512 * i) 512 after)
  end_after i end w after a = go (ℕ_discrete i l.index) ∙ ap (λ (x : List ℕ). read_end (part (c.base + 512 * i) 512 x)) (sym a)
    where
      go : Dec (i ≡ l.index) → end ≡ read_end (part (c.base + 512 * i) 512 (without image c.base (c.left + 1) e l))
      go (yes h) =
          subst (λ (j : ℕ). end ≡ read_end (part (c.base + 512 * j) 512 (without image c.base (c.left + 1) e l))) (sym h)
          (end_own end (subst (λ (j : ℕ). EndsWithout image (c.base + 512 * j) e end) h w))
      go (no h) = end_other i end h w

-- ---- what the search finds, of the model's change

module _ (f : VolumeFacts) (image : List ℕ) (e : EntryAt) (l : Lies image (512 * (dir_start f).0) (dir_length f) e) (name : List ℕ)
    (has : named name (bytes_at image e) ≡ true) (differ : distinct same_names (listing (directory_blocks f image)) ≡ true)
    (clean : Cleans (directory_blocks f image)) (within : 512 * (dir_start f).0 + 512 * dir_length f ≤ length image) where
  pub room_removed : (left size : ℕ) (r : Option Room) → left + 1 ≡ dir_length f → RoomyWithout image (512 * (dir_start f).0) left size e r
      → Roomy (with_directory f image (removed name (directory_blocks f image))) (512 * (dir_start f).0) left size r
  room_removed left size r n w =
      let here : Lies image (512 * (dir_start f).0) (left + 1) e
      = record {
        index = l.index;
        before = l.before;
        behind = l.behind;
        within = omega (arith, l.within);
        split = l.split;
        place = l.place;
      } in
      w here _ (removed_paste f image e l name has differ clean within)
