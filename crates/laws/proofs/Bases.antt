-- What the calls that change an image have in common: the stores of the map and the blocks come first and make `base`, which has
-- the image's facts and directory; then the directory and the counts are stored, which leaves the map and the blocks.
use Prim.Native.Nat.{ℕ, ◌-◌, ◌*◌, ◌≤◌}
use mathlib.Core.Path.{◌≡◌, ◌∙◌}
use mathlib.Core.List.{List}
use mathlib.Core.Logic.{inl, inr}
use native.Mathlib.Omega.{arith}
use lib.ListN.{length}
use Rattle.model.specs.Lists.{flat}
use Rattle.model.specs.Bytes.{bytes16, bytes32}
use Rattle.model.specs.Facts.{facts_of, dir_start, dir_length, A, S}
use Rattle.model.specs.Directory.{directory_blocks}
use Rattle.model.specs.Check.{Accepted}
use Rattle.model.specs.Calls.{rewritten, with_fork, with_directory, with_files, with_next, with_free}
use Rattle.model.specs.declared.Fork.{Fork}
use Rattle.laws.proofs.Content.{same_byte_lem}
use Rattle.laws.proofs.Alike.{Alike, alike_sets, alike_paste, alike_trans}
use Rattle.laws.proofs.MapSteps.{Framed}
use Rattle.laws.proofs.Block.{keeps_sized}
use Rattle.laws.proofs.Entry.{fork_keeps}
use Rattle.laws.proofs.Blocks.{Whole, whole_length, clean_whole, rewritten_stays}
use Rattle.laws.proofs.Image.{blocks_count}
use Rattle.laws.proofs.DirectorySteps.{Based, based_bytes, clean_now}
use Rattle.laws.proofs.Acceptance.{readable_of}

module _ (image : List ℕ) (acc : Accepted image) where
  -- base has the image's facts and directory
  pub based : (bs base : List ℕ) → Framed (S (facts_of image)) (A (facts_of image)) bs image base → Based image base
  based bs base r =
      let f = acc.facts.layout in
      based_bytes image base r.size (λ j low high. same_byte_lem 0 1088 j base image r.before (omega arith) (omega arith))
      (λ j low high. same_byte_lem 2048 (512 * (S (facts_of image)).0 - 2048) j base image r.between (omega (arith, f.dir_behind)) (omega (arith, f.dir_before)))

  -- the directory's and the counts' stores leave the map and the blocks
  low : 2048 ≤ 512 * (S (facts_of image)).0
  low = omega (arith, acc.facts.layout.dir_behind, acc.facts.layout.dir_before)

  pub alike_directory : (base : List ℕ) (bs : List (List ℕ)) → length base ≡ length image → Whole bs → length bs ≡ dir_length (facts_of image)
      → Alike (S (facts_of image)) (with_directory (facts_of image) base bs) base
  unfolding with_directory
  alike_directory base bs l w n =
      let f = acc.facts.layout in
      alike_paste (S (facts_of image)) base (512 * (dir_start (facts_of image)).0) (flat bs) (512 * dir_length (facts_of image))
      (omega (arith, (readable_of image acc).within)) (omega (arith, whole_length bs w)) low (inr (omega (arith, f.dir_behind), omega (arith, f.dir_before)))

  pub alike_files : (n : ℕ) (l : List ℕ) → Alike (S (facts_of image)) (with_files n l) l
  unfolding with_files
  alike_files n l = alike_sets (S (facts_of image)) l 1036 (bytes16 n) low (inl (omega arith))

  pub alike_next : (n : ℕ) (l : List ℕ) → Alike (S (facts_of image)) (with_next n l) l
  unfolding with_next
  alike_next n l = alike_sets (S (facts_of image)) l 1054 (bytes32 n) low (inl (omega arith))

  pub alike_free : (n : ℕ) (l : List ℕ) → Alike (S (facts_of image)) (with_free n l) l
  unfolding with_free
  alike_free n l = alike_sets (S (facts_of image)) l 1058 (bytes16 n) low (inl (omega arith))

-- the directory's blocks after a rewriting, and the stores that follow those of the map and the blocks
module _ (image : List ℕ) (acc : Accepted image) (name : List ℕ) (fork : Fork) (logical : ℕ) (bs : List ℕ) (changed free : ℕ)
    (base : List ℕ) (l : length base ≡ length image) where
  abbrev new_blocks : List (List ℕ)
  new_blocks = rewritten name (with_fork fork (A (facts_of image)) logical bs changed) (directory_blocks (facts_of image) image)

  pub alike_rewritten : Alike (S (facts_of image)) (with_free free (with_directory (facts_of image) base new_blocks)) base
  alike_rewritten =
      let f = facts_of image in
      let r = readable_of image acc in
      let st = rewritten_stays name (with_fork fork (A f) logical bs changed) (directory_blocks f image)
      (keeps_sized name (with_fork fork (A f) logical bs changed) (fork_keeps fork (A f) logical bs changed)) (clean_now image r) in
      alike_trans (S f) (with_free free (with_directory f base new_blocks)) (with_directory f base new_blocks) base
      (alike_free image acc free (with_directory f base new_blocks))
      (alike_directory image acc base new_blocks l (clean_whole new_blocks st.clean) (st.count ∙ blocks_count f image r.within))
