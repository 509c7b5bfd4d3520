-- Laws of an image's directory and facts: what an image with other directory blocks or other counts reads as, and which of its
-- bytes stay.
use Prim.Native.Nat.{ℕ, suc, ◌+◌, ◌-◌, ◌*◌, ◌≤◌, ◌<◌}
use mathlib.Core.Path.{◌≡◌, refl, sym, ap, ap₂, ◌∙◌}
use mathlib.Core.Bool.{true}
use mathlib.Core.List.{List, ◌∷◌, ◌++◌, append_assoc}
use native.Mathlib.Omega.{arith}
use native.Mathlib.Decide.{dec_lt, dec_le}
use lib.ListN.{length, take, drop, length-append, length-drop, take-append-drop}
use lib.Seq.{sets, paste, length-sets, length-paste, drop-paste, drop-drop, length-take-le, take_all, take_at, drop_at, get_or-drop}
use Rattle.model.specs.Lists.{every, flat}
use Rattle.model.specs.Bytes.{byte, be16, be32, bytes16, bytes32, half}
use Rattle.model.specs.Facts.{facts_in, facts_of, dir_start, dir_length, next_file_number, free_count, with_counts}
use Rattle.model.specs.Map.{entry_byte, map_entry}
use Rattle.model.specs.Directory.{cut_blocks, directory_blocks, listing, directory}
use Rattle.model.specs.Check.{good_entry}
use Rattle.model.specs.Calls.{with_directory, with_files, with_next, with_free}
use Rattle.model.specs.Bytes.{Within}
use Rattle.model.specs.declared.VolumeFacts.{VolumeFacts}
use Rattle.model.proofs.Lists.{flat_append}
use Rattle.laws.proofs.Stores.{sets_before, sets_behind, drop_sets, take_paste_front, paste_before, paste_behind, be16_same, be32_same, part_same}
use Rattle.laws.proofs.Stores.{be16_drop, be32_drop, be16_sets, be32_sets, half_sets_before, half_sets_behind, half_paste_before, half_paste_behind}
use Rattle.laws.proofs.Blocks.{Whole, cut_whole, cut_count, cut_front, cut_flat, flat_cut, whole_length, whole_append, whole_parts, Cleans, whole_clean}
use Rattle.laws.proofs.Places.{OneBlock, sets_inside}

-- ---- facts

-- the facts of a are those of b but for three counts
module _ (a b : List ℕ) (files next free : ℕ) (long : length a ≡ length b) (low : (j : ℕ) → 1024 ≤ j → j < 1036 → byte a j ≡ byte b j)
    (mid : (j : ℕ) → 1038 ≤ j → j < 1054 → byte a j ≡ byte b j) (high : (j : ℕ) → 1060 ≤ j → j < 1088 → byte a j ≡ byte b j)
    (filed : be16 a 1036 ≡ files) (numbered : be32 a 1054 ≡ next) (freed : be16 a 1058 ≡ free) where
  at_place : (j : ℕ) → byte a (1024 + j) ≡ byte b (1024 + j) → byte (drop 1024 a) j ≡ byte (drop 1024 b) j
  at_place j e = get_or-drop 1024 a j 0 ∙ e ∙ sym (get_or-drop 1024 b j 0)

  in_low : (j : ℕ) → j < 12 → byte (drop 1024 a) j ≡ byte (drop 1024 b) j
  in_low j h = at_place j (low (1024 + j) (omega arith) (omega arith))

  in_mid : (j : ℕ) → 14 ≤ j → j < 30 → byte (drop 1024 a) j ≡ byte (drop 1024 b) j
  in_mid j l h = at_place j (mid (1024 + j) (omega arith) (omega arith))

  in_high : (j : ℕ) → 36 ≤ j → j < 64 → byte (drop 1024 a) j ≡ byte (drop 1024 b) j
  in_high j l h = at_place j (high (1024 + j) (omega arith) (omega arith))

  low16 : (p : ℕ) → p + 2 ≤ 12 → be16 (drop 1024 a) p ≡ be16 (drop 1024 b) p
  low16 p h = be16_same (drop 1024 a) (drop 1024 b) p (λ j l u. in_low j (omega arith))

  low32 : (p : ℕ) → p + 4 ≤ 12 → be32 (drop 1024 a) p ≡ be32 (drop 1024 b) p
  low32 p h = be32_same (drop 1024 a) (drop 1024 b) p (λ j l u. in_low j (omega arith))

  mid16 : (p : ℕ) → 14 ≤ p → p + 2 ≤ 30 → be16 (drop 1024 a) p ≡ be16 (drop 1024 b) p
  mid16 p g h = be16_same (drop 1024 a) (drop 1024 b) p (λ j l u. in_mid j (omega arith) (omega arith))

  mid32 : (p : ℕ) → 14 ≤ p → p + 4 ≤ 30 → be32 (drop 1024 a) p ≡ be32 (drop 1024 b) p
  mid32 p g h = be32_same (drop 1024 a) (drop 1024 b) p (λ j l u. in_mid j (omega arith) (omega arith))

  pub counts_facts : facts_of a ≡ with_counts (facts_of b) files next free
  unfolding facts_of facts_in with_counts
  counts_facts i = record {
    signature = low16 0 (omega arith) i;
    created = low32 2 (omega arith) i;
    backup = low32 6 (omega arith) i;
    attributes = low16 10 (omega arith) i;
    files = (be16_drop 1024 a 12 ∙ filed) i;
    directory_start = record { 0 = mid16 14 (omega arith) (omega arith) i };
    directory_length = mid16 16 (omega arith) (omega arith) i;
    allocation_blocks = mid16 18 (omega arith) (omega arith) i;
    block_size = mid32 20 (omega arith) (omega arith) i;
    clump_size = mid32 24 (omega arith) (omega arith) i;
    allocation_start = record { 0 = mid16 28 (omega arith) (omega arith) i };
    next_number = (be32_drop 1024 a 30 ∙ numbered) i;
    free_blocks = (be16_drop 1024 a 34 ∙ freed) i;
    name_length = in_high 36 (omega arith) (omega arith) i;
    name = part_same (drop 1024 a) (drop 1024 b) 37 27 (rw (length-drop, length-drop, long)) (λ j l u. in_high j (omega arith) (omega arith)) i;
  }

-- the counts as the image holds them
counts_in : (image : List ℕ)
    → (be16 image 1036 ≡ (facts_of image).files) × (be32 image 1054 ≡ next_file_number (facts_of image)) × (be16 image 1058 ≡ free_count (facts_of image))
unfolding facts_of facts_in
counts_in image = (sym (be16_drop 1024 image 12), sym (be32_drop 1024 image 30), sym (be16_drop 1024 image 34))

-- the facts are in 64 bytes
pub facts_same : (a b : List ℕ) → length a ≡ length b → ((j : ℕ) → 1024 ≤ j → j < 1088 → byte a j ≡ byte b j) → facts_of a ≡ facts_of b
unfolding with_counts
facts_same a b l at =
    let c = counts_in b in
    counts_facts a b (facts_of b).files (next_file_number (facts_of b)) (free_count (facts_of b)) l
    (λ j p q. at j p (omega arith)) (λ j p q. at j (omega arith) (omega arith)) (λ j p q. at j (omega arith) q)
    (be16_same a b 1036 (λ j p q. at j (omega arith) (omega arith)) ∙ c.0)
    (be32_same a b 1054 (λ j p q. at j (omega arith) (omega arith)) ∙ c.1)
    (be16_same a b 1058 (λ j p q. at j (omega arith) (omega arith)) ∙ c.2)

-- each count stored
module _ (n : ℕ) (image : List ℕ) where
  pub files_length : length (with_files n image) ≡ length image
  unfolding with_files
  files_length = length-sets image 1036 (bytes16 n)

  pub next_length : length (with_next n image) ≡ length image
  unfolding with_next
  next_length = length-sets image 1054 (bytes32 n)

  pub free_length : length (with_free n image) ≡ length image
  unfolding with_free
  free_length = length-sets image 1058 (bytes16 n)

  -- all bytes from 1060 on stay
  pub files_drop : (m : ℕ) → 1060 ≤ m → drop m (with_files n image) ≡ drop m image
  unfolding with_files
  files_drop m h = drop_sets (bytes16 n) image 1036 m (omega arith)

  pub next_drop : (m : ℕ) → 1060 ≤ m → drop m (with_next n image) ≡ drop m image
  unfolding with_next
  next_drop m h = drop_sets (bytes32 n) image 1054 m (omega arith)

  pub free_drop : (m : ℕ) → 1060 ≤ m → drop m (with_free n image) ≡ drop m image
  unfolding with_free
  free_drop m h = drop_sets (bytes16 n) image 1058 m (omega arith)

  module _ (long : 1088 ≤ length image) where
    pub files_facts : facts_of (with_files n image) ≡ with_counts (facts_of image) n (next_file_number (facts_of image)) (free_count (facts_of image))
    unfolding with_files
    files_facts =
        let c = counts_in image in
        counts_facts (with_files n image) image n (next_file_number (facts_of image)) (free_count (facts_of image)) files_length
        (λ j p q. sets_before (bytes16 n) image 1036 j q) (λ j p q. sets_behind (bytes16 n) image 1036 j p)
        (λ j p q. sets_behind (bytes16 n) image 1036 j (omega arith))
        (be16_sets image 1036 n (omega arith))
        (be32_same (with_files n image) image 1054 (λ j p q. sets_behind (bytes16 n) image 1036 j (omega arith)) ∙ c.1)
        (be16_same (with_files n image) image 1058 (λ j p q. sets_behind (bytes16 n) image 1036 j (omega arith)) ∙ c.2)

    pub next_facts : facts_of (with_next n image) ≡ with_counts (facts_of image) (facts_of image).files n (free_count (facts_of image))
    unfolding with_next
    next_facts =
        let c = counts_in image in
        counts_facts (with_next n image) image (facts_of image).files n (free_count (facts_of image)) next_length
        (λ j p q. sets_before (bytes32 n) image 1054 j (omega arith)) (λ j p q. sets_before (bytes32 n) image 1054 j q)
        (λ j p q. sets_behind (bytes32 n) image 1054 j (omega arith))
        (be16_same (with_next n image) image 1036 (λ j p q. sets_before (bytes32 n) image 1054 j (omega arith)) ∙ c.0)
        (be32_sets image 1054 n (omega arith))
        (be16_same (with_next n image) image 1058 (λ j p q. sets_behind (bytes32 n) image 1054 j (omega arith)) ∙ c.2)

    pub free_facts : facts_of (with_free n image) ≡ with_counts (facts_of image) (facts_of image).files (next_file_number (facts_of image)) n
    unfolding with_free
    free_facts =
        let c = counts_in image in
        counts_facts (with_free n image) image (facts_of image).files (next_file_number (facts_of image)) n free_length
        (λ j p q. sets_before (bytes16 n) image 1058 j (omega arith)) (λ j p q. sets_before (bytes16 n) image 1058 j (omega arith))
        (λ j p q. sets_behind (bytes16 n) image 1058 j (omega arith))
        (be16_same (with_free n image) image 1036 (λ j p q. sets_before (bytes16 n) image 1058 j (omega arith)) ∙ c.0)
        (be32_same (with_free n image) image 1054 (λ j p q. sets_before (bytes16 n) image 1058 j (omega arith)) ∙ c.1)
        (be16_sets image 1058 n (omega arith))

-- ---- what an image reads as, from its bytes

-- the directory is in its own bytes
pub blocks_same : (f : VolumeFacts) (a b : List ℕ)
    → take (512 * dir_length f) (drop (512 * (dir_start f).0) a) ≡ take (512 * dir_length f) (drop (512 * (dir_start f).0) b)
    → directory_blocks f a ≡ directory_blocks f b
unfolding directory_blocks
blocks_same f a b h =
    sym (cut_front (dir_length f) (drop (512 * (dir_start f).0) a)) ∙ ap (cut_blocks (dir_length f)) h ∙ cut_front (dir_length f) (drop (512 * (dir_start f).0) b)

pub blocks_drop : (f : VolumeFacts) (a b : List ℕ) → drop (512 * (dir_start f).0) a ≡ drop (512 * (dir_start f).0) b → directory_blocks f a ≡ directory_blocks f b
blocks_drop f a b h = blocks_same f a b (ap (take (512 * dir_length f)) h)

pub blocks_bytes : (f : VolumeFacts) (a b : List ℕ) → length a ≡ length b
    → ((j : ℕ) → 512 * (dir_start f).0 ≤ j → j < 512 * (dir_start f).0 + 512 * dir_length f → byte a j ≡ byte b j) → directory_blocks f a ≡ directory_blocks f b
blocks_bytes f a b l at = blocks_same f a b (part_same a b (512 * (dir_start f).0) (512 * dir_length f) l at)

-- other counts leave the directory blocks
pub blocks_counts : (f : VolumeFacts) (files next free : ℕ) (image : List ℕ) → directory_blocks (with_counts f files next free) image ≡ directory_blocks f image
unfolding directory_blocks with_counts
blocks_counts f files next free image = refl

-- a stored count leaves them too
module _ (f : VolumeFacts) (behind : 4 ≤ (dir_start f).0) (n : ℕ) (image : List ℕ) where
  pub files_blocks : directory_blocks f (with_files n image) ≡ directory_blocks f image
  files_blocks = blocks_drop f (with_files n image) image (files_drop n image (512 * (dir_start f).0) (omega arith))

  pub next_blocks : directory_blocks f (with_next n image) ≡ directory_blocks f image
  next_blocks = blocks_drop f (with_next n image) image (next_drop n image (512 * (dir_start f).0) (omega arith))

  pub free_blocks_lem : directory_blocks f (with_free n image) ≡ directory_blocks f image
  free_blocks_lem = blocks_drop f (with_free n image) image (free_drop n image (512 * (dir_start f).0) (omega arith))

-- a block's map entry is in two bytes
pub entry_same : (a c : List ℕ) (b : ℕ) → byte a (entry_byte b) ≡ byte c (entry_byte b) → byte a (entry_byte b + 1) ≡ byte c (entry_byte b + 1)
    → map_entry a b ≡ map_entry c b
unfolding map_entry
entry_same a c b p q = rw (p, q)

pub byte_drop : (a c : List ℕ) (n j : ℕ) → drop n a ≡ drop n c → n ≤ j → byte a j ≡ byte c j
byte_drop a c n j e h =
    let m : n + (j - n) ≡ j = omega arith in
    ap (byte a) (sym m) ∙ sym (get_or-drop n a (j - n) 0) ∙ ap (λ (t : List ℕ). byte t (j - n)) e ∙ get_or-drop n c (j - n) 0 ∙ ap (byte c) m

-- the map is behind byte 1088
pub entry_drop : (a c : List ℕ) (b : ℕ) → drop 1088 a ≡ drop 1088 c → map_entry a b ≡ map_entry c b
entry_drop a c b e = entry_same a c b (byte_drop a c 1088 (entry_byte b) e (omega arith)) (byte_drop a c 1088 (entry_byte b + 1) e (omega arith))

-- ---- other directory blocks

module _ (f : VolumeFacts) (image : List ℕ) (within : 512 * (dir_start f).0 + 512 * dir_length f ≤ length image) where
  pub blocks_count : length (directory_blocks f image) ≡ dir_length f
  unfolding directory_blocks
  blocks_count = cut_count (dir_length f) (drop (512 * (dir_start f).0) image)

  pub blocks_whole : Whole (directory_blocks f image)
  unfolding directory_blocks
  blocks_whole = cut_whole (dir_length f) (drop (512 * (dir_start f).0) image) (rw length-drop (omega arith))

  pub blocks_clean : every good_entry (listing (directory_blocks f image)) ≡ true → Cleans (directory_blocks f image)
  blocks_clean g = whole_clean (directory_blocks f image) blocks_whole g

  module _ (bs : List (List ℕ)) (w : Whole bs) (n : length bs ≡ dir_length f) where
    full : length (flat bs) ≡ 512 * dir_length f
    full = whole_length bs w ∙ ap (λ (k : ℕ). 512 * k) n

    spread : with_directory f image bs ≡ take (512 * (dir_start f).0) image ++ (flat bs ++ drop (512 * (dir_start f).0 + 512 * dir_length f) image)
    unfolding with_directory
    spread = rw (take_all (512 * dir_length f) (flat bs) (omega (arith, full)), append_assoc)

    pub with_blocks : directory_blocks f (with_directory f image bs) ≡ bs
    unfolding directory_blocks
    with_blocks =
        rw (
          spread,
          drop_at (take (512 * (dir_start f).0) image) (flat bs ++ drop (512 * (dir_start f).0 + 512 * dir_length f) image) (512 * (dir_start f).0)
              (length-take-le (512 * (dir_start f).0) image (omega arith)),
          ← n,
        )
        (flat_cut bs _ w)

    pub with_length : length (with_directory f image bs) ≡ length image
    unfolding with_directory
    with_length = length-paste image (512 * (dir_start f).0) (flat bs) (512 * dir_length f) within (omega (arith, full))

    pub with_before : (j : ℕ) → j < 512 * (dir_start f).0 → byte (with_directory f image bs) j ≡ byte image j
    unfolding with_directory
    with_before j h = paste_before image (512 * (dir_start f).0) (flat bs) (512 * dir_length f) within (omega (arith, full)) j h

    pub with_behind : (j : ℕ) → 512 * (dir_start f).0 + 512 * dir_length f ≤ j → byte (with_directory f image bs) j ≡ byte image j
    unfolding with_directory
    with_behind j h = paste_behind image (512 * (dir_start f).0) (flat bs) (512 * dir_length f) within (omega (arith, full)) j h

    pub with_drop : (m : ℕ) → 512 * (dir_start f).0 + 512 * dir_length f ≤ m → drop m (with_directory f image bs) ≡ drop m image
    unfolding with_directory
    with_drop m h =
        let p : 512 * (dir_start f).0 + 512 * dir_length f + (m - (512 * (dir_start f).0 + 512 * dir_length f)) ≡ m = omega arith in
        ap (λ (k : ℕ). drop k (with_directory f image bs)) (sym p)
        ∙ sym (drop-drop (m - (512 * (dir_start f).0 + 512 * dir_length f)) (512 * (dir_start f).0 + 512 * dir_length f) (with_directory f image bs))
        ∙ ap (drop (m - (512 * (dir_start f).0 + 512 * dir_length f)))
        (drop-paste image (512 * (dir_start f).0) (flat bs) (512 * dir_length f) (omega arith) (omega (arith, full)))
        ∙ drop-drop (m - (512 * (dir_start f).0 + 512 * dir_length f)) (512 * (dir_start f).0 + 512 * dir_length f) image
        ∙ ap (λ (k : ℕ). drop k image) p

    -- other directory blocks stored over these
    pub with_twice : (cs : List (List ℕ)) → with_directory f (with_directory f image bs) cs ≡ with_directory f image cs
    unfolding with_directory
    with_twice cs =
        let p = 512 * (dir_start f).0 in
        let k = 512 * dir_length f in
        ap₂ (λ (a b : List ℕ). (a ++ take k (flat cs)) ++ b)
        (take_paste_front image p (flat bs) k within (omega (arith, full)) p (omega arith))
        (drop-paste image p (flat bs) k (omega arith) (omega (arith, full)))

    module _ (behind : 4 ≤ (dir_start f).0) where
      pub with_facts : facts_of (with_directory f image bs) ≡ facts_of image
      with_facts = facts_same (with_directory f image bs) image with_length (λ j p q. with_before j (omega arith))

      -- blocks up to 641 have their map entries before byte 2048
      pub with_entry : (b : ℕ) → b ≤ 641 → map_entry (with_directory f image bs) b ≡ map_entry image b
      with_entry b h = entry_same (with_directory f image bs) image b (with_before (entry_byte b) (omega arith)) (with_before (entry_byte b + 1) (omega arith))

-- ---- directory blocks and counts

-- after is image with the directory blocks bs and these counts
pub record Changed (f : VolumeFacts) (image : List ℕ) (bs : List (List ℕ)) (files next free : ℕ) (after : List ℕ) : Type 0 where
  pub long : length after ≡ length image
  pub facts : facts_of after ≡ with_counts f files next free
  pub blocks : directory_blocks f after ≡ bs
  -- the map entries of blocks up to 641, and all bytes behind the directory, stay
  pub entry : (b : ℕ) → b ≤ 641 → map_entry after b ≡ map_entry image b
  pub tail : (m : ℕ) → 512 * (dir_start f).0 + 512 * dir_length f ≤ m → drop m after ≡ drop m image

module _ (f : VolumeFacts) (image : List ℕ) (behind : 4 ≤ (dir_start f).0) (within : 512 * (dir_start f).0 + 512 * dir_length f ≤ length image)
    (bs : List (List ℕ)) where
  pub changed_listing : {files next free : ℕ} {after : List ℕ} → Changed f image bs files next free after → directory after ≡ listing bs
  unfolding directory
  changed_listing {files} {next} {free} {after} c =
      ap (λ (g : VolumeFacts). listing (directory_blocks g after)) c.facts ∙ ap listing (blocks_counts f files next free after ∙ c.blocks)

  module _ (files next free : ℕ) (after : List ℕ) (c : Changed f image bs files next free after) where
    pub then_files : (n : ℕ) → Changed f image bs n next free (with_files n after)
    unfolding with_counts
    then_files n =
        let l : 1088 ≤ length after = omega (arith, c.long) in
        record {
          long = files_length n after ∙ c.long;
          facts = files_facts n after l ∙ ap (λ (g : VolumeFacts). with_counts g n (next_file_number g) (free_count g)) c.facts;
          blocks = files_blocks f behind n after ∙ c.blocks;
          entry = λ b h. entry_drop (with_files n after) after b (files_drop n after 1088 (omega arith)) ∙ c.entry b h;
          tail = λ m h. files_drop n after m (omega arith) ∙ c.tail m h;
        }

    pub then_next : (n : ℕ) → Changed f image bs files n free (with_next n after)
    unfolding with_counts
    then_next n =
        let l : 1088 ≤ length after = omega (arith, c.long) in
        record {
          long = next_length n after ∙ c.long;
          facts = next_facts n after l ∙ ap (λ (g : VolumeFacts). with_counts g g.files n (free_count g)) c.facts;
          blocks = next_blocks f behind n after ∙ c.blocks;
          entry = λ b h. entry_drop (with_next n after) after b (next_drop n after 1088 (omega arith)) ∙ c.entry b h;
          tail = λ m h. next_drop n after m (omega arith) ∙ c.tail m h;
        }

    pub then_free : (n : ℕ) → Changed f image bs files next n (with_free n after)
    unfolding with_counts
    then_free n =
        let l : 1088 ≤ length after = omega (arith, c.long) in
        record {
          long = free_length n after ∙ c.long;
          facts = free_facts n after l ∙ ap (λ (g : VolumeFacts). with_counts g g.files (next_file_number g) n) c.facts;
          blocks = free_blocks_lem f behind n after ∙ c.blocks;
          entry = λ b h. entry_drop (with_free n after) after b (free_drop n after 1088 (omega arith)) ∙ c.entry b h;
          tail = λ m h. free_drop n after m (omega arith) ∙ c.tail m h;
        }

  -- f are the image's facts
  module _ (known : facts_of image ≡ f) (w : Whole bs) (n : length bs ≡ dir_length f) where
    pub directory_changed : Changed f image bs f.files (next_file_number f) (free_count f) (with_directory f image bs)
    unfolding with_counts
    directory_changed = record {
      long = with_length f image within bs w n;
      facts = with_facts f image within bs w n behind ∙ known;
      blocks = with_blocks f image within bs w n;
      entry = with_entry f image within bs w n behind;
      tail = with_drop f image within bs w n;
    }

    -- create
    pub create_changed : (files next : ℕ) → Changed f image bs files next (free_count f) (with_files files (with_next next (with_directory f image bs)))
    create_changed files next =
        then_files f.files next (free_count f) (with_next next (with_directory f image bs))
        (then_next f.files (next_file_number f) (free_count f) (with_directory f image bs) directory_changed next) files

    -- write and cut
    pub rewrite_changed : (free : ℕ) → Changed f image bs f.files (next_file_number f) free (with_free free (with_directory f image bs))
    rewrite_changed free = then_free f.files (next_file_number f) (free_count f) (with_directory f image bs) directory_changed free

    -- delete
    pub delete_changed : (files free : ℕ) → Changed f image bs files (next_file_number f) free (with_free free (with_files files (with_directory f image bs)))
    delete_changed files free =
        then_free files (next_file_number f) (free_count f) (with_files files (with_directory f image bs))
        (then_files f.files (next_file_number f) (free_count f) (with_directory f image bs) directory_changed files) free

    pub all_changed : (files next free : ℕ) → Changed f image bs files next free (with_free free (with_files files (with_next next (with_directory f image bs))))
    all_changed files next free =
        then_free files next (free_count f) (with_files files (with_next next (with_directory f image bs))) (create_changed files next) free

-- ---- only one directory block differs

paste_at : (p b t c : List ℕ) (a k : ℕ) → length p ≡ a → length b ≡ k → length c ≡ k → paste (p ++ (b ++ t)) a c k ≡ p ++ (c ++ t)
paste_at p b t c a k h i j =
    rw (take_at p (b ++ t) a h, ← drop-drop k a (p ++ (b ++ t)), drop_at p (b ++ t) a h, drop_at b t k i, take_all k c (omega arith), append_assoc)

-- block b of the directory
module _ (f : VolumeFacts) (image : List ℕ) (within : 512 * (dir_start f).0 + 512 * dir_length f ≤ length image) (x : List (List ℕ)) (b : List ℕ)
    (y : List (List ℕ))
    (h : directory_blocks f image ≡ x ++ (b ∷ y)) where
  parts : Whole x × Whole (b ∷ y)
  parts = whole_parts x (b ∷ y) (rw h at (blocks_whole f image within))

  pub block_long : length b ≡ 512
  unfolding Whole
  block_long = parts.1.0

  count : length x + suc (length y) ≡ dir_length f
  count = sym (length-append x (b ∷ y)) ∙ sym (ap length h) ∙ blocks_count f image within

  pub block_last : (dir_start f).0 + length x < (dir_start f).0 + dir_length f
  block_last = omega (arith, count)

  abbrev ahead : List ℕ
  ahead = take (512 * (dir_start f).0) image ++ flat x

  abbrev following : List ℕ
  following = flat y ++ drop (512 * (dir_start f).0 + 512 * dir_length f) image

  ahead_length : length ahead ≡ 512 * ((dir_start f).0 + length x)
  ahead_length =
      length-append (take (512 * (dir_start f).0) image) (flat x)
      ∙ omega (arith, length-take-le (512 * (dir_start f).0) image (omega arith), whole_length x parts.0)

  -- where it is in the image
  pub block_at : image ≡ ahead ++ (b ++ following)
  unfolding flat directory_blocks
  block_at =
      let e : flat (directory_blocks f image) ++ drop (512 * dir_length f) (drop (512 * (dir_start f).0) image) ≡ drop (512 * (dir_start f).0) image
      = cut_flat (dir_length f) (drop (512 * (dir_start f).0) image) (rw length-drop (omega arith)) in
      let body : flat (x ++ (b ∷ y)) ++ drop (512 * (dir_start f).0 + 512 * dir_length f) image ≡ drop (512 * (dir_start f).0) image
      = ap (λ (t : List (List ℕ)). flat t ++ drop (512 * (dir_start f).0 + 512 * dir_length f) image) (sym h)
      ∙ ap (λ (t : List ℕ). flat (directory_blocks f image) ++ t) (sym (drop-drop (512 * dir_length f) (512 * (dir_start f).0) image)) ∙ e in
      sym (take-append-drop (512 * (dir_start f).0) image)
      ∙ ap (λ (t : List ℕ). take (512 * (dir_start f).0) image ++ t) (sym body
      ∙ ap (λ (t : List ℕ). t ++ drop (512 * (dir_start f).0 + 512 * dir_length f) image) (flat_append x (b ∷ y)))
      ∙ simp append_assoc

  pub block_within : 512 * ((dir_start f).0 + length x) + 512 ≤ length image
  block_within = omega (arith, count)

  with_block : (c : List ℕ) → length c ≡ 512 → with_directory f image (x ++ (c ∷ y)) ≡ ahead ++ (c ++ following)
  unfolding Whole flat
  with_block c l =
      spread f image within (x ++ (c ∷ y)) (whole_append x (c ∷ y) parts.0 (l, parts.1.1)) (length-append x (c ∷ y) ∙ count)
      ∙ rw (flat_append x (c ∷ y)) (simp append_assoc)

  -- the image with another block there
  pub one_block : (c : List ℕ) → length c ≡ 512 → with_directory f image (x ++ (c ∷ y)) ≡ paste image (512 * ((dir_start f).0 + length x)) c 512
  one_block c l =
      with_block c l
      ∙ sym (paste_at ahead b following c (512 * ((dir_start f).0 + length x)) 512 ahead_length block_long l)
      ∙ ap (λ (t : List ℕ). paste t (512 * ((dir_start f).0 + length x)) c 512) (sym block_at)

  -- two stores in the block are stores in the image
  pub two_stores : (i j : ℕ) (vs ws : List ℕ) → i + length vs ≤ 512 → j + length ws ≤ 512
      → with_directory f image (x ++ (sets (sets b i vs) j ws ∷ y)) ≡ sets (sets image (512 * ((dir_start f).0 + length x) + i) vs)
      (512 * ((dir_start f).0 + length x) + j) ws
  two_stores i j vs ws p q =
      let lb = length-sets b i vs in
      with_block (sets (sets b i vs) j ws) (length-sets (sets b i vs) j ws ∙ lb ∙ block_long)
      ∙ sym (sets_inside ws ahead (sets b i vs) following j (omega (arith, block_long)))
      ∙ ap (λ (t : List ℕ). sets t (length ahead + j) ws)
      (sym (sets_inside vs ahead b following i (omega (arith, block_long))) ∙ ap (λ (t : List ℕ). sets t (length ahead + i) vs) (sym block_at))
      ∙ ap (λ (n : ℕ). sets (sets image (n + i) vs) (n + j) ws) ahead_length

-- ---- which half-bytes stay

pub half_outside_sets : (vs l : List ℕ) (p h : ℕ) → (Within p (length vs) h → ⊥) → half (sets l p vs) h ≡ half l h
half_outside_sets vs l p h o = go (dec_lt h (2 * p)) (dec_le (2 * p + 2 * length vs) h)
  where
    go : Dec (h < 2 * p) → Dec (2 * p + 2 * length vs ≤ h) → half (sets l p vs) h ≡ half l h
    go (yes a) e = half_sets_before vs l p h a
    go (no a) (yes e) = half_sets_behind vs l p h e
    go (no a) (no e) = absurd (o (omega arith, omega arith))

pub half_outside_paste : (d : List ℕ) (p : ℕ) (c : List ℕ) (k : ℕ) → p + k ≤ length d → k ≤ length c → (h : ℕ) → (Within p k h → ⊥)
    → half (paste d p c k) h ≡ half d h
half_outside_paste d p c k fits enough h o = go (dec_lt h (2 * p)) (dec_le (2 * p + 2 * k) h)
  where
    go : Dec (h < 2 * p) → Dec (2 * p + 2 * k ≤ h) → half (paste d p c k) h ≡ half d h
    go (yes a) e = half_paste_before d p c k fits enough h a
    go (no a) (yes e) = half_paste_behind d p c k fits enough h e
    go (no a) (no e) = absurd (o (omega arith, omega arith))

module _ (n : ℕ) (image : List ℕ) (h : ℕ) where
  pub files_half : (Within 1036 2 h → ⊥) → half (with_files n image) h ≡ half image h
  unfolding with_files
  files_half o = half_outside_sets (bytes16 n) image 1036 h o

  pub next_half : (Within 1054 4 h → ⊥) → half (with_next n image) h ≡ half image h
  unfolding with_next
  next_half o = half_outside_sets (bytes32 n) image 1054 h o

  pub free_half : (Within 1058 2 h → ⊥) → half (with_free n image) h ≡ half image h
  unfolding with_free
  free_half o = half_outside_sets (bytes16 n) image 1058 h o

module _ (f : VolumeFacts) (image : List ℕ) (within : 512 * (dir_start f).0 + 512 * dir_length f ≤ length image) (bs : List (List ℕ))
    (o : OneBlock (directory_blocks f image) bs) where
  -- block `(dir_start f).0 + length o.before` differs
  pub differs_last : (dir_start f).0 + length o.before < (dir_start f).0 + dir_length f
  differs_last = block_last f image within o.before o.was o.behind o.old

  pub one_paste : with_directory f image bs ≡ paste image (512 * ((dir_start f).0 + length o.before)) o.now 512
  one_paste = ap (with_directory f image) o.new ∙ one_block f image within o.before o.was o.behind o.old o.now o.long

  pub one_half : (h : ℕ) → (Within (512 * ((dir_start f).0 + length o.before)) 512 h → ⊥) → half (with_directory f image bs) h ≡ half image h
  one_half h k =
      ap (λ (t : List ℕ). half t h) one_paste
      ∙ half_outside_paste image (512 * ((dir_start f).0 + length o.before)) o.now 512
      (block_within f image within o.before o.was o.behind o.old) (omega (arith, o.long)) h k
