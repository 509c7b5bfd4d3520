-- Laws of an entry's place: the directory block it stands in, and the model's changes of the directory as changes at that place.
use Prim.Native.Nat.{ℕ, zero, suc, ◌+◌, ◌-◌, ◌*◌, ◌%◌, ◌≤◌, ◌<◌}
use mathlib.Core.Path.{◌≡◌, refl, sym, ap, ◌∙◌}
use mathlib.Core.Bool.{true, false, or-true}
use mathlib.Core.List.{List, [], ◌∷◌, ◌++◌, map, append_assoc, map-append}
use native.Mathlib.Omega.{arith}
use lib.ListN.{length, take, drop, length-append}
use lib.Seq.{sets, paste, drop-drop}
use Rattle.model.specs.Lists.{every, any, distinct, flat}
use Rattle.model.specs.Bytes.{bytes32, part}
use Rattle.model.specs.Facts.{dir_start, dir_length}
use Rattle.model.specs.Directory.{entries, read_at, cut_blocks, directory_blocks, listing, fork_place, named}
use Rattle.model.specs.Check.{good_entry, same_names, fires6}
use Rattle.model.specs.Calls.{filled, removed_in, removed, rewritten_in, rewritten, with_fork, with_directory}
use Rattle.model.specs.declared.VolumeFacts.{VolumeFacts}
use Rattle.model.specs.declared.Fork.{Fork}
use Rattle.model.proofs.Lists.{and-true, or-false, any_append, every_append, flat_append, not_so, so_not}
use Rattle.laws.proofs.Reorder.{none_behind_lem, Alone}
use Rattle.laws.proofs.Block.{Clean, rest, split, used_within, good_long, length_filled}
use Rattle.laws.proofs.Blocks.{Cleans, cut_count, clean_parts, listing_append}
use Rattle.laws.proofs.Kept.{both_named, on_named_lem, named_keep}
use Rattle.laws.proofs.Places.{map_unnamed, fills, rewritten_bytes, rewritten_stores}
use Rattle.laws.proofs.Entry.{place_high}
use Rattle.laws.proofs.Image.{two_stores, one_block}
use Rattle.laws.proofs.MapSteps.{fork_with}
use Rattle.directory.specs.declared.Cursor.{Cursor}
use Rattle.directory.specs.declared.EntryAt.{EntryAt}
use Rattle.model.specs.declared.LogicalBlock.{LogicalBlock}
use Rattle.directory.specs.Cursor.{block_of, bytes_at, Begins, Comes, Lies}
use Rattle.entries.specs.Blocks.{Block, Removes}
use Rattle.entries.proofs.Blocks.{inside_full, paste_inside}
use Rattle.entries.proofs.Stored.{fields}

-- the directory's reading comes to its first entry
pub begins_comes : (image : List ℕ) (start : LogicalBlock) (blocks : ℕ) (c : Cursor) → Begins start blocks c → Comes image (512 * start.0) blocks c
unfolding entries flat
begins_comes image start blocks c b = record {
  index = 0;
  before = [];
  block = omega (arith, b.base);
  count = omega (arith, b.left);
  split = ap (read_at 10 (block_of image c)) (sym b.at);
  place = b.at;
}

-- ---- the block

-- block i of k
pub cut_at : (i k : ℕ) (c : List ℕ) → i < k → cut_blocks k c ≡ cut_blocks i c ++ (part (512 * i) 512 c ∷ cut_blocks (k - (i + 1)) (drop (512 * (i + 1)) c))
unfolding cut_blocks
cut_at i zero c h = absurd (omega arith)
cut_at zero (suc k) c h = let n : suc k - 1 ≡ k = omega arith in rw n refl
cut_at (suc i) (suc k) c h =
    let a : 512 + 512 * i ≡ 512 * suc i = omega arith in
    let b : 512 + 512 * (i + 1) ≡ 512 * (suc i + 1) = omega arith in
    let n : k - (i + 1) ≡ suc k - (suc i + 1) = omega arith in
    ap (λ (t : List (List ℕ)). take 512 c ∷ t)
    (cut_at i k (drop 512 c) (omega arith) ∙ rw (drop-drop (512 * i) 512 c, drop-drop (512 * (i + 1)) 512 c, a, b, n))

-- an entry of several blocks, counted in its own block alone
unfoldable pub lies_alone : (image : List ℕ) (base blocks : ℕ) (e : EntryAt) (l : Lies image base blocks e) → Lies image (base + 512 * l.index) 1 e
lies_alone image base blocks e l =
    let same : base + 512 * l.index ≡ base + 512 * l.index + 512 * 0 = omega arith in
    record {
      index = 0;
      before = l.before;
      behind = l.behind;
      within = omega arith;
      split = ap (λ (p : ℕ). entries (part p 512 image)) (sym same) ∙ l.split;
      place = omega (arith, l.place);
    }

-- ---- a block that has not the name stays

rewritten_still : (name : List ℕ) (g : List ℕ → List ℕ) (b : List ℕ) → Clean b → any (named name) (entries b) ≡ false → rewritten_in name g b ≡ b
unfolding rewritten_in
rewritten_still name g b c h = ap (λ (es : List (List ℕ)). flat es ++ rest b) (map_unnamed name g (entries b) h) ∙ sym (split b c).whole

rewritten_stills : (name : List ℕ) (g : List ℕ → List ℕ) (bs : List (List ℕ)) → Cleans bs → any (named name) (listing bs) ≡ false
    → map (rewritten_in name g) bs ≡ bs
unfolding Cleans listing flat
rewritten_stills name g [] c h = refl
rewritten_stills name g (b ∷ bs) c h =
    let s = or-false (any (named name) (entries b)) (any (named name) (listing bs)) (sym (any_append (named name) (entries b) (listing bs)) ∙ h) in
    rw (rewritten_still name g b c.0 s.0, rewritten_stills name g bs c.1 s.1)

removed_still : (name b : List ℕ) → any (named name) (entries b) ≡ false → removed_in name b ≡ b
unfolding removed_in
removed_still name b h = rw (h, removed_in) refl

removed_stills : (name : List ℕ) (bs : List (List ℕ)) → any (named name) (listing bs) ≡ false → map (removed_in name) bs ≡ bs
unfolding listing flat
removed_stills name [] h = refl
removed_stills name (b ∷ bs) h =
    let s = or-false (any (named name) (entries b)) (any (named name) (listing bs)) (sym (any_append (named name) (entries b) (listing bs)) ∙ h) in
    rw (removed_still name b s.0, removed_stills name bs s.1)

-- ---- the entry and its block

-- e stands in the directory
module _ (f : VolumeFacts) (image : List ℕ) (e : EntryAt) (l : Lies image (512 * (dir_start f).0) (dir_length f) e) where
  -- the blocks before its own, its own, and those behind
  abbrev pub ahead : List (List ℕ)
  ahead = cut_blocks l.index (drop (512 * (dir_start f).0) image)

  abbrev pub own : List ℕ
  own = part (512 * (dir_start f).0 + 512 * l.index) 512 image

  abbrev pub following : List (List ℕ)
  following = cut_blocks (dir_length f - (l.index + 1)) (drop (512 * (l.index + 1)) (drop (512 * (dir_start f).0) image))

  pub blocks_are : directory_blocks f image ≡ ahead ++ (own ∷ following)
  unfolding directory_blocks
  blocks_are =
      cut_at l.index (dir_length f) (drop (512 * (dir_start f).0) image) l.within
      ∙ ap (λ (t : List ℕ). ahead ++ (take 512 t ∷ following)) (drop-drop (512 * l.index) (512 * (dir_start f).0) image)

  pub ahead_count : length ahead ≡ l.index
  ahead_count = cut_count l.index (drop (512 * (dir_start f).0) image)

  pub start_is : e.start ≡ 512 * ((dir_start f).0 + length ahead) + length (flat l.before)
  start_is = omega (arith, ahead_count, l.place)

  -- counted in its own block alone
  abbrev pub lies_block : Lies image (512 * (dir_start f).0 + 512 * l.index) 1 e
  lies_block = lies_alone image (512 * (dir_start f).0) (dir_length f) e l

  -- ---- no other entry has its name

  module _ (name : List ℕ) (has : named name (bytes_at image e) ≡ true) (differ : distinct same_names (listing (directory_blocks f image)) ≡ true) where
    -- the entries before it and behind it
    abbrev earlier : List (List ℕ)
    earlier = listing ahead ++ l.before

    abbrev later : List (List ℕ)
    later = l.behind ++ listing following

    whole : listing (directory_blocks f image) ≡ earlier ++ (bytes_at image e ∷ later)
    unfolding listing flat
    whole =
        ap listing blocks_are ∙ listing_append ahead (own ∷ following)
        ∙ ap (λ (es : List (List ℕ)). listing ahead ++ (es ++ listing following)) l.split
        ∙ rw (append_assoc l.before (bytes_at image e ∷ l.behind) (listing following))
        (sym (append_assoc (listing ahead) l.before (bytes_at image e ∷ later)))

    all_differ_lem : distinct same_names (earlier ++ (bytes_at image e ∷ later)) ≡ true
    all_differ_lem = ap (distinct same_names) (sym whole) ∙ differ

    none_earlier : any (named name) earlier ≡ false
    unfolding any
    none_earlier =
        not_so (any (named name) earlier)
        (λ h. so_not (any (named name) (bytes_at image e ∷ later))
        (none_behind_lem same_names (named name) (both_named name) earlier (bytes_at image e ∷ later) all_differ_lem h) (rw has))

    none_later : any (named name) later ≡ false
    unfolding any
    none_later =
        none_behind_lem same_names (named name) (both_named name) (earlier ++ (bytes_at image e ∷ [])) later
        (ap (distinct same_names) (append_assoc earlier (bytes_at image e ∷ []) later) ∙ all_differ_lem)
        (any_append (named name) earlier (bytes_at image e ∷ []) ∙ rw (has, or-true (any (named name) earlier)))

    pub none_ahead : any (named name) (listing ahead) ≡ false
    none_ahead =
        (or-false (any (named name) (listing ahead)) (any (named name) l.before) (sym (any_append (named name) (listing ahead) l.before) ∙ none_earlier)).0

    pub none_before_lem : any (named name) l.before ≡ false
    none_before_lem =
        (or-false (any (named name) (listing ahead)) (any (named name) l.before) (sym (any_append (named name) (listing ahead) l.before) ∙ none_earlier)).1

    pub none_after : any (named name) l.behind ≡ false
    none_after =
        (or-false (any (named name) l.behind) (any (named name) (listing following)) (sym (any_append (named name) l.behind (listing following))
        ∙ none_later)).0

    pub none_following : any (named name) (listing following) ≡ false
    none_following =
        (or-false (any (named name) l.behind) (any (named name) (listing following)) (sym (any_append (named name) l.behind (listing following))
        ∙ none_later)).1

    -- ---- write and cut

    module _ (clean : Cleans (directory_blocks f image)) where
      cleans : Cleans ahead × Cleans (own ∷ following)
      cleans = clean_parts ahead (own ∷ following) (rw blocks_are at clean)

      pub own_clean : Clean own
      unfolding Cleans
      own_clean = cleans.1.0

      pub rewritten_at : (g : List ℕ → List ℕ) → rewritten name g (directory_blocks f image) ≡ ahead ++ (rewritten_in name g own ∷ following)
      unfolding rewritten Cleans
      rewritten_at g =
          ap (map (rewritten_in name g)) blocks_are
          ∙ rw (
            map-append (rewritten_in name g) ahead (own ∷ following),
            rewritten_stills name g ahead cleans.0 none_ahead,
            rewritten_stills name g following cleans.1.1 none_following,
          )

      pub entry_long : 52 ≤ length (bytes_at image e)
      unfolding every
      entry_long =
          let all : every good_entry (l.before ++ (bytes_at image e ∷ l.behind)) ≡ true = rw l.split at own_clean.good in
          let parted = sym (every_append good_entry l.before (bytes_at image e ∷ l.behind)) ∙ all in
          let behind = (and-true (every good_entry l.before) (every good_entry (bytes_at image e ∷ l.behind)) parted).1 in
          good_long (bytes_at image e) (and-true (good_entry (bytes_at image e)) (every good_entry l.behind) behind).0

      pub entry_within : length (flat l.before) + length (bytes_at image e) ≤ 512
      entry_within = omega (arith, fills own own_clean l.before (bytes_at image e) l.behind l.split, used_within own own_clean)

      -- the stores of a fork's fields and the change date
      pub fork_stored : 512 * (dir_start f).0 + 512 * dir_length f ≤ length image → (fork : Fork) (a logical : ℕ) (bs : List ℕ) (changed : ℕ)
          → sets (sets image (e.start + fork_place fork) (fields (fork_with a logical bs))) (e.start + 46) (bytes32 changed)
          ≡ with_directory f image (rewritten name (with_fork fork a logical bs changed) (directory_blocks f image))
      unfolding with_fork
      fork_stored within fork a logical bs changed =
          let g = with_fork fork a logical bs changed in
          let p = length (flat l.before) in
          let i = fork_place fork in
          let vs = fields (fork_with a logical bs) in
          let ws = bytes32 changed in
          let n = entry_long in
          let m = entry_within in
          let h = place_high fork in
          let block : rewritten_in name g own ≡ sets (sets own (p + i) vs) (p + 46) ws
          = rewritten_stores own own_clean l.before (bytes_at image e) l.behind l.split name g
          (map_unnamed name g l.before none_before_lem) (map_unnamed name g l.behind none_after)
          i 46 vs ws (omega arith) (omega arith) (on_named_lem name g (bytes_at image e) has) in
          let first : 512 * ((dir_start f).0 + length ahead) + (p + i) ≡ e.start + i = omega (arith, start_is) in
          let second : 512 * ((dir_start f).0 + length ahead) + (p + 46) ≡ e.start + 46 = omega (arith, start_is) in
          sym (ap (with_directory f image) (rewritten_at g ∙ ap (λ (b : List ℕ). ahead ++ (b ∷ following)) block)
          ∙ two_stores f image within ahead own following blocks_are (p + i) (p + 46) vs ws (omega arith) (omega arith)
          ∙ ap (λ (k : ℕ). sets (sets image k vs) (512 * ((dir_start f).0 + length ahead) + (p + 46)) ws) first
          ∙ ap (λ (k : ℕ). sets (sets image (e.start + i) vs) k ws) second)

      -- the entry with other bytes, as many
      pub entry_rewritten : 512 * (dir_start f).0 + 512 * dir_length f ≤ length image → (g : List ℕ → List ℕ) (n : ℕ)
          → length (bytes_at image e) ≡ n → length (g (bytes_at image e)) ≡ n
          → with_directory f image (rewritten name g (directory_blocks f image)) ≡ paste image e.start (g (bytes_at image e)) n
      entry_rewritten within g n size same =
          let p = length (flat l.before) in
          let base = 512 * (dir_start f).0 + 512 * l.index in
          let at : 512 * ((dir_start f).0 + length ahead) ≡ base = omega (arith, ahead_count) in
          let room : base + 512 ≤ length image = omega (arith, l.within) in
          let fits : p + n ≤ 512 = omega (arith, entry_within) in
          let block : rewritten_in name g own ≡ take p own ++ (g (bytes_at image e) ++ drop (p + n) own)
          = rewritten_bytes own own_clean l.before (bytes_at image e) l.behind l.split name g
          (map_unnamed name g l.before none_before_lem) (map_unnamed name g l.behind none_after)
          ∙ (λ i. take p own ++ (on_named_lem name g (bytes_at image e) has i ++ drop (p + size i) own)) in
          let x = take p own ++ (g (bytes_at image e) ++ drop (p + n) own) in
          ap (with_directory f image) (rewritten_at g ∙ ap (λ (b : List ℕ). ahead ++ (b ∷ following)) block)
          ∙ one_block f image within ahead own following blocks_are x (inside_full image base p n (g (bytes_at image e)) room fits same)
          ∙ ap (λ (k : ℕ). paste image k x 512) at
          ∙ paste_inside image base p n (g (bytes_at image e)) room fits same
          ∙ ap (λ (k : ℕ). paste image k (g (bytes_at image e)) n) (sym l.place)

      -- ---- delete

      -- the block, for the code
      pub own_block : 512 * (dir_start f).0 + 512 * dir_length f ≤ length image → Block image (512 * (dir_start f).0 + 512 * l.index)
      unfolding fires6
      own_block within = record { within = omega (arith, l.within); good = rw own_clean.good }

      -- its first byte, from the entry's
      pub own_start : e.start - e.start % 512 ≡ 512 * (dir_start f).0 + 512 * l.index
      own_start = omega (arith, l.place, entry_within, entry_long)

      own_removed : removed_in name own ≡ filled (l.before ++ l.behind)
      unfolding removed_in any
      own_removed =
          let alone : Alone (named name) (entries own)
          = record {
            before = l.before;
            it = bytes_at image e;
            behind = l.behind;
            whole = l.split;
            passes = has;
            none_before = none_before_lem;
            none_behind = none_after;
          } in
          let some : any (named name) (entries own) ≡ true
          = ap (any (named name)) l.split ∙ any_append (named name) l.before (bytes_at image e ∷ l.behind)
          ∙ rw (has, or-true (any (named name) l.before)) in
          rw (some, removed_in) (ap filled (named_keep name (entries own) alone))

      removed_at : removed name (directory_blocks f image) ≡ ahead ++ (filled (l.before ++ l.behind) ∷ following)
      unfolding removed
      removed_at =
          ap (map (removed_in name)) blocks_are
          ∙ rw (
            map-append (removed_in name) ahead (own ∷ following),
            removed_stills name ahead none_ahead,
            removed_stills name following none_following,
            own_removed,
          )

      -- the model's change is in that block
      pub removed_paste : 512 * (dir_start f).0 + 512 * dir_length f ≤ length image
          → with_directory f image (removed name (directory_blocks f image))
          ≡ paste image (512 * (dir_start f).0 + 512 * l.index) (filled (l.before ++ l.behind)) 512
      removed_paste within =
          let at : 512 * ((dir_start f).0 + length ahead) ≡ 512 * (dir_start f).0 + 512 * l.index = omega (arith, ahead_count) in
          let short : length (flat (l.before ++ l.behind)) ≤ 512
          = omega (
            arith,
            fills own own_clean l.before (bytes_at image e) l.behind l.split,
            used_within own own_clean,
            length-append (flat l.before) (flat l.behind),
            ap (length {A = ℕ}) (flat_append l.before l.behind),
          ) in
          ap (with_directory f image) removed_at
          ∙ one_block f image within ahead own following blocks_are (filled (l.before ++ l.behind)) (length_filled (l.before ++ l.behind) short)
          ∙ ap (λ (p : ℕ). paste image p (filled (l.before ++ l.behind)) 512) at

      -- what the code leaves is that change
      pub entry_removed : 512 * (dir_start f).0 + 512 * dir_length f ≤ length image → (after : List ℕ)
          → Removes image (512 * (dir_start f).0 + 512 * l.index) e after
          → after ≡ with_directory f image (removed name (directory_blocks f image))
      unfolding lies_alone
      entry_removed within after r = r lies_block ∙ sym (removed_paste within)
