-- The directory's side of the changing calls on an image that passes the checks: what the image that is left reads as, that it
-- passes checks 6 and 7, and which of its bytes stay. A call's other stores come before: `base` is the image with these.
use Prim.Native.Nat.{ℕ, ◌+◌, ◌-◌, ◌*◌, ◌≤◌, ◌<◌}
use mathlib.Core.Path.{◌≡◌, refl, ◌∙◌}
use mathlib.Core.Bool.{true, false, not}
use mathlib.Core.List.{List, ◌++◌, map}
use native.Mathlib.Omega.{arith}
use lib.ListN.{length, take, drop}
use borrow.Author.Tests.{not-false}
use Rattle.model.specs.Lists.{any, distinct, keep}
use Rattle.model.specs.Bytes.{byte, half}
use Rattle.model.specs.Facts.{facts_of, dir_start, dir_length, N, A, S, next_file_number, free_count, with_counts}
use Rattle.model.specs.Map.{map_entry, put_chain, put_free}
use Rattle.model.specs.Directory.{padded, directory_blocks, listing, directory, number_in, name_in, in_use, fork_of, fork_blocks, named}
use Rattle.model.specs.Check.{good_entry, same_names, fires6, fires7}
use Rattle.model.specs.Calls.{has_room, placed, removed, on_named, rewritten, with_directory, with_files, with_next, with_free, with_fork, fewest, taken_blocks}
use Rattle.model.specs.Calls.{new_entry, created, written, shortened, deleted}
use Rattle.model.specs.Bytes.{Within}
use Rattle.model.specs.declared.VolumeFacts.{VolumeFacts}
use Rattle.model.specs.declared.ForkFacts.{ForkFacts}
use Rattle.model.specs.declared.Fork.{Fork}
use Rattle.model.specs.declared.Fork.TheVariants.{Data, Resource}
use Rattle.model.proofs.Lists.{and-true}
use Rattle.model.proofs.Check.{PassesAll, sound_facts}
use Rattle.laws.proofs.Reorder.{Alone}
use Rattle.laws.proofs.MapSteps.{size_after, blocks_after, after_write}
use Rattle.laws.proofs.Block.{sound, Keeps, keeps_sized}
use Rattle.laws.proofs.Entry.{new_length, new_sound, new_number, new_name, fork_keeps}
use Rattle.laws.proofs.Blocks.{Cleans, clean_whole, Stays, Inserted, inserted_reordered, placed_stays, placed_inserted, removed_stays, removed_listing}
use Rattle.laws.proofs.Blocks.{rewritten_stays, rewritten_listing}
use Rattle.laws.proofs.Kept.{one_named, create_checks, delete_checks, change_checks, names_differ_lem}
use Rattle.laws.proofs.Places.{OneBlock, placed_one, removed_one, rewritten_one}
use Rattle.laws.proofs.Image.{facts_same, blocks_bytes, blocks_count, blocks_clean, Changed, changed_listing, create_changed, rewrite_changed}
use Rattle.laws.proofs.Image.{delete_changed, differs_last, one_half, files_half, next_half, free_half}

-- what the checks say of the directory
pub record ReadableDirectory (image : List ℕ) : Type 0 where
  pub behind : 4 ≤ (dir_start (facts_of image)).0
  pub within : 512 * (dir_start (facts_of image)).0 + 512 * dir_length (facts_of image) ≤ length image
  pub numbered : 1 ≤ next_file_number (facts_of image)
  pub pass6 : fires6 (directory image) ≡ false
  pub pass7 : fires7 (facts_of image).files (next_file_number (facts_of image)) (directory image) ≡ false

pub readable : (image : List ℕ) → PassesAll image → ReadableDirectory image
readable image p =
    let s = sound_facts (facts_of image) (length image) p.pass1 p.pass2 p.pass3 p.pass4 in
    record {
      behind = s.layout.dir_behind;
      within = omega (arith, s.layout.dir_before, s.layout.backup);
      numbered = s.numbered;
      pass6 = p.pass6;
      pass7 = p.pass7;
    }

-- base has the image's facts and directory
pub record Based (image base : List ℕ) : Type 0 where
  pub long : length base ≡ length image
  pub facts : facts_of base ≡ facts_of image
  pub blocks : directory_blocks (facts_of image) base ≡ directory_blocks (facts_of image) image

pub based_self : (image : List ℕ) → Based image image
based_self image = record { long = refl; facts = refl; blocks = refl }

-- it does where its bytes are alike there
pub based_bytes : (image base : List ℕ) → length base ≡ length image → ((j : ℕ) → 1024 ≤ j → j < 1088 → byte base j ≡ byte image j)
    → ((j : ℕ) → 512 * (dir_start (facts_of image)).0 ≤ j → j < 512 * (dir_start (facts_of image)).0 + 512 * dir_length (facts_of image) → byte base j ≡ byte image j)
    → Based image base
based_bytes image base l p q = record { long = l; facts = facts_same base image l p; blocks = blocks_bytes (facts_of image) base image l q }

-- after is base with the entries es and these counts, and no other byte changed but in one directory block
pub record DirectoryStored (image base : List ℕ) (es : List (List ℕ)) (files next free : ℕ) (after : List ℕ) : Type 0 where
  pub long : length after ≡ length image
  pub facts : facts_of after ≡ with_counts (facts_of image) files next free
  pub entries : directory after ≡ es
  pub pass6 : fires6 es ≡ false
  pub pass7 : fires7 files next es ≡ false
  pub entry : (b : ℕ) → b ≤ 641 → map_entry after b ≡ map_entry base b
  pub tail : (m : ℕ) → 512 * (dir_start (facts_of image)).0 + 512 * dir_length (facts_of image) ≤ m → drop m after ≡ drop m base
  pub d : ℕ
  pub first : (dir_start (facts_of image)).0 ≤ d
  pub last : d < (dir_start (facts_of image)).0 + dir_length (facts_of image)
  pub kept : (h : ℕ) → (Within (512 * d) 512 h → ⊥) → (Within 1036 2 h → ⊥) → (Within 1054 4 h → ⊥) → (Within 1058 2 h → ⊥) → half after h ≡ half base h

module _ (image : List ℕ) (r : ReadableDirectory image) where
  abbrev f : VolumeFacts
  f = facts_of image

  abbrev blocks : List (List ℕ)
  blocks = directory_blocks (facts_of image) image

  pub clean_now : Cleans (directory_blocks (facts_of image) image)
  unfolding directory fires6
  clean_now = blocks_clean f image r.within (not-false _ r.pass6)

  pub names_now : distinct same_names (directory image) ≡ true
  names_now = names_differ_lem f.files (next_file_number f) (directory image) r.pass6 r.pass7

  -- just one entry has a name that is found
  pub named_now : (name : List ℕ) → any (named name) (directory image) ≡ true → Alone (named name) (directory image)
  named_now name h = one_named name (directory image) names_now h

  module _ (base : List ℕ) (b : Based image base) (bs : List (List ℕ)) (s : Stays blocks bs) (o : OneBlock blocks bs) where
    within_base : 512 * (dir_start f).0 + 512 * dir_length f ≤ length base
    within_base = omega (arith, b.long, r.within)

    one_base : OneBlock (directory_blocks f base) bs
    one_base = rw b.blocks o

    as_many : length bs ≡ dir_length f
    as_many = s.count ∙ blocks_count f image r.within

    -- a change of the directory blocks, with stores of counts behind it
    stepped : (es : List (List ℕ)) (files next free : ℕ) (after : List ℕ) → Changed f base bs files next free after → listing bs ≡ es
        → (fires6 es ≡ false) × (fires7 files next es ≡ false)
        → ((h : ℕ) → (Within 1036 2 h → ⊥) → (Within 1054 4 h → ⊥) → (Within 1058 2 h → ⊥) → half after h ≡ half (with_directory f base bs) h)
        → DirectoryStored image base es files next free after
    stepped es files next free after c l p k = record {
      long = c.long ∙ b.long;
      facts = c.facts;
      entries = changed_listing f base r.behind within_base bs c ∙ l;
      pass6 = p.0;
      pass7 = p.1;
      entry = c.entry;
      tail = c.tail;
      d = (dir_start f).0 + length one_base.before;
      first = omega arith;
      last = differs_last f base within_base bs one_base;
      kept = λ h i₀ i₁ i₂ i₃. k h i₁ i₂ i₃ ∙ one_half f base within_base bs one_base h i₀;
    }

  -- create
  module _ (e : List ℕ) (ok : sound e ≡ true) (room : any (has_room (length e)) (directory_blocks (facts_of image) image) ≡ true) where
    pub create_inserted : Inserted e (directory image) (listing (placed e (directory_blocks (facts_of image) image)))
    unfolding directory
    create_inserted = placed_inserted e blocks ok clean_now room

    pub create_step : number_in e ≡ next_file_number (facts_of image) → any (named (name_in e)) (directory image) ≡ false
        → DirectoryStored image image (listing (placed e (directory_blocks (facts_of image) image))) ((facts_of image).files + 1) (next_file_number (facts_of image) + 1)
        (free_count (facts_of image))
        (created (facts_of image) image e)
    unfolding created
    create_step n u =
        let bs = placed e blocks in
        let s = placed_stays e blocks ok clean_now in
        stepped image (based_self image) bs s (placed_one e blocks ok clean_now room) (listing bs) (f.files + 1) (next_file_number f + 1) (free_count f)
        (created f image e)
        (create_changed f image r.behind r.within bs refl (clean_whole bs s.clean) (s.count
        ∙ blocks_count f image r.within) (f.files + 1) (next_file_number f + 1))
        refl
        (create_checks f.files (next_file_number f) (directory image) r.pass6 r.pass7 e (listing bs)
        (inserted_reordered e (directory image) (listing bs) create_inserted) (and-true (in_use e) (good_entry e) ok).1 n r.numbered u)
        (λ h i₁ i₂ i₃. files_half (f.files + 1) (with_next (next_file_number f + 1) (with_directory f image bs)) h i₁
        ∙ next_half (next_file_number f + 1) (with_directory f image bs) h i₂)

  module _ (base : List ℕ) (b : Based image base) (name : List ℕ) (h : any (named name) (directory image) ≡ true) (free : ℕ) where
    -- delete
    pub delete_step : DirectoryStored image base (keep (λ e. not (named name e)) (directory image)) ((facts_of image).files - 1) (next_file_number (facts_of image)) free
        (with_free free (with_files ((facts_of image).files - 1) (with_directory (facts_of image) base (removed name (directory_blocks (facts_of image) image)))))
    unfolding directory
    delete_step =
        let bs = removed name blocks in
        let s = removed_stays name blocks clean_now in
        let o = removed_one name blocks clean_now names_now h in
        stepped base b bs s o (keep (λ e. not (named name e)) (directory image)) (f.files - 1) (next_file_number f) free
        (with_free free (with_files (f.files - 1) (with_directory f base bs)))
        (delete_changed f base r.behind (within_base base b bs s o) bs b.facts (clean_whole bs s.clean) (as_many base b bs s o) (f.files - 1) free)
        (removed_listing name blocks clean_now)
        (delete_checks f.files (next_file_number f) (directory image) r.pass6 r.pass7 name h)
        (λ i i₁ i₂ i₃. free_half free (with_files (f.files - 1) (with_directory f base bs)) i i₃ ∙ files_half (f.files - 1) (with_directory f base bs) i i₁)

    -- write and cut
    pub rewrite_step : (g : List ℕ → List ℕ) → Keeps g
        → DirectoryStored image base (map (on_named name g) (directory image)) (facts_of image).files (next_file_number (facts_of image)) free
        (with_free free (with_directory (facts_of image) base (rewritten name g (directory_blocks (facts_of image) image))))
    unfolding directory
    rewrite_step g k =
        let bs = rewritten name g blocks in
        let z = keeps_sized name g k in
        let s = rewritten_stays name g blocks z clean_now in
        let o = rewritten_one name blocks clean_now names_now h g z in
        stepped base b bs s o (map (on_named name g) (directory image)) f.files (next_file_number f) free (with_free free (with_directory f base bs))
        (rewrite_changed f base r.behind (within_base base b bs s o) bs b.facts (clean_whole bs s.clean) (as_many base b bs s o) free)
        (rewritten_listing name g blocks z clean_now)
        (change_checks f.files (next_file_number f) (directory image) r.pass6 r.pass7 name g k)
        (λ i i₁ i₂ i₃. free_half free (with_directory f base bs) i i₃)

-- ---- the calls' own images

-- the blocks that a delete of entry e frees
abbrev pub delete_freed : List ℕ → List ℕ → List ℕ
delete_freed image e = fork_blocks (map_entry image) (A (facts_of image)) (fork_of Data e) ++ fork_blocks (map_entry image) (A (facts_of image)) (fork_of Resource e)

-- the number of blocks that a write takes, and all blocks of fork g then
abbrev pub write_many : List ℕ → ℕ → List ℕ → ForkFacts → ℕ
write_many image o xs g = taken_blocks (facts_of image) g o (length xs)

abbrev pub write_all : List ℕ → ℕ → List ℕ → ForkFacts → List ℕ
write_all image o xs g = blocks_after (map_entry image) (N (facts_of image)) (A (facts_of image)) g (write_many image o xs g)

-- the blocks of fork g that a cut to n keeps and frees
abbrev pub cut_kept : List ℕ → ℕ → ForkFacts → List ℕ
cut_kept image n g = take (fewest n (A (facts_of image))) (fork_blocks (map_entry image) (A (facts_of image)) g)

abbrev pub cut_freed : List ℕ → ℕ → ForkFacts → List ℕ
cut_freed image n g = drop (fewest n (A (facts_of image))) (fork_blocks (map_entry image) (A (facts_of image)) g)

-- the images before the directory's stores
abbrev pub write_base : List ℕ → ℕ → List ℕ → ForkFacts → List ℕ
write_base image o xs g = after_write (S (facts_of image)) (A (facts_of image)) (N (facts_of image)) image g (write_many image o xs g) o xs

abbrev pub cut_base : List ℕ → ℕ → ForkFacts → List ℕ
cut_base image n g = put_free (put_chain image (cut_kept image n g)) (cut_freed image n g)

abbrev pub delete_base : List ℕ → List ℕ → List ℕ
delete_base image e = put_free image (delete_freed image e)

module _ (image : List ℕ) (r : ReadableDirectory image) (name : List ℕ) (h : any (named name) (directory image) ≡ true) where
  pub written_step : (fork : Fork) (o : ℕ) (xs : List ℕ) (changed : ℕ) (g : ForkFacts) → Based image (write_base image o xs g)
      → DirectoryStored image (write_base image o xs g)
      (map (on_named name (with_fork fork (A (facts_of image)) (size_after g o xs) (write_all image o xs g) changed)) (directory image))
      (facts_of image).files (next_file_number (facts_of image)) (free_count (facts_of image) - write_many image o xs g)
      (written (facts_of image) image name fork o xs changed g)
  unfolding written
  written_step fork o xs changed g b =
      rewrite_step image r (write_base image o xs g) b name h (free_count (facts_of image) - write_many image o xs g)
      (with_fork fork (A (facts_of image)) (size_after g o xs) (write_all image o xs g) changed)
      (fork_keeps fork (A (facts_of image)) (size_after g o xs) (write_all image o xs g) changed)

  pub shortened_step : (fork : Fork) (n changed : ℕ) (g : ForkFacts) → Based image (cut_base image n g)
      → DirectoryStored image (cut_base image n g)
      (map (on_named name (with_fork fork (A (facts_of image)) n (cut_kept image n g) changed)) (directory image))
      (facts_of image).files (next_file_number (facts_of image)) (free_count (facts_of image) + length (cut_freed image n g))
      (shortened (facts_of image) image name fork n changed g)
  unfolding shortened
  shortened_step fork n changed g b =
      rewrite_step image r (cut_base image n g) b name h (free_count (facts_of image) + length (cut_freed image n g))
      (with_fork fork (A (facts_of image)) n (cut_kept image n g) changed)
      (fork_keeps fork (A (facts_of image)) n (cut_kept image n g) changed)

  pub deleted_step : (e : List ℕ) → Based image (delete_base image e)
      → DirectoryStored image (delete_base image e) (keep (λ e. not (named name e)) (directory image)) ((facts_of image).files - 1) (next_file_number (facts_of image))
      (free_count (facts_of image) + length (delete_freed image e))
      (deleted (facts_of image) image name e)
  unfolding deleted
  deleted_step e b = delete_step image r (delete_base image e) b name h (free_count (facts_of image) + length (delete_freed image e))

-- create, as it is called
module _ (image : List ℕ) (r : ReadableDirectory image) (name finder : List ℕ) (made changed : ℕ) (whole : length finder ≡ 16) (some : 1 ≤ length name)
    (room : any (has_room (padded (51 + length name))) (directory_blocks (facts_of image) image) ≡ true) where
  abbrev new : List ℕ
  new = new_entry (next_file_number (facts_of image)) name finder made changed

  has_room_lem : any (has_room (length new)) (directory_blocks (facts_of image) image) ≡ true
  has_room_lem = rw (new_length (next_file_number (facts_of image)) name finder made changed whole) room

  pub created_inserted : Inserted (new_entry (next_file_number (facts_of image)) name finder made changed) (directory image)
      (listing (placed (new_entry (next_file_number (facts_of image)) name finder made changed) (directory_blocks (facts_of image) image)))
  created_inserted = create_inserted image r new (new_sound (next_file_number (facts_of image)) name finder made changed whole some) has_room_lem

  pub created_step : any (named name) (directory image) ≡ false
      → DirectoryStored image image (listing (placed (new_entry (next_file_number (facts_of image)) name finder made changed) (directory_blocks (facts_of image) image)))
      ((facts_of image).files + 1) (next_file_number (facts_of image) + 1) (free_count (facts_of image))
      (created (facts_of image) image (new_entry (next_file_number (facts_of image)) name finder made changed))
  created_step u =
      create_step image r new (new_sound (next_file_number (facts_of image)) name finder made changed whole some) has_room_lem
      (new_number (next_file_number (facts_of image)) name finder made changed whole)
      (rw (new_name (next_file_number (facts_of image)) name finder made changed whole) u)
