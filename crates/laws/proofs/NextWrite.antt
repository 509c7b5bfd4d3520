-- A write that is not refused, place by place, and what the next write then finds: the facts, the fork, its blocks, the free blocks, the
-- directory, and the numbers that decide its refusals.
use Prim.Native.Nat.{ℕ, ◌+◌, ◌-◌, ◌*◌, ◌≤◌, ◌<◌}
use mathlib.Core.Path.{◌≡◌, refl, sym, ap, ap₂, subst, ◌∙◌}
use mathlib.Core.Bool.{true}
use mathlib.Core.List.{List}
use native.Mathlib.Omega.{arith}
use native.Mathlib.Decide.{ℕ_discrete, dec_lt}
use lib.ListN.{length, take, drop}
use lib.Dec.{eqb}
use borrow.Author.Tests.{ne_eqb}
use Rattle.model.specs.Lists.{any, flat, times}
use Rattle.model.specs.Bytes.{byte, bytes16}
use Rattle.model.specs.Facts.{facts_of, dir_start, dir_length, N, A, S, next_file_number, free_count, is_locked, with_counts}
use Rattle.model.specs.Map.{map_entry, blocks_free}
use Rattle.model.specs.Directory.{directory, directory_blocks, fork_of, fork_blocks, named, flags_lock}
use Rattle.model.specs.Check.{Accepted}
use Rattle.model.specs.Calls.{needed_blocks, entry_named, on_named, rewritten, with_fork, with_directory, with_free, written}
use Rattle.model.specs.declared.VolumeFacts.{VolumeFacts}
use Rattle.model.specs.declared.ForkFacts.{ForkFacts}
use Rattle.model.specs.declared.Fork.{Fork}
use Rattle.model.proofs.Times.{times_append}
use Rattle.laws.proofs.Stores.{sets_before, sets_behind, sets_in, paste_in}
use Rattle.laws.proofs.Sound.{linked_used}
use Rattle.laws.proofs.Free.{free_dropped}
use Rattle.laws.proofs.Content.{same_byte_lem}
use Rattle.laws.proofs.MapSteps.{fork_with, size_after}
use Rattle.laws.proofs.Reorder.{any_map}
use Rattle.laws.proofs.Entry.{fork_keeps, fork_named, fork_fields, fork_flags}
use Rattle.laws.proofs.Block.{on_alike, keeps_sized}
use Rattle.laws.proofs.Blocks.{Whole, clean_whole, whole_length, Stays, rewritten_stays}
use Rattle.laws.proofs.Image.{blocks_count, with_blocks, with_length, with_before, with_behind, free_blocks_lem}
use Rattle.laws.proofs.DirectorySteps.{clean_now}
use Rattle.laws.proofs.Refusals.{MayChangeFile, MayWrite, needs}
use Rattle.laws.proofs.Acceptance.{readable_of}
use Rattle.laws.proofs.TheEntry.{the_entry, the_entry_lem, the_fork, the_length}
use Rattle.laws.proofs.Rewrites.{Rewritten, entry_now}
use Rattle.laws.proofs.Writes.{its, all, free, base, frame, write_rewrites, now_stores, now_many, was_linked}
use Rattle.laws.proofs.Writes.{left as left_by, many as many_by}
use Rattle.laws.proofs.Stored.{Stored}
use Rattle.laws.proofs.Counts.{grown_end, needed_then}

module _ (image : List ℕ) (acc : Accepted image) (name : List ℕ) (fork : Fork) (o : ℕ) (xs : List ℕ) (changed : ℕ)
    (m : MayWrite image name fork o (length xs)) where
  abbrev f : VolumeFacts
  f = facts_of image

  abbrev entry : List ℕ
  entry = the_entry image acc name m.file.exists

  abbrev g : ForkFacts
  g = its image acc name fork o xs changed m

  -- the logical length, the number of blocks taken, all blocks and the free count
  abbrev size : ℕ
  size = size_after g o xs

  abbrev many : ℕ
  many = many_by image acc name fork o xs changed m

  abbrev after : List ℕ
  after = all image acc name fork o xs changed m

  abbrev rest : ℕ
  rest = free image acc name fork o xs changed m

  abbrev fields : List ℕ → List ℕ
  fields = with_fork fork (A f) size after changed

  abbrev rows : List (List ℕ)
  rows = rewritten name fields (directory_blocks f image)

  abbrev stored : List ℕ
  stored = base image acc name fork o xs changed m

  abbrev left : List ℕ
  left = left_by image acc name fork o xs changed m

  abbrev r : Rewritten image acc name m.file.exists fork size after after changed rest left
  r = write_rewrites image acc name fork o xs changed m

  -- ---- the write, place by place

  stays : Stays (directory_blocks f image) rows
  stays =
      rewritten_stays name fields (directory_blocks f image) (keeps_sized name fields (fork_keeps fork (A f) size after changed))
      (clean_now image (readable_of image acc))

  whole : Whole rows
  whole = clean_whole rows stays.clean

  as_many : length rows ≡ dir_length f
  as_many = stays.count ∙ blocks_count f image (readable_of image acc).within

  within : 512 * (dir_start f).0 + 512 * dir_length f ≤ length stored
  within = omega (arith, (frame image acc name fork o xs changed m).size, (readable_of image acc).within)

  abbrev listed : List ℕ
  listed = with_directory f stored rows

  listed_size : length listed ≡ length stored
  listed_size = with_length f stored within rows whole as_many

  outside_free : (j : ℕ) → (1058 ≤ j → j < 1060 → ⊥) → byte left j ≡ byte listed j
  unfolding written with_free
  outside_free j c =
      elim (dec_lt j 1058) [
        | yes q ↦ sets_before (bytes16 rest) listed 1058 j q
        | no q ↦ elim (dec_lt j 1060) [
          | yes k ↦ absurd (c (omega arith) k)
          | no k ↦ sets_behind (bytes16 rest) listed 1058 j (omega arith)
        ]
      ]

  outside_directory : (j : ℕ) → (512 * (dir_start f).0 ≤ j → j < 512 * (dir_start f).0 + 512 * dir_length f → ⊥) → byte listed j ≡ byte stored j
  outside_directory j c =
      elim (dec_lt j (512 * (dir_start f).0)) [
        | yes q ↦ with_before f stored within rows whole as_many j q
        | no q ↦ elim (dec_lt j (512 * (dir_start f).0 + 512 * dir_length f)) [
          | yes k ↦ absurd (c (omega arith) k)
          | no k ↦ with_behind f stored within rows whole as_many j (omega arith)
        ]
      ]

  outside_map : (j : ℕ) → j < 512 * (S f).0 → (1088 ≤ j → j < 2048 → ⊥) → byte stored j ≡ byte image j
  outside_map j l c =
      let w = frame image acc name fork o xs changed m in
      elim (dec_lt j 1088) [
        | yes q ↦ same_byte_lem 0 1088 j stored image w.before (omega arith) q
        | no q ↦ elim (dec_lt j 2048) [
          | yes k ↦ absurd (c (omega arith) k)
          | no k ↦ same_byte_lem 2048 (512 * (S f).0 - 2048) j stored image w.between (omega arith) (omega arith)
        ]
      ]

  left_counted : (j : ℕ) → j < 2 → byte left (1058 + j) ≡ byte (bytes16 rest) j
  unfolding written with_free
  left_counted j q = sets_in (bytes16 rest) listed 1058 j (omega (arith, listed_size, within, acc.facts.layout.dir_behind)) q

  left_listed : (j : ℕ) → j < 512 * dir_length f → byte left (512 * (dir_start f).0 + j) ≡ byte (flat rows) j
  unfolding with_directory
  left_listed j q =
      outside_free (512 * (dir_start f).0 + j) (λ u v. omega (arith, acc.facts.layout.dir_behind))
      ∙ paste_in stored (512 * (dir_start f).0) (flat rows) (512 * dir_length f) within (omega (arith, whole_length rows whole, as_many)) j q

  pub write_stored : Stored (S f) (A f) (N f) (512 * (dir_start f).0) (512 * dir_length f) image left after o xs (flat rows) rest
  write_stored = record {
    size = r.step.long;
    plain = λ j l u v w. outside_free j u ∙ outside_directory j w ∙ outside_map j l v;
    counted = left_counted;
    listed = left_listed;
    blocks = now_stores image acc name fork o xs changed m;
  }

  -- ---- what the next write finds

  pub left_facts : facts_of left ≡ with_counts f f.files (next_file_number f) rest
  left_facts = r.step.facts

  -- the file, with the fork's new fields
  left_there : any (named name) (directory left) ≡ true
  left_there =
      ap (any (named name)) r.step.entries
      ∙ any_map (named name) (named name) (on_named name fields)
      (on_alike name fields (named name) (fork_named fork (A f) size after changed name)) (directory image)
      ∙ m.file.exists

  pub left_fork : fork_of fork (entry_named name left) ≡ fork_with (A f) size after
  left_fork = ap (fork_of fork) (entry_now r) ∙ fork_fields fork (A f) size after changed entry (the_length image acc name m.file.exists)

  pub left_file : MayChangeFile left name
  unfolding is_locked with_counts
  left_file = record {
    unlocked = ap is_locked left_facts ∙ m.file.unlocked;
    title = m.file.title;
    exists = left_there;
    file_unlocked = ap (λ (e : List ℕ). flags_lock (byte e 0)) (entry_now r)
        ∙ ap flags_lock
        (fork_flags fork (A f) size after changed entry ∙ ap (λ (e : List ℕ). byte e 0) (sym (the_entry_lem image acc name m.file.exists)))
        ∙ m.file.file_unlocked;
  }

  -- the free blocks are those that the write did not take
  pub left_free : blocks_free (map_entry left) (N f) ≡ drop many (blocks_free (map_entry image) (N f))
  left_free =
      let old = fork_blocks (map_entry image) (A f) g in
      let new = take many (blocks_free (map_entry image) (N f)) in
      let s = now_stores image acc name fork o xs changed m in
      free_dropped (map_entry image) (map_entry left) (N f) many
      (λ b q z. let u = linked_used (map_entry left) (N f) after b s.chain (omega (arith, times_append b old new)) in omega (arith, u.some))
      (λ b low high z. elim (ℕ_discrete (times b old) 0) [
        | yes y ↦ ap (λ (v : ℕ). eqb v 0) (s.entries b low (omega (arith, acc.facts.layout.most)) (omega (arith, times_append b old new)))
        | no y ↦
            let u = linked_used (map_entry left) (N f) after b s.chain (omega (arith, times_append b old new)) in
            let v = linked_used (map_entry image) (N f) old b (was_linked image acc name fork o xs changed m) (omega arith) in
            ne_eqb (map_entry left b) 0 (omega (arith, u.some)) ∙ sym (ne_eqb (map_entry image b) 0 (omega (arith, v.some)))
      ])

  -- the directory's blocks are those that the write left
  pub left_directory : directory_blocks f left ≡ rows
  unfolding written
  left_directory = free_blocks_lem f acc.facts.layout.dir_behind rest listed ∙ with_blocks f stored within rows whole as_many

  -- the tests of a write behind this one: its offset, and the room
  pub left_within : o + length xs ≤ (fork_of fork (entry_named name left)).logical
  left_within = subst (λ (h : ForkFacts). o + length xs ≤ h.logical) (sym left_fork) (grown_end g.logical o (length xs))

  pub left_count : free_count (facts_of left) ≡ free_count f - many
  unfolding with_counts
  left_count = ap (λ (v : VolumeFacts). free_count v) left_facts

  pub left_needs : (z : ℕ) → needs left name fork (o + length xs) z ≡ needs image name fork o (length xs + z) - many
  left_needs z =
      ap₂ (λ (v : VolumeFacts) (h : ForkFacts). needed_blocks v h (o + length xs) z) left_facts left_fork
      ∙ needed_then f g o (length xs) z f.files (next_file_number f) rest many (fork_with (A f) size after) refl (now_many image acc name fork o xs changed m)
      ∙ ap (λ (h : ForkFacts). needed_blocks f h o (length xs + z) - many) (sym (the_fork image acc name m.file.exists fork))
