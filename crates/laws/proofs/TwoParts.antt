-- The law for two parts: where a write of xs ++ ys is not refused, the write of xs is not, nor the write of ys behind it, and these two
-- leave the image that the single write leaves.
use Prim.Native.Nat.{ℕ, ◌+◌, ◌-◌, ◌*◌, ◌≤◌}
use mathlib.Core.Path.{◌≡◌, refl, sym, ap, ap₂, subst, ◌∙◌}
use mathlib.Core.Bool.{true}
use mathlib.Core.List.{List, ◌++◌, append_assoc}
use native.Mathlib.Omega.{arith}
use lib.ListN.{length, take, drop, length-append}
use lib.Seq.{take-add}
use Rattle.model.specs.Lists.{any, flat}
use Rattle.model.specs.Bytes.{Bytes}
use Rattle.model.specs.Facts.{facts_of, dir_start, dir_length, N, A, S, next_file_number, free_count, with_counts}
use Rattle.model.specs.Map.{map_entry, blocks_free}
use Rattle.model.specs.Directory.{directory, directory_blocks, fork_of, fork_blocks, named}
use Rattle.model.specs.Check.{Accepted}
use Rattle.model.specs.Calls.{grown, needed_blocks, taken_blocks, entry_named, rewritten, with_fork}
use Rattle.model.specs.declared.LogicalBlock.{LogicalBlock}
use Rattle.model.specs.declared.VolumeFacts.{VolumeFacts}
use Rattle.model.specs.declared.ForkFacts.{ForkFacts}
use Rattle.model.specs.declared.Fork.{Fork}
use Rattle.laws.proofs.Joins.{Once}
use Rattle.laws.proofs.Content.{Inside}
use Rattle.laws.proofs.MapSteps.{fork_with, size_after, blocks_after}
use Rattle.laws.proofs.Entry.{fork_keeps}
use Rattle.laws.proofs.DirectorySteps.{clean_now}
use Rattle.laws.proofs.Refusals.{MayWrite, needs}
use Rattle.laws.proofs.Acceptance.{area, readable_of}
use Rattle.laws.proofs.TheEntry.{the_fork}
use Rattle.laws.proofs.Writes.{its, was_room, write_accepted, now_many, now_blocks, now_once, now_inside, now_holds}
use Rattle.laws.proofs.Writes.{left as left_by}
use Rattle.laws.proofs.Twice.{fork_twice, rewritten_twice}
use Rattle.laws.proofs.Stored.{Stored, stored_one, stored_then}
use Rattle.laws.proofs.NextWrite.{write_stored, left_facts, left_fork, left_file, left_free, left_directory, left_within, left_count, left_needs}
use Rattle.laws.proofs.Counts.{grown_end, grown_then, needed_less, first_less, second_others}

-- the same places under other words
cast : (s : LogicalBlock) (a n d k : ℕ) (image left bs bs' : List ℕ) (o : ℕ) (xs rows rows' : List ℕ) (free free' : ℕ) → bs ≡ bs' → rows ≡ rows' → free ≡ free'
    → Stored s a n d k image left bs o xs rows free → Stored s a n d k image left bs' o xs rows' free'
cast s a n d k image left bs bs' o xs rows rows' free free' p q r h =
    subst (λ (c : List ℕ). Stored s a n d k image left c o xs rows' free') p
    (subst (λ (c : List ℕ). Stored s a n d k image left bs o xs c free') q (subst (λ (c : ℕ). Stored s a n d k image left bs o xs rows c) r h))

module _ (image : List ℕ) (acc : Accepted image) (name : List ℕ) (fork : Fork) (o : ℕ) (xs ys : List ℕ) (changed : ℕ)
    (m : MayWrite image name fork o (length (xs ++ ys))) where
  abbrev f : VolumeFacts
  f = facts_of image

  abbrev g : ForkFacts
  g = its image acc name fork o (xs ++ ys) changed m

  -- those that the whole needs are free, said of the two lengths
  whole_room : needs image name fork o (length xs + length ys) ≤ free_count f
  whole_room = subst (λ (k : ℕ). needs image name fork o k ≤ free_count f) (length-append xs ys) m.room

  -- ---- neither is refused

  pub first_room : needs image name fork o (length xs) ≤ free_count (facts_of image)
  first_room = omega (arith, whole_room, needed_less f (fork_of fork (entry_named name image)) o (length xs) (length ys) (area image acc).some)

  abbrev pub first_may : MayWrite image name fork o (length xs)
  first_may = record { file = m.file; within = m.within; room = first_room }

  -- the image between
  abbrev mid : List ℕ
  mid = left_by image acc name fork o xs changed first_may

  pub mid_accepted : Accepted mid
  mid_accepted = write_accepted image acc name fork o xs changed first_may

  abbrev q : ℕ
  q = o + length xs

  pub second_room : needs mid name fork q (length ys) ≤ free_count (facts_of mid)
  second_room =
      omega (arith, whole_room, left_needs image acc name fork o xs changed first_may (length ys), left_count image acc name fork o xs changed first_may)

  abbrev pub second_may : MayWrite mid name fork q (length ys)
  second_may = record {
    file = left_file image acc name fork o xs changed first_may;
    within = left_within image acc name fork o xs changed first_may;
    room = second_room;
  }

  -- ---- the second write, in the words of the first image

  abbrev there₂ : any (named name) (directory mid) ≡ true
  there₂ = (left_file image acc name fork o xs changed first_may).exists

  abbrev g₂ : ForkFacts
  g₂ = its mid mid_accepted name fork q ys changed second_may

  abbrev left₂ : List ℕ
  left₂ = left_by mid mid_accepted name fork q ys changed second_may

  abbrev left : List ℕ
  left = left_by image acc name fork o (xs ++ ys) changed m

  -- lengths, number of blocks taken and blocks of the first write and of the whole
  abbrev size₁ : ℕ
  size₁ = size_after g o xs

  abbrev many₁ : ℕ
  many₁ = taken_blocks f g o (length xs)

  abbrev after₁ : List ℕ
  after₁ = blocks_after (map_entry image) (N f) (A f) g many₁

  abbrev size : ℕ
  size = size_after g o (xs ++ ys)

  abbrev many : ℕ
  many = taken_blocks f g o (length (xs ++ ys))

  abbrev after : List ℕ
  after = blocks_after (map_entry image) (N f) (A f) g many

  abbrev rows : List (List ℕ)
  rows = rewritten name (with_fork fork (A f) size after changed) (directory_blocks f image)

  -- the blocks that the second write takes
  abbrev rest : List ℕ
  rest = take (many - many₁) (drop many₁ (blocks_free (map_entry image) (N f)))

  abbrev now : VolumeFacts
  now = with_counts f f.files (next_file_number f) (free_count f - many₁)

  abbrev fork₁ : ForkFacts
  fork₁ = fork_with (A f) size₁ after₁

  fork_seen : g₂ ≡ fork₁
  fork_seen = sym (the_fork mid mid_accepted name there₂ fork) ∙ left_fork image acc name fork o xs changed first_may

  -- what the second write takes for its places, given the facts and the fork that it finds
  abbrev blocks_seen : VolumeFacts → ForkFacts → List ℕ
  blocks_seen v h = blocks_after (map_entry mid) (N v) (A v) h (taken_blocks v h q (length ys))

  abbrev rows_seen : VolumeFacts → ForkFacts → List ℕ
  rows_seen v h = flat (rewritten name (with_fork fork (A v) (size_after h q ys) (blocks_seen v h) changed) (directory_blocks v mid))

  abbrev Seen : VolumeFacts → ForkFacts → Type 0
  Seen v h =
      Stored (S v) (A v) (N v) (512 * (dir_start v).0) (512 * dir_length v) mid left₂ (blocks_seen v h) q ys (rows_seen v h)
      (free_count v - taken_blocks v h q (length ys))

  seen : Seen now fork₁
  seen =
      subst (Seen now) fork_seen
      (subst (λ (v : VolumeFacts). Seen v g₂) (left_facts image acc name fork o xs changed first_may)
      (write_stored mid mid_accepted name fork q ys changed second_may))

  -- it finds the logical length, the number of blocks to take, the blocks, the directory and the free count that make the whole's
  size_same : size_after fork₁ q ys ≡ size
  size_same = grown_then g.logical o (length xs) (length ys) ∙ ap (grown g.logical o) (sym (length-append xs ys))

  -- the room of the whole, said of the fork
  fork_room : needed_blocks f g o (length xs + length ys) ≤ free_count f
  fork_room = subst (λ (k : ℕ). needed_blocks f g o k ≤ free_count f) (length-append xs ys) (was_room image acc name fork o (xs ++ ys) changed m)

  many_same : taken_blocks now fork₁ q (length ys) ≡ many - many₁
  many_same =
      second_others f g o (length xs) (length ys) (area image acc).some fork_room fork₁ refl (now_many image acc name fork o xs changed first_may)
      ∙ ap (λ (k : ℕ). taken_blocks f g o k - many₁) (sym (length-append xs ys))

  many_less : many₁ ≤ many
  many_less =
      subst (λ (k : ℕ). many₁ ≤ taken_blocks f g o k) (sym (length-append xs ys))
      (first_less f g o (length xs) (length ys) (area image acc).some fork_room)

  abbrev after₂ : List ℕ
  after₂ = blocks_after (map_entry mid) (N f) (A f) fork₁ (taken_blocks now fork₁ q (length ys))

  blocks_second : after₂ ≡ after₁ ++ rest
  blocks_second =
      ap₂ (λ (u v : List ℕ). u ++ v) (now_blocks image acc name fork o xs changed first_may)
      (ap₂ (λ (k : ℕ) (v : List ℕ). take k v) many_same (left_free image acc name fork o xs changed first_may))

  blocks_whole : after ≡ after₁ ++ rest
  blocks_whole =
      let old = fork_blocks (map_entry image) (A f) g in
      let free = blocks_free (map_entry image) (N f) in
      let k : many ≡ many₁ + (many - many₁) = omega (arith, many_less) in
      ap (λ (i : ℕ). old ++ take i free) k ∙ ap (λ (v : List ℕ). old ++ v) (take-add many₁ (many - many₁) free)
      ∙ sym (append_assoc old (take many₁ free) rest)

  rows_same : flat (rewritten name (with_fork fork (A f) (size_after fork₁ q ys) after₂ changed) (directory_blocks f mid)) ≡ flat rows
  rows_same =
      let h = with_fork fork (A f) size after changed in
      let h₁ = with_fork fork (A f) size₁ after₁ changed in
      ap₂ (λ (k : ℕ) (bs : List ℕ). flat (rewritten name (with_fork fork (A f) k bs changed) (directory_blocks f mid)))
      size_same (blocks_second ∙ sym blocks_whole)
      ∙ ap (λ (c : List (List ℕ)). flat (rewritten name h c)) (left_directory image acc name fork o xs changed first_may)
      ∙ ap flat (rewritten_twice name h₁ h (fork_keeps fork (A f) size₁ after₁ changed) (fork_twice fork (A f) size₁ size after₁ after changed changed)
      (directory_blocks f image) (clean_now image (readable_of image acc)))

  free_same : free_count f - many₁ - taken_blocks now fork₁ q (length ys) ≡ free_count f - many
  free_same = omega (arith, many_same, many_less)

  second : Stored (S f) (A f) (N f) (512 * (dir_start f).0) (512 * dir_length f) mid left₂ (after₁ ++ rest) q ys (flat rows) (free_count f - many)
  unfolding with_counts directory_blocks
  second = cast (S f) (A f) (N f) (512 * (dir_start f).0) (512 * dir_length f) mid left₂ _ (after₁ ++ rest) q ys _ (flat rows) _ (free_count f - many)
      blocks_second rows_same free_same seen

  -- ---- the image

  in_image : Inside (S f) (A f) image (after₁ ++ rest)
  in_image = subst (Inside (S f) (A f) image) blocks_whole (now_inside image acc name fork o (xs ++ ys) changed m)

  none_twice : Once (after₁ ++ rest)
  none_twice = subst Once blocks_whole (now_once image acc name fork o (xs ++ ys) changed m)

  first_holds : o + length xs ≤ length after₁ * A f
  first_holds = omega (arith, grown_end g.logical o (length xs), now_holds image acc name fork o xs changed first_may)

  whole_holds : o + length xs + length ys ≤ length (after₁ ++ rest) * A f
  whole_holds =
      subst (λ (bs : List ℕ). o + length xs + length ys ≤ length bs * A f) blocks_whole
      (omega (
        arith,
        length-append xs ys,
        grown_end g.logical o (length (xs ++ ys)),
        now_holds image acc name fork o (xs ++ ys) changed m,
      ))

  -- left by a write of both at o
  abbrev Both : List ℕ → List ℕ → Type 0
  Both l bs = Stored (S f) (A f) (N f) (512 * (dir_start f).0) (512 * dir_length f) image l bs o (xs ++ ys) (flat rows) (free_count f - many)

  both : Both left₂ (after₁ ++ rest)
  both =
      stored_then (S f) (A f) (N f) (512 * (dir_start f).0) (512 * dir_length f) (area image acc).some (area image acc).low image mid left₂
      after₁ rest o xs ys _ (flat rows) _ (free_count f - many) in_image none_twice first_holds whole_holds
      (write_stored image acc name fork o xs changed first_may) second

  whole : Both left (after₁ ++ rest)
  whole = subst (Both left) blocks_whole (write_stored image acc name fork o (xs ++ ys) changed m)

  pub two_parts : Bytes left₂ → Bytes left → left₂ ≡ left
  two_parts b₂ b =
      stored_one (S f) (A f) (N f) (512 * (dir_start f).0) (512 * dir_length f) (area image acc).some (area image acc).low image left₂ left
      (after₁ ++ rest) o (xs ++ ys) (flat rows) (free_count f - many) in_image b₂ b both whole
