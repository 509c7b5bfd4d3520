-- A write that is not refused: what it stores, what its fork has then, and that the image is accepted.
use Prim.Native.Nat.{ℕ, ◌+◌, ◌-◌, ◌*◌, ◌≤◌}
use mathlib.Core.Path.{◌≡◌, ap, subst}
use mathlib.Core.Bool.{true}
use mathlib.Core.List.{List}
use lib.ListN.{length}
use Rattle.model.specs.Lists.{any}
use Rattle.model.specs.Bytes.{overwritten}
use Rattle.model.specs.Facts.{facts_of, N, A, S, free_count}
use Rattle.model.specs.Map.{map_entry}
use Rattle.model.specs.Directory.{directory, fork_of, block_count, fork_blocks, named}
use Rattle.model.specs.Check.{Accepted}
use Rattle.model.specs.Calls.{needed_blocks, taken_blocks, fork_bytes, written, change}
use Rattle.model.specs.Calls.Call.{write}
use Rattle.model.specs.declared.VolumeFacts.{VolumeFacts}
use Rattle.model.specs.declared.ForkFacts.{ForkFacts}
use Rattle.model.specs.declared.Fork.{Fork}
use Rattle.laws.proofs.Sound.{Linked}
use Rattle.laws.proofs.Joins.{Once}
use Rattle.laws.proofs.Content.{Inside}
use Rattle.laws.proofs.Counts.{taken_are_free, taken_hold}
use Rattle.laws.proofs.Alike.{Alike}
use Rattle.laws.proofs.MapSteps.{fork_with, size_after, blocks_after, after_write, Framed, write_frame, write_count, write_changed, write_blocks, write_own}
use Rattle.laws.proofs.MapSteps.{BlocksStored, length_fork_bytes, old_linked, write_holds, write_once, write_inside, write_stores}
use Rattle.laws.proofs.DirectorySteps.{written_step}
use Rattle.laws.proofs.Refusals.{MayWrite}
use Rattle.laws.proofs.Acceptance.{area, readable_of}
use Rattle.laws.proofs.Bases.{based, alike_rewritten}
use Rattle.laws.proofs.TheEntry.{the_entry, the_fork, Neighbours, neighbours}
use Rattle.laws.proofs.Rewrites.{Rewritten, rewrite_accepted}

module _ (image : List ℕ) (acc : Accepted image) (name : List ℕ) (fork : Fork) (o : ℕ) (xs : List ℕ) (changed : ℕ)
    (m : MayWrite image name fork o (length xs)) where
  abbrev f : VolumeFacts
  f = facts_of image

  abbrev there : any (named name) (directory image) ≡ true
  there = m.file.exists

  -- the fork as it was, how many blocks are taken, its blocks now, the free count now and the image left
  abbrev pub its : ForkFacts
  its = fork_of fork (the_entry image acc name there)

  abbrev pub many : ℕ
  many = taken_blocks f its o (length xs)

  abbrev pub all : List ℕ
  all = blocks_after (map_entry image) (N f) (A f) its many

  abbrev pub free : ℕ
  free = free_count f - many

  abbrev pub left : List ℕ
  left = written f image name fork o xs changed its

  abbrev near : Neighbours image its
  near = neighbours image acc name there fork

  pub is_left : change (write name fork o xs changed) image ≡ left
  unfolding change
  is_left = ap (written f image name fork o xs changed) (the_fork image acc name there fork)

  -- it begins within the fork, and the blocks that it needs are free
  pub was_within : o ≤ its.logical
  was_within = subst (λ (g : ForkFacts). o ≤ g.logical) (the_fork image acc name there fork) m.within

  pub was_room : needed_blocks (facts_of image) its o (length xs) ≤ free_count (facts_of image)
  was_room = subst (λ (g : ForkFacts). needed_blocks f g o (length xs) ≤ free_count f) (the_fork image acc name there fork) m.room

  -- those taken are free too, and with them the fork holds its bytes
  pub enough : many ≤ free_count (facts_of image)
  enough = taken_are_free f its o (length xs) (area image acc).some was_room

  holds : size_after its o xs ≤ (block_count (A f) its + many) * A f
  holds = taken_hold f its o (length xs) (area image acc).some

  -- the image before the directory's and the count's stores
  abbrev pub base : List ℕ
  base = after_write (S f) (A f) (N f) image its many o xs

  pub frame : Framed (S f) (A f) all image base
  frame = write_frame (S f) (A f) (N f) (free_count f) image (area image acc) near.before near.behind its near.passes many o xs was_within enough holds

  alike : Alike (S f) left base
  unfolding written
  alike = alike_rewritten image acc name fork (size_after its o xs) all changed free base frame.size

  pub write_rewrites : Rewritten image acc name there fork (size_after its o xs) all all changed free left
  write_rewrites = record {
    base = base;
    frame = frame;
    step = written_step image (readable_of image acc) name there fork o xs changed its (based image acc all base frame);
    forks = write_changed (S f) (A f) (N f) (free_count f) image (area image acc) near.before near.behind its near.passes many o xs was_within enough
        holds left alike;
  }

  pub write_accepted : Accepted left
  write_accepted = rewrite_accepted write_rewrites

  -- the fork's bytes, count of blocks and blocks afterwards
  pub now_bytes : fork_bytes (S f) (A f) left (fork_with (A f) (size_after its o xs) all) ≡ overwritten (fork_bytes (S f) (A f) image its) o xs
  now_bytes =
      write_own (S f) (A f) (N f) (free_count f) image (area image acc) near.before near.behind its near.passes many o xs was_within enough holds
      left alike

  pub now_many : block_count (A f) (fork_with (A f) (size_after its o xs) all) ≡ block_count (A f) its + many
  now_many =
      write_count (S f) (A f) (N f) (free_count f) image (area image acc) near.before near.behind its near.passes many o xs was_within enough holds

  pub now_blocks : fork_blocks (map_entry left) (A f) (fork_with (A f) (size_after its o xs) all) ≡ all
  now_blocks =
      write_blocks (S f) (A f) (N f) (free_count f) image (area image acc) near.before near.behind its near.passes many o xs was_within enough holds
      left alike

  -- what is stored in the map and the blocks; the blocks are none twice, in the image, and hold the fork's bytes
  pub now_stores : BlocksStored (S f) (A f) (N f) image left all o xs
  now_stores =
      write_stores (S f) (A f) (N f) (free_count f) image (area image acc) near.before near.behind its near.passes many o xs was_within enough holds
      left alike

  pub now_once : Once all
  now_once =
      write_once (S f) (A f) (N f) (free_count f) image (area image acc) near.before near.behind its near.passes many o xs was_within enough holds

  pub now_inside : Inside (S f) (A f) image all
  now_inside =
      write_inside (S f) (A f) (N f) (free_count f) image (area image acc) near.before near.behind its near.passes many o xs was_within enough holds

  pub now_holds : size_after its o xs ≤ length all * A f
  now_holds =
      write_holds (S f) (A f) (N f) (free_count f) image (area image acc) near.before near.behind its near.passes many o xs was_within enough holds

  -- the fork before it: as many bytes as its logical length says, and its blocks are joined
  pub was_length : length (fork_bytes (S f) (A f) image its) ≡ its.logical
  was_length = length_fork_bytes (S f) (A f) (N f) (free_count f) image (area image acc) near.before near.behind its near.passes

  pub was_linked : Linked (map_entry image) (N f) (fork_blocks (map_entry image) (A f) its)
  was_linked = old_linked (S f) (A f) (N f) (free_count f) image (area image acc) near.before near.behind its near.passes
