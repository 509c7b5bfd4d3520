-- A cut that is not refused: what it stores, what its fork has then, and that the image is accepted.
use Prim.Native.Nat.{ℕ, ◌+◌, ◌≤◌}
use mathlib.Core.Path.{◌≡◌, ap, subst}
use mathlib.Core.Bool.{true}
use mathlib.Core.List.{List}
use lib.ListN.{length, take}
use Rattle.model.specs.Lists.{any}
use Rattle.model.specs.Facts.{facts_of, N, A, S, free_count}
use Rattle.model.specs.Map.{map_entry}
use Rattle.model.specs.Directory.{directory, fork_of, block_count, fork_blocks, named}
use Rattle.model.specs.Check.{Accepted}
use Rattle.model.specs.Calls.{fewest, fork_bytes, shortened, change}
use Rattle.model.specs.Calls.Call.{cut}
use Rattle.model.specs.declared.VolumeFacts.{VolumeFacts}
use Rattle.model.specs.declared.ForkFacts.{ForkFacts}
use Rattle.model.specs.declared.Fork.{Fork}
use Rattle.laws.proofs.Alike.{Alike}
use Rattle.laws.proofs.MapSteps.{fork_with, kept_blocks, freed_blocks, after_cut, Framed, cut_frame, cut_count, cut_changed, cut_own}
use Rattle.laws.proofs.DirectorySteps.{shortened_step}
use Rattle.laws.proofs.Refusals.{MayChangeFork}
use Rattle.laws.proofs.Acceptance.{area, readable_of}
use Rattle.laws.proofs.Bases.{based, alike_rewritten}
use Rattle.laws.proofs.TheEntry.{the_entry, the_fork, Neighbours, neighbours}
use Rattle.laws.proofs.Rewrites.{Rewritten, rewrite_accepted}

module _ (image : List ℕ) (acc : Accepted image) (name : List ℕ) (fork : Fork) (n changed : ℕ) (m : MayChangeFork image name fork n) where
  abbrev f : VolumeFacts
  f = facts_of image

  abbrev there : any (named name) (directory image) ≡ true
  there = m.file.exists

  -- the fork and its blocks as they were, its blocks now, the free count now and the image left
  abbrev pub its : ForkFacts
  its = fork_of fork (the_entry image acc name there)

  abbrev pub old : List ℕ
  old = fork_blocks (map_entry image) (A f) its

  abbrev pub kept : List ℕ
  kept = kept_blocks (map_entry image) (A f) its n

  abbrev pub free : ℕ
  free = free_count f + length (freed_blocks (map_entry image) (A f) its n)

  abbrev pub left : List ℕ
  left = shortened f image name fork n changed its

  abbrev near : Neighbours image its
  near = neighbours image acc name there fork

  pub is_left : change (cut name fork n changed) image ≡ left
  unfolding change
  is_left = ap (shortened f image name fork n changed) (the_fork image acc name there fork)

  at : n ≤ its.logical
  at = subst (λ (g : ForkFacts). n ≤ g.logical) (the_fork image acc name there fork) m.within

  abbrev base : List ℕ
  base = after_cut (A f) image its n

  frame : Framed (S f) (A f) old image base
  frame = cut_frame (S f) (A f) (N f) (free_count f) image (area image acc) near.before near.behind its near.passes n at

  alike : Alike (S f) left base
  unfolding shortened
  alike = alike_rewritten image acc name fork n kept changed free base frame.size

  pub cut_rewrites : Rewritten image acc name there fork n kept old changed free left
  cut_rewrites = record {
    base = base;
    frame = frame;
    step = shortened_step image (readable_of image acc) name there fork n changed its (based image acc old base frame);
    forks = cut_changed (S f) (A f) (N f) (free_count f) image (area image acc) near.before near.behind its near.passes n at left alike;
  }

  pub cut_accepted : Accepted left
  cut_accepted = rewrite_accepted cut_rewrites

  -- the fork's bytes and count of blocks afterwards
  pub now_bytes : fork_bytes (S f) (A f) left (fork_with (A f) n kept) ≡ take n (fork_bytes (S f) (A f) image its)
  now_bytes = cut_own (S f) (A f) (N f) (free_count f) image (area image acc) near.before near.behind its near.passes n at left alike

  pub now_count : block_count (A f) (fork_with (A f) n kept) ≡ fewest n (A f)
  now_count = cut_count (S f) (A f) (N f) (free_count f) image (area image acc) near.before near.behind its near.passes n at
