-- Laws of a named file's forks on an accepted image: each is sound, has at most 640 blocks and a chain with each of its places, and
-- can be copied.
use Prim.Native.Nat.{ℕ, ◌/◌, ◌≤◌, ◌<◌}
use mathlib.Core.Path.{◌≡◌, ap, ◌∙◌}
use mathlib.Core.Bool.{true}
use mathlib.Core.List.{List, []}
use native.Mathlib.Omega.{arith}
use native.Mathlib.Nat.{zero-div}
use lib.ListN.{length}
use Rattle.model.specs.Lists.{place_of}
use Rattle.model.specs.Facts.{N, A, S, free_count}
use Rattle.model.specs.Map.{map_entry, runs, blocks_free}
use Rattle.model.specs.Directory.{directory, named, fork_of, block_count}
use Rattle.model.specs.Check.{SoundFork}
use Rattle.model.specs.Calls.{entry_named}
use Rattle.model.proofs.Map.{chain_runs}
use Rattle.laws.proofs.Reorder.{first_found}
use Rattle.laws.proofs.Acceptance.{sound_fork}
use Rattle.blockmap.specs.Places.{HasPlace}
use Rattle.blockmap.proofs.Marks.{sound_most}
use Rattle.directory.specs.Cursor.{bytes_at}
use Rattle.model.specs.declared.VolumeFacts.{VolumeFacts}
use Rattle.model.specs.declared.Fork.{Fork}
use Rattle.model.specs.declared.ForkFacts.{ForkFacts}
use Rattle.directory.specs.declared.EntryAt.{EntryAt}
use Rattle.files.specs.Lookup.{Readable, NamedEntry}
use Rattle.forks.specs.Content.{Copyable}
use Rattle.forks.proofs.Copying.{copyable}

module _ {f : VolumeFacts} {image : List ℕ} (r : Readable f image) where
  pub large_block : 512 ≤ A f
  large_block = rw r.facts r.accepted.facts.layout.large

  pub small_block : A f ≤ 32768
  small_block = rw r.facts r.accepted.facts.layout.small

  pub few_in_volume : N f ≤ 640
  few_in_volume = rw r.facts r.accepted.facts.layout.most

  pub free_blocks_lem : free_count f ≡ length (blocks_free (map_entry image) (N f))
  free_blocks_lem = rw r.facts r.accepted.blocks.counted

  pub long_image : 2048 ≤ length image
  long_image = omega (arith, r.accepted.facts.many)

module _ {f : VolumeFacts} {image name : List ℕ} {place : ℕ} {e : EntryAt} (r : Readable f image) (h : NamedEntry image name place e) where
  pub named_bytes : bytes_at image e ≡ entry_named name image
  unfolding entry_named
  named_bytes = h.there.bytes

  module _ (fork : Fork) {g : ForkFacts} (q : g ≡ fork_of fork (bytes_at image e)) where
    pub named_fork : g ≡ fork_of fork (entry_named name image)
    named_fork = q ∙ ap (fork_of fork) named_bytes

    pub fork_sound : SoundFork (map_entry image) (N f) (A f) g
    unfolding entry_named
    fork_sound =
        let s = first_found (named name) [] (directory image) h.there.exists in
        rw (r.facts, named_fork, ← s.1) (sound_fork image r.accepted (place_of (named name) (directory image)) s.0 fork)

    pub fork_copyable : Copyable image (S f) (A f) g
    unfolding entry_named
    fork_copyable =
        let s = first_found (named name) [] (directory image) h.there.exists in
        rw (r.facts, named_fork, ← s.1) (copyable image r.accepted (place_of (named name) (directory image)) s.0 fork)

    -- a fork with a block has a start
    pub starts : (i : ℕ) → i < g.physical / A f → g.start.0 ≡ 0 → ⊥
    starts i l z =
        let none : g.physical / A f ≡ 0 = rw ((fork_sound.empty z).1, zero-div) in
        omega arith

    pub has_chain : 0 < g.physical / A f → runs (map_entry image) (N f) (g.physical / A f) g.start.0 ≡ true
    unfolding block_count
    has_chain l = chain_runs (map_entry image) (N f) (fork_sound.chain (starts 0 l))

    pub few_blocks : (i : ℕ) → i < g.physical / A f → i < 640
    few_blocks i l =
        omega (arith, few_in_volume r, sound_most (map_entry image) (N f) (A f) [] g fork_sound (starts i l))

    pub has_place : (i : ℕ) → i < g.physical / A f → HasPlace (map_entry image) g.start.0 i
    has_place i l = record {
      n = N f;
      k = g.physical / A f;
      small = few_in_volume r;
      chain = has_chain (omega arith);
      within = l;
    }
