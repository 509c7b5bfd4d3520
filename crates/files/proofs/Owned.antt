-- Laws of a held entry's forks: their chains run, and their blocks and the free ones are no more than the volume has.
use Prim.Native.Nat.{ℕ, ◌+◌, ◌*◌, ◌/◌, ◌≤◌, ◌<◌}
use mathlib.Core.Path.{◌≡◌, sym, subst}
use mathlib.Core.Bool.{true}
use mathlib.Core.List.{List, []}
use native.Mathlib.Omega.{arith}
use Rattle.model.specs.Facts.{facts_of, N, A, free_count}
use Rattle.model.specs.Map.{map_entry, runs}
use Rattle.model.specs.Directory.{directory, named, fork_of, block_count}
use Rattle.model.specs.Calls.{entry_named}
use Rattle.model.proofs.Map.{chain_runs}
use Rattle.model.proofs.Check.{fork_good}
use Rattle.laws.proofs.Chains.{length_fork_blocks, good}
use Rattle.laws.proofs.Reorder.{first_found}
use Rattle.laws.proofs.TheEntry.{the_entry, the_entry_lem}
use Rattle.laws.proofs.BytesKept.{named_counts}
use Rattle.directory.specs.Cursor.{bytes_at}
use Rattle.model.specs.declared.VolumeFacts.{VolumeFacts}
use Rattle.model.specs.declared.Fork.{Fork}
use Rattle.model.specs.declared.Fork.TheVariants.{Data, Resource}
use Rattle.model.specs.declared.ForkFacts.{ForkFacts}
use Rattle.directory.specs.declared.EntryAt.{EntryAt}
use Rattle.files.specs.Lookup.{FileAt}
use Rattle.files.proofs.Forks.{named_bytes, fork_sound, starts}

module _ {f : VolumeFacts} {image : List ℕ} {e : EntryAt} (h : FileAt f image e) where
  pub few : N f ≤ 640
  few = rw h.readable.facts h.readable.accepted.facts.layout.most

  pub small : A f ≤ 32768
  small = rw h.readable.facts h.readable.accepted.facts.layout.small

  -- what holds of the image's facts and the named entry
  pub at_named : (P : VolumeFacts → List ℕ → Type 0) → P (facts_of image) (entry_named h.name image) → P f (bytes_at image e)
  at_named P p =
      subst (λ (v : VolumeFacts). P v (bytes_at image e)) (sym h.readable.facts)
      (subst (P (facts_of image)) (sym (named_bytes h.readable h.found)) p)

  pub at_held : (P : VolumeFacts → List ℕ → Type 0) → P (facts_of image) (the_entry image h.readable.accepted h.name h.found.there.exists)
      → P f (bytes_at image e)
  at_held P p = at_named P (subst (P (facts_of image)) (sym (the_entry_lem image h.readable.accepted h.name h.found.there.exists)) p)

  -- there is a file
  pub some_file : 1 ≤ f.files
  some_file =
      let some : 1 ≤ (facts_of image).files =
      omega (arith, (first_found (named h.name) [] (directory image) h.found.there.exists).0, h.readable.accepted.files.count) in
      subst (λ (v : VolumeFacts). 1 ≤ v.files) (sym h.readable.facts) some

  -- both forks' blocks and the free ones
  pub both_count : free_count f + ((fork_of Data (bytes_at image e)).physical / A f + (fork_of Resource (bytes_at image e)).physical / A f) ≤ N f
  unfolding block_count
  both_count =
      let v = facts_of image in
      let it = entry_named h.name image in
      let all : free_count v + ((fork_of Data it).physical / A v + (fork_of Resource it).physical / A v) ≤ N v =
      omega (
        arith,
        named_counts image h.readable.accepted h.name h.found.there.exists,
        length_fork_blocks (map_entry image) (A v) (fork_of Data it),
        length_fork_blocks (map_entry image) (A v) (fork_of Resource it),
      ) in
      at_named (λ (v : VolumeFacts) (x : List ℕ). free_count v + ((fork_of Data x).physical / A v + (fork_of Resource x).physical / A v) ≤ N v) all

  module _ (fork : Fork) (g : ForkFacts) (q : g ≡ fork_of fork (bytes_at image e)) where
    pub fork_count : free_count f + g.physical / A f ≤ N f
    fork_count = subst (λ (k : ForkFacts). free_count f + k.physical / A f ≤ N f) (sym q) (go fork)
      where
        go : (k : Fork) → free_count f + (fork_of k (bytes_at image e)).physical / A f ≤ N f
        go Data = omega (arith, both_count)
        go Resource = omega (arith, both_count)

    pub fork_runs : 0 < g.physical / A f → runs (map_entry image) (N f) (g.physical / A f) g.start.0 ≡ true
    unfolding block_count
    fork_runs l =
        chain_runs (map_entry image) (N f)
        ((fork_sound h.readable h.found fork q).chain (starts h.readable h.found fork q 0 l))

    -- its blocks hold its bytes
    pub fork_holds : g.logical ≤ g.physical / A f * A f
    unfolding block_count
    fork_holds =
        let fits = (good (map_entry image) (N f) (A f) g (fork_good (map_entry image) (N f) (A f) g (fork_sound h.readable h.found fork q))).0 in
        subst (λ (n : ℕ). g.logical ≤ n * A f) (length_fork_blocks (map_entry image) (A f) g) fits.logical
