-- Laws of a file taken out: the blocks of both forks, freed one fork after the other, and the image that is left.
use Prim.Native.Nat.{ℕ, zero, suc, ◌+◌, ◌-◌, ◌/◌, ◌%◌, ◌≤◌, ◌<◌}
use mathlib.Core.Path.{◌≡◌, refl, sym, ap, subst, ◌∙◌}
use mathlib.Core.Bool.{true}
use mathlib.Core.List.{List, [], ◌∷◌, ◌++◌}
use native.Mathlib.Omega.{arith}
use lib.ListN.{length, length-append}
use Rattle.model.specs.Lists.{any, times}
use Rattle.model.specs.Facts.{facts_of, N, A, S, free_count}
use Rattle.model.specs.Map.{map_entry, set_entry, runs, chain_blocks, put_free}
use Rattle.model.specs.Directory.{directory, directory_blocks, fork_of, forks_in, block_count, fork_blocks, named}
use Rattle.model.specs.Check.{Accepted}
use Rattle.model.specs.Calls.{removed, with_directory, with_files, with_free, deleted}
use Rattle.model.proofs.Check.{fork_block}
use Rattle.laws.proofs.Sound.{held, Sound}
use Rattle.laws.proofs.Chains.{length_fork_blocks}
use Rattle.laws.proofs.Joins.{InMap, part_once, put_free_other}
use Rattle.laws.proofs.MapChecks.{lists, parted}
use Rattle.laws.proofs.MapSteps.{both_blocks, delete_frame}
use Rattle.laws.proofs.DirectorySteps.{Based}
use Rattle.laws.proofs.Acceptance.{area}
use Rattle.laws.proofs.TheEntry.{it_alone, the_entry, passes_there}
use Rattle.laws.proofs.Bases.{based}
use Rattle.blockmap.proofs.Linking.{chain_keep}
use Rattle.directory.specs.Cursor.{bytes_at, Stands, Lies}
use Rattle.entries.specs.Blocks.{Block, Removes}
use Rattle.model.specs.declared.VolumeFacts.{VolumeFacts}
use Rattle.model.specs.declared.Fork.TheVariants.{Data, Resource}
use Rattle.model.specs.declared.ForkFacts.{ForkFacts}
use Rattle.directory.specs.declared.EntryAt.{EntryAt}
use Rattle.files.specs.Lookup.{FileAt}
use Rattle.files.specs.Leaves.{Deleted}
use Rattle.files.proofs.Forks.{fork_sound, long_image}
use Rattle.files.proofs.Owned.{few, at_held, both_count, fork_runs}
use Rattle.files.proofs.Elsewhere.{held_stands, held_block, held_lies, held_removed}

-- ---- blocks freed one list after the other

free_more : (l xs ys : List ℕ) → put_free (put_free l xs) ys ≡ put_free l (xs ++ ys)
unfolding put_free
free_more l [] ys = refl
free_more l (x ∷ xs) ys = free_more (set_entry l x 0) xs ys

-- entries that agree on the blocks of a chain, which may have none
same_chain : (e e' : ℕ → ℕ) (n k s : ℕ) → (0 < k → runs e n k s ≡ true) → ((b : ℕ) → 1 ≤ times b (chain_blocks e k s) → e' b ≡ e b)
    → (0 < k → runs e' n k s ≡ true) × (chain_blocks e' k s ≡ chain_blocks e k s)
unfolding chain_blocks
same_chain e e' n zero s c h = (λ p. absurd (omega arith), refl)
same_chain e e' n (suc k) s c h = let r = chain_keep e e' n (suc k) s (c (omega arith)) h in (λ _. r.0, r.1)

-- ---- both forks of a named entry

module _ (image : List ℕ) (acc : Accepted image) (name : List ℕ) (there : any (named name) (directory image) ≡ true) where
  abbrev v : VolumeFacts
  v = facts_of image

  abbrev it : List ℕ
  it = the_entry image acc name there

  abbrev before : List ForkFacts
  before = forks_in (it_alone image acc name there).before

  abbrev beyond : List ForkFacts
  beyond = forks_in (it_alone image acc name there).behind

  both_sound : Sound (map_entry image) (N v)
      (lists (map_entry image) (A v) before ++ (lists (map_entry image) (A v) (fork_of Data it ∷ fork_of Resource it ∷ []) ++ lists (map_entry image) (A v) beyond))
  both_sound =
      parted (map_entry image) (N v) (A v) (free_count v) before (fork_of Data it ∷ fork_of Resource it ∷ []) beyond (passes_there image acc name there Data)

  -- they share none
  named_apart : (b : ℕ) → times b (fork_blocks (map_entry image) (A v) (fork_of Data it)) + times b (fork_blocks (map_entry image) (A v) (fork_of Resource it)) ≤ 1
  unfolding held
  named_apart b =
      omega (
        arith,
        part_once (N v) acc.facts.layout.most (map_entry image) (lists (map_entry image) (A v) before)
            (lists (map_entry image) (A v) (fork_of Data it ∷ fork_of Resource it ∷ []))
            (lists (map_entry image) (A v) beyond) both_sound b,
      )

  -- the map's stores leave the facts and the directory
  named_based : Based image (put_free image (both_blocks (map_entry image) (A v) (fork_of Data it) (fork_of Resource it)))
  named_based =
      let freed = both_blocks (map_entry image) (A v) (fork_of Data it) (fork_of Resource it) in
      based image acc freed (put_free image freed)
      (delete_frame (S v) (A v) (N v) (free_count v) image (area image acc) before beyond (fork_of Data it) (fork_of Resource it)
      (passes_there image acc name there Data))

module _ {f : VolumeFacts} {image : List ℕ} {e : EntryAt} (h : FileAt f image e)
    (d r : ForkFacts) (p : d ≡ fork_of Data (bytes_at image e)) (q : r ≡ fork_of Resource (bytes_at image e)) where
  abbrev content : List ℕ
  content = fork_blocks (map_entry image) (A f) d

  abbrev resource : List ℕ
  resource = fork_blocks (map_entry image) (A f) r

  at_both : (P : VolumeFacts → ForkFacts → ForkFacts → Type 0)
      → P (facts_of image) (fork_of Data (the_entry image h.readable.accepted h.name h.found.there.exists))
      (fork_of Resource (the_entry image h.readable.accepted h.name h.found.there.exists))
      → P f d r
  at_both P x =
      subst (λ (k : ForkFacts). P f k r) (sym p)
      (subst (P f (fork_of Data (bytes_at image e))) (sym q) (at_held h (λ (v : VolumeFacts) (b : List ℕ). P v (fork_of Data b) (fork_of Resource b)) x))

  apart : (b : ℕ) → times b content + times b resource ≤ 1
  apart = at_both (λ (v : VolumeFacts) (k l : ForkFacts). (b : ℕ)
      → times b (fork_blocks (map_entry image) (A v) k) + times b (fork_blocks (map_entry image) (A v) l) ≤ 1)
      (named_apart image h.readable.accepted h.name h.found.there.exists)

  delete_based : Based image (put_free image (content ++ resource))
  delete_based = at_both (λ (v : VolumeFacts) (k l : ForkFacts). Based image (put_free image (both_blocks (map_entry image) (A v) k l)))
      (named_based image h.readable.accepted h.name h.found.there.exists)

  -- with the free blocks they are no more than 640
  pub both_small : free_count f + d.physical / A f + r.physical / A f ≤ 640
  both_small =
      let here : free_count f + (d.physical / A f + r.physical / A f) ≤ N f =
      subst (λ (k : ForkFacts). free_count f + (k.physical / A f + r.physical / A f) ≤ N f) (sym p)
      (subst (λ (k : ForkFacts). free_count f + ((fork_of Data (bytes_at image e)).physical / A f + k.physical / A f) ≤ N f) (sym q) (both_count h)) in
      omega (arith, few h)

  in_map : InMap (N f) content
  in_map b m = fork_block (map_entry image) (N f) (A f) d b (fork_sound h.readable h.found Data p) m

  low : (b : ℕ) → 1 ≤ times b resource → 2 ≤ b
  low b m = (fork_block (map_entry image) (N f) (A f) r b (fork_sound h.readable h.found Resource q) m).0

  module _ (x : List ℕ) (s : x ≡ put_free image (chain_blocks (map_entry image) (d.physical / A f) d.start.0)) where
    -- the resource fork's chain is as before
    kept : (0 < r.physical / A f → runs (map_entry x) (N f) (r.physical / A f) r.start.0 ≡ true)
        × (chain_blocks (map_entry x) (r.physical / A f) r.start.0 ≡ chain_blocks (map_entry image) (r.physical / A f) r.start.0)
    unfolding fork_blocks block_count
    kept =
        same_chain (map_entry image) (map_entry x) (N f) (r.physical / A f) r.start.0 (fork_runs h Resource r q)
        (λ b m. ap (λ (l : List ℕ). map_entry l b) s
        ∙ put_free_other (N f) (few h) image content b (long_image h.readable) in_map (low b m) (omega (arith, apart b)))

    pub resource_runs : 0 < r.physical / A f → runs (map_entry x) (N f) (r.physical / A f) r.start.0 ≡ true
    resource_runs = kept.0

    module _ (y : List ℕ) (t : y ≡ put_free x (chain_blocks (map_entry x) (r.physical / A f) r.start.0)) where
      freed : y ≡ put_free image (content ++ resource)
      unfolding fork_blocks block_count
      freed = t ∙ (λ i. put_free (s i) (kept.1 i)) ∙ free_more image content resource

      -- the entry is where it was
      pub delete_block : Block y (e.start - e.start % 512)
      delete_block = subst (λ (l : List ℕ). Block l (e.start - e.start % 512)) (sym freed) (held_block h (put_free image (content ++ resource)) delete_based)

      pub delete_stands : Stands y e
      delete_stands = subst (λ (l : List ℕ). Stands l e) (sym freed) (held_stands h (put_free image (content ++ resource)) delete_based)

      pub delete_lies : Lies y (e.start - e.start % 512) 1 e
      delete_lies = subst (λ (l : List ℕ). Lies l (e.start - e.start % 512) 1 e) (sym freed) (held_lies h (put_free image (content ++ resource)) delete_based)

      -- the stores, one behind the other
      pub delete_leaves : (z w v : List ℕ) (free : ℕ) → Removes y (e.start - e.start % 512) e z → w ≡ with_files (f.files - 1) z
          → free ≡ free_count f + d.physical / A f + r.physical / A f → v ≡ with_free free w → Deleted f image e v
      unfolding deleted block_count
      delete_leaves z w v free m a n b = λ k.
          let out : z ≡ with_directory f (put_free image (content ++ resource)) (removed k.name (directory_blocks f image)) =
          held_removed k (put_free image (content ++ resource)) delete_based z (subst (λ (l : List ℕ). Removes l (e.start - e.start % 512) e z) freed m) in
          let count : free ≡ free_count f + length (content ++ resource) =
          omega (arith, length-append content resource, length_fork_blocks (map_entry image) (A f) d, length_fork_blocks (map_entry image) (A f) r) in
          b ∙ (λ i. with_free (count i) ((a ∙ ap (with_files (f.files - 1)) out) i))
          ∙ (λ i. let bs = both_blocks (map_entry image) (A f) (p i) (q i) in
          with_free (free_count f + length bs) (with_files (f.files - 1) (with_directory f (put_free image bs) (removed k.name (directory_blocks f image)))))
