-- Laws of the growth of a fork on an accepted image: what it needs and what it leaves.
use Prim.Native.Nat.{ℕ, ◌+◌, ◌-◌, ◌*◌, ◌/◌, ◌≤◌, max}
use mathlib.Core.Path.{◌≡◌, ap, ◌∙◌}
use mathlib.Core.Bool.{true}
use mathlib.Core.List.{List, [], ◌∷◌, ◌++◌}
use native.Mathlib.Omega.{arith}
use native.Mathlib.Nat.{mul-le-mul_right, mul-le-mul_left}
use lib.ListN.{length, take, length-append}
use lib.Seq.{sets, length-take-le}
use Rattle.model.specs.Lists.{any, first_or0}
use Rattle.model.specs.Bytes.{bytes16, bytes32}
use Rattle.model.specs.Facts.{facts_of, N, A, S, free_count}
use Rattle.model.specs.Map.{map_entry, runs, chain_blocks, behind, blocks_free, put_chain}
use Rattle.model.specs.Directory.{directory, directory_blocks, named, fork_place, fork_of, block_count, fork_blocks}
use Rattle.model.specs.Check.{Accepted}
use Rattle.model.specs.Calls.{grown, taken_blocks}
use Rattle.model.specs.Calls.{put_content, with_fork, rewritten, with_directory, with_free, written}
use Rattle.model.proofs.Map.{length_chain}
use Rattle.laws.proofs.Sound.{Each, each_right, Linked}
use Rattle.laws.proofs.Chains.{linked_runs, linked_blocks}
use Rattle.laws.proofs.Joins.{write_sound, lowest_free, length_put_chain}
use Rattle.laws.proofs.Counts.{taken_hold}
use Rattle.laws.proofs.MapChecks.{lists, parted}
use Rattle.laws.proofs.MapSteps.{fork_with, size_after, blocks_after, after_write, write_frame}
use Rattle.laws.proofs.DirectorySteps.{Based}
use Rattle.laws.proofs.Acceptance.{area}
use Rattle.laws.proofs.TheEntry.{the_entry, the_entry_lem, around, beyond, passes_there}
use Rattle.laws.proofs.Bases.{based}
use Rattle.model.specs.declared.VolumeFacts.{VolumeFacts}
use Rattle.model.specs.declared.Fork.{Fork}
use Rattle.model.specs.declared.ForkFacts.{ForkFacts}
use Rattle.blockmap.proofs.Chains.{chain_most}
use Rattle.directory.specs.Cursor.{bytes_at, Stands}
use Rattle.directory.specs.declared.EntryAt.{EntryAt}
use Rattle.entries.proofs.Stored.{fields}
use Rattle.forks.specs.Content.{Fillable}
use Rattle.files.specs.Lookup.{FileAt}
use Rattle.files.proofs.Forks.{large_block, small_block, few_in_volume, free_blocks_lem, named_fork, fork_copyable}
use Rattle.files.proofs.Elsewhere.{held_stands, held_stored}

-- the fork's blocks with so many new ones, and the image with the bytes stored in them
abbrev pub grown_blocks : VolumeFacts → List ℕ → ForkFacts → ℕ → List ℕ
grown_blocks f image g new = chain_blocks (map_entry image) (g.physical / A f) g.start.0 ++ take new (blocks_free (map_entry image) (N f))

abbrev pub grown_base : VolumeFacts → List ℕ → ForkFacts → ℕ → ℕ → List ℕ → List ℕ
grown_base f image g new o xs = put_content (S f) (A f) (put_chain image (grown_blocks f image g new)) (grown_blocks f image g new) o xs

-- linked blocks are the chain from the first of them
linked_from : (e : ℕ → ℕ) (n : ℕ) (bs : List ℕ) (t k : ℕ) → Linked e n bs → t ≡ first_or0 bs → k ≡ length bs
    → (1 ≤ k → runs e n k t ≡ true) × (chain_blocks e k t ≡ bs)
unfolding first_or0 behind chain_blocks
linked_from e n [] t k h p q = (λ l. absurd (omega arith), rw q)
linked_from e n (b ∷ bs) t k h p q = rw (p, q) (λ _. linked_runs e n (b ∷ bs) h, linked_blocks e n (b ∷ bs) h)

-- ---- a fork of an accepted image, in the model's terms

module _ (image : List ℕ) (acc : Accepted image) (name : List ℕ) (there : any (named name) (directory image) ≡ true) (fork : Fork) where
  abbrev f : VolumeFacts
  f = facts_of image

  abbrev its : ForkFacts
  its = fork_of fork (the_entry image acc name there)

  joined : (k : ℕ) → Linked (map_entry (put_chain image (grown_blocks (facts_of image) image (fork_of fork (the_entry image acc name there)) k))) (N (facts_of image))
      (grown_blocks (facts_of image) image (fork_of fork (the_entry image acc name there)) k)
  unfolding Each fork_blocks block_count
  joined k =
      let e = map_entry image in
      let ar = area image acc in
      let p = lists e (A f) (around image acc name there fork) in
      let t = lists e (A f) (beyond image acc name there fork) in
      let bs = fork_blocks e (A f) its in
      let r = take k (blocks_free e (N f)) in
      let h = parted e (N f) (A f) (free_count f) (around image acc name there fork) (its ∷ [])
      (beyond image acc name there fork) (passes_there image acc name there fork) in
      let s = write_sound (N f) ar.few image (omega (arith, ar.low, ar.room)) p t bs r h (lowest_free (N f) ar.few e k) in
      (each_right (Linked (map_entry (put_chain image (bs ++ r))) (N f)) p ((bs ++ r) ∷ t) s.linked).0

  stored_based : (o : ℕ) (xs : List ℕ) (new : ℕ) → o ≤ (fork_of fork (the_entry image acc name there)).logical → new ≤ free_count (facts_of image)
      → size_after (fork_of fork (the_entry image acc name there)) o xs
      ≤ (block_count (A (facts_of image)) (fork_of fork (the_entry image acc name there)) + new) * A (facts_of image)
      → Based image (grown_base (facts_of image) image (fork_of fork (the_entry image acc name there)) new o xs)
  unfolding fork_blocks block_count
  stored_based o xs new at enough holds =
      let r = write_frame (S f) (A f) (N f) (free_count f) image (area image acc) (around image acc name there fork) (beyond image acc name there fork) its
      (passes_there image acc name there fork) new o xs at enough holds in
      based image acc (blocks_after (map_entry image) (N f) (A f) its new) (after_write (S f) (A f) (N f) image its new o xs) r

-- ---- the growth of a named file's fork

module _ {f : VolumeFacts} {image : List ℕ} {e : EntryAt} (h : FileAt f image e) (fork : Fork) (g : ForkFacts) (q : g ≡ fork_of fork (bytes_at image e)) where
  fork_is : g ≡ fork_of fork (the_entry image h.readable.accepted h.name h.found.there.exists)
  fork_is = named_fork h.readable h.found fork q ∙ ap (fork_of fork) (the_entry_lem image h.readable.accepted h.name h.found.there.exists)

  linked : (k : ℕ) → Linked (map_entry (put_chain image (grown_blocks f image g k))) (N f) (grown_blocks f image g k)
  linked k = rw (h.readable.facts, fork_is) (joined image h.readable.accepted h.name h.found.there.exists fork k)

  module _ (new : ℕ) (enough : new ≤ free_count f) where
    length_grown : g.physical / A f + new ≡ length (grown_blocks f image g new)
    length_grown =
        let bs = chain_blocks (map_entry image) (g.physical / A f) g.start.0 in
        let r = blocks_free (map_entry image) (N f) in
        omega (
          arith,
          length-append bs (take new r),
          length_chain (map_entry image) (g.physical / A f) g.start.0,
          length-take-le new r (omega (arith, free_blocks_lem h.readable)),
        )

    -- a chain has at most 640 blocks, and no sum wraps
    pub grown_few : g.physical / A f + new ≤ 640
    grown_few =
        let all = grown_blocks f image g new in
        let m = map_entry (put_chain image all) in
        omega (arith, few_in_volume h.readable, length_grown, chain_most m (N f) (length all) (behind all) (linked_runs m (N f) all (linked new)))

    pub grown_most : (g.physical / A f + new) * A f ≤ 20971520
    grown_most =
        let k = g.physical / A f + new in
        omega (arith, mul-le-mul_right {m = k} {n = 640} (A f) grown_few, mul-le-mul_left {m = A f} {n = 32768} 640 (small_block h.readable))

    -- the new chain, from its start
    module _ (l : List ℕ) (t : ℕ) (p : l ≡ put_chain image (grown_blocks f image g new)) (s : t ≡ first_or0 (grown_blocks f image g new)) where
      chain : (1 ≤ g.physical / A f + new → runs (map_entry l) (N f) (g.physical / A f + new) t ≡ true)
          × (chain_blocks (map_entry l) (g.physical / A f + new) t ≡ grown_blocks f image g new)
      chain =
          let all = grown_blocks f image g new in
          rw p (linked_from (map_entry (put_chain image all)) (N f) all t (g.physical / A f + new) (linked new) s length_grown)

      pub grown_fillable : Fillable l (S f) (A f) t (g.physical / A f + new)
      grown_fillable =
          let c = (fork_copyable h.readable h.found fork q).area in
          let room : 512 * (S f).0 + N f * A f ≤ length image = rw h.readable.facts (area image h.readable.accepted).room in
          record {
            n = N f;
            area = record {
              small = few_in_volume h.readable;
              block = c.block;
              most = c.most;
              whole = c.whole;
              start = c.start;
              low = c.low;
              room = omega (arith, room, ap length p, length_put_chain (N f) (few_in_volume h.readable) image (grown_blocks f image g new));
            };
            chain = chain.0;
          }

      pub grown_stored : (o : ℕ) (xs after : List ℕ) → after ≡ put_content (S f) (A f) l (chain_blocks (map_entry l) (g.physical / A f + new) t) o xs
          → after ≡ grown_base f image g new o xs
      grown_stored o xs after r =
          r ∙ ap (λ (bs : List ℕ). put_content (S f) (A f) l bs o xs) chain.1
          ∙ ap (λ (m : List ℕ). put_content (S f) (A f) m (grown_blocks f image g new) o xs) p

    module _ (o : ℕ) (xs : List ℕ) (at : o ≤ g.logical) (is : new ≡ taken_blocks f g o (length xs)) where
      grown_holds : size_after g o xs ≤ (block_count (A f) g + new) * A f
      grown_holds = rw is (taken_hold f g o (length xs) (omega (arith, large_block h.readable)))

      pub grown_fits : max g.logical (o + length xs) ≤ (g.physical / A f + new) * A f
      unfolding grown block_count
      grown_fits = grown_holds

      based_grown : Based image (grown_base f image g new o xs)
      based_grown =
          let at' = rw fork_is at at in
          let enough' = rw h.readable.facts at enough in
          let holds' = rw (h.readable.facts, fork_is) at grown_holds in
          rw (h.readable.facts, fork_is) (stored_based image h.readable.accepted h.name h.found.there.exists fork o xs new at' enough' holds')

      -- the entry stands where it stood
      pub grown_stands : (l : List ℕ) → l ≡ grown_base f image g new o xs → Stands l e
      grown_stands l p = rw p (held_stands h (grown_base f image g new o xs) based_grown)

      -- all that is stored is what the model says
      pub grown_written : (l after left : List ℕ) (t size count changed : ℕ) → l ≡ grown_base f image g new o xs → t ≡ first_or0 (grown_blocks f image g new)
          → size ≡ max g.logical (o + length xs) → count ≡ g.physical / A f + new
          → after ≡ sets (sets l (e.start + fork_place fork) (bytes16 t ++ (bytes32 size ++ bytes32 (count * A f)))) (e.start + 46) (bytes32 changed)
          → left ≡ with_free (free_count f - new) after
          → left ≡ written f image h.name fork o xs changed g
      unfolding written fork_blocks block_count grown
      grown_written l after left t size count changed p s z n a d =
          let all = grown_blocks f image g new in
          let base = grown_base f image g new o xs in
          let b : sets (sets l (e.start + fork_place fork) (bytes16 t ++ (bytes32 size ++ bytes32 (count * A f)))) (e.start + 46) (bytes32 changed)
          ≡ sets (sets base (e.start + fork_place fork) (fields (fork_with (A f) (max g.logical (o + length xs)) all))) (e.start + 46) (bytes32 changed)
          = rw (p, s, z, n, length_grown) in
          let full = (a ∙ b) ∙ held_stored h base based_grown fork (A f) (max g.logical (o + length xs)) all changed in
          d ∙ ap (with_free (free_count f - new)) full
          ∙ ap (λ (k : ℕ). with_free (free_count f - k) (with_directory f (grown_base f image g k o xs)
          (rewritten h.name (with_fork fork (A f) (max g.logical (o + length xs)) (grown_blocks f image g k) changed) (directory_blocks f image))))
          is
