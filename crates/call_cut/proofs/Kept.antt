-- Laws of a fork cut shorter: the blocks that it keeps, and the image that is left.
use Prim.Native.Nat.{ℕ, zero, suc, ◌+◌, ◌-◌, ◌*◌, ◌/◌, ◌≤◌, ◌<◌}
use mathlib.Core.Path.{◌≡◌, refl, sym, subst, ◌∙◌}
use mathlib.Core.Bool.{true}
use mathlib.Core.List.{List, ◌++◌}
use native.Mathlib.Omega.{arith}
use native.Mathlib.Nat.{mul-le-mul_right}
use lib.ListN.{length, take, drop, length-drop}
use lib.Seq.{sets, length-take-le}
use Rattle.model.specs.Lists.{any, first_or0}
use Rattle.model.specs.Bytes.{bytes16, bytes32}
use Rattle.model.specs.Facts.{facts_of, N, A, S, free_count}
use Rattle.model.specs.Map.{map_entry, chain_blocks, put_chain, put_free}
use Rattle.model.specs.Directory.{directory, fork_place, fork_of, block_count, fork_blocks, named}
use Rattle.model.specs.Check.{Accepted}
use Rattle.model.specs.Calls.{fewest, with_free, shortened}
use Rattle.model.proofs.Map.{length_chain}
use Rattle.laws.proofs.Content.{fewest_least}
use Rattle.laws.proofs.MapSteps.{fork_with, after_cut, cut_frame}
use Rattle.laws.proofs.DirectorySteps.{Based}
use Rattle.laws.proofs.Acceptance.{area}
use Rattle.laws.proofs.TheEntry.{the_entry, around, beyond, passes_there}
use Rattle.laws.proofs.Bases.{based}
use Rattle.directory.specs.Cursor.{Stands}
use Rattle.entries.proofs.Stored.{fields}
use Rattle.model.specs.declared.VolumeFacts.{VolumeFacts}
use Rattle.model.specs.declared.Fork.{Fork}
use Rattle.model.specs.declared.ForkFacts.{ForkFacts}
use Rattle.directory.specs.declared.EntryAt.{EntryAt}
use Rattle.files.specs.Lookup.{ForkAt}
use Rattle.files.specs.Leaves.{Shortened}
use Rattle.files.proofs.Forks.{large_block}
use Rattle.files.proofs.Owned.{few, small, at_held, fork_count, fork_holds}
use Rattle.files.proofs.Elsewhere.{held_stands, held_stored}

-- ---- the start of the blocks kept

pub no_start : (bs : List ℕ) (j start : ℕ) → j ≡ 0 → start ≡ 0 → start ≡ first_or0 (take j bs)
unfolding first_or0
no_start bs j start z s = rw (z, s)

pub same_start : (e : ℕ → ℕ) (k s j start : ℕ) → j ≤ k → (j ≡ 0 → ⊥) → start ≡ s → start ≡ first_or0 (take j (chain_blocks e k s))
unfolding first_or0 chain_blocks
same_start e k s zero start l z q = absurd (z refl)
same_start e zero s (suc j) start l z q = absurd (omega arith)
same_start e (suc k) s (suc j) start l z q = q

-- ---- the blocks

-- the map's stores leave the facts and the directory
named_based : (image : List ℕ) (acc : Accepted image) (name : List ℕ) (there : any (named name) (directory image) ≡ true) (fork : Fork) (size : ℕ)
    → size ≤ (fork_of fork (the_entry image acc name there)).logical
    → Based image (after_cut (A (facts_of image)) image (fork_of fork (the_entry image acc name there)) size)
named_based image acc name there fork size at =
    let v = facts_of image in
    let g = fork_of fork (the_entry image acc name there) in
    based image acc (fork_blocks (map_entry image) (A v) g) (after_cut (A v) image g size)
    (cut_frame (S v) (A v) (N v) (free_count v) image (area image acc) (around image acc name there fork) (beyond image acc name there fork) g
    (passes_there image acc name there fork) size at)

module _ {f : VolumeFacts} {image : List ℕ} {e : EntryAt} {fork : Fork} {g : ForkFacts} (h : ForkAt f image e fork g) where
  pub has_most : g.physical / A f ≤ 640
  has_most = omega (arith, few h.held, fork_count h.held fork g h.is)

  module _ (size : ℕ) (at : size ≤ g.logical) where
    -- it has those that it keeps
    pub keeps_within : fewest size (A f) ≤ g.physical / A f
    keeps_within =
        fewest_least size (A f) (g.physical / A f) (omega (arith, large_block h.held.readable))
        (omega (arith, fork_holds h.held fork g h.is))

    pub keeps_small : fewest size (A f) * A f < 4294967296
    keeps_small =
        omega (
          arith,
          small h.held,
          mul-le-mul_right {m = fewest size (A f)} {n = 640} (A f) (omega (arith, has_most, keeps_within)),
        )

    pub free_small : free_count f + (g.physical / A f - fewest size (A f)) ≤ 640
    free_small = omega (arith, few h.held, fork_count h.held fork g h.is)

    cut_based : Based image (after_cut (A f) image g size)
    cut_based =
        let k = h.held in
        subst (λ (x : ForkFacts). size ≤ x.logical → Based image (after_cut (A f) image x size)) (sym h.is)
        (at_held k (λ (v : VolumeFacts) (x : List ℕ). size ≤ (fork_of fork x).logical → Based image (after_cut (A v) image (fork_of fork x) size))
        (named_based image k.readable.accepted k.name k.found.there.exists fork size))
        at

    pub cut_stands : (x : List ℕ) (has keep : ℕ) → has ≡ g.physical / A f → keep ≡ fewest size (A f)
        → x ≡ put_free (put_chain image (take keep (chain_blocks (map_entry image) has g.start.0))) (drop keep (chain_blocks (map_entry image) has g.start.0))
        → Stands x e
    unfolding fork_blocks block_count
    cut_stands x has keep c k p = rw (p, k, c) (held_stands h.held (after_cut (A f) image g size) cut_based)

    -- the stores, one behind the other
    leaves : (changed start : ℕ) (x y z : List ℕ)
        → start ≡ first_or0 (take (fewest size (A f)) (fork_blocks (map_entry image) (A f) g)) → x ≡ after_cut (A f) image g size
        → y ≡ sets (sets x (e.start + fork_place fork) (fields (record { start = record { 0 = start }; logical = size; physical = fewest size (A f) * A f })))
        (e.start + 46) (bytes32 changed)
        → z ≡ with_free (free_count f + (g.physical / A f - fewest size (A f))) y
        → Shortened f image e fork g size changed z
    unfolding shortened fork_blocks block_count
    leaves changed start x y z s p q r = λ t.
        let keep = fewest size (A f) in
        let bs = fork_blocks (map_entry image) (A f) g in
        let many = length_chain (map_entry image) (g.physical / A f) g.start.0 in
        let kept : keep ≡ length (take keep bs) = sym (length-take-le keep bs (omega (arith, keeps_within))) in
        let gone : g.physical / A f - keep ≡ length (drop keep bs) = omega (arith, length-drop keep bs) in
        let base = after_cut (A f) image g size in
        let stores : y ≡ sets (sets base (e.start + fork_place fork) (fields (fork_with (A f) size (take keep bs)))) (e.start + 46) (bytes32 changed) =
        q ∙ (λ i. sets (sets (p i) (e.start + fork_place fork) (bytes16 (s i) ++ (bytes32 size ++ bytes32 (kept i * A f)))) (e.start + 46)
        (bytes32 changed)) in
        r ∙ (λ i. with_free (free_count f + gone i) ((stores ∙ held_stored t base cut_based fork (A f) size (take keep bs) changed) i))

    pub cut_leaves : (changed has keep start : ℕ) (x y z : List ℕ) → has ≡ g.physical / A f → keep ≡ fewest size (A f)
        → start ≡ first_or0 (take keep (chain_blocks (map_entry image) has g.start.0))
        → x ≡ put_free (put_chain image (take keep (chain_blocks (map_entry image) has g.start.0))) (drop keep (chain_blocks (map_entry image) has g.start.0))
        → y ≡ sets (sets x (e.start + fork_place fork) (fields (record { start = record { 0 = start }; logical = size; physical = keep * A f })))
        (e.start + 46) (bytes32 changed)
        → z ≡ with_free (free_count f + (has - keep)) y
        → Shortened f image e fork g size changed z
    unfolding fork_blocks block_count
    cut_leaves changed has keep start x y z c k = rw (k, c) (leaves changed start x y z)
