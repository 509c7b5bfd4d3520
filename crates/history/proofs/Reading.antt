-- How an accepted image reads as facts and files: the blocks that its files have, what makes an image agree with a history, and
-- files whose forks keep their bytes.
use Prim.Native.Nat.{ℕ}
use mathlib.Core.Path.{◌≡◌, refl, sym, ap, ap₂, ◌∙◌}
use mathlib.Core.List.{List, [], ◌∷◌, ◌++◌, map, map-append}
use native.Mathlib.Omega.{arith}
use lib.ListN.{length, length-map}
use Rattle.model.specs.Lists.{Reordered, none, next, swap, then}
use Rattle.model.specs.Facts.{facts_of, N, A, S, next_file_number, free_count, with_counts}
use Rattle.model.specs.Map.{map_entry}
use Rattle.model.specs.Directory.{directory, fork_of, forks_in, block_count}
use Rattle.model.specs.Check.{Accepted}
use Rattle.model.specs.Calls.{fork_bytes}
use Rattle.history.specs.History.{File, History, blocks_of, free_of, facts_now, held_in, file_in, files_in, reading, Agrees}
use Rattle.model.specs.declared.VolumeFacts.{VolumeFacts}
use Rattle.model.specs.declared.ForkFacts.{ForkFacts}
use Rattle.model.specs.declared.Fork.TheVariants.{Data, Resource}
use Rattle.model.proofs.Lists.{same_list, reordered_length}
use Rattle.laws.proofs.Sound.{Each, each_same}
use Rattle.laws.proofs.MapChecks.{block_counts, all_blocks}
use Rattle.laws.proofs.MapSteps.{ForksChanged}
use Rattle.laws.proofs.Acceptance.{map_passes}

-- ---- the blocks of files

pub blocks_of_lem : (f : VolumeFacts) (image : List ℕ) (es : List (List ℕ)) → blocks_of (map (file_in f image) es) ≡ block_counts (A f) (forks_in es)
unfolding blocks_of forks_in block_counts file_in held_in
blocks_of_lem f image [] = refl
blocks_of_lem f image (e ∷ es) = omega (arith, blocks_of_lem f image es)

reordered_blocks : {xs ys : List File} → Reordered xs ys → blocks_of xs ≡ blocks_of ys
unfolding blocks_of
reordered_blocks none = refl
reordered_blocks (next x r) = omega (arith, reordered_blocks r)
reordered_blocks (swap x y xs) = omega arith
reordered_blocks (then r s) = reordered_blocks r ∙ reordered_blocks s

-- ---- agreement

-- the facts that no call changes, and the next file number
unfoldable pub SameVolume : VolumeFacts → VolumeFacts → Type 0
SameVolume f g = with_counts f 0 (next_file_number f) 0 ≡ with_counts g 0 (next_file_number g) 0

module _ (left : List ℕ) (h : History) (acc : Accepted left) (r : Reordered (files_in left) h.files) (v : SameVolume (facts_of left) h.facts) where
  file_count : length (directory left) ≡ length h.files
  unfolding files_in
  file_count = sym (length-map (directory left) (file_in (facts_of left) left)) ∙ reordered_length r

  same_n : N (facts_of left) ≡ N h.facts
  unfolding SameVolume with_counts
  same_n = ap N v

  free_is : free_count (facts_of left) ≡ free_of h
  unfolding free_of files_in
  free_is =
      let f = facts_of left in
      omega (
        arith,
        all_blocks (map_entry left) (N f) (A f) (free_count f) (forks_in (directory left)) (map_passes left acc),
        blocks_of_lem f left (directory left),
        reordered_blocks r,
        same_n,
      )

  -- an accepted image agrees with a history that has its files in some order
  pub agrees_from : Agrees left h
  unfolding SameVolume facts_now with_counts
  agrees_from = record {
    facts = λ i. with_counts (v i) ((sym acc.files.count ∙ file_count) i) (next_file_number (v i)) (free_is i);
    files = r;
  }

pub starts : (image : List ℕ) → Accepted image → Agrees image (reading image)
unfolding reading SameVolume
starts image acc = agrees_from image (reading image) acc (same_list (files_in image)) refl

-- ---- files whose forks keep their bytes

pub held_same : (f g : VolumeFacts) (image left : List ℕ) (x : ForkFacts) → S g ≡ S f → A g ≡ A f
    → fork_bytes (S f) (A f) left x ≡ fork_bytes (S f) (A f) image x → held_in g left x ≡ held_in f image x
unfolding held_in
held_same f g image left x s a h = λ i. record { bytes = (ap₂ (λ u v. fork_bytes u v left x) s a ∙ h) i; count = block_count (a i) x }

file_same : (f g : VolumeFacts) (image left e : List ℕ) → S g ≡ S f → A g ≡ A f
    → fork_bytes (S f) (A f) left (fork_of Data e) ≡ fork_bytes (S f) (A f) image (fork_of Data e)
    → fork_bytes (S f) (A f) left (fork_of Resource e) ≡ fork_bytes (S f) (A f) image (fork_of Resource e) → file_in g left e ≡ file_in f image e
unfolding file_in
file_same f g image left e s a d r =
    rw (held_same f g image left (fork_of Data e) s a d, held_same f g image left (fork_of Resource e) s a r)

pub files_same : (f g : VolumeFacts) (image left : List ℕ) (es : List (List ℕ)) → S g ≡ S f → A g ≡ A f
    → Each (λ x. fork_bytes (S f) (A f) left x ≡ fork_bytes (S f) (A f) image x) (forks_in es) → map (file_in g left) es ≡ map (file_in f image) es
unfolding forks_in Each
files_same f g image left [] s a h = refl
files_same f g image left (e ∷ es) s a h =
    ap₂ (λ (x : File) (xs : List File). x ∷ xs) (file_same f g image left e s a h.0 h.1.0) (files_same f g image left es s a h.1.1)

-- the files of entries around a change, of whose forks the change leaves the bytes
pub files_around : (f : VolumeFacts) (n free : ℕ) (image left : List ℕ) (p q es : List (List ℕ)) (now : List ForkFacts) → es ≡ p ++ q
    → ForksChanged (S f) (A f) n free image left (forks_in p) now (forks_in q) → map (file_in f left) es ≡ map (file_in f image) es
files_around f n free image left p q es now e c =
    let before : List ℕ → ForkFacts → List ℕ = fork_bytes (S f) (A f) in
    let x = files_same f f image left p refl refl (each_same (before left) (before image) (forks_in p) c.bytes_before) in
    let y = files_same f f image left q refl refl (each_same (before left) (before image) (forks_in q) c.bytes_behind) in
    ap (map (file_in f left)) e ∙ map-append (file_in f left) p q ∙ (λ i. x i ++ y i)
    ∙ sym (map-append (file_in f image) p q) ∙ sym (ap (map (file_in f image)) e)
