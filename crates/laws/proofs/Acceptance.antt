-- Accepted images: their forks entry by entry, with their blocks and lengths, and what makes an image accepted.
use Prim.Native.Nat.{ℕ, zero, suc, ◌*◌, ◌≤◌, ◌<◌}
use mathlib.Core.Path.{◌≡◌, refl, sym, subst}
use mathlib.Core.Bool.{Bool, true, false}
use mathlib.Core.List.{List, [], ◌∷◌, ◌++◌}
use native.Mathlib.Omega.{arith}
use native.Mathlib.Nat.{div-add-mod'}
use native.Mathlib.Decide.{ℕ_discrete}
use lib.ListN.{length, get_or, length-take, length-drop}
use Rattle.model.specs.Lists.{any, first, place_of}
use Rattle.model.specs.Bytes.{byte, be16, be32}
use Rattle.model.specs.Facts.{facts_of, N, A, S, free_count, with_counts}
use Rattle.model.specs.Map.{map_entry}
use Rattle.model.specs.Directory.{padded, entry_size, directory, name_in, fork_in, fork_of, forks_in, block_count, named}
use Rattle.model.specs.Check.{fires6, fires7, SoundFacts, SoundEntry, SoundFork, fork_at, Accepted}
use Rattle.model.specs.Calls.{entry_named, fork_bytes}
use Rattle.model.specs.declared.VolumeFacts.{VolumeFacts}
use Rattle.model.specs.declared.ForkFacts.{ForkFacts}
use Rattle.model.specs.declared.Fork.{Fork}
use Rattle.model.specs.declared.Fork.TheVariants.{Data, Resource}
use Rattle.model.proofs.Check.{passes_accepted, accepted_passes, facts_pass1, facts_pass2, facts_pass3, facts_pass4}
use Rattle.laws.proofs.Reorder.{first_found, first_none}
use Rattle.laws.proofs.Sound.{Each}
use Rattle.laws.proofs.MapChecks.{MapPasses, sound_passes}
use Rattle.laws.proofs.MapSteps.{Area, sound_area, fork_lengths}
use Rattle.laws.proofs.DirectorySteps.{ReadableDirectory, readable}

-- ---- forks

pub forks_append : (es fs : List (List ℕ)) → forks_in (es ++ fs) ≡ forks_in es ++ forks_in fs
unfolding forks_in
forks_append [] fs = refl
forks_append (e ∷ es) fs = rw (forks_append es fs)

-- what holds of each fork holds of both forks of the entry at a place
pub forks_each : (P : ForkFacts → Type 0) (es : List (List ℕ)) → Each P (forks_in es) → (i : ℕ) → i < length es → (fork : Fork)
    → P (fork_of fork (get_or es i []))
unfolding forks_in Each
forks_each P [] h i l fork = absurd (omega arith)
forks_each P (e ∷ es) h zero l Data = h.0
forks_each P (e ∷ es) h zero l Resource = h.1.0
forks_each P (e ∷ es) h (suc i) l fork = forks_each P es h.1.1 i (omega arith) fork

-- each fork of an entry is one of all the forks
fork_place_lem : (es : List (List ℕ)) (i : ℕ) → i < length es → (fork : Fork)
    → (j : ℕ) × (j < length (forks_in es)) × (fork_at (forks_in es) j ≡ fork_of fork (get_or es i []))
unfolding forks_in
fork_place_lem [] i l fork = absurd (omega arith)
fork_place_lem (e ∷ es) zero l Data = (0, omega arith, refl)
fork_place_lem (e ∷ es) zero l Resource = (1, omega arith, refl)
fork_place_lem (e ∷ es) (suc i) l fork = let r = fork_place_lem es i (omega arith) fork in (suc (suc r.0), omega (arith, r.1), r.2)

-- ---- an accepted image

pub readable_of : (image : List ℕ) → Accepted image → ReadableDirectory image
readable_of image acc = readable image (accepted_passes image acc)

pub area : (image : List ℕ) → Accepted image → Area (S (facts_of image)) (A (facts_of image)) (N (facts_of image)) image
area image acc = sound_area (facts_of image) image acc.facts

pub map_passes : (image : List ℕ) → Accepted image
    → MapPasses (map_entry image) (N (facts_of image)) (A (facts_of image)) (free_count (facts_of image)) (forks_in (directory image))
map_passes image acc =
    let f = facts_of image in
    sound_passes (map_entry image) (N f) (A f) (free_count f) (forks_in (directory image)) acc.blocks

module _ (image : List ℕ) (acc : Accepted image) where
  pub sound_fork : (i : ℕ) → i < length (directory image) → (fork : Fork)
      → SoundFork (map_entry image) (N (facts_of image)) (A (facts_of image)) (fork_of fork (get_or (directory image) i []))
  sound_fork i l fork = let r = fork_place_lem (directory image) i l fork in rw r.2 at (acc.blocks.forks r.0 r.1)

  -- a fork's physical length is its blocks
  pub whole : (i : ℕ) → i < length (directory image) → (fork : Fork)
      → block_count (A (facts_of image)) (fork_of fork (get_or (directory image) i [])) * A (facts_of image) ≡ (fork_of fork (get_or (directory image) i [])).physical
  unfolding block_count
  whole i l fork =
      let g = fork_of fork (get_or (directory image) i []) in
      let a = A (facts_of image) in
      let s = sound_fork i l fork in
      let d = div-add-mod' g.physical a in
      elim (ℕ_discrete g.start.0 0) [
        | yes q ↦ omega (arith, d, (s.empty q).1)
        | no q ↦ omega (arith, d, s.whole q)
      ]

-- ---- the lengths of forks

-- each fork has as many bytes as its logical length
abbrev pub Lengths : List ℕ → Type 0
Lengths image =
    (i : ℕ) → i < length (directory image) → (fork : Fork)
    → length (fork_bytes (S (facts_of image)) (A (facts_of image)) image (fork_of fork (get_or (directory image) i [])))
    ≡ (fork_of fork (get_or (directory image) i [])).logical

-- an entry's name is as long as its length byte says
pub name_length : (next : ℕ) (e : List ℕ) → SoundEntry next e → length (name_in e) ≡ byte e 50
unfolding name_in entry_size padded
name_length next e s = simp (length-take, length-drop) (omega (arith, s.within))

-- no bytes have no fork
no_length : (f : VolumeFacts) (image : List ℕ) (fork : Fork) → length (fork_bytes (S f) (A f) image (fork_of fork [])) ≡ (fork_of fork []).logical
unfolding fork_bytes fork_of fork_in be32 be16
no_length f image Data = refl
no_length f image Resource = refl

pub lengths : (image : List ℕ) → Accepted image → Lengths image
lengths image acc =
    let f = facts_of image in
    forks_each (λ g. length (fork_bytes (S f) (A f) image g) ≡ g.logical) (directory image)
    (fork_lengths (S f) (A f) (N f) (free_count f) image (area image acc) (forks_in (directory image)) (map_passes image acc))

module _ (image : List ℕ) (each : Lengths image) where
  pub named_length : (name : List ℕ) (fork : Fork)
      → length (fork_bytes (S (facts_of image)) (A (facts_of image)) image (fork_of fork (entry_named name image))) ≡ (fork_of fork (entry_named name image)).logical
  unfolding entry_named
  named_length name fork = go (any (named name) (directory image)) refl
    where
      Right : List ℕ → Type 0
      Right e = length (fork_bytes (S (facts_of image)) (A (facts_of image)) image (fork_of fork e)) ≡ (fork_of fork e).logical

      go : (b : Bool) → any (named name) (directory image) ≡ b → Right (first (named name) [] (directory image))
      go true e =
          let r = first_found (named name) [] (directory image) e in
          subst Right r.1 (each (place_of (named name) (directory image)) r.0 fork)
      go false e = subst Right (sym (first_none (named name) [] (directory image) e)) (no_length (facts_of image) image fork)

-- ---- what makes an image accepted

-- other counts leave checks 1 to 4 as they are, but for the next file number
counted_facts : (f : VolumeFacts) (size files number free : ℕ) → SoundFacts f size → 1 ≤ number → SoundFacts (with_counts f files number free) size
unfolding with_counts
counted_facts f size files number free s p = record {
  whole = s.whole;
  many = s.many;
  few = s.few;
  signed = s.signed;
  layout = s.layout;
  numbered = p;
  title = s.title;
}

-- an image is accepted where it has the facts of an accepted one with other counts, and its directory and map pass
pub accepted_from : (image left : List ℕ) (es : List (List ℕ)) (files number free : ℕ) → Accepted image → length left ≡ length image
    → facts_of left ≡ with_counts (facts_of image) files number free → directory left ≡ es → fires6 es ≡ false → fires7 files number es ≡ false → 1 ≤ number
    → MapPasses (map_entry left) (N (facts_of image)) (A (facts_of image)) free (forks_in es) → Accepted left
unfolding with_counts
accepted_from image left es files number free acc l f d p6 p7 some m =
    let s : SoundFacts (facts_of left) (length left) = rw (f, l) (counted_facts (facts_of image) (length image) files number free acc.facts some) in
    passes_accepted left
    (record {
      pass1 = facts_pass1 (facts_of left) (length left) s;
      pass2 = facts_pass2 (facts_of left) (length left) s;
      pass3 = facts_pass3 (facts_of left) (length left) s;
      pass4 = facts_pass4 (facts_of left) (length left) s;
      pass5 = rw f m.pass5;
      pass6 = rw d p6;
      pass7 = rw (f, d) p7;
      pass8 = rw (f, d) m.pass8;
      pass9 = rw (f, d) m.pass9;
      pass10 = rw f m.pass10;
    })
