-- Laws of the check: each check fires not exactly where the facts that it asks for hold, and the verdict is 0 exactly where the
-- volume is accepted.
use Prim.Native.Nat.{ℕ, zero, suc, ◌+◌, ◌-◌, ◌*◌, ◌/◌, ◌%◌, ◌≤◌, ◌<◌}
use mathlib.Core.Path.{◌≡◌, refl, sym, ap, ◌∙◌}
use mathlib.Core.Bool.{Bool, true, false, not, ◌&&◌}
use mathlib.Core.List.{List, []}
use native.Mathlib.Omega.{arith}
use native.Mathlib.Decide.{ℕ_discrete}
use native.Mathlib.Nat.{div-add-mod', zero-div}
use lib.ListN.{length, get_or}
use lib.Dec.{eqb, leb, ltb}
use borrow.Author.Tests.{eqb-true, eqb-false, eq-eqb, ne_eqb, ltb-true, ltb-false, lt-ltb, le-ltb, leb-true, le-leb, not-false}
use Rattle.model.specs.Lists.{every, distinct, times}
use Rattle.model.specs.Bytes.{byte}
use Rattle.model.specs.Facts.{facts_of, dir_start, dir_length, N, A, S, next_file_number, free_count, blocks_in}
use Rattle.model.specs.Map.{map_entry, sort_of, is_bad, Chain, runs, chain_blocks, blocks_free}
use Rattle.model.specs.Directory.{entry_size, directory, number_in, forks_in, block_count, fork_blocks, owned_blocks}
use Rattle.model.specs.Check.{fires1, fires2, fires3, fires4, fires5, good_entry, fires6, good_number, same_numbers, same_names, fires7}
use Rattle.model.specs.Check.{empty_fork, full_fork, good_fork, shares_none, fires8, fires9, fires10}
use Rattle.model.specs.Check.{or_else, from9, from8, from7, from6, from5, from4, from3, from2, verdict}
use Rattle.model.specs.Check.{Layout, SoundFacts, SoundEntry, SoundDirectory, SoundFork, fork_at, HasBlock, SoundMap, Accepted, VerdictIsAccepted}
use Rattle.model.specs.declared.VolumeFacts.{VolumeFacts}
use Rattle.model.specs.declared.ForkFacts.{ForkFacts}
use Rattle.model.proofs.Lists.{and-true, or-false, every_at, at_every, distinct_at, at_distinct}
use Rattle.model.proofs.Times.{flat_one, flat_two, flat_find, flat_once, every_from, from_every, any_from, from_any}
use Rattle.model.proofs.Map.{bad_above, runs_chain, chain_runs, chain_low, chain_high, chain_once}

-- ---- 1 to 4

module _ (f : VolumeFacts) (blocks : ℕ) where
  -- what check 3 asks but for the next file number
  abbrev pub LayoutOf : Type 0
  LayoutOf = Layout (A f) (N f) (dir_start f) (dir_length f) (S f) blocks

  pub layout : fires3 f blocks ≡ false → LayoutOf
  unfolding fires3
  layout h =
      let c = or-false (not (eqb (A f % 512) 0)) _ h in
      let d = or-false (ltb (A f) 512) _ c.1 in
      let e = or-false (ltb 32768 (A f)) _ d.1 in
      let g = or-false (ltb (N f) 1) _ e.1 in
      let h = or-false (ltb 640 (N f)) _ g.1 in
      let i = or-false (ltb (dir_length f) 1) _ h.1 in
      let j = or-false (ltb 256 (dir_length f)) _ i.1 in
      let k = or-false (ltb (dir_start f).0 4) _ j.1 in
      let l = or-false (ltb (S f).0 ((dir_start f).0 + dir_length f)) _ k.1 in
      let m = or-false (ltb (blocks - 2) ((S f).0 + N f * A f / 512)) _ l.1 in
      record {
        multiple = eqb-true (A f % 512) 0 (not-false _ c.0);
        large = ltb-false (A f) 512 d.0;
        small = ltb-false 32768 (A f) e.0;
        some = ltb-false (N f) 1 g.0;
        most = ltb-false 640 (N f) h.0;
        dir_some = ltb-false (dir_length f) 1 i.0;
        dir_most = ltb-false 256 (dir_length f) j.0;
        dir_behind = ltb-false (dir_start f).0 4 k.0;
        dir_before = ltb-false (S f).0 ((dir_start f).0 + dir_length f) l.0;
        backup = ltb-false (blocks - 2) ((S f).0 + N f * A f / 512) m.0;
      }

  -- where all that holds, the next file number is left
  pub layout_left : LayoutOf → eqb (next_file_number f) 0 ≡ fires3 f blocks
  unfolding fires3
  layout_left s =
      rw (
        eq-eqb (A f % 512) 0 s.multiple,
        le-ltb (A f) 512 s.large,
        le-ltb 32768 (A f) s.small,
        le-ltb (N f) 1 s.some,
        le-ltb 640 (N f) s.most,
        le-ltb (dir_length f) 1 s.dir_some,
        le-ltb 256 (dir_length f) s.dir_most,
        le-ltb (dir_start f).0 4 s.dir_behind,
        le-ltb (S f).0 ((dir_start f).0 + dir_length f) s.dir_before,
        le-ltb (blocks - 2) ((S f).0 + N f * A f / 512) s.backup,
      )

module _ (f : VolumeFacts) (size : ℕ) where
  pub sound_facts : fires1 size ≡ false → fires2 f ≡ false → fires3 f (size / 512) ≡ false → fires4 f ≡ false → SoundFacts f size
  unfolding fires1 fires2 fires4
  sound_facts h₁ h₂ h₃ h₄ =
      let a = or-false (not (eqb (size % 512) 0)) _ h₁ in
      let b = or-false (ltb (size / 512) 8) _ a.1 in
      let y = layout f (size / 512) h₃ in
      let n = layout_left f (size / 512) y ∙ h₃ in
      record {
        whole = eqb-true (size % 512) 0 (not-false _ a.0);
        many = ltb-false (size / 512) 8 b.0;
        few = ltb-false 65535 (size / 512) b.1;
        signed = eqb-true f.signature 0xd2d7 (not-false _ h₂);
        layout = y;
        numbered = let z = eqb-false (next_file_number f) 0 n in omega arith;
        title = ltb-false 27 f.name_length h₄;
      }

  module _ (s : SoundFacts f size) where
    pub facts_pass1 : fires1 size ≡ false
    unfolding fires1
    facts_pass1 = rw (eq-eqb (size % 512) 0 s.whole, le-ltb (size / 512) 8 s.many, le-ltb 65535 (size / 512) s.few)

    pub facts_pass2 : fires2 f ≡ false
    unfolding fires2
    facts_pass2 = ap not (eq-eqb f.signature 0xd2d7 s.signed)

    pub facts_pass3 : fires3 f (size / 512) ≡ false
    facts_pass3 = sym (layout_left f (size / 512) s.layout) ∙ ne_eqb (next_file_number f) 0 (omega (arith, s.numbered))

    pub facts_pass4 : fires4 f ≡ false
    unfolding fires4
    facts_pass4 = le-ltb 27 f.name_length s.title

-- ---- 5

pub sorted_below : (e : ℕ → ℕ) (n : ℕ) → fires5 e n ≡ false → (b : ℕ) → 2 ≤ b → b ≤ n + 1 → e b ≤ n + 1
unfolding fires5
sorted_below e n h b low high =
    let r = any_from (λ b. is_bad (sort_of n (e b))) n 2 h b low (omega arith) in
    leb-true (e b) (n + 1) (not-false _ (sym (bad_above n (e b)) ∙ r))

pub below_sorted : (e : ℕ → ℕ) (n : ℕ) → ((b : ℕ) → 2 ≤ b → b ≤ n + 1 → e b ≤ n + 1) → fires5 e n ≡ false
unfolding fires5
below_sorted e n h =
    from_any (λ b. is_bad (sort_of n (e b))) n 2 (λ b low u. bad_above n (e b) ∙ ap not (le-leb (e b) (n + 1) (h b low (omega arith))))

-- ---- 6 and 7

module _ (next : ℕ) (e : List ℕ) where
  pub good_entry_lem : good_entry e ≡ true → good_number next e ≡ true → SoundEntry next e
  unfolding good_entry good_number
  good_entry_lem p q =
      let a = and-true (eqb (length e) (entry_size e)) _ p in
      let b = and-true (ltb 0 (byte e 50)) _ a.1 in
      let c = and-true (ltb 0 (number_in e)) _ q in
      record {
        within = eqb-true (length e) (entry_size e) a.0;
        titled = ltb-true 0 (byte e 50) b.0;
        version = eqb-true (byte e 1) 0 b.1;
        number = ltb-true 0 (number_in e) c.0;
        below = ltb-true (number_in e) next c.1;
      }

  pub entry_good : SoundEntry next e → good_entry e ≡ true
  unfolding good_entry
  entry_good s = rw (eq-eqb (length e) (entry_size e) s.within, lt-ltb 0 (byte e 50) s.titled) (eq-eqb (byte e 1) 0 s.version)

  pub entry_numbered : SoundEntry next e → good_number next e ≡ true
  unfolding good_number
  entry_numbered s = rw (lt-ltb 0 (number_in e) s.number) (lt-ltb (number_in e) next s.below)

module _ (f : VolumeFacts) (es : List (List ℕ)) where
  pub sound_directory : fires6 es ≡ false → fires7 f.files (next_file_number f) es ≡ false → SoundDirectory f es
  unfolding fires6 fires7
  sound_directory h₆ h₇ =
      let a = and-true (eqb (length es) f.files) _ (not-false _ h₇) in
      let b = and-true (every (good_number (next_file_number f)) es) _ a.1 in
      let c = and-true (distinct same_numbers es) (distinct same_names es) b.1 in
      record {
        count = eqb-true (length es) f.files a.0;
        each =
            λ i l. good_entry_lem (next_file_number f) (get_or es i []) (every_at good_entry [] es (not-false _ h₆) i l)
            (every_at (good_number (next_file_number f)) [] es b.0 i l);
        numbers_differ = λ i j k l. eqb-false _ _ (distinct_at same_numbers [] es c.0 i j k l);
        names_differ = λ i j k l. distinct_at same_names [] es c.1 i j k l;
      }

  module _ (s : SoundDirectory f es) where
    pub directory_pass6 : fires6 es ≡ false
    unfolding fires6
    directory_pass6 = ap not (at_every good_entry [] es (λ i l. entry_good (next_file_number f) (get_or es i []) (s.each i l)))

    pub directory_pass7 : fires7 f.files (next_file_number f) es ≡ false
    unfolding fires7
    directory_pass7 =
        let a = at_every (good_number (next_file_number f)) [] es (λ i l. entry_numbered (next_file_number f) (get_or es i []) (s.each i l)) in
        let b = at_distinct same_numbers [] es (λ i j k l. ne_eqb _ _ (s.numbers_differ i j k l)) in
        let c = at_distinct same_names [] es s.names_differ in
        rw (eq-eqb (length es) f.files s.count, a, b, c)

-- ---- 8: one fork

-- a whole number of blocks is at least one
pub whole_some : (p a : ℕ) → 1 ≤ p → p % a ≡ 0 → 1 ≤ p / a
whole_some p a some whole = go (p / a) (div-add-mod' p a)
  where
    go : (k : ℕ) → k * a + p % a ≡ p → 1 ≤ k
    go zero d = absurd (omega arith)
    go (suc k) d = omega arith

some_chain : (e : ℕ → ℕ) (n k s : ℕ) → 1 ≤ k → runs e n k s ≡ true → Chain e n k s
some_chain e n zero s some h = absurd (omega arith)
some_chain e n (suc k) s some h = runs_chain e n k s h

-- an empty fork has no block
pub empty_none : (e : ℕ → ℕ) (a : ℕ) (g : ForkFacts) (b : ℕ) → g.physical ≡ 0 → times b (fork_blocks e a g) ≡ 0
unfolding fork_blocks block_count chain_blocks times
empty_none e a g b z = ap (λ (k : ℕ). times b (chain_blocks e (k / a) g.start.0)) z ∙ rw zero-div

module _ (e : ℕ → ℕ) (n a : ℕ) (g : ForkFacts) where
  pub good_fork_lem : good_fork e n a g ≡ true → SoundFork e n a g
  unfolding good_fork empty_fork full_fork block_count
  good_fork_lem h =
      elim (ℕ_discrete g.start.0 0) [
        | yes q ↦ let r = and-true (eqb g.logical 0) (eqb g.physical 0) (rw (eq-eqb g.start.0 0 q) at h) in record {
          empty = λ _. (eqb-true g.logical 0 r.0, eqb-true g.physical 0 r.1);
          some = λ z. absurd (z q);
          whole = λ z. absurd (z q);
          within = λ z. absurd (z q);
          chain = λ z. absurd (z q);
        }
        | no q ↦ let r = and-true (ltb 0 g.physical) _ (rw (ne_eqb g.start.0 0 q) at h) in
            let s = and-true (eqb (g.physical % a) 0) _ r.1 in
            let t = and-true (leb g.logical g.physical) (runs e n (g.physical / a) g.start.0) s.1 in
            let some = ltb-true 0 g.physical r.0 in
            let whole = eqb-true (g.physical % a) 0 s.0 in record {
              empty = λ z. absurd (q z);
              some = λ _. some;
              whole = λ _. whole;
              within = λ _. leb-true g.logical g.physical t.0;
              chain = λ _. some_chain e n (g.physical / a) g.start.0 (whole_some g.physical a some whole) t.1;
            }
      ]

  pub fork_good : SoundFork e n a g → good_fork e n a g ≡ true
  unfolding good_fork empty_fork full_fork block_count
  fork_good s =
      elim (ℕ_discrete g.start.0 0) [
        | yes q ↦ rw (eq-eqb g.start.0 0 q, eq-eqb g.logical 0 (s.empty q).0) (eq-eqb g.physical 0 (s.empty q).1)
        | no q ↦ rw (
          ne_eqb g.start.0 0 q,
          lt-ltb 0 g.physical (s.some q),
          eq-eqb (g.physical % a) 0 (s.whole q),
          le-leb g.logical g.physical (s.within q),
        )
            (chain_runs e n (s.chain q))
      ]

  -- a sound fork's blocks are 2 to N+1, each once
  pub fork_block : (b : ℕ) → SoundFork e n a g → HasBlock e a g b → (2 ≤ b) × (b ≤ n + 1)
  unfolding fork_blocks block_count
  fork_block b s p =
      elim (ℕ_discrete g.start.0 0) [
        | yes q ↦ absurd (omega (arith, empty_none e a g b (s.empty q).1))
        | no q ↦ let r = chain_runs e n (s.chain q) in
            (chain_low e n (g.physical / a) g.start.0 b r p, chain_high e n (g.physical / a) g.start.0 b r p)
      ]

  pub fork_once : (b : ℕ) → SoundFork e n a g → times b (fork_blocks e a g) ≤ 1
  unfolding fork_blocks block_count
  fork_once b s =
      elim (ℕ_discrete g.start.0 0) [
        | yes q ↦ omega (arith, empty_none e a g b (s.empty q).1)
        | no q ↦ chain_once e n (g.physical / a) g.start.0 b (chain_runs e n (s.chain q))
      ]

-- ---- 5, 8, 9 and 10: the map and all forks

abbrev no_fork : ForkFacts
no_fork = record { start = record { 0 = 0 }; logical = 0; physical = 0 }

-- a block is one of all the forks' where it is one of some fork's
module _ (e : ℕ → ℕ) (a : ℕ) (gs : List ForkFacts) where
  pub owned_find : (b : ℕ) → 1 ≤ times b (owned_blocks e a gs) → (i : ℕ) × (i < length gs) × HasBlock e a (fork_at gs i) b
  unfolding owned_blocks
  owned_find b h = flat_find (fork_blocks e a) no_fork b gs h

  pub find_owned : (b i : ℕ) → i < length gs → HasBlock e a (fork_at gs i) b → 1 ≤ times b (owned_blocks e a gs)
  unfolding owned_blocks
  find_owned b i l h = omega (arith, flat_one (fork_blocks e a) no_fork b gs i l)

module _ (e : ℕ → ℕ) (n a : ℕ) (gs : List ForkFacts) where
  -- no block is twice among those of forks that are sound and share none
  pub owned_once : ((i : ℕ) → i < length gs → SoundFork e n a (fork_at gs i))
      → ((i j b : ℕ) → i < j → j < length gs → HasBlock e a (fork_at gs i) b → HasBlock e a (fork_at gs j) b → ⊥)
      → (b : ℕ) → times b (owned_blocks e a gs) ≤ 1
  unfolding owned_blocks
  owned_once s h b = flat_once (fork_blocks e a) no_fork b gs (λ i l. fork_once e n a (fork_at gs i) b (s i l)) (λ i j. h i j b)

  -- check 8 asks it only of the blocks 2 to N+1: sound forks have no other
  pub shares_apart : ((i : ℕ) → i < length gs → SoundFork e n a (fork_at gs i)) → shares_none e n a gs ≡ true
      → (i j b : ℕ) → i < j → j < length gs → HasBlock e a (fork_at gs i) b → HasBlock e a (fork_at gs j) b → ⊥
  unfolding shares_none owned_blocks
  shares_apart s h i j b k l p q =
      let r = fork_block e n a (fork_at gs i) b (s i (omega arith)) p in
      let t = leb-true (times b (owned_blocks e a gs)) 1 (every_from (λ b. leb (times b (owned_blocks e a gs)) 1) n 2 h b r.0 (omega arith)) in
      omega (arith, flat_two (fork_blocks e a) no_fork b gs i j k l, t)

  pub sound_map : (free : ℕ) → fires5 e n ≡ false → fires8 e n a gs ≡ false → fires9 e n a gs ≡ false → fires10 e n free ≡ false → SoundMap e n a free gs
  unfolding fires8 fires9 fires10
  sound_map free h₅ h₈ h₉ h₁₀ = record {
    sorted = sorted_below e n h₅;
    forks = forks;
    apart = shares_apart forks split.1;
    owned = λ b low high some. owned_find e a gs b (held b low high some);
    counted = eqb-true free (length (blocks_free e n)) (not-false _ h₁₀);
  }
    where
      split : (every (good_fork e n a) gs ≡ true) × (shares_none e n a gs ≡ true)
      split = and-true (every (good_fork e n a) gs) (shares_none e n a gs) (not-false _ h₈)

      forks : (i : ℕ) → i < length gs → SoundFork e n a (fork_at gs i)
      forks i l = good_fork_lem e n a (fork_at gs i) (every_at (good_fork e n a) no_fork gs split.0 i l)

      held : (b : ℕ) → 2 ≤ b → b ≤ n + 1 → 1 ≤ e b → 1 ≤ times b (owned_blocks e a gs)
      held b low high some =
          let r = any_from (λ b. ltb 0 (e b) && eqb (times b (owned_blocks e a gs)) 0) n 2 h₉ b low (omega arith) in
          let z = eqb-false (times b (owned_blocks e a gs)) 0 (rw (lt-ltb 0 (e b) some) at r) in
          omega arith

  module _ (free : ℕ) (s : SoundMap e n a free gs) where
    pub map_pass5 : fires5 e n ≡ false
    map_pass5 = below_sorted e n s.sorted

    pub map_pass8 : fires8 e n a gs ≡ false
    unfolding fires8 shares_none
    map_pass8 =
        let p = at_every (good_fork e n a) no_fork gs (λ i l. fork_good e n a (fork_at gs i) (s.forks i l)) in
        let q = from_every (λ b. leb (times b (owned_blocks e a gs)) 1) n 2 (λ b _ _. le-leb _ 1 (owned_once s.forks s.apart b)) in
        rw (p, q)

    pub map_pass9 : fires9 e n a gs ≡ false
    unfolding fires9
    map_pass9 = from_any (λ b. ltb 0 (e b) && eqb (times b (owned_blocks e a gs)) 0) n 2 each
      where
        each : (b : ℕ) → 2 ≤ b → b < 2 + n → (ltb 0 (e b) && eqb (times b (owned_blocks e a gs)) 0) ≡ false
        each b low u =
            elim (ℕ_discrete (e b) 0) [
              | yes z ↦ rw (le-ltb 0 (e b) (omega arith))
              | no z ↦ let r = s.owned b low (omega arith) (omega arith) in
                  rw (lt-ltb 0 (e b) (omega arith)) (ne_eqb (times b (owned_blocks e a gs)) 0 (omega (arith, find_owned e a gs b r.0 r.1 r.2)))
            ]

    pub map_pass10 : fires10 e n free ≡ false
    unfolding fires10
    map_pass10 = ap not (eq-eqb free (length (blocks_free e n)) s.counted)

-- ---- the verdict

-- no check fires
pub record PassesAll (image : List ℕ) : Type 0 where
  pub pass1 : fires1 (length image) ≡ false
  pub pass2 : fires2 (facts_of image) ≡ false
  pub pass3 : fires3 (facts_of image) (blocks_in image) ≡ false
  pub pass4 : fires4 (facts_of image) ≡ false
  pub pass5 : fires5 (map_entry image) (N (facts_of image)) ≡ false
  pub pass6 : fires6 (directory image) ≡ false
  pub pass7 : fires7 (facts_of image).files (next_file_number (facts_of image)) (directory image) ≡ false
  pub pass8 : fires8 (map_entry image) (N (facts_of image)) (A (facts_of image)) (forks_in (directory image)) ≡ false
  pub pass9 : fires9 (map_entry image) (N (facts_of image)) (A (facts_of image)) (forks_in (directory image)) ≡ false
  pub pass10 : fires10 (map_entry image) (N (facts_of image)) (free_count (facts_of image)) ≡ false

-- the answer is 0 where this check fires not, and none behind it
pub else_zero : (t : Bool) (k r : ℕ) → or_else t (suc k) r ≡ 0 → (t ≡ false) × (r ≡ 0)
else_zero true k r e = absurd (omega arith)
else_zero false k r e = (refl, e)

module _ (image : List ℕ) where
  pub verdict_passes : verdict image ≡ 0 → PassesAll image
  unfolding verdict from2 from3 from4 from5 from6 from7 from8 from9
  verdict_passes h =
      let f = facts_of image in
      let e = map_entry image in
      let es = directory image in
      let gs = forks_in es in
      let h₁ = else_zero (fires1 (length image)) 0 (from2 f image) h in
      let h₂ = else_zero (fires2 f) 1 (from3 f image) h₁.1 in
      let h₃ = else_zero (fires3 f (blocks_in image)) 2 (from4 f image) h₂.1 in
      let h₄ = else_zero (fires4 f) 3 (from5 f image) h₃.1 in
      let h₅ = else_zero (fires5 e (N f)) 4 (from6 f e es) h₄.1 in
      let h₆ = else_zero (fires6 es) 5 (from7 f e es) h₅.1 in
      let h₇ = else_zero (fires7 f.files (next_file_number f) es) 6 (from8 f e gs) h₆.1 in
      let h₈ = else_zero (fires8 e (N f) (A f) gs) 7 (from9 f e gs) h₇.1 in
      let h₉ = else_zero (fires9 e (N f) (A f) gs) 8 _ h₈.1 in
      let h₁₀ = else_zero (fires10 e (N f) (free_count f)) 9 0 h₉.1 in
      record {
        pass1 = h₁.0;
        pass2 = h₂.0;
        pass3 = h₃.0;
        pass4 = h₄.0;
        pass5 = h₅.0;
        pass6 = h₆.0;
        pass7 = h₇.0;
        pass8 = h₈.0;
        pass9 = h₉.0;
        pass10 = h₁₀.0;
      }

  pub passes_verdict : PassesAll image → verdict image ≡ 0
  unfolding verdict from2 from3 from4 from5 from6 from7 from8 from9
  passes_verdict p =
      rw (p.pass1, p.pass2, p.pass3, p.pass4, p.pass5, p.pass6, p.pass7, p.pass8, p.pass9, p.pass10)

  pub passes_accepted : PassesAll image → Accepted image
  passes_accepted p = record {
    facts = sound_facts (facts_of image) (length image) p.pass1 p.pass2 p.pass3 p.pass4;
    files = sound_directory (facts_of image) (directory image) p.pass6 p.pass7;
    blocks = sound_map (map_entry image) (N (facts_of image)) (A (facts_of image)) (forks_in (directory image)) (free_count (facts_of image))
        p.pass5 p.pass8 p.pass9 p.pass10;
  }

  pub accepted_passes : Accepted image → PassesAll image
  accepted_passes s =
      let f = facts_of image in
      let e = map_entry image in
      let gs = forks_in (directory image) in
      record {
        pass1 = facts_pass1 f (length image) s.facts;
        pass2 = facts_pass2 f (length image) s.facts;
        pass3 = facts_pass3 f (length image) s.facts;
        pass4 = facts_pass4 f (length image) s.facts;
        pass5 = map_pass5 e (N f) (A f) gs (free_count f) s.blocks;
        pass6 = directory_pass6 f (directory image) s.files;
        pass7 = directory_pass7 f (directory image) s.files;
        pass8 = map_pass8 e (N f) (A f) gs (free_count f) s.blocks;
        pass9 = map_pass9 e (N f) (A f) gs (free_count f) s.blocks;
        pass10 = map_pass10 e (N f) (A f) gs (free_count f) s.blocks;
      }

  pub verdict_accepted : verdict image ≡ 0 → Accepted image
  verdict_accepted h = passes_accepted (verdict_passes h)

  pub accepted_verdict : Accepted image → verdict image ≡ 0
  accepted_verdict s = passes_verdict (accepted_passes s)

pub verdict_is_accepted : VerdictIsAccepted
unfolding VerdictIsAccepted
verdict_is_accepted image = (verdict_accepted image, accepted_verdict image)
