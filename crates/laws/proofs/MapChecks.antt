-- The map passes checks 5, 8, 9 and 10 exactly where it is sound for the forks' lists of blocks and the free count is right.
use mathlib.Core.Path.{◌≡◌, refl, ap}
use mathlib.Core.List.{List, [], ◌∷◌, ◌++◌, map, map-append}
use mathlib.Core.Bool.{Bool, true, false, ◌&&◌, not}
use Prim.Native.Nat.{ℕ, ◌+◌, ◌≤◌, ◌<◌}
use native.Mathlib.Omega.{arith}
use native.Mathlib.Decide.{ℕ_discrete}
use lib.ListN.{length, length-append}
use lib.Dec.{eqb, leb, ltb}
use borrow.Author.Tests.{eq-eqb, ne_eqb, eqb-true, leb-true, le-leb, lt-ltb, le-ltb, not-false}
use Rattle.model.specs.Lists.{every, times, flat}
use Rattle.model.specs.Map.{blocks_free}
use Rattle.model.specs.Directory.{block_count, fork_blocks, owned_blocks}
use Rattle.model.specs.Check.{good_fork, shares_none, fires5, fires8, fires9, fires10, SoundMap}
use Rattle.model.specs.declared.ForkFacts.{ForkFacts}
use Rattle.model.proofs.Lists.{and-true, so_not, flat_append}
use Rattle.model.proofs.Times.{every_from, from_every, any_from, from_any}
use Rattle.model.proofs.Check.{below_sorted, sound_map, map_pass5, map_pass8, map_pass9, map_pass10}
use Rattle.laws.proofs.Sound.{held, Each, Linked, used, Sound}
use Rattle.laws.proofs.Chains.{Fields, length_fork_blocks, good, fields_blocks, fields_good}
use Rattle.laws.proofs.Free.{held_flat, free_count_lem}

-- the map of n entries passes 5, 8, 9 and 10 with these forks and this free count
pub record MapPasses (e : ℕ → ℕ) (n a free : ℕ) (gs : List ForkFacts) : Type 0 where
  pub pass5 : fires5 e n ≡ false
  pub pass8 : fires8 e n a gs ≡ false
  pub pass9 : fires9 e n a gs ≡ false
  pub pass10 : fires10 e n free ≡ false

-- the same as plain facts
pub passes_sound : (e : ℕ → ℕ) (n a free : ℕ) (gs : List ForkFacts) → MapPasses e n a free gs → SoundMap e n a free gs
passes_sound e n a free gs h = sound_map e n a gs free h.pass5 h.pass8 h.pass9 h.pass10

pub sound_passes : (e : ℕ → ℕ) (n a free : ℕ) (gs : List ForkFacts) → SoundMap e n a free gs → MapPasses e n a free gs
sound_passes e n a free gs s = record {
  pass5 = map_pass5 e n a gs free s;
  pass8 = map_pass8 e n a gs free s;
  pass9 = map_pass9 e n a gs free s;
  pass10 = map_pass10 e n a gs free s;
}

-- ---- from the checks to the lists of blocks

every_each : {A : Type 0} (f : A → Bool) (l : List A) → every f l ≡ true → Each (λ x. f x ≡ true) l
unfolding Each every
every_each f [] h = tt
every_each f (x ∷ l) h = let q = and-true (f x) (every f l) h in (q.0, every_each f l q.1)

each_every : {A : Type 0} (f : A → Bool) (l : List A) → Each (λ x. f x ≡ true) l → every f l ≡ true
unfolding Each every
each_every f [] h = refl
each_every f (x ∷ l) h = rw h.0 (each_every f l h.1)

-- the fields of the forks fit the lists, one by one
unfoldable pub Fit : ℕ → List ForkFacts → List (List ℕ) → Type 0
Fit a [] [] = Unit {0}
Fit a [] (bs ∷ bss) = ⊥
Fit a (g ∷ gs) [] = ⊥
Fit a (g ∷ gs) (bs ∷ bss) = Fields a g bs × Fit a gs bss

-- the reading of an accepted map: each fork's list of blocks
abbrev pub lists : (ℕ → ℕ) → ℕ → List ForkFacts → List (List ℕ)
lists e a gs = map (fork_blocks e a) gs

goods : (e : ℕ → ℕ) (n a : ℕ) (gs : List ForkFacts) → Each (λ g. good_fork e n a g ≡ true) gs → Fit a gs (lists e a gs) × Each (Linked e n) (lists e a gs)
unfolding Fit Each
goods e n a [] h = (tt, tt)
goods e n a (g ∷ gs) h =
    let p = good e n a g h.0 in
    let r = goods e n a gs h.1 in
    ((p.0, r.0), (p.1, r.1))

module _ (e : ℕ → ℕ) (n a : ℕ) (gs : List ForkFacts) (h : fires8 e n a gs ≡ false) where
  eight : (every (good_fork e n a) gs ≡ true) × (shares_none e n a gs ≡ true)
  unfolding fires8
  eight = and-true (every (good_fork e n a) gs) (shares_none e n a gs) (not-false _ h)

  pub fit : Fit a gs (lists e a gs)
  fit = (goods e n a gs (every_each (good_fork e n a) gs eight.0)).0

  links : Each (Linked e n) (lists e a gs)
  links = (goods e n a gs (every_each (good_fork e n a) gs eight.0)).1

  -- check 8 asks it only of the blocks 2 to N+1: linked blocks are no others
  once : (b : ℕ) → held b (lists e a gs) ≤ 1
  unfolding shares_none owned_blocks
  once b =
      elim (ℕ_discrete (held b (lists e a gs)) 0) [
        | yes z ↦ omega arith
        | no z ↦ let u = used e n (lists e a gs) b links (omega arith) in
            let t = every_from (λ b. leb (times b (owned_blocks e a gs)) 1) n 2 eight.1 b u.low (omega arith) in
            omega (arith, held_flat b (lists e a gs), leb-true (times b (flat (lists e a gs))) 1 t)
      ]

  -- what passes 8 and 9 is sound
  pub sound : fires9 e n a gs ≡ false → Sound e n (lists e a gs)
  unfolding fires9 owned_blocks
  sound k = record {
    linked = links;
    once = once;
    rest = λ b low high z.
        let r = any_from (λ b. ltb 0 (e b) && eqb (times b (owned_blocks e a gs)) 0) n 2 k b low (omega arith) in
        let t = eq-eqb (times b (flat (lists e a gs))) 0 (omega (arith, held_flat b (lists e a gs))) in
        elim (ℕ_discrete (e b) 0) [ yes q ↦ q | no q ↦ absurd (so_not _ r (rw (lt-ltb 0 (e b) (omega arith), t))) ];
  }

-- ---- and back

-- the lists of a sound map are what the forks read as
pub reads : (e : ℕ → ℕ) (n a : ℕ) (gs : List ForkFacts) (bss : List (List ℕ)) → 0 < a → Fit a gs bss → Each (Linked e n) bss → lists e a gs ≡ bss
unfolding Fit Each
reads e n a [] [] pos f l = refl
reads e n a [] (bs ∷ bss) pos f l = absurd f
reads e n a (g ∷ gs) [] pos f l = absurd f
reads e n a (g ∷ gs) (bs ∷ bss) pos f l = rw (fields_blocks e n a g bs pos l.0 f.0, reads e n a gs bss pos f.1 l.1)

goods_back : (e : ℕ → ℕ) (n a : ℕ) (gs : List ForkFacts) (bss : List (List ℕ)) → 0 < a → Fit a gs bss → Each (Linked e n) bss
    → Each (λ g. good_fork e n a g ≡ true) gs
unfolding Fit Each
goods_back e n a [] [] pos f l = tt
goods_back e n a [] (bs ∷ bss) pos f l = absurd f
goods_back e n a (g ∷ gs) [] pos f l = absurd f
goods_back e n a (g ∷ gs) (bs ∷ bss) pos f l = (fields_good e n a g bs pos l.0 f.0, goods_back e n a gs bss pos f.1 l.1)

module _ (e : ℕ → ℕ) (n a : ℕ) (gs : List ForkFacts) (bss : List (List ℕ)) (pos : 0 < a) (f : Fit a gs bss) (s : Sound e n bss) where
  owned_flat : owned_blocks e a gs ≡ flat bss
  unfolding owned_blocks
  owned_flat = ap flat (reads e n a gs bss pos f s.linked)

  passes5 : fires5 e n ≡ false
  passes5 = below_sorted e n λ b low high.
      elim (ℕ_discrete (held b bss) 0) [ yes z ↦ omega (arith, s.rest b low high z) | no z ↦ (used e n bss b s.linked (omega arith)).good ]

  passes8 : fires8 e n a gs ≡ false
  unfolding fires8 shares_none
  passes8 =
      let p = each_every (good_fork e n a) gs (goods_back e n a gs bss pos f s.linked) in
      let q = from_every (λ b. leb (times b (flat bss)) 1) n 2 (λ b low high. le-leb (times b (flat bss)) 1 (omega (arith, s.once b, held_flat b bss))) in
      rw (p, owned_flat, q)

  passes9 : fires9 e n a gs ≡ false
  unfolding fires9
  passes9 = rw owned_flat (from_any (λ b. ltb 0 (e b) && eqb (times b (flat bss)) 0) n 2 each)
    where
      each : (b : ℕ) → 2 ≤ b → b < 2 + n → (ltb 0 (e b) && eqb (times b (flat bss)) 0) ≡ false
      each b low high =
          elim (ℕ_discrete (held b bss) 0) [
            | yes z ↦ rw (le-ltb 0 (e b) (omega (arith, s.rest b low (omega arith) z)))
            | no z ↦ let u = used e n bss b s.linked (omega arith) in
                rw (lt-ltb 0 (e b) (omega arith)) (ne_eqb (times b (flat bss)) 0 (omega (arith, held_flat b bss)))
          ]

  passes10 : (free : ℕ) → free + length (flat bss) ≡ n → fires10 e n free ≡ false
  unfolding fires10
  passes10 free h = ap not (eq-eqb free (length (blocks_free e n)) (omega (arith, free_count_lem e n bss s)))

-- the same said of each fork's list of blocks
pub record Lists (e : ℕ → ℕ) (n a free : ℕ) (gs : List ForkFacts) (bss : List (List ℕ)) : Type 0 where
  pub fits : Fit a gs bss
  pub sound : Sound e n bss
  pub count : free + length (flat bss) ≡ n

pub free_length : (e : ℕ → ℕ) (n a free : ℕ) (gs : List ForkFacts) → MapPasses e n a free gs → free ≡ length (blocks_free e n)
unfolding fires10
free_length e n a free gs h = eqb-true free (length (blocks_free e n)) (not-false _ h.pass10)

pub to_lists : (e : ℕ → ℕ) (n a free : ℕ) (gs : List ForkFacts) → MapPasses e n a free gs → Lists e n a free gs (lists e a gs)
to_lists e n a free gs h =
    let s = sound e n a gs h.pass8 h.pass9 in
    record {
      fits = fit e n a gs h.pass8;
      sound = s;
      count = omega (arith, free_count_lem e n (lists e a gs) s, free_length e n a free gs h);
    }

pub from_lists : (e : ℕ → ℕ) (n a free : ℕ) (gs : List ForkFacts) (bss : List (List ℕ)) → 0 < a → Lists e n a free gs bss → MapPasses e n a free gs
from_lists e n a free gs bss pos h = record {
  pass5 = passes5 e n a gs bss pos h.fits h.sound;
  pass8 = passes8 e n a gs bss pos h.fits h.sound;
  pass9 = passes9 e n a gs bss pos h.fits h.sound;
  pass10 = passes10 e n a gs bss pos h.fits h.sound free h.count;
}

-- ---- forks before and behind

pub fit_left : (e : ℕ → ℕ) (a : ℕ) (p s : List ForkFacts) → Fit a (p ++ s) (lists e a (p ++ s)) → Fit a p (lists e a p)
unfolding Fit
fit_left e a [] s h = tt
fit_left e a (g ∷ p) s h = (h.0, fit_left e a p s h.1)

pub fit_right : (e : ℕ → ℕ) (a : ℕ) (p s : List ForkFacts) → Fit a (p ++ s) (lists e a (p ++ s)) → Fit a s (lists e a s)
unfolding Fit
fit_right e a [] s h = h
fit_right e a (g ∷ p) s h = fit_right e a p s h.1

fit_join : (a : ℕ) (p s : List ForkFacts) (x y : List (List ℕ)) → Fit a p x → Fit a s y → Fit a (p ++ s) (x ++ y)
unfolding Fit
fit_join a [] s [] y h k = k
fit_join a [] s (b ∷ x) y h k = absurd h
fit_join a (g ∷ p) s [] y h k = absurd h
fit_join a (g ∷ p) s (b ∷ x) y h k = (h.0, fit_join a p s x y h.1 k)

size_append : (x y : List (List ℕ)) → length (flat (x ++ y)) ≡ length (flat x) + length (flat y)
size_append x y = rw (flat_append x y) (length-append (flat x) (flat y))

-- ---- the changes: the forks m of a file become m', with the blocks x, given the sound map that is left (`write-map`, `cut_sound`, `delete_sound`)

pub replaced : (e e' : ℕ → ℕ) (n a free free' : ℕ) (p m m' s : List ForkFacts) (x : List (List ℕ)) → MapPasses e n a free (p ++ (m ++ s)) → Fit a m' x
    → free' + length (flat x) ≡ free + length (flat (lists e a m)) → Sound e' n (lists e a p ++ (x ++ lists e a s))
    → Lists e' n a free' (p ++ (m' ++ s)) (lists e a p ++ (x ++ lists e a s))
replaced e e' n a free free' p m m' s x h f c k =
    let t = to_lists e n a free (p ++ (m ++ s)) h in
    let r = fit_right e a m s (fit_right e a p (m ++ s) t.fits) in
    let z = rw (map-append (fork_blocks e a) p (m ++ s), map-append (fork_blocks e a) m s) at t.count in
    record {
      fits = fit_join a p (m' ++ s) (lists e a p) (x ++ lists e a s) (fit_left e a p (m ++ s) t.fits) (fit_join a m' s x (lists e a s) f r);
      sound = k;
      count = omega (
        arith,
        size_append (lists e a p) (x ++ lists e a s),
        size_append x (lists e a s),
        size_append (lists e a p) (lists e a m ++ lists e a s),
        size_append (lists e a m) (lists e a s),
      );
    }

-- the sound map before it, in that form
pub parted : (e : ℕ → ℕ) (n a free : ℕ) (p m s : List ForkFacts) → MapPasses e n a free (p ++ (m ++ s))
    → Sound e n (lists e a p ++ (lists e a m ++ lists e a s))
parted e n a free p m s h = rw (map-append (fork_blocks e a) p (m ++ s), map-append (fork_blocks e a) m s) at (to_lists e n a free (p ++ (m ++ s)) h).sound

-- ---- free blocks and all forks' blocks are N

unfoldable pub block_counts : ℕ → List ForkFacts → ℕ
block_counts a [] = 0
block_counts a (g ∷ gs) = block_count a g + block_counts a gs

count_lists : (e : ℕ → ℕ) (a : ℕ) (gs : List ForkFacts) → length (flat (lists e a gs)) ≡ block_counts a gs
unfolding flat block_counts
count_lists e a [] = refl
count_lists e a (g ∷ gs) = omega (arith, length-append (fork_blocks e a g) (flat (lists e a gs)), length_fork_blocks e a g, count_lists e a gs)

pub all_blocks : (e : ℕ → ℕ) (n a free : ℕ) (gs : List ForkFacts) → MapPasses e n a free gs → free + block_counts a gs ≡ n
all_blocks e n a free gs h = omega (arith, (to_lists e n a free gs h).count, count_lists e a gs)
