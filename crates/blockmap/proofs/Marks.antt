-- Laws of the marks: one fork's claim, and that claiming all forks one after the other is check 8 and gives check 9.
use Prim.Native.Nat.{ℕ, ◌+◌, ◌/◌, ◌%◌, ◌≤◌, ◌<◌}
use mathlib.Core.Path.{◌≡◌, refl, sym, ap, ◌∙◌}
use mathlib.Core.Bool.{Bool, true, false, ◌&&◌, not}
use mathlib.Core.List.{List, [], ◌∷◌, ◌++◌}
use native.Mathlib.Omega.{arith}
use native.Mathlib.Decide.{ℕ_discrete}
use native.Mathlib.Nat.{zero-div}
use lib.ListN.{length, get_or, set, replicate, length-replicate, length-set, get_or-replicate}
use lib.Seq.{get_or-set_same, get_or-set_other}
use lib.Dec.{eqb, leb, ltb}
use borrow.Author.Tests.{eq-eqb, ne_eqb, eqb-true, leb-true, le-leb, lt-ltb, not-false}
use Rattle.model.specs.Lists.{every, times, flat}
use Rattle.model.specs.Map.{chain_blocks}
use Rattle.model.specs.Directory.{block_count, fork_blocks, owned_blocks}
use Rattle.model.specs.Check.{empty_fork, full_fork, good_fork, shares_none, fires8, fires9, SoundFork, fork_at}
use Rattle.model.specs.declared.ForkFacts.{ForkFacts}
use Rattle.model.proofs.Lists.{and-true, not_so, every_at}
use Rattle.model.proofs.Times.{times_head, times_skip, times_tail, times_flat, every_from, from_every}
use Rattle.model.proofs.Map.{chain_runs}
use Rattle.model.proofs.Check.{good_fork_lem, fork_block, fork_once, owned_find}
use Rattle.blockmap.specs.Marks.{fresh, marked, claims, claim_all, unowned}
use Rattle.blockmap.proofs.Ranges.{any_same}
use Rattle.blockmap.proofs.Chains.{chain_most}
use Rattle.blockmap.proofs.Walks.{walks}

-- ---- one fork

module _ (e : ℕ → ℕ) (n a : ℕ) (t : List ℕ) (g : ForkFacts) where
  -- a fork that is claimed is sound
  pub claims_sound : claims e n a t g ≡ true → SoundFork e n a g
  unfolding claims
  claims_sound h = good_fork_lem e n a g (and-true (good_fork e n a g) (fresh t (fork_blocks e a g)) h).0

  -- so one that is not is refused
  pub refused : (SoundFork e n a g → ⊥) → false ≡ claims e n a t g
  refused h = sym (not_so (claims e n a t g) (λ c. h (claims_sound c)))

  -- a sound fork has at most N blocks
  pub sound_most : SoundFork e n a g → (g.start.0 ≡ 0 → ⊥) → g.physical / a ≤ n
  unfolding block_count
  sound_most s z = chain_most e n (g.physical / a) g.start.0 (chain_runs e n (s.chain z))

  -- no start and no length
  pub no_blocks : g.physical ≡ 0 → fork_blocks e a g ≡ []
  unfolding fork_blocks block_count chain_blocks
  no_blocks z = rw (z, zero-div)

  pub claims_empty : g.start.0 ≡ 0 → g.logical ≡ 0 → eqb g.physical 0 ≡ claims e n a t g
  unfolding claims good_fork empty_fork fresh
  claims_empty z l = rw (eq-eqb g.start.0 0 z, eq-eqb g.logical 0 l) (go (ℕ_discrete g.physical 0))
    where
      go : Dec (g.physical ≡ 0) → eqb g.physical 0 ≡ (eqb g.physical 0 && fresh t (fork_blocks e a g))
      go (yes q) = rw (eq-eqb g.physical 0 q, no_blocks q)
      go (no q) = rw (ne_eqb g.physical 0 q)

  pub empty_marked : g.physical ≡ 0 → t ≡ marked t (fork_blocks e a g)
  unfolding marked
  empty_marked z = rw (no_blocks z)

  -- a start and lengths that fit: what is left is the walk
  pub claims_walk : (g.start.0 ≡ 0 → ⊥) → (g.physical ≡ 0 → ⊥) → g.physical % a ≡ 0 → g.logical ≤ g.physical
      → (k : ℕ) → k ≡ block_count a g → walks e n t k g.start.0 ≡ claims e n a t g
  unfolding claims good_fork full_fork fork_blocks
  claims_walk z p m l k q =
      rw (q, ne_eqb g.start.0 0 z, lt-ltb 0 g.physical (omega arith), eq-eqb (g.physical % a) 0 m, le-leb g.logical g.physical l)

-- ---- all forks, one after the other

-- marks set one after the other
marked_append : (t xs ys : List ℕ) → marked t (xs ++ ys) ≡ marked (marked t xs) ys
unfolding marked
marked_append t [] ys = refl
marked_append t (x ∷ xs) ys = marked_append (set t x 1) xs ys

length_marked : (t bs : List ℕ) → length (marked t bs) ≡ length t
unfolding marked
length_marked t [] = refl
length_marked t (b ∷ bs) = length_marked (set t b 1) bs ∙ length-set t b 1

-- the forks' blocks, fork by fork
module _ (e : ℕ → ℕ) (a : ℕ) where
  owned_more : (g : ForkFacts) (gs : List ForkFacts) (b : ℕ)
      → times b (owned_blocks e a (g ∷ gs)) ≡ times b (fork_blocks e a g) + times b (owned_blocks e a gs)
  unfolding owned_blocks
  owned_more g gs b = times_flat (fork_blocks e a) b g gs

  owned_none : (b : ℕ) → times b (owned_blocks e a []) ≡ 0
  unfolding owned_blocks flat times
  owned_none b = refl

  -- the marks of all of them
  pub marked_none : (t : List ℕ) → t ≡ marked t (owned_blocks e a [])
  unfolding owned_blocks flat marked
  marked_none t = refl

  pub marked_more : (t : List ℕ) (g : ForkFacts) (gs : List ForkFacts)
      → marked t (owned_blocks e a (g ∷ gs)) ≡ marked (marked t (fork_blocks e a g)) (owned_blocks e a gs)
  unfolding owned_blocks flat
  marked_more t g gs = marked_append t (fork_blocks e a g) (owned_blocks e a gs)

-- of two runs of forks
pub marked_owned : (e : ℕ → ℕ) (a : ℕ) (t : List ℕ) (xs ys : List ForkFacts)
    → marked t (owned_blocks e a (xs ++ ys)) ≡ marked (marked t (owned_blocks e a xs)) (owned_blocks e a ys)
marked_owned e a t [] ys = ap (λ u. marked u (owned_blocks e a ys)) (marked_none e a t)
marked_owned e a t (g ∷ xs) ys =
    marked_more e a t g (xs ++ ys) ∙ marked_owned e a (marked t (fork_blocks e a g)) xs ys
    ∙ ap (λ u. marked u (owned_blocks e a ys)) (sym (marked_more e a t g xs))

-- one fork, and those behind it
module _ (e : ℕ → ℕ) (n a : ℕ) (t : List ℕ) (g : ForkFacts) (gs : List ForkFacts) where
  pub claim_on : claims e n a t g ≡ true → claim_all e n a t (g ∷ gs) ≡ claim_all e n a (marked t (fork_blocks e a g)) gs
  unfolding claim_all
  claim_on h = rw h

  pub claim_not : claims e n a t g ≡ false → claim_all e n a t (g ∷ gs) ≡ false
  unfolding claim_all
  claim_not h = rw h

-- two runs of forks, one behind the other
and_assoc : (x y z : Bool) → (x && (y && z)) ≡ ((x && y) && z)
and_assoc true y z = refl
and_assoc false y z = refl

module _ (e : ℕ → ℕ) (n a : ℕ) where
  pub claim_append : (t : List ℕ) (xs ys : List ForkFacts)
      → claim_all e n a t (xs ++ ys) ≡ (claim_all e n a t xs && claim_all e n a (marked t (owned_blocks e a xs)) ys)
  unfolding claim_all
  claim_append t [] ys = ap (λ u. claim_all e n a u ys) (marked_none e a t)
  claim_append t (g ∷ xs) ys =
      ap (λ r. claims e n a t g && r)
      (claim_append (marked t (fork_blocks e a g)) xs ys
      ∙ ap (λ u. claim_all e n a (marked t (fork_blocks e a g)) xs && claim_all e n a u ys) (sym (marked_more e a t g xs)))
      ∙ and_assoc (claims e n a t g) (claim_all e n a (marked t (fork_blocks e a g)) xs) (claim_all e n a (marked t (owned_blocks e a (g ∷ xs))) ys)

pub claim_none : (e : ℕ → ℕ) (n a : ℕ) (t : List ℕ) → claim_all e n a t [] ≡ true
unfolding claim_all
claim_none e n a t = refl

-- the marks say how often each block has been met
abbrev pub Marks : List ℕ → (ℕ → ℕ) → Type 0
Marks t c = (b : ℕ) → b < 642 → get_or t b 0 ≡ c b

-- the blocks are 2 to N+1, and each stands once
abbrev InBlocks : ℕ → List ℕ → Type 0
InBlocks n bs = (b : ℕ) → 1 ≤ times b bs → (2 ≤ b) × (b ≤ n + 1)

abbrev Once : List ℕ → Type 0
Once bs = (b : ℕ) → times b bs ≤ 1

abbrev Unmet : (ℕ → ℕ) → List ℕ → Type 0
Unmet c bs = (b : ℕ) → 1 ≤ times b bs → c b ≡ 0

other : (y x : ℕ) (bs : List ℕ) → times x (x ∷ bs) ≤ 1 → 1 ≤ times y bs → y ≡ x → ⊥
other y x bs d p q = let r : 1 ≤ times x bs = rw q at p in omega (arith, times_head x bs)

module _ (n : ℕ) (small : n ≤ 640) where
  fresh_clear : (t bs : List ℕ) (c : ℕ → ℕ) → Marks t c → InBlocks n bs → fresh t bs ≡ true → Unmet c bs
  unfolding fresh times
  fresh_clear t [] c m w h b p = absurd (omega arith)
  fresh_clear t (x ∷ bs) c m w h b p =
      let r = and-true (eqb (get_or t x 0) 0) (fresh t bs) h in
      elim (ℕ_discrete b x) [
        | yes q ↦ sym (m b (omega (arith, (w b p).1))) ∙ rw q (eqb-true (get_or t x 0) 0 r.0)
        | no q ↦ fresh_clear t bs c m (λ y i. w y (omega (arith, times_tail y x bs))) r.1 b (omega (arith, times_skip b x bs q))
      ]

  clear_fresh : (t bs : List ℕ) (c : ℕ → ℕ) → Marks t c → InBlocks n bs → Unmet c bs → fresh t bs ≡ true
  unfolding fresh
  clear_fresh t [] c m w h = refl
  clear_fresh t (x ∷ bs) c m w h =
      let p : 1 ≤ times x (x ∷ bs) = omega (arith, times_head x bs) in
      rw (eq-eqb (get_or t x 0) 0 (m x (omega (arith, (w x p).1)) ∙ h x p))
      (clear_fresh t bs c m (λ y i. w y (omega (arith, times_tail y x bs))) (λ y i. h y (omega (arith, times_tail y x bs))))

  marked_marks : (t bs : List ℕ) (c : ℕ → ℕ) → length t ≡ 642 → Marks t c → InBlocks n bs → Once bs → Unmet c bs
      → Marks (marked t bs) (λ b. times b bs + c b)
  unfolding marked times
  marked_marks t [] c e m w d h b p = m b p ∙ omega arith
  marked_marks t (x ∷ bs) c e m w d h b p =
      omega (
        arith,
        marked_marks (set t x 1) bs (λ y. times y (x ∷ []) + c y) (length-set t x 1 ∙ e) first (λ y r. w y (omega (arith, times_tail y x bs)))
            (λ y. omega (arith, d y, times_tail y x bs))
            (λ y r. omega (arith, times_skip y x [] (other y x bs (d x) r), h y (omega (arith, times_tail y x bs)))) b p,
      )
    where
      first : Marks (set t x 1) (λ y. times y (x ∷ []) + c y)
      first y r =
          elim (ℕ_discrete y x) [
            | yes q ↦ rw q (get_or-set_same t x 1 0 (omega arith) ∙ omega (arith, times_head x [], h x (omega (arith, times_head x bs))))
            | no q ↦ get_or-set_other t x y 1 0 q ∙ m y r ∙ omega (arith, times_skip y x [] q)
          ]

  module _ (e : ℕ → ℕ) (a : ℕ) where
    within : (g : ForkFacts) → good_fork e n a g ≡ true → InBlocks n (fork_blocks e a g)
    within g h b p = fork_block e n a g b (good_fork_lem e n a g h) p

    once : (g : ForkFacts) → good_fork e n a g ≡ true → Once (fork_blocks e a g)
    once g h b = fork_once e n a g b (good_fork_lem e n a g h)

    -- what it means that all are claimed
    pub record Claimed (t : List ℕ) (c : ℕ → ℕ) (gs : List ForkFacts) : Type 0 where
      pub good : every (good_fork e n a) gs ≡ true
      pub single : (b : ℕ) → 1 ≤ times b (owned_blocks e a gs) → times b (owned_blocks e a gs) + c b ≤ 1
      pub marks : Marks (marked t (owned_blocks e a gs)) (λ b. times b (owned_blocks e a gs) + c b)

    claimed : (t : List ℕ) (c : ℕ → ℕ) (gs : List ForkFacts) → length t ≡ 642 → Marks t c → claim_all e n a t gs ≡ true → Claimed t c gs
    unfolding claim_all claims every
    claimed t c [] l m h = record {
      good = refl;
      single = λ b p. omega (arith, owned_none e a b);
      marks = λ b p. ap (λ u. get_or u b 0) (sym (marked_none e a t)) ∙ m b p ∙ omega (arith, owned_none e a b);
    }
    claimed t c (g ∷ gs) l m h =
        let bs = fork_blocks e a g in
        let r = and-true (claims e n a t g) (claim_all e n a (marked t bs) gs) h in
        let f = and-true (good_fork e n a g) (fresh t bs) r.0 in
        let w = within g f.0 in
        let d = once g f.0 in
        let z = fresh_clear t bs c m w f.1 in
        let i = claimed (marked t bs) (λ b. times b bs + c b) gs (length_marked t bs ∙ l) (marked_marks t bs c l m w d z) r.1 in
        record {
          good = rw f.0 i.good;
          single = λ b p.
              let o = owned_more e a g gs b in
              elim (ℕ_discrete (times b (owned_blocks e a gs)) 0)
              [ yes q ↦ omega (arith, z b (omega arith), d b) | no q ↦ omega (arith, i.single b (omega arith)) ];
          marks = λ b p. ap (λ u. get_or u b 0) (marked_more e a t g gs) ∙ i.marks b p ∙ omega (arith, owned_more e a g gs b);
        }

    -- and where it holds all are claimed
    claiming : (t : List ℕ) (c : ℕ → ℕ) (gs : List ForkFacts) → length t ≡ 642 → Marks t c → every (good_fork e n a) gs ≡ true
        → ((b : ℕ) → 1 ≤ times b (owned_blocks e a gs) → times b (owned_blocks e a gs) + c b ≤ 1) → claim_all e n a t gs ≡ true
    unfolding claim_all claims every
    claiming t c [] l m h k = refl
    claiming t c (g ∷ gs) l m h k =
        let bs = fork_blocks e a g in
        let r = and-true (good_fork e n a g) (every (good_fork e n a) gs) h in
        let w = within g r.0 in
        let d = once g r.0 in
        let z : Unmet c bs = λ b p. omega (arith, owned_more e a g gs b, k b (omega (arith, owned_more e a g gs b))) in
        rw (r.0, clear_fresh t bs c m w z)
        (claiming (marked t bs) (λ b. times b bs + c b) gs (length_marked t bs ∙ l) (marked_marks t bs c l m w d z) r.1
        (λ b p. omega (arith, owned_more e a g gs b, k b (omega (arith, owned_more e a g gs b)))))

    -- from marks that are all 0
    zero_marks : Marks (replicate 642 0) (λ b. 0)
    zero_marks b p = get_or-replicate 642 b 0 0 p

    from_zeros : (gs : List ForkFacts) → claim_all e n a (replicate 642 0) gs ≡ true → Claimed (replicate 642 0) (λ b. 0) gs
    from_zeros gs h = claimed (replicate 642 0) (λ b. 0) gs (length-replicate {A = ℕ} 642 0) zero_marks h

    to : (gs : List ForkFacts) → claim_all e n a (replicate 642 0) gs ≡ true → fires8 e n a gs ≡ false
    unfolding fires8 shares_none
    to gs h =
        let k = from_zeros gs h in
        let f = from_every (λ b. leb (times b (owned_blocks e a gs)) 1) n 2
        (λ b low high. le-leb (times b (owned_blocks e a gs)) 1
        (elim (ℕ_discrete (times b (owned_blocks e a gs)) 0) [ yes q ↦ omega arith | no q ↦ omega (arith, k.single b (omega arith)) ])) in
        rw (k.good, f)

    back : (gs : List ForkFacts) → fires8 e n a gs ≡ false → claim_all e n a (replicate 642 0) gs ≡ true
    unfolding fires8 shares_none
    back gs h =
        let r = and-true (every (good_fork e n a) gs) (shares_none e n a gs) (not-false _ h) in
        claiming (replicate 642 0) (λ b. 0) gs (length-replicate {A = ℕ} 642 0) zero_marks r.0
        (λ b p.
        let i = owned_find e a gs b p in
        let g = every_at (good_fork e n a) (fork_at [] 0) gs r.0 i.0 i.1 in
        let o = fork_block e n a (fork_at gs i.0) b (good_fork_lem e n a (fork_at gs i.0) g) i.2 in
        let t = every_from (λ b. leb (times b (owned_blocks e a gs)) 1) n 2 r.1 b o.0 (omega arith) in
        omega (arith, leb-true (times b (owned_blocks e a gs)) 1 t))

    -- check 8 is that all forks are claimed, one after the other
    pub fires8_claim : (gs : List ForkFacts) → fires8 e n a gs ≡ not (claim_all e n a (replicate 642 0) gs)
    fires8_claim gs = go (fires8 e n a gs) (claim_all e n a (replicate 642 0) gs) (to gs) (back gs)
      where
        go : (x y : Bool) → (y ≡ true → x ≡ false) → (x ≡ false → y ≡ true) → x ≡ not y
        go true true f g = f refl
        go true false f g = refl
        go false true f g = refl
        go false false f g = g refl

    -- and then the marks are 1 on the forks' blocks and 0 on all others
    pub claim_marks : (gs : List ForkFacts) → claim_all e n a (replicate 642 0) gs ≡ true
        → (b : ℕ) → b < 642 → get_or (marked (replicate 642 0) (owned_blocks e a gs)) b 0 ≡ times b (owned_blocks e a gs)
    claim_marks gs h b p = (from_zeros gs h).marks b p ∙ omega arith

    -- so that check 9 can be read off them
    pub fires9_unowned : (gs : List ForkFacts) → claim_all e n a (replicate 642 0) gs ≡ true
        → fires9 e n a gs ≡ unowned e n (marked (replicate 642 0) (owned_blocks e a gs))
    unfolding fires9 unowned
    fires9_unowned gs h =
        any_same (λ b. ltb 0 (e b) && eqb (times b (owned_blocks e a gs)) 0)
        (λ b. ltb 0 (e b) && eqb (get_or (marked (replicate 642 0) (owned_blocks e a gs)) b 0) 0) n 2
        (λ b low high. ap (λ x. ltb 0 (e b) && eqb x 0) (sym (claim_marks gs h b (omega arith))))
