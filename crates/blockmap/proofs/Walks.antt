-- Laws of the walk: its answer and its marks, step by step.
use Prim.Native.Nat.{ℕ, zero, suc, ◌+◌, ◌<◌}
use mathlib.Core.Path.{◌≡◌, refl, sym}
use mathlib.Core.Bool.{Bool, true, false, ◌&&◌, and-false}
use mathlib.Core.List.{List, [], ◌∷◌}
use native.Mathlib.Omega.{arith}
use lib.ListN.{get_or, set}
use lib.Seq.{get_or-set_other}
use lib.Dec.{eqb, leb}
use borrow.Author.Tests.{eq-eqb, ne_eqb, lt-leb}
use Rattle.model.specs.Lists.{times}
use Rattle.model.specs.Map.{is_block, runs, chain_blocks}
use Rattle.model.proofs.Times.{times_head, times_tail}
use Rattle.model.proofs.Map.{chain_once, runs_more}
use Rattle.blockmap.specs.Marks.{fresh, marked}

-- a mark on a block that is not among them changes nothing for them
fresh_set : (t : List ℕ) (s v : ℕ) (bs : List ℕ) → times s bs ≡ 0 → fresh (set t s v) bs ≡ fresh t bs
unfolding fresh
fresh_set t s v [] z = refl
fresh_set t s v (b ∷ bs) z =
    let d : b ≡ s → ⊥ = λ q. let y : times s (s ∷ bs) ≡ 0 = rw q at z in omega (arith, times_head s bs) in
    rw (get_or-set_other t s b v 0 d, fresh_set t s v bs (omega (arith, times_tail s b bs)))

-- one step of a chain, from a block and from none
pub runs_in : (e : ℕ → ℕ) (n k s : ℕ) → is_block n s ≡ true → runs e n (suc k) s ≡ runs e n k (e s)
unfolding runs
runs_in e n k s p = rw (runs, p)

pub runs_out : (e : ℕ → ℕ) (n k s : ℕ) → is_block n s ≡ false → runs e n (suc k) s ≡ false
unfolding runs
runs_out e n k s p = rw (runs, p)

module _ (e : ℕ → ℕ) (n : ℕ) (t : List ℕ) where
  -- a chain of k blocks runs from s and none of them is marked
  abbrev pub walks : ℕ → ℕ → Bool
  walks k s = runs e n k s && fresh t (chain_blocks e k s)

  -- no block is due
  pub walk_ends : (k s : ℕ) → k ≡ 0 → eqb s 1 ≡ walks k s
  unfolding runs chain_blocks fresh
  walk_ends k s z = rw z (go (eqb s 1))
    where
      go : (b : Bool) → b ≡ (b && true)
      go true = refl
      go false = refl

  -- s is no block
  pub walk_none : (k s : ℕ) → (k ≡ 0 → ⊥) → is_block n s ≡ false → false ≡ walks k s
  walk_none zero s h p = absurd (h refl)
  walk_none (suc k) s h p = rw (runs_out e n k s p)

  -- s is marked
  pub walk_met : (k s : ℕ) → (k ≡ 0 → ⊥) → (get_or t s 0 ≡ 0 → ⊥) → false ≡ walks k s
  unfolding chain_blocks fresh
  walk_met zero s h p = absurd (h refl)
  walk_met (suc k) s h p = rw (ne_eqb (get_or t s 0) 0 p) (sym (and-false (runs e n (suc k) s)))

-- s is a block without a mark: one block less is due, with a mark on s
pub walk_on : (e : ℕ → ℕ) (n : ℕ) (t : List ℕ) (k j s : ℕ) → k ≡ suc j → is_block n s ≡ true → get_or t s 0 ≡ 0
    → walks e n (set t s 1) j (e s) ≡ walks e n t k s
unfolding chain_blocks fresh
walk_on e n t k j s q p z = rw (q, runs_in e n j s p, eq-eqb (get_or t s 0) 0 z) (go (runs e n j (e s)) refl)
  where
    go : (r : Bool) → runs e n j (e s) ≡ r → (r && fresh (set t s 1) (chain_blocks e j (e s))) ≡ (r && fresh t (chain_blocks e j (e s)))
    go true h =
        let o = chain_once e n (suc j) s s (runs_more e n j s p h) in
        fresh_set t s 1 (chain_blocks e j (e s)) (omega (arith, times_head s (chain_blocks e j (e s))))
    go false h = refl

-- the marks
pub ends_marked : (e : ℕ → ℕ) (t : List ℕ) (k s : ℕ) → k ≡ 0 → t ≡ marked t (chain_blocks e k s)
unfolding chain_blocks marked
ends_marked e t k s z = rw z

pub on_marked : (e : ℕ → ℕ) (t : List ℕ) (k j s : ℕ) → k ≡ suc j → marked (set t s 1) (chain_blocks e j (e s)) ≡ marked t (chain_blocks e k s)
unfolding chain_blocks marked
on_marked e t k j s q = rw q

-- what is no block
pub too_low : (n b : ℕ) → b < 2 → is_block n b ≡ false
unfolding is_block
too_low n b h = rw (lt-leb 2 b h)

pub too_high : (n b : ℕ) → n + 1 < b → is_block n b ≡ false
unfolding is_block
too_high n b h = rw (lt-leb b (n + 1) h) (and-false (leb 2 b))
