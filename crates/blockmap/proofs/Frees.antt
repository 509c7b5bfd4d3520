-- A chain freed block by block, as a loop does it.
use Prim.Native.Nat.{ℕ, zero, suc, ◌+◌, ◌≤◌, ◌<◌}
use mathlib.Core.Path.{◌≡◌, refl, sym, ap, ◌∙◌}
use mathlib.Core.Bool.{true}
use mathlib.Core.List.{List, [], ◌∷◌}
use mathlib.Core.Logic.{◌≢◌}
use native.Mathlib.Omega.{arith}
use lib.ListN.{length}
use Rattle.model.specs.Lists.{times}
use Rattle.model.specs.Map.{map_entry, set_entry, behind, runs, chain_blocks, put_free}
use Rattle.laws.proofs.Entries.{length_set_entry, map_entry_set_entry_other}
use Rattle.model.proofs.Times.{times_tail}
use Rattle.model.proofs.Map.{chain_once, length_chain}
use Rattle.laws.proofs.Sound.{held, Each, Linked, linked_keep, used}
use Rattle.laws.proofs.Chains.{runs_linked}
use Rattle.laws.proofs.Joins.{Once, other}

-- linked blocks are blocks
linked_low : (e : ℕ → ℕ) (n : ℕ) (bs : List ℕ) (b : ℕ) → Linked e n bs → 1 ≤ times b bs → 2 ≤ b
unfolding held Each
linked_low e n bs b h p = (used e n (bs ∷ []) b (h, tt) (omega arith)).low

-- so many blocks of a chain are still due, b is the next, m is the image so far and l the one that is to be left
pub record Freeing (n : ℕ) (m : List ℕ) (b left : ℕ) (l : List ℕ) : Type 0 where
  pub rest : List ℕ
  pub big : 2048 ≤ length m
  pub count : length rest ≡ left
  pub first : 0 < left → behind rest ≡ b
  pub linked : Linked (map_entry m) n rest
  pub once : Once rest
  pub leaves : put_free m rest ≡ l

pub freeing : (n k s : ℕ) (l : List ℕ) → 2048 ≤ length l → (0 < k → runs (map_entry l) n k s ≡ true)
    → Freeing n l s k (put_free l (chain_blocks (map_entry l) k s))
unfolding chain_blocks Linked times
freeing n zero s l big h = record {
  rest = [];
  big = big;
  count = refl;
  first = λ p. absurd (omega arith);
  linked = tt;
  once = λ b. omega arith;
  leaves = refl;
}
freeing n (suc k) s l big h =
    let e = map_entry l in
    let c = h (omega arith) in
    let g = runs_linked e n (suc k) s c in
    record {
      rest = chain_blocks e (suc k) s;
      big = big;
      count = length_chain e (suc k) s;
      first = λ p. g.1;
      linked = g.0;
      once = λ b. chain_once e n (suc k) s b c;
      leaves = refl;
    }

module _ (n b left : ℕ) (m l : List ℕ) where
  -- the next is a block
  pub free_block : 0 < left → Freeing n m b left l → (2 ≤ b) × (b ≤ n + 1)
  unfolding behind Linked
  free_block h f = go f.rest f.count (f.first h) f.linked
    where
      go : (r : List ℕ) → length r ≡ left → behind r ≡ b → Linked (map_entry m) n r → (2 ≤ b) × (b ≤ n + 1)
      go [] c q k = absurd (omega arith)
      go (x ∷ r) c q k = (omega (arith, k.0), omega (arith, k.1))

  -- it gets the entry 0, and what its entry was is the next one
  free_step : (left' : ℕ) → n ≤ 640 → left ≡ suc left' → Freeing n m b left l → Freeing n (set_entry m b 0) (map_entry m b) left' l
  unfolding behind Linked put_free
  free_step left' small h f = go f.rest f.count (f.first (omega arith)) f.linked f.once f.leaves
    where
      in_map : (2 ≤ b) × (b ≤ n + 1)
      in_map = free_block (omega arith) f

      go : (r : List ℕ) → length r ≡ left → behind r ≡ b → Linked (map_entry m) n r → Once r → put_free m r ≡ l
          → Freeing n (set_entry m b 0) (map_entry m b) left' l
      go [] c q k o e = absurd (omega arith)
      go (x ∷ r) c q k o e = record {
        rest = r;
        big = omega (arith, length_set_entry m b 0, f.big);
        count = omega arith;
        first = λ p. sym k.2 ∙ ap (map_entry m) q;
        linked = linked_keep (map_entry m) (map_entry (set_entry m b 0)) n r k.3 (λ y p.
            let apart : y ≢ b = λ z. other y x r (o x) p (z ∙ sym q) in
            map_entry_set_entry_other m b 0 y (omega (arith, in_map.1, f.big)) (omega arith) in_map.0 (linked_low (map_entry m) n r y k.3 p) apart);
        once = λ y. omega (arith, o y, times_tail y x r);
        leaves = ap (λ z. put_free (set_entry m z 0) r) (sym q) ∙ e;
      }

  pub free_next : (m' : List ℕ) (x left' : ℕ) → m' ≡ set_entry m b 0 → x ≡ map_entry m b → n ≤ 640 → left ≡ suc left' → Freeing n m b left l → Freeing n m' x left' l
  free_next m' x left' p q small h f = rw (p, q) (free_step left' small h f)

  -- none is left
  pub freed : left ≡ 0 → Freeing n m b left l → m ≡ l
  unfolding put_free
  freed h f = go f.rest f.count f.leaves
    where
      go : (r : List ℕ) → length r ≡ left → put_free m r ≡ l → m ≡ l
      go [] c e = e
      go (x ∷ r) c e = absurd (omega arith)
