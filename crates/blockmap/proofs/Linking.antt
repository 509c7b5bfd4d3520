-- Free blocks joined one by one, and a chain that is joined at its end: what stands is not stored again.
use Prim.Native.Nat.{ℕ, zero, suc, ◌+◌, ◌-◌, ◌%◌, ◌≤◌, ◌<◌}
use mathlib.Core.Path.{◌≡◌, refl, sym, ap, ap₂, ◌∙◌}
use mathlib.Core.Bool.{true}
use mathlib.Core.List.{List, ◌∷◌, ◌++◌}
use native.Mathlib.Omega.{arith}
use native.Mathlib.Decide.{dec_lt}
use lib.ListN.{length, get_or, set, take, drop}
use lib.Seq.{set-get_or}
use lib.Dec.{eqb}
use borrow.Author.Tests.{eq-eqb, ne_eqb}
use Rattle.model.specs.Bytes.{Bytes}
use Rattle.model.specs.Lists.{keep, times}
use Rattle.model.specs.Map.{entry_byte, joined, first_byte, second_byte, map_entry, set_entry, behind, runs, chain_blocks, blocks_free, put_chain}
use Rattle.laws.proofs.Entries.{length_set_entry, map_entry_set_entry_other}
use Rattle.model.proofs.Times.{times_head, times_tail}
use Rattle.model.proofs.Map.{runs_rest, runs_end, end_runs, runs_block, runs_more}
use Rattle.blockmap.specs.Free.{free_from, IsFree}
use Rattle.blockmap.proofs.Ranges.{all_onward, keep_hit, keep_miss, keep_none, keep_same}
use Rattle.blockmap.proofs.Chains.{at}

-- ---- the free blocks from b on

module _ (e : ℕ → ℕ) (n b : ℕ) where
  pub free_hit : b < n + 2 → e b ≡ 0 → free_from e n b ≡ b ∷ free_from e n (b + 1)
  free_hit h z = keep_hit (λ x. eqb (e x) 0) n b h (eq-eqb (e b) 0 z)

  pub free_miss : b < n + 2 → (e b ≡ 0 → ⊥) → free_from e n b ≡ free_from e n (b + 1)
  free_miss h z = keep_miss (λ x. eqb (e x) 0) n b h (ne_eqb (e b) 0 z)

  -- where there is one, b is no more than N + 1
  pub free_below : 1 ≤ length (free_from e n b) → b < n + 2
  free_below h =
      elim (dec_lt b (n + 2)) [
        | yes p ↦ p
        | no p ↦ absurd (omega (arith, ap length (keep_none (λ x. eqb (e x) 0) n b (omega arith))))
      ]

-- all of them
pub free_all : (e : ℕ → ℕ) (n : ℕ) → blocks_free e n ≡ free_from e n 2
unfolding blocks_free
free_all e n = ap (λ l. keep (λ x. eqb (e x) 0) l) (all_onward n)

-- entries that are 0 in the same places
pub free_same : (e e' : ℕ → ℕ) (n b : ℕ) → ((y : ℕ) → b ≤ y → eqb (e' y) 0 ≡ eqb (e y) 0) → free_from e' n b ≡ free_from e n b
free_same e e' n b h = keep_same (λ x. eqb (e' x) 0) (λ x. eqb (e x) 0) (n + 2 - b) b (λ x low _. h x low)

-- ---- free blocks joined one by one

put_next : (m : List ℕ) (b x left left' : ℕ) (r : List ℕ) → left ≡ suc left' → 1 ≤ left'
    → put_chain m (take left (b ∷ x ∷ r)) ≡ put_chain (set_entry m b x) (take left' (x ∷ r))
unfolding put_chain behind
put_next m b x left zero r q h = absurd (omega arith)
put_next m b x left (suc k) r q h = rw q

put_last : (m : List ℕ) (b left : ℕ) (r : List ℕ) → left ≡ 1 → put_chain m (take left (b ∷ r)) ≡ set_entry m b 1
unfolding put_chain behind
put_last m b left r h = rw h

-- so many are still due, b is the first of them and free, m is the image so far and l the one that is to be left
pub record Linking (n : ℕ) (m : List ℕ) (b left : ℕ) (l : List ℕ) : Type 0 where
  pub big : 2048 ≤ length m
  pub low : 2 ≤ b
  pub high : b ≤ n + 1
  pub free : map_entry m b ≡ 0
  pub some : 1 ≤ left
  pub enough : left ≤ length (free_from (map_entry m) n b)
  pub leaves : put_chain m (take left (free_from (map_entry m) n b)) ≡ l

module _ (n b left : ℕ) (m l : List ℕ) (f : Linking n m b left l) where
  here : free_from (map_entry m) n b ≡ b ∷ free_from (map_entry m) n (b + 1)
  here = free_hit (map_entry m) n b (omega (arith, f.high)) f.free

  -- where more than one is due there is another
  pub link_more : 1 < left → 1 ≤ length (free_from (map_entry m) n (b + 1))
  link_more h = omega (arith, f.enough, ap length here)

  link_step : (x left' : ℕ) → n ≤ 640 → left ≡ suc left' → 1 ≤ left' → IsFree (map_entry m) n (b + 1) x → Linking n (set_entry m b x) x left' l
  link_step x left' small q h g =
      let e = map_entry m in
      let e' = map_entry (set_entry m b x) in
      let kept : (y : ℕ) → x ≤ y → e' y ≡ e y = λ y p.
      map_entry_set_entry_other m b x y (omega (arith, f.big, f.high)) (omega (arith, g.high)) f.low (omega (arith, f.low, g.low))
      (omega (arith, g.low)) in
      let same = free_same e e' n x (λ y p. ap (λ v. eqb v 0) (kept y p)) in
      let next = free_hit e n x (omega (arith, g.high)) g.free in
      let all = here ∙ ap (λ r. b ∷ r) (g.first ∙ next) in
      record {
        big = omega (arith, length_set_entry m b x, f.big);
        low = omega (arith, f.low, g.low);
        high = g.high;
        free = kept x (omega arith) ∙ g.free;
        some = omega arith;
        enough = omega (arith, ap length same, ap length here, ap length g.first, f.enough);
        leaves = ap (λ r. put_chain (set_entry m b x) (take left' r)) (same ∙ next)
            ∙ sym (put_next m b x left left' (free_from e n (x + 1)) q h)
            ∙ ap (λ r. put_chain m (take left r)) (sym all) ∙ f.leaves;
      }

  pub link_next : (x left' : ℕ) (m' : List ℕ) → m' ≡ set_entry m b x → n ≤ 640 → left ≡ suc left' → 1 ≤ left' → IsFree (map_entry m) n (b + 1) x → Linking n m' x left' l
  link_next x left' m' p small q h g = rw p (link_step x left' small q h g)

  pub link_last : left ≡ 1 → set_entry m b 1 ≡ l
  link_last h = sym (put_last m b left (free_from (map_entry m) n (b + 1)) h) ∙ ap (λ r. put_chain m (take left r)) (sym here) ∙ f.leaves

-- ---- a chain that stands

first_same : (p x y : ℕ) → x < 256 → y < 256 → first_byte p x (joined p x y) ≡ x
unfolding first_byte joined
first_same zero x y hx hy = omega arith
first_same (suc p) x y hx hy = omega arith

second_same : (p x y : ℕ) → x < 256 → y < 256 → second_byte p y (joined p x y) ≡ y
unfolding second_byte joined
second_same zero x y hx hy = omega arith
second_same (suc p) x y hx hy = omega arith

-- an entry stored again changes nothing
pub set_entry_same : (l : List ℕ) (b : ℕ) → Bytes l → set_entry l b (map_entry l b) ≡ l
unfolding set_entry map_entry Bytes
set_entry_same l b h =
    let p = (b - 2) % 2 in
    let x = get_or l (entry_byte b) 0 in
    let y = get_or l (entry_byte b + 1) 0 in
    ap₂ (λ u v. set (set l (entry_byte b) u) (entry_byte b + 1) v) (first_same p x y (h (entry_byte b)) (h (entry_byte b + 1)))
    (second_same p x y (h (entry_byte b)) (h (entry_byte b + 1)))
    ∙ ap (λ m. set m (entry_byte b + 1) y) (set-get_or l (entry_byte b) 0) ∙ set-get_or l (entry_byte b + 1) 0

-- a chain with more blocks behind it: only its last entry and theirs are stored
pub join_at : (l : List ℕ) (k s : ℕ) (r : List ℕ) → Bytes l
    → put_chain l (chain_blocks (map_entry l) (suc k) s ++ r) ≡ put_chain (set_entry l (at (map_entry l) s k) (behind r)) r
unfolding chain_blocks put_chain behind
join_at l zero s r h = refl
join_at l (suc k) s r h =
    let e = map_entry l in
    ap (λ m. put_chain m (chain_blocks e (suc k) (e s) ++ r)) (set_entry_same l s h) ∙ join_at l k (e s) r h

-- and with none behind it nothing is stored
pub standing : (n : ℕ) (l : List ℕ) (k s : ℕ) → Bytes l → (0 < k → runs (map_entry l) n k s ≡ true) → put_chain l (chain_blocks (map_entry l) k s) ≡ l
unfolding chain_blocks put_chain behind
standing n l zero s h c = refl
standing n l (suc zero) s h c =
    let e = map_entry l in
    ap (set_entry l s) (sym (runs_end e n (e s) (runs_rest e n 0 s (c (omega arith))))) ∙ set_entry_same l s h
standing n l (suc (suc k)) s h c =
    let e = map_entry l in
    ap (λ m. put_chain m (chain_blocks e (suc k) (e s))) (set_entry_same l s h) ∙ standing n l (suc k) (e s) h (λ _. runs_rest e n (suc k) s (c (omega arith)))

-- ---- the parts of a chain

module _ (e : ℕ → ℕ) where
  -- from the block at place j runs the rest
  pub runs_at : (n k s j : ℕ) → j < k → runs e n k s ≡ true → runs e n (suc (k - suc j)) (at e s j) ≡ true
  unfolding chain_blocks
  runs_at n zero s j h c = absurd (omega arith)
  runs_at n (suc k) s zero h c = let q : suc (suc k - suc 0) ≡ suc k = omega arith in rw q c
  runs_at n (suc k) s (suc j) h c =
      let q : suc k - suc (suc j) ≡ k - suc j = omega arith in
      rw q (runs_at n k (e s) j (omega arith) (runs_rest e n k s c))

  pub take_chain : (k s j : ℕ) → j ≤ k → take j (chain_blocks e k s) ≡ chain_blocks e j s
  unfolding chain_blocks
  take_chain k s zero h = refl
  take_chain zero s (suc j) h = absurd (omega arith)
  take_chain (suc k) s (suc j) h = ap (λ r. s ∷ r) (take_chain k (e s) j (omega arith))

  pub drop_chain : (k s j : ℕ) → j < k → drop (suc j) (chain_blocks e k s) ≡ chain_blocks e (k - suc j) (e (at e s j))
  unfolding chain_blocks
  drop_chain zero s j h = absurd (omega arith)
  drop_chain (suc k) s zero h = let q : k ≡ suc k - suc 0 = omega arith in ap (λ i. chain_blocks e i (e s)) q
  drop_chain (suc k) s (suc j) h =
      let q : k - suc j ≡ suc k - suc (suc j) = omega arith in
      drop_chain k (e s) j (omega arith) ∙ ap (λ i. chain_blocks e i (e (at e (e s) j))) q

  -- entries that agree on its blocks have the same chain
  pub chain_keep : (e' : ℕ → ℕ) (n k s : ℕ) → runs e n k s ≡ true → ((b : ℕ) → 1 ≤ times b (chain_blocks e k s) → e' b ≡ e b)
      → (runs e' n k s ≡ true) × (chain_blocks e' k s ≡ chain_blocks e k s)
  unfolding chain_blocks
  chain_keep e' n zero s c h = (end_runs e' n s (runs_end e n s c), refl)
  chain_keep e' n (suc k) s c h =
      let q = h s (omega (arith, times_head s (chain_blocks e k (e s)))) in
      let r = chain_keep e' n k (e s) (runs_rest e n k s c) (λ b p. h b (omega (arith, times_tail b s (chain_blocks e k (e s))))) in
      (runs_more e' n k s (runs_block e n k s c) (rw q r.0), rw q (ap (λ l. s ∷ l) r.1))
