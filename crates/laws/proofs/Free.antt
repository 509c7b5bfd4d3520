-- Free blocks: which they are, that they and the held ones are N, and which are left once the lowest are taken.
use mathlib.Core.Path.{◌≡◌, refl, sym, ap, ◌∙◌}
use mathlib.Core.List.{List, [], ◌∷◌}
use mathlib.Core.Bool.{Bool, true, false, cond}
use Prim.Native.Nat.{ℕ, zero, suc, ◌+◌, ◌≤◌, ◌<◌}
use native.Mathlib.Omega.{arith}
use native.Mathlib.Decide.{ℕ_discrete}
use lib.ListN.{length, take, drop}
use lib.Seq.{drop-nil}
use lib.Dec.{eqb}
use borrow.Author.Tests.{eqb-false, eq-eqb, ne_eqb}
use Rattle.model.specs.Lists.{keep, from, times, flat}
use Rattle.model.specs.Map.{blocks_free}
use Rattle.model.proofs.Times.{times_append, times_head, times_skip, times_tail, length_from}
use Rattle.laws.proofs.Sound.{held, used, Sound}

-- ---- the numbers from s on

pub times_from_out : (k s b : ℕ) → b < s → times b (from k s) ≡ 0
unfolding from times
times_from_out zero s b h = refl
times_from_out (suc k) s b h = times_skip b s (from k (suc s)) (omega arith) ∙ times_from_out k (suc s) b (omega arith)

pub times_from : (k s b : ℕ) → s ≤ b → b < s + k → times b (from k s) ≡ 1
unfolding from
times_from zero s b l h = absurd (omega arith)
times_from (suc k) s b l h =
    elim (ℕ_discrete b s) [
      | yes q ↦ rw q (times_head s (from k (suc s)) ∙ ap suc (times_from_out k (suc s) s (omega arith)))
      | no q ↦ times_skip b s (from k (suc s)) q ∙ times_from k (suc s) b (omega arith) (omega arith)
    ]

pub times_from_le : (k s b : ℕ) → times b (from k s) ≤ 1
unfolding from
times_from_le zero s b = unfold times in omega arith
times_from_le (suc k) s b =
    elim (ℕ_discrete b s) [
      | yes q ↦ rw q (omega (arith, times_head s (from k (suc s)), times_from_out k (suc s) s (omega arith)))
      | no q ↦ omega (arith, times_skip b s (from k (suc s)) q, times_from_le k (suc s) b)
    ]

pub from_in : (k s b : ℕ) → 1 ≤ times b (from k s) → (s ≤ b) × (b < s + k)
unfolding from times
from_in zero s b h = absurd (omega arith)
from_in (suc k) s b h =
    elim (ℕ_discrete b s) [
      | yes q ↦ omega arith
      | no q ↦ let r = from_in k (suc s) b (omega (arith, times_skip b s (from k (suc s)) q)) in omega arith
    ]

-- ---- free blocks

-- those with entry 0
abbrev pub free_among : (ℕ → ℕ) → List ℕ → List ℕ
free_among e l = keep (λ b. eqb (e b) 0) l

pub free_zero : (e : ℕ → ℕ) (l : List ℕ) (b : ℕ) → e b ≡ 0 → times b (free_among e l) ≡ times b l
unfolding keep times
free_zero e [] b z = refl
free_zero e (x ∷ l) b z =
    elim (ℕ_discrete (e x) 0) [
      | yes q ↦ rw (eq-eqb (e x) 0 q) (omega (arith, free_zero e l b z))
      | no q ↦ rw (ne_eqb (e x) 0 q, ne_eqb b x (λ p. q (ap e (sym p) ∙ z))) (omega (arith, free_zero e l b z))
    ]

pub free_some : (e : ℕ → ℕ) (l : List ℕ) (b : ℕ) → (e b ≡ 0 → ⊥) → times b (free_among e l) ≡ 0
unfolding keep times
free_some e [] b z = refl
free_some e (x ∷ l) b z =
    elim (ℕ_discrete (e x) 0) [
      | yes q ↦ rw (eq-eqb (e x) 0 q, ne_eqb b x (λ p. z (ap e p ∙ q))) (omega (arith, free_some e l b z))
      | no q ↦ rw (ne_eqb (e x) 0 q) (free_some e l b z)
    ]

pub times_take : (b r : ℕ) (l : List ℕ) → times b (take r l) ≤ times b l
unfolding times
times_take b zero l = omega arith
times_take b (suc r) [] = omega arith
times_take b (suc r) (x ∷ l) = omega (arith, times_take b r l)

-- the free blocks are the blocks with entry 0, each once
pub free_in : (e : ℕ → ℕ) (n r b : ℕ) → 1 ≤ times b (take r (blocks_free e n)) → (2 ≤ b) × (b ≤ n + 1) × (e b ≡ 0)
unfolding blocks_free
free_in e n r b h =
    let t = times_take b r (free_among e (from n 2)) in
    elim (ℕ_discrete (e b) 0) [
      | yes z ↦ let i = from_in n 2 b (omega (arith, free_zero e (from n 2) b z)) in (omega arith, omega arith, z)
      | no z ↦ absurd (omega (arith, free_some e (from n 2) b z))
    ]

pub free_once : (e : ℕ → ℕ) (n r b : ℕ) → times b (take r (blocks_free e n)) ≤ 1
unfolding blocks_free
free_once e n r b =
    let t = times_take b r (free_among e (from n 2)) in
    elim (ℕ_discrete (e b) 0) [ yes z ↦ omega (arith, free_zero e (from n 2) b z, times_from_le n 2 b) | no z ↦ omega (arith, free_some e (from n 2) b z) ]

-- ---- free and held blocks are N

-- how often the numbers of l stand in m, in all
unfoldable meets : List ℕ → List ℕ → ℕ
meets m [] = 0
meets m (b ∷ l) = times b m + meets m l

meets_nil : (l : List ℕ) → meets [] l ≡ 0
unfolding meets times
meets_nil [] = refl
meets_nil (b ∷ l) = omega (arith, meets_nil l)

swap : (a b : ℕ) → ◌≡◌ {A = ℕ} (cond (eqb a b) 1 0) (cond (eqb b a) 1 0)
swap a b = elim (ℕ_discrete a b) [ yes q ↦ rw (eq-eqb a b q, eq-eqb b a (sym q)) | no q ↦ rw (ne_eqb a b q, ne_eqb b a (λ p. q (sym p))) ]

meets_cons : (x : ℕ) (m l : List ℕ) → meets (x ∷ m) l ≡ times x l + meets m l
unfolding meets times
meets_cons x m [] = refl
meets_cons x m (b ∷ l) = omega (arith, meets_cons x m l, swap x b)

-- blocks within 2 to n + 1 meet them as often as they are many
meets_from : (n : ℕ) (m : List ℕ) → ((b : ℕ) → 1 ≤ times b m → (2 ≤ b) × (b ≤ n + 1)) → meets m (from n 2) ≡ length m
meets_from n [] h = meets_nil (from n 2)
meets_from n (x ∷ m) h =
    let r = h x (omega (arith, times_head x m)) in
    omega (arith, meets_cons x m (from n 2), times_from n 2 x r.0 (omega arith), meets_from n m (λ b p. h b (omega (arith, times_tail b x m))))

length_cond : (t : Bool) (x : ℕ) (l : List ℕ) → length (cond t (x ∷ l) l) ≡ cond t 1 0 + length l
length_cond true x l = omega arith
length_cond false x l = omega arith

-- where each number has entry 0 or is met, the free and the met are all
free_met : (e : ℕ → ℕ) (m l : List ℕ) → ((b : ℕ) → 1 ≤ times b l → cond (eqb (e b) 0) 1 0 + times b m ≡ 1) → length (free_among e l) + meets m l ≡ length l
unfolding keep meets
free_met e m [] h = refl
free_met e m (x ∷ l) h =
    let i = free_met e m l (λ b p. h b (omega (arith, times_tail b x l))) in
    let q = h x (omega (arith, times_head x l)) in
    omega (arith, length_cond (eqb (e x) 0) x (free_among e l))

pub held_flat : (b : ℕ) (bss : List (List ℕ)) → held b bss ≡ times b (flat bss)
unfolding held flat times
held_flat b [] = refl
held_flat b (bs ∷ bss) = omega (arith, times_append b bs (flat bss), held_flat b bss)

-- on a sound map the free blocks and the held ones are N
pub free_count_lem : (e : ℕ → ℕ) (n : ℕ) (bss : List (List ℕ)) → Sound e n bss → length (blocks_free e n) + length (flat bss) ≡ n
unfolding blocks_free
free_count_lem e n bss s =
    omega (
      arith,
      length_from n 2,
      free_met e (flat bss) (from n 2) each,
      meets_from n (flat bss) (λ b p. let u = used e n bss b s.linked (omega (arith, held_flat b bss)) in (u.low, u.high)),
    )
  where
    each : (b : ℕ) → 1 ≤ times b (from n 2) → cond (eqb (e b) 0) 1 0 + times b (flat bss) ≡ 1
    each b p =
        let i = from_in n 2 b p in
        let f = held_flat b bss in
        elim (ℕ_discrete (held b bss) 0) [
          | yes z ↦ rw (eq-eqb (e b) 0 (s.rest b i.0 (omega arith) z)) (omega arith)
          | no z ↦ let u = used e n bss b s.linked (omega arith) in rw (ne_eqb (e b) 0 (omega arith)) (omega (arith, s.once b))
        ]

-- ---- once the lowest are taken

-- e' has the blocks of taken no more free, and all others as e
record Takes (e e' : ℕ → ℕ) (s m : ℕ) (taken : List ℕ) : Type 0 where
  used : (b : ℕ) → 1 ≤ times b taken → e' b ≡ 0 → ⊥
  alike : (b : ℕ) → s ≤ b → b < s + m → times b taken ≡ 0 → eqb (e' b) 0 ≡ eqb (e b) 0

-- the same of the blocks behind the first
takes_rest : (e e' : ℕ → ℕ) (s m : ℕ) (taken : List ℕ) → Takes e e' s (suc m) taken → Takes e e' (suc s) m taken
takes_rest e e' s m taken h = record { used = h.used; alike = λ b l u z. h.alike b (omega arith) (omega arith) z }

takes_next : (e e' : ℕ → ℕ) (s m : ℕ) (taken : List ℕ) → Takes e e' s (suc m) (s ∷ taken) → Takes e e' (suc s) m taken
takes_next e e' s m taken h = record {
  used = λ b p. h.used b (omega (arith, times_tail b s taken));
  alike = λ b l u z. h.alike b (omega arith) (omega arith) (times_skip b s taken (omega arith) ∙ z);
}

among_dropped : (e e' : ℕ → ℕ) (m s k : ℕ) → Takes e e' s m (take k (free_among e (from m s))) → free_among e' (from m s) ≡ drop k (free_among e (from m s))
unfolding from keep times
among_dropped e e' zero s k h = sym (drop-nil k)
among_dropped e e' (suc m) s k h = go (eqb (e s) 0) refl k h (among_dropped e e' m (suc s))
  where
    now : List ℕ
    now = free_among e (from m (suc s))

    go : (t : Bool) → eqb (e s) 0 ≡ t → (k : ℕ) → Takes e e' s (suc m) (take k (cond t (s ∷ now) now))
        → ((k : ℕ) → Takes e e' (suc s) m (take k now) → free_among e' (from m (suc s)) ≡ drop k now)
        → cond (eqb (e' s) 0) (s ∷ free_among e' (from m (suc s))) (free_among e' (from m (suc s))) ≡ drop k (cond t (s ∷ now) now)
    go true q zero h ih = rw (h.alike s (omega arith) (omega arith) refl ∙ q) (ap (λ (l : List ℕ). s ∷ l) (ih zero (takes_rest e e' s m [] h)))
    go true q (suc k) h ih =
        rw (ne_eqb (e' s) 0 (h.used s (omega (arith, times_head s (take k now))))) (ih k (takes_next e e' s m (take k now) h))
    go false q k h ih =
        let z = free_some e (from m (suc s)) s (eqb-false (e s) 0 q) in
        let t = times_take s k now in
        rw (h.alike s (omega arith) (omega arith) (omega arith) ∙ q) (ih k (takes_rest e e' s m (take k now) h))

-- where e' has the lowest k free blocks of e no more free, and all others as e, its free blocks are the others
pub free_dropped : (e e' : ℕ → ℕ) (n k : ℕ) → ((b : ℕ) → 1 ≤ times b (take k (blocks_free e n)) → e' b ≡ 0 → ⊥)
    → ((b : ℕ) → 2 ≤ b → b < 2 + n → times b (take k (blocks_free e n)) ≡ 0 → eqb (e' b) 0 ≡ eqb (e b) 0) → blocks_free e' n ≡ drop k (blocks_free e n)
unfolding blocks_free
free_dropped e e' n k h g = among_dropped e e' n 2 k (record { used = h; alike = g })
