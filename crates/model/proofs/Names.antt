-- Laws of equal bytes and equal names: no byte is in two pairs, and both are equivalences.
use Prim.Native.Nat.{ℕ}
use mathlib.Core.Path.{◌≡◌, refl, sym, ap, subst, ◌∙◌}
use mathlib.Core.Bool.{Bool, true, false, ◌&&◌, ◌||◌, not, cond, or-true}
use mathlib.Core.List.{List, [], ◌∷◌}
use mathlib.Core.Logic.{◌⊎◌, inl, inr}
use native.Mathlib.Decide.{ℕ_discrete}
use lib.Dec.{eqb}
use borrow.Author.Tests.{eqb-true, eq-eqb, ne_eqb}
use Rattle.model.specs.Lists.{every, any, from}
use Rattle.model.specs.Directory.{letters, accents, pairs, is_pair, paired, same_byte, same_name}
use Rattle.model.proofs.Lists.{and-true, either, so_not}

pub eqb_comm : (a b : ℕ) → eqb a b ≡ eqb b a
eqb_comm a b = go (ℕ_discrete a b)
  where
    go : Dec (a ≡ b) → eqb a b ≡ eqb b a
    go (yes e) = rw e
    go (no n) = ne_eqb a b n ∙ sym (ne_eqb b a (λ e. n (sym e)))

-- two tests of which each is true where the other is
both_ways : (t s : Bool) → (t ≡ true → s ≡ true) → (s ≡ true → t ≡ true) → t ≡ s
both_ways true s p q = sym (p refl)
both_ways false true p q = q refl
both_ways false false p q = refl

-- ---- pairs

-- whatever every pair passes, this pair passes
pub among : (r : ℕ × ℕ → Bool) (l u : ℕ) (ps : List (ℕ × ℕ)) → any (is_pair l u) ps ≡ true → every r ps ≡ true → r (l, u) ≡ true
unfolding any every is_pair
among r l u [] h e = absurd (so_not _ refl h)
among r l u (p ∷ ps) h e = let s = and-true (r p) (every r ps) e in go (eqb l p.0 && eqb u p.1) refl h s.0 (λ g. among r l u ps g s.1)
  where
    go : (t : Bool) → (eqb l p.0 && eqb u p.1) ≡ t → (t || any (is_pair l u) ps) ≡ true → r p ≡ true
        → (any (is_pair l u) ps ≡ true → r (l, u) ≡ true) → r (l, u) ≡ true
    go true q g here behind =
        let s = and-true (eqb l p.0) (eqb u p.1) q in
        ap (λ (k : ℕ). r (k, u)) (eqb-true l p.0 s.0) ∙ ap (λ (k : ℕ). r (p.0, k)) (eqb-true u p.1 s.1) ∙ here
    go false q g here behind = behind g

-- the lower one of p is not the upper one of q, and their lower ones are equal exactly where their upper ones are
unfoldable apart : ℕ × ℕ → ℕ × ℕ → Bool
apart p q = not (eqb p.0 q.1) && cond (eqb p.0 q.0) (eqb p.1 q.1) (not (eqb p.1 q.1))

all_apart : every (λ p. every (apart p) pairs) pairs ≡ true
unfolding every apart pairs letters accents from
all_apart = refl

module _ (l u k v : ℕ) (h : paired l u ≡ true) (g : paired k v ≡ true) where
  two_apart : apart (l, u) (k, v) ≡ true
  unfolding paired
  two_apart = among (apart (l, u)) k v pairs g (among (λ p. every (apart p) pairs) l u pairs h all_apart)

  pub upper_one : l ≡ k → u ≡ v
  unfolding apart
  upper_one e = eqb-true u v (and-true (not (eqb l v)) _ (rw (eq-eqb l k e) at two_apart)).1

  pub lower_one : u ≡ v → l ≡ k
  unfolding apart
  lower_one e = go (ℕ_discrete l k)
    where
      go : Dec (l ≡ k) → l ≡ k
      go (yes q) = q
      go (no n) = absurd (so_not _ (ap not (eq-eqb u v e)) (and-true (not (eqb l v)) _ (rw (ne_eqb l k n) at two_apart)).1)

  pub not_both : l ≡ v → ⊥
  unfolding apart
  not_both e = so_not _ (ap not (eq-eqb l v e)) (and-true (not (eqb l v)) _ two_apart).0

-- ---- equal bytes

-- how two bytes are equal
pub data Alike (b c : ℕ) : Type 0 where
  itself : b ≡ c → Alike b c
  lower : paired b c ≡ true → Alike b c
  upper : paired c b ≡ true → Alike b c

pub how_alike : (b c : ℕ) → same_byte b c ≡ true → Alike b c
unfolding same_byte
how_alike b c h = go (eqb b c) refl (paired b c) refl h
  where
    go : (t : Bool) → eqb b c ≡ t → (s : Bool) → paired b c ≡ s → (t || (s || paired c b)) ≡ true → Alike b c
    go true p s q r = itself (eqb-true b c p)
    go false p true q r = lower q
    go false p false q r = upper r

pub alike_same : (b c : ℕ) → Alike b c → same_byte b c ≡ true
unfolding same_byte
alike_same b c (itself e) = rw (eq-eqb b c e)
alike_same b c (lower h) = go (eqb b c)
  where
    go : (t : Bool) → (t || (paired b c || paired c b)) ≡ true
    go true = refl
    go false = rw h
alike_same b c (upper h) = go (eqb b c) (paired b c)
  where
    go : (t s : Bool) → (t || (s || paired c b)) ≡ true
    go true s = refl
    go false true = refl
    go false false = h

-- the bytes the other way round
around : {b c : ℕ} → Alike b c → Alike c b
around (itself e) = itself (sym e)
around (lower h) = upper h
around (upper h) = lower h

through : {a b c : ℕ} → Alike a b → Alike b c → Alike a c
through {a} {b} {c} (itself e) x = subst (λ (k : ℕ). Alike k c) (sym e) x
through {a} {b} {c} (lower h) (itself e) = subst (λ (k : ℕ). Alike a k) e (lower h)
through {a} {b} {c} (upper h) (itself e) = subst (λ (k : ℕ). Alike a k) e (upper h)
through {a} {b} {c} (lower h) (lower g) = absurd (not_both b c a b g h refl)
through {a} {b} {c} (lower h) (upper g) = itself (lower_one a b c b h g refl)
through {a} {b} {c} (upper h) (lower g) = itself (upper_one b a b c h g refl)
through {a} {b} {c} (upper h) (upper g) = absurd (not_both b a c b h g refl)

same_byte_refl : (b : ℕ) → same_byte b b ≡ true
same_byte_refl b = alike_same b b (itself refl)

same_byte_flip : (b c : ℕ) → same_byte b c ≡ true → same_byte c b ≡ true
same_byte_flip b c h = alike_same c b (around (how_alike b c h))

same_byte_trans : (a b c : ℕ) → same_byte a b ≡ true → same_byte b c ≡ true → same_byte a c ≡ true
same_byte_trans a b c p q = alike_same a c (through (how_alike a b p) (how_alike b c q))

-- either byte of a pair equals itself and the other, and no other
module _ (l u c : ℕ) (h : paired l u ≡ true) where
  pub lower_twin : same_byte l c ≡ (eqb l c || eqb u c)
  lower_twin = both_ways (same_byte l c) (eqb l c || eqb u c) (λ s. go (how_alike l c s)) (λ s. alike_same l c (back (either (eqb l c) (eqb u c) s)))
    where
      go : Alike l c → (eqb l c || eqb u c) ≡ true
      go (itself e) = rw (eq-eqb l c e)
      go (lower g) = rw (eq-eqb u c (upper_one l u l c h g refl), or-true (eqb l c))
      go (upper g) = absurd (not_both l u c l h g refl)

      back : (eqb l c ≡ true) ⊎ (eqb u c ≡ true) → Alike l c
      back (inl e) = itself (eqb-true l c e)
      back (inr e) = subst (λ (k : ℕ). Alike l k) (eqb-true u c e) (lower h)

  pub upper_twin : same_byte u c ≡ (eqb l c || eqb u c)
  upper_twin =
      both_ways (same_byte u c) (same_byte l c) (same_byte_trans l u c (alike_same l u (lower h))) (same_byte_trans u l c (alike_same u l (upper h)))
      ∙ lower_twin

-- the byte is in no pair
unfoldable pub unpaired : ℕ → Bool
unpaired b = every (λ p. not (eqb b p.0 || eqb b p.1)) pairs

pub only_itself : (b c : ℕ) → unpaired b ≡ true → same_byte b c ≡ eqb b c
unfolding unpaired paired
only_itself b c h = both_ways (same_byte b c) (eqb b c) (λ s. go (how_alike b c s)) (λ e. alike_same b c (itself (eqb-true b c e)))
  where
    free : ℕ × ℕ → Bool
    free p = not (eqb b p.0 || eqb b p.1)

    go : Alike b c → eqb b c ≡ true
    go (itself e) = eq-eqb b c e
    go (lower g) = absurd (so_not (free (b, c)) (rw (eq-eqb b b refl)) (among free b c pairs g h))
    go (upper g) = absurd (so_not (free (c, b)) (rw (eq-eqb b b refl, or-true (eqb b c))) (among free c b pairs g h))

-- ---- equal names

pub same_name_refl : (m : List ℕ) → same_name m m ≡ true
unfolding same_name
same_name_refl [] = refl
same_name_refl (b ∷ m) = rw (same_byte_refl b) (same_name_refl m)

same_name_flip : (m n : List ℕ) → same_name m n ≡ true → same_name n m ≡ true
unfolding same_name
same_name_flip [] [] h = refl
same_name_flip [] (c ∷ n) h = h
same_name_flip (b ∷ m) [] h = h
same_name_flip (b ∷ m) (c ∷ n) h =
    let s = and-true (same_byte b c) (same_name m n) h in
    rw (same_byte_flip b c s.0) (same_name_flip m n s.1)

pub same_name_comm : (m n : List ℕ) → same_name m n ≡ same_name n m
same_name_comm m n = both_ways _ _ (same_name_flip m n) (same_name_flip n m)

pub same_name_trans : (m n k : List ℕ) → same_name m n ≡ true → same_name n k ≡ true → same_name m k ≡ true
unfolding same_name
same_name_trans [] [] k p q = q
same_name_trans [] (c ∷ n) k p q = absurd (so_not _ refl p)
same_name_trans (b ∷ m) [] k p q = absurd (so_not _ refl p)
same_name_trans (b ∷ m) (c ∷ n) [] p q = q
same_name_trans (b ∷ m) (c ∷ n) (d ∷ k) p q =
    let s = and-true (same_byte b c) (same_name m n) p in
    let t = and-true (same_byte c d) (same_name n k) q in
    rw (same_byte_trans b c d s.0 t.0) (same_name_trans m n k s.1 t.1)
