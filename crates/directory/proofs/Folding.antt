-- Laws of folds: folding twice changes nothing, and equal folds are exactly equal bytes, and equal names; the test of a table,
-- carried to each byte.
use Prim.Native.Nat.{ℕ, ◌<◌}
use mathlib.Core.Path.{◌≡◌, refl, sym, ap, subst, ◌∙◌}
use mathlib.Core.Bool.{Bool, true, false, not}
use mathlib.Core.List.{List, [], ◌∷◌}
use mathlib.Core.Logic.{◌⊎◌, inl, inr}
use native.Mathlib.Omega.{arith}
use lib.Dec.{eqb, ltb}
use lib.ListN.{length, get_or, drop}
use borrow.Author.Tests.{eqb-true, eq-eqb, ltb-true}
use Rattle.model.specs.Lists.{every, any, first, from}
use Rattle.model.specs.Directory.{letters, accents, pairs, is_pair, paired, same_byte, same_name}
use Rattle.model.proofs.Lists.{and-true, so_not}
use Rattle.model.proofs.Times.{every_from}
use Rattle.model.proofs.Names.{among, upper_one, lower_one, not_both, Alike, itself, lower, upper, how_alike, alike_same}
use Rattle.laws.proofs.Octets.{Octets, octets}
use Rattle.laws.proofs.Sound.{Each}
use Rattle.directory.specs.Folding.{fold, folded, Folds, folded_by, FoldsTwice, FoldsEqual}

-- ---- bytes

-- b is the lower one of no pair
abbrev NoLower : ℕ → List (ℕ × ℕ) → Type 0
NoLower b ps = every (λ p. not (eqb b p.0)) ps ≡ true

abbrev sought : ℕ → List (ℕ × ℕ) → ℕ × ℕ
sought b ps = first (λ p. eqb b p.0) (b, b) ps

abbrev Sought : ℕ → List (ℕ × ℕ) → Type 0
Sought b ps = (NoLower b ps × (sought b ps ≡ (b, b))) ⊎ (any (is_pair b (sought b ps).1) ps ≡ true)

sought_past : (b : ℕ) (p : ℕ × ℕ) (ps : List (ℕ × ℕ)) → eqb b p.0 ≡ false → sought b (p ∷ ps) ≡ sought b ps
unfolding first
sought_past b p ps e = rw e

seek : (b : ℕ) (ps : List (ℕ × ℕ)) → Sought b ps
unfolding every any first is_pair
seek b [] = inl (refl, refl)
seek b (p ∷ ps) = go (eqb b p.0) refl (seek b ps)
  where
    go : (t : Bool) → eqb b p.0 ≡ t → Sought b ps → Sought b (p ∷ ps)
    go true e r = inr (rw (e, eq-eqb p.1 p.1 refl))
    go false e (inl n) = inl (rw (e, n.0), rw (e, n.1))
    go false e (inr h) = inr (subst (λ (s : ℕ × ℕ). any (is_pair b s.1) (p ∷ ps) ≡ true) (sym (sought_past b p ps e)) (rw e h))

-- a byte is its own fold, or the lower one of a pair of which its fold is the upper one
abbrev Folded : ℕ → Type 0
Folded b = (NoLower b pairs × (fold b ≡ b)) ⊎ (paired b (fold b) ≡ true)

fold_how : (b : ℕ) → Folded b
unfolding fold paired
fold_how b = go (seek b pairs)
  where
    go : Sought b pairs → Folded b
    go (inl n) = inl (n.0, ap (λ (p : ℕ × ℕ). p.1) n.1)
    go (inr h) = inr h

module _ (l u : ℕ) (h : paired l u ≡ true) where
  fold_lower : fold l ≡ u
  unfolding paired
  fold_lower = go (fold_how l)
    where
      go : Folded l → fold l ≡ u
      go (inl n) = absurd (so_not _ (ap not (eq-eqb l l refl)) (among (λ p. not (eqb l p.0)) l u pairs h n.0))
      go (inr g) = upper_one l (fold l) l u g h refl

  fold_upper : fold u ≡ u
  fold_upper = go (fold_how u)
    where
      go : Folded u → fold u ≡ u
      go (inl n) = n.1
      go (inr g) = absurd (not_both u (fold u) l u g h refl)

fold_fold : (b : ℕ) → fold (fold b) ≡ fold b
fold_fold b = go (fold_how b)
  where
    go : Folded b → fold (fold b) ≡ fold b
    go (inl n) = ap fold n.1
    go (inr g) = fold_upper b (fold b) g

pub fold_byte : (b : ℕ) → b < 256 → fold b < 256
unfolding paired pairs letters accents from every
fold_byte b l = go (fold_how b)
  where
    go : Folded b → fold b < 256
    go (inl n) = omega (arith, n.1)
    go (inr g) = ltb-true (fold b) 256 (among (λ p. ltb p.1 256) b (fold b) pairs g refl)

module _ (b c : ℕ) where
  pub same_fold : same_byte b c ≡ true → fold b ≡ fold c
  same_fold h = go (how_alike b c h)
    where
      go : Alike b c → fold b ≡ fold c
      go (itself e) = ap fold e
      go (lower g) = fold_lower b c g ∙ sym (fold_upper b c g)
      go (upper g) = fold_upper c b g ∙ sym (fold_lower c b g)

  pub fold_same : fold b ≡ fold c → same_byte b c ≡ true
  fold_same e = alike_same b c (go (fold_how b) (fold_how c))
    where
      go : Folded b → Folded c → Alike b c
      go (inl m) (inl n) = itself (sym m.1 ∙ e ∙ n.1)
      go (inl m) (inr k) = upper (subst (λ (x : ℕ). paired c x ≡ true) (sym e ∙ m.1) k)
      go (inr g) (inl n) = lower (subst (λ (x : ℕ). paired b x ≡ true) (e ∙ n.1) g)
      go (inr g) (inr k) = itself (lower_one b (fold b) c (fold c) g k e)

-- ---- names

folded_folded : (m : List ℕ) → folded (folded m) ≡ folded m
unfolding folded
folded_folded [] = refl
folded_folded (b ∷ m) = rw (fold_fold b, folded_folded m)

pub same_folded : (m n : List ℕ) → same_name m n ≡ true → folded m ≡ folded n
unfolding folded same_name
same_folded [] [] h = refl
same_folded [] (c ∷ n) h = absurd (so_not _ refl h)
same_folded (b ∷ m) [] h = absurd (so_not _ refl h)
same_folded (b ∷ m) (c ∷ n) h =
    let s = and-true (same_byte b c) (same_name m n) h in
    rw (same_fold b c s.0, same_folded m n s.1)

folded_same : (m n : List ℕ) → folded m ≡ folded n → same_name m n ≡ true
unfolding folded same_name
folded_same [] [] e = refl
folded_same [] (c ∷ n) e = absurd (let z = ap length e in omega arith)
folded_same (b ∷ m) [] e = absurd (let z = ap length e in omega arith)
folded_same (b ∷ m) (c ∷ n) e =
    rw (fold_same b c (ap (λ (l : List ℕ). get_or l 0 0) e)) (folded_same m n (ap (λ (l : List ℕ). drop 1 l) e))

-- ---- a table

-- one test over the whole table
abbrev pub tested : List ℕ → Bool
tested table = every (λ b. eqb (get_or table b 0) (fold b)) (from 256 0)

test_folds : (table : List ℕ) → tested table ≡ true → Folds table
test_folds table h b l = eqb-true (get_or table b 0) (fold b) (every_from (λ k. eqb (get_or table k 0) (fold k)) 256 0 h b (omega arith) (omega arith))

module _ (table : List ℕ) (t : Folds table) where
  by_table : (name : List ℕ) → Octets name → folded_by table name ≡ folded name
  unfolding folded_by folded Each
  by_table [] o = refl
  by_table (b ∷ name) o = rw (t b o.0, by_table name o.1)

  octets_folded : (name : List ℕ) → Octets name → Octets (folded name)
  unfolding folded Each
  octets_folded [] o = tt
  octets_folded (b ∷ name) o = (fold_byte b o.0, octets_folded name o.1)

  folds_twice : FoldsTwice table
  folds_twice name h =
      let o = octets name h in
      ap (folded_by table) (by_table name o) ∙ by_table (folded name) (octets_folded name o) ∙ folded_folded name ∙ sym (by_table name o)

  folds_equal : FoldsEqual table
  folds_equal m n p q =
      let left = by_table m (octets m p) in
      let right = by_table n (octets n q) in
      (λ e. folded_same m n (sym left ∙ e ∙ right), λ h. left ∙ same_folded m n h ∙ sym right)

-- all that a table that passes the test means
pub folds_all : (table : List ℕ) → tested table ≡ true → Folds table × FoldsTwice table × FoldsEqual table
folds_all table h = let t = test_folds table h in (t, folds_twice table t, folds_equal table t)
