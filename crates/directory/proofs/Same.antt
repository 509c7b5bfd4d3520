-- Laws of equal names as the comparison goes: by their lengths, and byte by byte from the end.
use Prim.Native.Nat.{ℕ, zero, suc, ◌+◌, ◌-◌, ◌≤◌, ◌<◌}
use mathlib.Core.Path.{◌≡◌, refl, sym, ap, ◌∙◌}
use mathlib.Core.Bool.{Bool, true, false, ◌&&◌, and-false}
use mathlib.Core.List.{List}
use native.Mathlib.Omega.{arith}
use native.Mathlib.Numerals.{add-one}
use lib.ListN.{length, drop, drop_of_length-le, length-map}
use lib.Seq.{drop-cons}
use lib.Dec.{eqb}
use borrow.Author.Tests.{eq-eqb, ne_eqb}
use Rattle.model.specs.Bytes.{byte}
use Rattle.model.specs.Directory.{same_byte, same_name}
use Rattle.model.proofs.Lists.{not_so, so_not}
use Rattle.directory.specs.Folding.{fold, folded}
use Rattle.directory.proofs.Folding.{same_fold, fold_same, same_folded}

pub lengths_differ : (a b : List ℕ) → (length a ≡ length b → ⊥) → same_name a b ≡ false
unfolding folded
lengths_differ a b n = not_so (same_name a b) (λ h. n (sym (length-map a fold) ∙ ap length (same_folded a b h) ∙ length-map b fold))

-- two bytes by their folds
pub folds_compared : (b c u v : ℕ) → u ≡ fold b → v ≡ fold c → eqb u v ≡ same_byte b c
folds_compared b c u v p q = go (same_byte b c) refl
  where
    go : (t : Bool) → same_byte b c ≡ t → eqb u v ≡ t
    go true s = eq-eqb u v (p ∙ same_fold b c s ∙ sym q)
    go false s = ne_eqb u v (λ e. so_not (same_byte b c) s (fold_same b c (sym p ∙ e ∙ q)))

name_step : (a b : List ℕ) (i : ℕ) → i < length a → i < length b
    → same_name (drop i a) (drop i b) ≡ (same_byte (byte a i) (byte b i) && same_name (drop (i + 1) a) (drop (i + 1) b))
unfolding same_name
name_step a b i p q = rw (add-one, drop-cons a i 0 p, drop-cons b i 0 q)

-- equal from n on, and so one byte before it
pub name_same : (a b : List ℕ) (n : ℕ) → 0 < n → n ≤ length a → n ≤ length b → same_byte (byte a (n - 1)) (byte b (n - 1)) ≡ true
    → same_name (drop n a) (drop n b) ≡ true → same_name (drop (n - 1) a) (drop (n - 1) b) ≡ true
name_same a b n l p q h r =
    let one : n - 1 + 1 ≡ n = omega arith in
    name_step a b (n - 1) (omega arith) (omega arith) ∙ rw (one, h, r)

-- where they differ from a place on, they differ
differ_from : (a b : List ℕ) (i : ℕ) → i ≤ length a → i ≤ length b → same_name (drop i a) (drop i b) ≡ false → same_name a b ≡ false
differ_from a b zero p q h = h
differ_from a b (suc i) p q h =
    differ_from a b i (omega arith) (omega arith)
    (name_step a b i (omega arith) (omega arith) ∙ rw (add-one, h, and-false (same_byte (byte a i) (byte b i))))

pub name_differs : (a b : List ℕ) (i : ℕ) → i < length a → i < length b → same_byte (byte a i) (byte b i) ≡ false → same_name a b ≡ false
name_differs a b i p q h = differ_from a b i (omega arith) (omega arith) (name_step a b i p q ∙ rw h)

pub name_end : (a b : List ℕ) (i : ℕ) → length a ≤ i → length b ≤ i → same_name (drop i a) (drop i b) ≡ true
unfolding same_name
name_end a b i p q = rw (drop_of_length-le a p, drop_of_length-le b q)
