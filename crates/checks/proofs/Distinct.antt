-- Laws of lists whose elements differ, by one element more in front or behind, and of what holds of each element.
use mathlib.Core.Path.{◌≡◌, refl}
use mathlib.Core.Bool.{Bool, true, false, not, ◌&&◌, and-false, or-true}
use mathlib.Core.List.{List, [], ◌∷◌, ◌++◌}
use borrow.Author.Tests.{not-true}
use Rattle.model.specs.Lists.{any, distinct}
use Rattle.model.proofs.Lists.{and-true, or-false, so_not, any_append}

module _ {A : Type 0} where
  -- each of them is so
  pub data Each (P : A → Type 0) : List A → Type 0 where
    none : Each P []
    more : {x : A} {xs : List A} → P x → Each P xs → Each P (x ∷ xs)

  -- what each of them is, by what it implies
  pub each_map : {P Q : A → Type 0} → ((x : A) → P x → Q x) → {xs : List A} → Each P xs → Each Q xs
  each_map f none = none
  each_map f (more {x} p ps) = more (f x p) (each_map f ps)

  -- and one more behind them
  pub each_snoc : {P : A → Type 0} {xs : List A} → Each P xs → {x : A} → P x → Each P (xs ++ (x ∷ []))
  each_snoc none p = more p none
  each_snoc (more q qs) p = more q (each_snoc qs p)

  -- where each fails a test, none passes it
  pub each_fails : (p : A → Bool) {xs : List A} → Each (λ x. p x ≡ false) xs → any p xs ≡ false
  unfolding any
  each_fails p none = refl
  each_fails p (more h hs) = rw (h, each_fails p hs)

  -- the last passes, or one before
  pub any_last : (p : A → Bool) (xs : List A) (x : A) → p x ≡ true → any p (xs ++ (x ∷ [])) ≡ true
  unfolding any
  any_last p xs x h = rw (any_append p xs (x ∷ []), h, or-true (any p xs))

  pub any_before : (p : A → Bool) (xs ys : List A) → any p xs ≡ true → any p (xs ++ ys) ≡ true
  any_before p xs ys h = rw (any_append p xs ys, h)

  module _ (same : A → A → Bool) (y : A) where
    -- one that is the same as an earlier one
    pub distinct_not : (xs ys : List A) → any (λ x. same x y) xs ≡ true → distinct same (xs ++ (y ∷ ys)) ≡ false
    unfolding any distinct
    distinct_not [] ys h = absurd (so_not false refl h)
    distinct_not (x ∷ xs) ys h = go (same x y) refl (distinct_not xs ys)
      where
        go : (t : Bool) → same x y ≡ t → (any (λ z. same z y) xs ≡ true → distinct same (xs ++ (y ∷ ys)) ≡ false)
            → (not (any (same x) (xs ++ (y ∷ ys))) && distinct same (xs ++ (y ∷ ys))) ≡ false
        go true e ih = rw (any_append (same x) xs (y ∷ ys), e, or-true (any (same x) xs))
        go false e ih = rw (ih (rw e at h), and-false (not (any (same x) (xs ++ (y ∷ ys)))))

    -- one that differs from each earlier one
    pub distinct_more : (xs : List A) → distinct same xs ≡ true → any (λ x. same x y) xs ≡ false → distinct same (xs ++ (y ∷ [])) ≡ true
    unfolding any distinct
    distinct_more [] d h = refl
    distinct_more (x ∷ xs) d h =
        let s = and-true (not (any (same x) xs)) (distinct same xs) d in
        let n = or-false (same x y) (any (λ z. same z y) xs) h in
        rw (any_append (same x) xs (y ∷ []), not-true (any (same x) xs) s.0, n.0) (distinct_more xs s.1 n.1)
