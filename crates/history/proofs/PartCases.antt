-- The worked cases of InParts hold.
use Prim.Native.Nat.{ℕ}
use mathlib.Core.Path.{◌≡◌, refl}
use mathlib.Core.List.{[], ◌∷◌}
use mathlib.Core.Logic.{◌⊎◌, inl, inr, ⊎_elim}
use native.Mathlib.Omega.{arith}
use Rattle.model.specs.Calls.{only}
use Rattle.model.specs.Calls.Call.{write}
use Rattle.model.specs.Cases.{WEEK1}
use Rattle.model.specs.declared.Fork.TheVariants.{Data}
use Rattle.history.specs.InParts.{WritesParts, Succeed, Meets, FirstGives}
use Rattle.history.specs.PartCases.{wrote, Three, gave, PartCases}

-- behind a part that succeeds comes the next
on : {P Q : Type 0} → P ⊎ ((◌≡◌ {A = ℕ} 0 0 → ⊥) × Q) → P
on (inl p) = p
on (inr q) = absurd (q.0 refl)

-- writes that differ in the offset, in a byte, in the date
offsets : write WEEK1 Data 700 (3 ∷ []) 9 ≡ write WEEK1 Data 702 (3 ∷ []) 9 → ⊥
offsets e = let z : ◌≡◌ {A = ℕ} 700 702 = cc in omega arith

contents : write WEEK1 Data 702 (4 ∷ []) 9 ≡ write WEEK1 Data 702 (3 ∷ []) 9 → ⊥
contents e = let z : ◌≡◌ {A = ℕ} 4 3 = cc in omega arith

dates : write WEEK1 Data 702 (3 ∷ []) 10 ≡ write WEEK1 Data 702 (3 ∷ []) 9 → ⊥
dates e = let z : ◌≡◌ {A = ℕ} 10 9 = cc in omega arith

pub part_cases : PartCases
unfolding wrote Three gave WritesParts Succeed Meets FirstGives only
part_cases = record {
  every = (refl, inl (refl, inl (refl, inl tt)));
  stopped = (refl, inl (refl, inr ((λ e. omega arith), refl)));
  onwards = (refl, inl (refl, inl (refl, inl tt)));
  none = λ h. h;
  fewer = λ h. on (on h.1).1;
  more = λ h. on (on (on h.1).1).1;
  elsewhere = λ h. offsets (on (on h.1).1).0;
  others = λ h. contents (on (on h.1).1).0;
  later = λ h. dates (on (on h.1).1).0;
  succeed = (refl, (refl, tt));
  refused = λ h. omega (arith, h.1.0);
  first17 = inl refl;
  later17 = inr (refl, inr (refl, inl refl));
  never17 = λ h. ⊎_elim (λ e. omega arith) (λ r. ⊎_elim (λ e. omega arith) (λ s. s.1) r.1) h;
  behind17 = λ h. ⊎_elim (λ e. omega arith) (λ r. ⊎_elim (λ e. omega arith) (λ s. omega (arith, s.0)) r.1) h;
  first = refl;
  second = λ h. omega (arith, h);
}
