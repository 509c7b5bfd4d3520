-- How a call's returns meet `Does`: the number that a call gives, and the two kinds of return.
use Prim.Native.Nat.{ℕ, zero, suc}
use mathlib.Core.Path.{◌≡◌, refl, sym, ◌∙◌}
use mathlib.Core.List.{List}
use borrow.Author.Tests.{eq-eqb, ne_eqb}
use Rattle.model.specs.Bytes.{Bytes}
use Rattle.model.specs.Check.{first_refusal}
use Rattle.model.specs.Calls.{Call, name_of, fork_given, checks, refuses, carries, known_in, refusal, change, counted, only, reply, lent, answer, after, Fits}
use Rattle.model.specs.Calls.{Does}

pub first_zero : (a b : ℕ) → a ≡ 0 → first_refusal a b ≡ b
unfolding first_refusal
first_zero a b h = rw h

pub first_fires : (a b : ℕ) → (a ≡ 0 → ⊥) → first_refusal a b ≡ a
unfolding first_refusal
first_fires zero b h = absurd (h refl)
first_fires (suc a) b h = refl

pub first_alone : (n : ℕ) → first_refusal n 0 ≡ n
unfolding first_refusal
first_alone zero = refl
first_alone (suc n) = refl

-- the number of what a call checks first
pub by_checks : (call : Call) (image : List ℕ) (n : ℕ) → n ≡ checks call image → (n ≡ 0 → ⊥) → n ≡ refusal call image
unfolding refusal
by_checks call image n h z = h ∙ sym (first_fires (checks call image) (refuses call (known_in image (name_of call) (fork_given call))) (λ e. z (h ∙ e)))

-- a call's own number, 0 too
pub by_own : (call : Call) (image : List ℕ) (n : ℕ) → checks call image ≡ 0 → n ≡ refuses call (known_in image (name_of call) (fork_given call))
    → n ≡ refusal call image
unfolding refusal
by_own call image n v h = h ∙ sym (first_zero (checks call image) (refuses call (known_in image (name_of call) (fork_given call))) v)

-- the two kinds of return of every call
pub does_count : (call : Call) (image : List ℕ) (n count : ℕ) → Bytes image → Fits call → n ≡ refusal call image → (n ≡ 0 → ⊥) → carries call n image ≡ count
    → Does call image (counted n count (lent call)) image
unfolding answer after
does_count call image n count b f h z k = record {
  bytes = b;
  fits = f;
  answers = rw (← h, k) (simp (ne_eqb n 0 z));
  leaves = rw (← h) (simp (ne_eqb n 0 z));
}

-- a refusal that carries no count
pub does_refuse : (call : Call) (image : List ℕ) (n : ℕ) → Bytes image → Fits call → n ≡ refusal call image → (n ≡ 0 → ⊥) → carries call n image ≡ 0
    → Does call image (only n (lent call)) image
unfolding only
does_refuse call image n b f h z k = does_count call image n 0 b f h z k

pub does_serve : (call : Call) (image : List ℕ) → Bytes image → Fits call → refusal call image ≡ 0 → Does call image (reply call image) (change call image)
unfolding answer after
does_serve call image b f h = record { bytes = b; fits = f; answers = simp (eq-eqb (refusal call image) 0 h); leaves = simp (eq-eqb (refusal call image) 0 h) }
