-- Laws of the new blocks that a write needs.
use Prim.Native.Nat.{ℕ, suc, ◌+◌, ◌-◌, ◌*◌, ◌/◌, ◌%◌, ◌≤◌, ◌<◌, min, max}
use mathlib.Core.Path.{◌≡◌, refl, sym, ap, ◌∙◌}
use mathlib.Core.Bool.{Bool, true, false, cond}
use native.Mathlib.Omega.{arith}
use native.Mathlib.Nat.{mul-le-mul_left, div-le_self, div-add-mod'}
use lib.Dec.{ltb}
use borrow.Author.Tests.{lt-ltb, le-ltb, ltb-false}
use Rattle.model.specs.Facts.{A, free_count}
use Rattle.model.specs.Directory.{block_count}
use Rattle.std.specs.Prelude.{Result, Ok, Err}
use Rattle.std.proofs.Math.Nat.{lt_of_mul-lt-mul_right}
use Rattle.std.proofs.lemmas.Grind.{div_ceil_times}
use Rattle.model.specs.Check.{or_else}
use Rattle.model.specs.Refusals.{done_number}
use Rattle.model.specs.Calls.{fewest, rounded, grown, needed, needed_blocks}
use Rattle.model.specs.declared.VolumeFacts.{VolumeFacts}
use Rattle.model.specs.declared.ForkFacts.{ForkFacts}
use Rattle.laws.proofs.Content.{fewest_holds, fewest_least}
use Rattle.model.specs.declared.refusal.Refusal.{Refusal}
use Rattle.model.specs.declared.refusal.Refusal.TheVariants.{VolumeFull}
use Rattle.forks.specs.Growth.{Grows}

-- the fewest blocks are what the library's division says that rounds up
pub fewest_ceil : (n a : ℕ) → 0 < a → n / a + min 1 (n % a) ≡ fewest n a
fewest_ceil n a h =
    let c = n / a + min 1 (n % a) in
    let k = fewest n a in
    let t = div_ceil_times n a h in
    let low : k ≤ c = fewest_least n a c h t.0 in
    let holds : n ≤ k * a = fewest_holds n a h in
    let most : c * a < suc k * a = omega (arith, t.1) in
    let high : c < suc k = lt_of_mul-lt-mul_right a most in
    omega arith

-- and whole clumps of c are its next multiple
pub rounded_next : (c q r : ℕ) → 0 < c → r % c ≡ 0 → q ≤ r → r < q + c → r ≡ rounded c q
unfolding rounded
rounded_next c q r h m low high =
    let k = r / c in
    let whole : k * c ≡ r = omega (arith, div-add-mod' r c) in
    let least : fewest q c ≤ k = fewest_least q c k h (omega arith) in
    let most : k * c < suc (fewest q c) * c = omega (arith, fewest_holds q c h) in
    let below : k < suc (fewest q c) = lt_of_mul-lt-mul_right c most in
    let same : k ≡ fewest q c = omega arith in
    sym whole ∙ ap (λ j. j * c) same

module _ (f : VolumeFacts) (g : ForkFacts) (o n : ℕ) where
  pub needed_blocks_lem : (due has : ℕ) → due ≡ fewest (max g.logical (o + n)) (A f) → has ≡ block_count (A f) g → needed_blocks f g o n ≡ due - has
  unfolding needed_blocks needed grown
  needed_blocks_lem due has e h = rw (e, h)

  -- so many bytes fit on no volume
  pub too_many : 512 ≤ A f → A f ≤ 32768 → g.physical < 4294967296 → free_count f < 65536 → 4611686018427387904 ≤ o + n → free_count f < needed_blocks f g o n
  unfolding block_count
  too_many low high p q h =
      let size = max g.logical (o + n) in
      let k = fewest size (A f) in
      omega (
        arith,
        needed_blocks_lem k (block_count (A f) g) refl refl,
        fewest_holds size (A f) (omega arith),
        mul-le-mul_left {m = A f} {n = 32768} k high,
        div-le_self g.physical (A f),
      )

  pub grows : (r : Result ℕ Refusal) → needed_blocks f g o n ≤ free_count f → r ≡ Ok (needed_blocks f g o n) → Grows f g o n r
  grows r h e = record { is = rw (le-ltb (free_count f) (needed_blocks f g o n) h) e }

  pub grows_not : free_count f < needed_blocks f g o n → Grows f g o n (Err VolumeFull)
  grows_not h = record { is = rw (lt-ltb (free_count f) (needed_blocks f g o n) h) }

  -- its number, 17 or 0
  pub grows_number : (r : Result ℕ Refusal) → Grows f g o n r → done_number r ≡ or_else (ltb (free_count f) (needed_blocks f g o n)) 17 0
  grows_number r h = rw h.is (go (ltb (free_count f) (needed_blocks f g o n)) (needed_blocks f g o n))
    where
      go : (t : Bool) (k : ℕ) → done_number (cond t (Err VolumeFull) (Ok k)) ≡ or_else t 17 0
      go true k = refl
      go false k = refl

  -- the refusal is 17
  pub grows_full : (q : Refusal) → Grows f g o n (Err q) → q ≡ VolumeFull
  grows_full q h = go (ltb (free_count f) (needed_blocks f g o n)) h.is
    where
      go : (t : Bool) → Err q ≡ cond t (Err VolumeFull) (Ok (needed_blocks f g o n)) → q ≡ VolumeFull
      go true p = cc
      go false p = absurd cc

  -- a number says that they are free, and how many
  pub grows_free : (k : ℕ) → Grows f g o n (Ok k) → (k ≡ needed_blocks f g o n) × (needed_blocks f g o n ≤ free_count f)
  grows_free k h = go (ltb (free_count f) (needed_blocks f g o n)) refl h.is
    where
      go : (t : Bool) → ltb (free_count f) (needed_blocks f g o n) ≡ t → Ok k ≡ cond t (Err VolumeFull) (Ok (needed_blocks f g o n))
          → (k ≡ needed_blocks f g o n) × (needed_blocks f g o n ≤ free_count f)
      go true e p = absurd cc
      go false e p = (cc, ltb-false (free_count f) (needed_blocks f g o n) e)
