-- `logical` meets its contract: an allocation block is a whole number of logical blocks, at most 64. Assumes nothing.
use Prim.Native.Nat.{ℕ, ◌+◌, ◌-◌, ◌*◌, ◌/◌, ◌^◌, ◌≤◌, ◌<◌}
use mathlib.Core.Path.{◌≡◌, ap, ◌∙◌}
use native.Mathlib.Nat.{mul-le-mul, mul_assoc}
use native.Mathlib.Omega.{arith}
use Rattle.model.proofs.AllocationBlock.logical.Goals as goal

-- the logical blocks before it in the allocation area, and the first of its own, fit 32 bits
product : {p q : ℕ} → p ≤ 640 → q ≤ 64 → p * q < 2 ^ 32
product hp hq = omega (arith, mul-le-mul hp hq)

sum : {s p q : ℕ} → s < 65536 → p ≤ 640 → q ≤ 64 → s + p * q < 2 ^ 32
sum hs hp hq = omega (arith, mul-le-mul hp hq)

pub overflow_mul-blocks : goal.overflow_mul-blocks
overflow_mul-blocks c = record { fits = product (omega arith) (omega arith) }

pub overflow_add-first : goal.overflow_add-first
overflow_add-first c = record { fits = sum (omega arith) (omega arith) (omega arith) }

pub returns : goal.returns
returns c =
    let past = c.args.self.0 - 2 in
    let size = c.args.size in
    let whole : size / 512 * 512 ≡ size = omega arith in
    let scaled = mul_assoc past (size / 512) 512 ∙ ap (λ (x : ℕ). past * x) whole in
    omega arith
