-- Laws of parts of a list, as slices hold them and loops copy them.
use Prim.Native.Nat.{ℕ, zero, suc, ◌-◌}
use mathlib.Core.Path.{◌≡◌, ap, ◌∙◌}
use mathlib.Core.List.{List}
use native.Mathlib.Omega.{arith}
use lib.ListN.{length, take, drop, length-drop}
use lib.Seq.{take_all}
use Rattle.model.specs.Bytes.{zeros}

-- what a part to the end, `&s[a..]`, holds
pub part_to_end : (a : ℕ) (s : List ℕ) → take (length s - a) (drop a s) ≡ drop a s
part_to_end a s = take_all (length s - a) (drop a s) (omega (arith, length-drop a s))

-- what is left of zeros
pub drop_zeros : (n k : ℕ) → drop k (zeros n) ≡ zeros (n - k)
drop_zeros n zero = let e : n ≡ n - 0 = omega arith in ap zeros e
drop_zeros zero (suc k) = let e : 0 ≡ 0 - suc k = omega arith in ap zeros e
drop_zeros (suc n) (suc k) = let e : n - k ≡ suc n - suc k = omega arith in drop_zeros n k ∙ ap zeros e
