-- Laws of the refusals' numbers.
use mathlib.Core.Path.{◌≡◌}
use native.Mathlib.Omega.{arith}
use Rattle.model.specs.Refusals.{number_of}
use Rattle.model.specs.declared.refusal.Refusal.{Refusal}
use Rattle.model.specs.declared.refusal.Refusal.TheVariants.{BadLength, BadSignature, BadLayout, BadVolumeName, BadMapEntry, BadEntry, BadFiles, BadFork, LostBlock, BadFreeCount, VolumeLocked, BadName, NotFound, NameExists, FileLocked, BeyondEnd, VolumeFull, DirectoryFull, LastNumber, NameTooLong, BadHeader, BadDataSum, BadTagSum}

-- none is 0, the number of success
pub number_some : (refusal : Refusal) → number_of refusal ≡ 0 → ⊥
number_some BadLength z = omega arith
number_some BadSignature z = omega arith
number_some BadLayout z = omega arith
number_some BadVolumeName z = omega arith
number_some BadMapEntry z = omega arith
number_some BadEntry z = omega arith
number_some BadFiles z = omega arith
number_some BadFork z = omega arith
number_some LostBlock z = omega arith
number_some BadFreeCount z = omega arith
number_some VolumeLocked z = omega arith
number_some BadName z = omega arith
number_some NotFound z = omega arith
number_some NameExists z = omega arith
number_some FileLocked z = omega arith
number_some BeyondEnd z = omega arith
number_some VolumeFull z = omega arith
number_some DirectoryFull z = omega arith
number_some LastNumber z = omega arith
number_some NameTooLong z = omega arith
number_some BadHeader z = omega arith
number_some BadDataSum z = omega arith
number_some BadTagSum z = omega arith
