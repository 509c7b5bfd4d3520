-- The numbers of the refusals, and the number that a call gives back.
use Rattle.std.specs.Prelude.{ℕ, Result, Ok, Err}
use Rattle.model.specs.declared.refusal.Refusal.{Refusal}
use Rattle.model.specs.declared.refusal.Refusal.TheVariants.{BadLength, BadSignature, BadLayout, BadVolumeName, BadMapEntry, BadEntry, BadFiles, BadFork, LostBlock, BadFreeCount, VolumeLocked, BadName, NotFound, NameExists, FileLocked, BeyondEnd, VolumeFull, DirectoryFull, LastNumber, NameTooLong, BadHeader, BadDataSum, BadTagSum}

-- A refusal gives its number.
abbrev pub number_of : Refusal → ℕ
number_of BadLength = 1
number_of BadSignature = 2
number_of BadLayout = 3
number_of BadVolumeName = 4
number_of BadMapEntry = 5
number_of BadEntry = 6
number_of BadFiles = 7
number_of BadFork = 8
number_of LostBlock = 9
number_of BadFreeCount = 10
number_of VolumeLocked = 11
number_of BadName = 12
number_of NotFound = 13
number_of NameExists = 14
number_of FileLocked = 15
number_of BeyondEnd = 16
number_of VolumeFull = 17
number_of DirectoryFull = 18
number_of LastNumber = 19
number_of NameTooLong = 21
number_of BadHeader = 22
number_of BadDataSum = 23
number_of BadTagSum = 24

-- 0 is success.
abbrev pub done_number : {A : Type 0} → Result A Refusal → ℕ
done_number (Ok _) = 0
done_number (Err refusal) = number_of refusal
