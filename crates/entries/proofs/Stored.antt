-- What is stored in an entry, and laws of bytes stored by one copy, as the model's stores.
use Rattle.std.proofs.Common.{ℕ, List, ◌++◌, length, ◌≡◌, ◌+◌, ◌-◌, ◌≤◌, sym, ap, ◌∙◌, arith}
use Rattle.std.proofs.lemmas.Slice.{put_mid-paste}
use borrow.Rule.Slice.PartMut.{put_mid}
use lib.Seq.{sets, sets-eq, paste, take-length}
use Rattle.model.specs.Bytes.{bytes16, bytes32}
use Rattle.model.specs.declared.ForkFacts.{ForkFacts}

-- a fork's fields
abbrev pub fields : ForkFacts → List ℕ
fields g = bytes16 g.start.0 ++ (bytes32 g.logical ++ bytes32 g.physical)

pub sets_paste : (vs l : List ℕ) (i : ℕ) → i + length vs ≤ length l → sets l i vs ≡ paste l i vs (length vs)
sets_paste vs l i h = sets-eq vs l i h ∙ rw (take-length vs)

-- the n bytes of a number
pub number_stored : (l : List ℕ) (at n : ℕ) (part vs : List ℕ) → part ≡ vs → length vs ≡ n → at + n ≤ length l
    → put_mid at (at + n - at) l part ≡ sets l at vs
number_stored l at n part vs p h w =
    put_mid-paste at (at + n - at) l part vs n p (omega arith) (sym h) ∙ ap (paste l at vs) (sym h) ∙ sym (sets_paste vs l at (omega arith))
