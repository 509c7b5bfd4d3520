-- Laws of the home slots: entries that are the same have the same one.
use Prim.Native.Nat.{ℕ, ◌+◌, ◌*◌, ◌%◌, ◌≤◌, ◌<◌}
use mathlib.Core.Path.{◌≡◌, ap}
use mathlib.Core.Bool.{Bool, true}
use mathlib.Core.List.{List}
use native.Mathlib.Numerals.{add-one}
use lib.Dec.{eqb}
use lib.ListN.{length, drop, drop_of_length-le}
use lib.Seq.{drop-cons}
use borrow.Author.Tests.{eqb-true}
use Rattle.model.specs.Bytes.{byte}
use Rattle.model.specs.Directory.{number_in, name_in, same_name}
use Rattle.directory.specs.Folding.{fold, folded}
use Rattle.directory.proofs.Folding.{same_folded}
use Rattle.checks.specs.declared.Field.{Field}
use Rattle.checks.specs.declared.Field.TheVariants.{Number, Name}
use Rattle.checks.specs.Same.{same_by}
use Rattle.checks.specs.Table.{hashed, spread_of, home_by}

-- one byte more of a name hashed in
pub hash_more : (name : List ℕ) (h i : ℕ) → i < length name
    → hashed h (folded (drop i name)) ≡ hashed ((h * 293 + fold (byte name i)) % 65536) (folded (drop (i + 1) name))
unfolding hashed folded
hash_more name h i l = rw (add-one, drop-cons name i 0 l)

-- no byte is left
pub hash_end : (name : List ℕ) (h i : ℕ) → length name ≤ i → hashed h (folded (drop i name)) ≡ h
unfolding hashed folded
hash_end name h i l = rw (drop_of_length-le name l)

-- entries that are the same have the same home slot
pub same_home : (field : Field) (d e : List ℕ) → same_by field d e ≡ true → home_by field d ≡ home_by field e
same_home Number d e h = ap spread_of (eqb-true (number_in d) (number_in e) h)
same_home Name d e h = ap (λ (n : List ℕ). spread_of (hashed 0 n)) (same_folded (name_in d) (name_in e) h)

-- ---- by what is compared

module _ (field : Field) (d e : List ℕ) where
  pub same_number : (a b : ℕ) → field ≡ Number → a ≡ number_in d → b ≡ number_in e → eqb a b ≡ same_by field d e
  same_number a b f p q = rw (f, p, q)

  pub same_named : (m n : List ℕ) (r : Bool) → field ≡ Name → r ≡ same_name m n → m ≡ name_in d → n ≡ name_in e → r ≡ same_by field d e
  same_named m n r f h p q = rw (f, h, p, q)

module _ (field : Field) (e : List ℕ) (r : ℕ) where
  pub home_number : (a : ℕ) → field ≡ Number → r ≡ spread_of a → a ≡ number_in e → r ≡ home_by field e
  home_number a f h p = rw (f, h, p)

  pub home_name : (h : ℕ) (n : List ℕ) → field ≡ Name → r ≡ spread_of h → h ≡ hashed 0 (folded n) → n ≡ name_in e → r ≡ home_by field e
  home_name h n f p q s = rw (f, p, q, s)
