-- What is compared of two entries.
use Rattle.std.specs.Prelude.{ℕ, Bool, ◌||◌, List}
use Rattle.model.specs.Check.{same_numbers, same_names}
use Rattle.checks.specs.declared.Field.{Field}
use Rattle.checks.specs.declared.Field.TheVariants.{Number, Name}

-- the two entries are the same in this field
abbrev pub same_by : Field → List ℕ → List ℕ → Bool
same_by Number d e = same_numbers d e
same_by Name d e = same_names d e

-- the two entries have the same file number or equal names
unfoldable pub clash : List ℕ → List ℕ → Bool
clash d e = same_numbers d e || same_names d e
