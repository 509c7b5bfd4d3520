-- Laws of entries that share a number or a name.
use Prim.Native.Nat.{ℕ}
use mathlib.Core.Path.{◌≡◌, refl}
use mathlib.Core.Bool.{Bool, true, false, not, ◌&&◌, ◌||◌, and-false}
use mathlib.Core.List.{List, [], ◌∷◌}
use Rattle.model.specs.Lists.{any, distinct}
use Rattle.model.specs.Check.{same_numbers, same_names}
use Rattle.checks.specs.Same.{clash}

pub clash_number : (d e : List ℕ) → same_numbers d e ≡ true → clash d e ≡ true
unfolding clash
clash_number d e h = rw h

pub clash_name : (d e : List ℕ) → same_numbers d e ≡ false → clash d e ≡ same_names d e
unfolding clash
clash_name d e h = rw h

-- an entry clashes with one of the others where it shares its number or its name with one
any_clash : (d : List ℕ) (es : List (List ℕ)) → any (clash d) es ≡ (any (same_numbers d) es || any (same_names d) es)
unfolding any clash
any_clash d [] = refl
any_clash d (e ∷ es) = rw (any_clash d es) (regroup (same_numbers d e) (same_names d e) (any (same_numbers d) es) (any (same_names d) es))
  where
    regroup : (a b x y : Bool) → ((a || b) || (x || y)) ≡ ((a || x) || (b || y))
    regroup true b x y = refl
    regroup false true true y = refl
    regroup false true false y = refl
    regroup false false x y = refl

-- no number is repeated and no two names are equal
unfoldable pub all_differ : List (List ℕ) → Bool
all_differ es = distinct same_numbers es && distinct same_names es

differ_first : (d : List ℕ) (es : List (List ℕ)) → all_differ (d ∷ es) ≡ (not (any (clash d) es) && all_differ es)
unfolding all_differ distinct
differ_first d es =
    rw (any_clash d es) (regroup (any (same_numbers d) es) (any (same_names d) es) (distinct same_numbers es) (distinct same_names es))
  where
    regroup : (a b x y : Bool) → ((not a && x) && (not b && y)) ≡ (not (a || b) && (x && y))
    regroup true b x y = refl
    regroup false true x y = and-false x
    regroup false false x y = refl

-- entries es, of which d is the first and ds are the others
module _ {es ds : List (List ℕ)} {d : List ℕ} (r : es ≡ d ∷ ds) where
  pub differ_not : any (clash d) ds ≡ true → all_differ es ≡ false
  differ_not h = rw (r, differ_first d ds, h)

  pub differ_more : any (clash d) ds ≡ false → all_differ es ≡ all_differ ds
  differ_more h = rw (r, differ_first d ds, h)
