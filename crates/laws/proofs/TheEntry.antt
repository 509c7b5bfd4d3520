-- The entry of a name in an accepted image, and its forks among all the forks.
use Prim.Native.Nat.{ℕ, ◌≤◌}
use mathlib.Core.Path.{◌≡◌, sym, ap, subst, ◌∙◌}
use mathlib.Core.Bool.{true}
use mathlib.Core.List.{List, [], ◌∷◌, ◌++◌, append_assoc}
use native.Mathlib.Omega.{arith}
use lib.ListN.{length}
use borrow.Author.Tests.{not-false}
use Rattle.model.specs.Lists.{every, any}
use Rattle.model.specs.Facts.{facts_of, N, A, free_count}
use Rattle.model.specs.Map.{map_entry}
use Rattle.model.specs.Directory.{directory, fork_of, forks_in, named}
use Rattle.model.specs.Check.{good_entry, fires6, Accepted}
use Rattle.model.specs.Calls.{entry_named, with_fork}
use Rattle.model.specs.declared.ForkFacts.{ForkFacts}
use Rattle.model.specs.declared.Fork.{Fork}
use Rattle.model.specs.declared.Fork.TheVariants.{Data, Resource}
use Rattle.model.proofs.Lists.{and-true, every_append}
use Rattle.laws.proofs.Reorder.{Alone}
use Rattle.laws.proofs.MapChecks.{MapPasses}
use Rattle.laws.proofs.MapSteps.{fork_with}
use Rattle.laws.proofs.Block.{good_long}
use Rattle.laws.proofs.Entry.{fork_fields, other_resource, other_data}
use Rattle.laws.proofs.Kept.{named_first}
use Rattle.laws.proofs.DirectorySteps.{named_now}
use Rattle.laws.proofs.Acceptance.{forks_append, map_passes, readable_of}

-- the forks before and behind one of an entry's, among those of a directory
abbrev pub forks_before : Fork → List (List ℕ) → List ℕ → List ForkFacts
forks_before Data p e = forks_in p
forks_before Resource p e = forks_in p ++ (fork_of Data e ∷ [])

abbrev pub forks_behind : Fork → List ℕ → List (List ℕ) → List ForkFacts
forks_behind Data e q = fork_of Resource e ∷ forks_in q
forks_behind Resource e q = forks_in q

pub forks_split : (fork : Fork) (p : List (List ℕ)) (e : List ℕ) (q : List (List ℕ))
    → forks_in (p ++ (e ∷ q)) ≡ forks_before fork p e ++ (fork_of fork e ∷ forks_behind fork e q)
unfolding forks_in
forks_split Data p e q = forks_append p (e ∷ q)
forks_split Resource p e q = forks_append p (e ∷ q) ∙ sym (append_assoc (forks_in p) (fork_of Data e ∷ []) (fork_of Resource e ∷ forks_in q))

module _ (fork : Fork) (a logical : ℕ) (bs : List ℕ) (changed : ℕ) where
  abbrev stored : List ℕ → List ℕ
  stored = with_fork fork a logical bs changed

  -- the same with the fork's new fields
  pub forks_stored : (p : List (List ℕ)) (e : List ℕ) (q : List (List ℕ)) → 50 ≤ length e
      → forks_in (p ++ (stored e ∷ q)) ≡ forks_before fork p e ++ (fork_with a logical bs ∷ forks_behind fork e q)
  forks_stored p e q l = forks_split fork p (stored e) q ∙ go fork
    where
      go : (k : Fork) → let e' = with_fork k a logical bs changed e in forks_before k p e' ++ (fork_of k e' ∷ forks_behind k e' q)
          ≡ forks_before k p e ++ (fork_with a logical bs ∷ forks_behind k e q)
      go Data = rw (fork_fields Data a logical bs changed e l, other_resource a logical bs changed e)
      go Resource = rw (fork_fields Resource a logical bs changed e l, other_data a logical bs changed e)

-- the forks before and behind a fork g, which pass the map's checks with it
pub record Neighbours (image : List ℕ) (g : ForkFacts) : Type 0 where
  pub before : List ForkFacts
  pub behind : List ForkFacts
  pub passes : MapPasses (map_entry image) (N (facts_of image)) (A (facts_of image)) (free_count (facts_of image)) (before ++ (g ∷ behind))

-- the named entry of an accepted image, and the fork among the others
module _ (image : List ℕ) (acc : Accepted image) (name : List ℕ) (there : any (named name) (directory image) ≡ true) where
  pub it_alone : Alone (named name) (directory image)
  it_alone = named_now image (readable_of image acc) name there

  abbrev pub the_entry : List ℕ
  the_entry = it_alone.it

  pub the_entry_lem : entry_named name image ≡ the_entry
  unfolding entry_named
  the_entry_lem = named_first name (directory image) it_alone

  pub the_fork : (fork : Fork) → fork_of fork (entry_named name image) ≡ fork_of fork the_entry
  the_fork fork = ap (fork_of fork) the_entry_lem

  pub the_length : 50 ≤ length the_entry
  unfolding fires6 every
  the_length =
      let g : every good_entry (directory image) ≡ true = not-false _ (readable_of image acc).pass6 in
      let p = it_alone.before in
      let q = the_entry ∷ it_alone.behind in
      let s = and-true (every good_entry p) (every good_entry q) (sym (every_append good_entry p q) ∙ (rw it_alone.whole at g)) in
      omega (arith, good_long the_entry (and-true (good_entry the_entry) (every good_entry it_alone.behind) s.1).0)

  abbrev pub around : Fork → List ForkFacts
  around fork = forks_before fork it_alone.before the_entry

  abbrev pub beyond : Fork → List ForkFacts
  beyond fork = forks_behind fork the_entry it_alone.behind

  pub forks_there : (fork : Fork) → forks_in (directory image) ≡ around fork ++ (fork_of fork the_entry ∷ beyond fork)
  forks_there fork = ap forks_in it_alone.whole ∙ forks_split fork it_alone.before the_entry it_alone.behind

  pub passes_there : (fork : Fork)
      → MapPasses (map_entry image) (N (facts_of image)) (A (facts_of image)) (free_count (facts_of image)) (around fork ++ (fork_of fork the_entry ∷ beyond fork))
  passes_there fork =
      let f = facts_of image in
      subst (MapPasses (map_entry image) (N f) (A f) (free_count f)) (forks_there fork) (map_passes image acc)

  abbrev pub neighbours : (fork : Fork) → Neighbours image (fork_of fork the_entry)
  neighbours fork = record { before = around fork; behind = beyond fork; passes = passes_there fork }
