-- Laws of a new name that a file of an accepted image has: it is another file's where the places differ.
use Prim.Native.Nat.{ℕ, suc}
use mathlib.Core.Path.{◌≡◌, refl, sym, ap, ◌∙◌}
use mathlib.Core.Bool.{Bool, true, false, ◌||◌, not}
use mathlib.Core.List.{List, [], ◌∷◌, ◌++◌}
use lib.ListN.{length, get_or}
use lib.Dec.{eqb}
use borrow.Author.Tests.{eq-eqb, ne_eqb, not-true}
use Rattle.model.specs.Lists.{any, distinct, keep, place_of}
use Rattle.model.specs.Directory.{directory, named}
use Rattle.model.specs.Check.{same_names, Accepted}
use Rattle.model.specs.Calls.{bad_name}
use Rattle.model.proofs.Lists.{and-true, or-false, so_not, any_append, keep_any, middle, reordered_distinct}
use Rattle.laws.proofs.Reorder.{none_stronger, Alone, alone_any, first_found}
use Rattle.laws.proofs.Kept.{both_named, names_comm, named_first, named_keep}
use Rattle.laws.proofs.Acceptance.{readable_of}
use Rattle.laws.proofs.DirectorySteps.{names_now, named_now}
use Rattle.directory.specs.declared.EntryAt.{EntryAt}
use Rattle.files.specs.Lookup.{NamedEntry, Missed}
use Rattle.files.proofs.Lookups.{missed_none}

-- ---- entries of different names: a, x and b

module _ (new : List ℕ) (a : List (List ℕ)) (x : List ℕ) (b : List (List ℕ)) where
  -- where x has the new name, no other has it
  only_it : distinct same_names (a ++ (x ∷ b)) ≡ true → named new x ≡ true → any (named new) (a ++ b) ≡ false
  unfolding distinct
  only_it d h =
      let apart = sym (reordered_distinct same_names names_comm (middle x a b)) ∙ d in
      let none = not-true _ (and-true (not (any (same_names x) (a ++ b))) (distinct same_names (a ++ b)) apart).0 in
      none_stronger (named new) (same_names x) (λ y t. both_named new x y h t) (a ++ b) none

  -- where x has not, one of the others has it
  one_other : any (named new) (a ++ (x ∷ b)) ≡ true → named new x ≡ false → any (named new) (a ++ b) ≡ true
  unfolding any
  one_other h n =
      any_append (named new) a b
      ∙ ap (λ (t : Bool). any (named new) a || (t || any (named new) b)) (sym n)
      ∙ sym (any_append (named new) a (x ∷ b)) ∙ h

place_behind : (p : List ℕ → Bool) (a : List (List ℕ)) (x : List ℕ) (b : List (List ℕ)) → any p a ≡ false → p x ≡ true → place_of p (a ++ (x ∷ b)) ≡ length a
unfolding any place_of
place_behind p [] x b h q = rw q
place_behind p (y ∷ a) x b h q = let s = or-false (p y) (any p a) h in rw s.0 (ap suc (place_behind p a x b s.1 q))

-- ---- the entry of a name, and the first of the new name

module _ (name new : List ℕ) (es : List (List ℕ)) (o : Alone (named name) es) (differ : distinct same_names es ≡ true) (there : any (named new) es ≡ true)
    (n : Alone (named new) es) where
  same_place : named new o.it ≡ true → place_of (named new) es ≡ place_of (named name) es
  same_place h =
      let none = only_it new o.before o.it o.behind (ap (distinct same_names) (sym o.whole) ∙ differ) h in
      let before = (or-false (any (named new) o.before) (any (named new) o.behind) (sym (any_append (named new) o.before o.behind) ∙ none)).0 in
      ap (place_of (named new)) o.whole ∙ place_behind (named new) o.before o.it o.behind before h
      ∙ sym (ap (place_of (named name)) o.whole ∙ place_behind (named name) o.before o.it o.behind o.none_before o.passes)

  other_place : named new o.it ≡ false → place_of (named new) es ≡ place_of (named name) es → ⊥
  other_place h e =
      let old : get_or es (place_of (named name) es) [] ≡ o.it = (first_found (named name) [] es (alone_any (named name) es o)).1 ∙ named_first name es o in
      let found : get_or es (place_of (named new) es) [] ≡ n.it = (first_found (named new) [] es there).1 ∙ named_first new es n in
      so_not (named new o.it) h (ap (named new) (sym old ∙ ap (λ (i : ℕ). get_or es i []) (sym e) ∙ found) ∙ n.passes)

  by_place : not (eqb (place_of (named new) es) (place_of (named name) es)) ≡ any (named new) (o.before ++ o.behind)
  by_place = go (named new o.it) refl
    where
      go : (t : Bool) → named new o.it ≡ t → not (eqb (place_of (named new) es) (place_of (named name) es)) ≡ any (named new) (o.before ++ o.behind)
      go true h =
          ap not (eq-eqb _ _ (same_place h))
          ∙ sym (only_it new o.before o.it o.behind (ap (distinct same_names) (sym o.whole) ∙ differ) h)
      go false h =
          ap not (ne_eqb _ _ (other_place h))
          ∙ sym (one_other new o.before o.it o.behind (ap (any (named new)) (sym o.whole) ∙ there) h)

-- ---- of an accepted image

module _ {image name : List ℕ} {place : ℕ} {e : EntryAt} (acc : Accepted image) (h : NamedEntry image name place e) where
  alone_old : Alone (named name) (directory image)
  alone_old = named_now image (readable_of image acc) name h.there.exists

  pub another_at : {new : List ℕ} {other : ℕ} {d : EntryAt} → NamedEntry image new other d
      → not (eqb other place) ≡ any (named new) (keep (λ x. not (named name x)) (directory image))
  another_at {new} k =
      let es = directory image in
      let r = readable_of image acc in
      (λ i. not (eqb (k.there.there i) (h.there.there i)))
      ∙ by_place name new es alone_old (names_now image r) k.there.exists (named_now image r new k.there.exists)
      ∙ ap (any (named new)) (sym (named_keep name es alone_old))

  pub another_none : {new : List ℕ} {number : ℕ} → bad_name new ≡ false → Missed image new number
      → false ≡ any (named new) (keep (λ x. not (named name x)) (directory image))
  another_none {new} good m = sym (keep_any (λ x. not (named name x)) (named new) (directory image) (missed_none good m))
