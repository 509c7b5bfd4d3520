-- Just one entry has a name that is found, and checks 6 and 7 hold after create, delete, and a change of an entry's fields.
use Prim.Native.Nat.{ℕ, suc, ◌+◌, ◌-◌, ◌≤◌}
use mathlib.Core.Path.{◌≡◌, ap, ◌∙◌}
use mathlib.Core.Bool.{Bool, true, false, not}
use mathlib.Core.List.{List, [], ◌∷◌, ◌++◌, map}
use native.Mathlib.Omega.{arith}
use lib.ListN.{length, length-map, length-append}
use lib.Dec.{eqb, ltb}
use borrow.Author.Tests.{eqb-true, ltb-true, eq-eqb, ne_eqb, lt-ltb, not-false}
use Rattle.model.specs.Lists.{every, any, distinct, keep, first, Reordered}
use Rattle.model.specs.Directory.{number_in, name_in, named}
use Rattle.model.specs.Check.{good_entry, good_number, same_numbers, same_names, fires6, fires7}
use Rattle.model.specs.Calls.{on_named}
use Rattle.model.proofs.Lists.{and-true, keep_every, keep_distinct, reordered_length, reordered_every, reordered_distinct}
use Rattle.laws.proofs.Reorder.{every_weaker, every_map, none_of, distinct_map, Alone, alone, alone_first, alone_keep, alone_map}
use Rattle.model.proofs.Names.{eqb_comm, same_name_comm, same_name_trans}
use Rattle.laws.proofs.Block.{Keeps, keeps_named}

-- ---- names

-- two entries that have a name have the same
pub both_named : (name d e : List ℕ) → named name d ≡ true → named name e ≡ true → same_names d e ≡ true
unfolding named
both_named name d e p q = same_name_trans (name_in d) name (name_in e) (same_name_comm (name_in d) name ∙ p) q

pub names_comm : (d e : List ℕ) → same_names d e ≡ same_names e d
names_comm d e = same_name_comm (name_in d) (name_in e)

pub numbers_comm : (d e : List ℕ) → same_numbers d e ≡ same_numbers e d
numbers_comm d e = eqb_comm (number_in d) (number_in e)

-- what is done to the entry of a name
pub on_named_lem : (name : List ℕ) (g : List ℕ → List ℕ) (e : List ℕ) → named name e ≡ true → on_named name g e ≡ g e
unfolding on_named
on_named_lem name g e h = rw h

pub on_other : (name : List ℕ) (g : List ℕ → List ℕ) (e : List ℕ) → named name e ≡ false → on_named name g e ≡ e
unfolding on_named
on_other name g e h = rw h

-- just one entry has a name that is found
pub one_named : (name : List ℕ) (es : List (List ℕ)) → distinct same_names es ≡ true → any (named name) es ≡ true → Alone (named name) es
one_named name es d h = alone same_names names_comm (named name) (both_named name) es d h

module _ (name : List ℕ) (es : List (List ℕ)) (o : Alone (named name) es) where
  pub named_first : first (named name) [] es ≡ o.it
  named_first = alone_first (named name) es o []

  pub named_keep : keep (λ e. not (named name e)) es ≡ o.before ++ o.behind
  named_keep = alone_keep (named name) es o

  pub named_map : (g : List ℕ → List ℕ) → map (on_named name g) es ≡ o.before ++ (g o.it ∷ o.behind)
  named_map g =
      alone_map (named name) es o (on_named name g) (on_other name g)
      ∙ ap (λ (e : List ℕ). o.before ++ (e ∷ o.behind)) (on_named_lem name g o.it o.passes)

-- ---- checks 6 and 7

-- what they ask, test by test
pub record Listed (files next : ℕ) (es : List (List ℕ)) : Type 0 where
  pub clean : every good_entry es ≡ true
  pub counted : length es ≡ files
  pub numbers : every (good_number next) es ≡ true
  pub numbers_differ : distinct same_numbers es ≡ true
  pub names_differ : distinct same_names es ≡ true

module _ (files next : ℕ) (es : List (List ℕ)) where
  pub listed : fires6 es ≡ false → fires7 files next es ≡ false → Listed files next es
  unfolding fires6 fires7
  listed p q =
      let a = and-true (eqb (length es) files) _ (not-false _ q) in
      let b = and-true (every (good_number next) es) _ a.1 in
      let c = and-true (distinct same_numbers es) (distinct same_names es) b.1 in
      record {
        clean = not-false _ p;
        counted = eqb-true (length es) files a.0;
        numbers = b.0;
        numbers_differ = c.0;
        names_differ = c.1;
      }

  pub listed_pass6 : Listed files next es → fires6 es ≡ false
  unfolding fires6
  listed_pass6 s = rw s.clean

  pub listed_pass7 : Listed files next es → fires7 files next es ≡ false
  unfolding fires7
  listed_pass7 s = rw (eq-eqb (length es) files s.counted, s.numbers, s.numbers_differ, s.names_differ)

-- create
pub create_listed : (files next : ℕ) (e : List ℕ) (es fs : List (List ℕ)) → Listed files next es → Reordered fs (e ∷ es)
    → good_entry e ≡ true → number_in e ≡ next → 1 ≤ next → any (named (name_in e)) es ≡ false → Listed (files + 1) (next + 1) fs
unfolding every distinct good_number named
create_listed files next e es fs s r g n p u =
    let later : (x : List ℕ) → good_number next x ≡ true → good_number (next + 1) x ≡ true
    = λ x h. let a =
    and-true (ltb 0 (number_in x)) (ltb (number_in x) next) h in rw
    (a.0, lt-ltb (number_in x) (next + 1) (omega (arith, ltb-true (number_in x) next a.1))) in
    let other : (x : List ℕ) → good_number next x ≡ true → same_numbers e x ≡ false
    = λ x h. let a =
    and-true (ltb 0 (number_in x)) (ltb (number_in x) next) h in ne_eqb (number_in e) (number_in x) (λ q. omega (arith, ltb-true (number_in x) next a.1)) in
    record {
      clean = reordered_every good_entry r ∙ rw (g, s.clean);
      counted = reordered_length r ∙ omega (arith, s.counted);
      numbers =
          reordered_every (good_number (next + 1)) r
          ∙ rw (n, lt-ltb 0 next p, lt-ltb next (next + 1) (omega arith), every_weaker (good_number next) (good_number (next + 1)) later es s.numbers);
      numbers_differ = reordered_distinct same_numbers numbers_comm r ∙ rw (none_of (good_number next) (same_numbers e) other es s.numbers, s.numbers_differ);
      names_differ = reordered_distinct same_names names_comm r ∙ rw (u, s.names_differ);
    }

-- delete
pub delete_listed : (files next : ℕ) (name : List ℕ) (es : List (List ℕ)) → Listed files next es → any (named name) es ≡ true
    → Listed (files - 1) next (keep (λ e. not (named name e)) es)
delete_listed files next name es s h =
    let q : List ℕ → Bool = λ e. not (named name e) in
    let o = one_named name es s.names_differ h in
    let n : length es ≡ length o.before + suc (length o.behind) = ap length o.whole ∙ length-append o.before (o.it ∷ o.behind) in
    let k : length (keep q es) ≡ length o.before + length o.behind = ap length (named_keep name es o) ∙ length-append o.before o.behind in
    record {
      clean = keep_every q good_entry es s.clean;
      counted = omega (arith, s.counted);
      numbers = keep_every q (good_number next) es s.numbers;
      numbers_differ = keep_distinct q same_numbers es s.numbers_differ;
      names_differ = keep_distinct q same_names es s.names_differ;
    }

-- write and cut
pub map_listed : (files next : ℕ) (g : List ℕ → List ℕ) (es : List (List ℕ)) → Keeps g → Listed files next es → Listed files next (map g es)
unfolding good_number
map_listed files next g es k s = record {
  clean = every_map good_entry good_entry g k.good es ∙ s.clean;
  counted = length-map es g ∙ s.counted;
  numbers = every_map (good_number next) (good_number next) g (λ e. rw (k.number e)) es ∙ s.numbers;
  numbers_differ = distinct_map same_numbers same_numbers g (λ x y. rw (k.number x, k.number y)) es ∙ s.numbers_differ;
  names_differ = distinct_map same_names same_names g (λ x y. rw (k.name x, k.name y)) es ∙ s.names_differ;
}

pub change_listed : (files next : ℕ) (name : List ℕ) (g : List ℕ → List ℕ) (es : List (List ℕ)) → Keeps g → Listed files next es
    → Listed files next (map (on_named name g) es)
change_listed files next name g es k s = map_listed files next (on_named name g) es (keeps_named name g k) s

-- ---- the same of the checks themselves

module _ (files next : ℕ) (es : List (List ℕ)) (h₆ : fires6 es ≡ false) (h₇ : fires7 files next es ≡ false) where
  pub create_checks : (e : List ℕ) (fs : List (List ℕ)) → Reordered fs (e ∷ es) → good_entry e ≡ true → number_in e ≡ next → 1 ≤ next
      → any (named (name_in e)) es ≡ false
      → (fires6 fs ≡ false) × (fires7 (files + 1) (next + 1) fs ≡ false)
  create_checks e fs r g n p u =
      let s = create_listed files next e es fs (listed files next es h₆ h₇) r g n p u in
      (listed_pass6 (files + 1) (next + 1) fs s, listed_pass7 (files + 1) (next + 1) fs s)

  pub delete_checks : (name : List ℕ) → any (named name) es ≡ true
      → (fires6 (keep (λ e. not (named name e)) es) ≡ false) × (fires7 (files - 1) next (keep (λ e. not (named name e)) es) ≡ false)
  delete_checks name h =
      let s = delete_listed files next name es (listed files next es h₆ h₇) h in
      (listed_pass6 (files - 1) next _ s, listed_pass7 (files - 1) next _ s)

  pub change_checks : (name : List ℕ) (g : List ℕ → List ℕ) → Keeps g
      → (fires6 (map (on_named name g) es) ≡ false) × (fires7 files next (map (on_named name g) es) ≡ false)
  change_checks name g k =
      let s = change_listed files next name g es k (listed files next es h₆ h₇) in
      (listed_pass6 files next _ s, listed_pass7 files next _ s)

  pub names_differ_lem : distinct same_names es ≡ true
  names_differ_lem = (listed files next es h₆ h₇).names_differ

  pub numbers_differ_lem : distinct same_numbers es ≡ true
  numbers_differ_lem = (listed files next es h₆ h₇).numbers_differ
