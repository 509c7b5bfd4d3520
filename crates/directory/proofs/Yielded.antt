-- Laws of the entries that the iterator has given.
use Prim.Native.Nat.{ℕ, ◌+◌, ◌-◌, ◌≤◌}
use mathlib.Core.Path.{◌≡◌, refl, sym, ap, ◌∙◌}
use mathlib.Core.List.{List, [], ◌∷◌}
use native.Mathlib.Omega.{arith}
use native.Mathlib.Nat.{zero-add}
use lib.ListN.{length, get_or}
use Rattle.std.specs.Prelude.{None, Some}
use Rattle.std.specs.Iterator.{Yields, SkipsThenYields}
use Rattle.directory.specs.declared.Cursor.{Cursor}
use Rattle.directory.specs.declared.EntryAt.{EntryAt}
use Rattle.directory.specs.declared.iterator.Entries.{Entries}
use Rattle.directory.specs.Cursor.{rest_of}
use Rattle.directory.specs.Entries.{Reads}
use Rattle.directory.specs.Search.{Placed}
use Rattle.directory.proofs.Tests.{at_first, at_later}

-- a loop over the entries begins at their cursor
pub begun : {image : List ℕ} {from : Cursor} {s made : Entries} → s ≡ made → (made.image.now ≡ image) × (made.cursor ≡ from)
    → (s.image.now ≡ image) × (s.cursor ≡ from)
begun g k = (ap (λ (s : Entries). s.image.now) g ∙ k.0, ap (λ (s : Entries). s.cursor) g ∙ k.1)

-- d stands behind the entries xs from c on
record Behind (image : List ℕ) (c d : Cursor) (xs : List EntryAt) : Type 0 where
  count : length (rest_of image c) ≡ length xs + length (rest_of image d)
  places : (i : ℕ) → get_or (rest_of image c) (length xs + i) [] ≡ get_or (rest_of image d) i []

behind : {image : List ℕ} {c : Cursor} (xs : List EntryAt) (s t : Entries) → s.image.now ≡ image → s.cursor ≡ c → Yields Reads s xs t
    → (t.image.now ≡ image) × Behind image c t.cursor xs
behind {image} {c} [] s t p q e =
    let at : t.cursor ≡ c = ap (λ (s : Entries). s.cursor) (sym e) ∙ q in (
      ap (λ (s : Entries). s.image.now) (sym e) ∙ p,
      rw at (record { count = omega arith; places = λ i. ap (λ (n : ℕ). get_or (rest_of image c) n []) (zero-add i) }),
    )
behind {image} {c} (x ∷ xs) s t p q (j, r, e) =
    let m = (rw (p, q) at r.1).moves in
    let more = behind xs j t (r.0 ∙ p) refl e in
    let b = more.1 in
    let one : (i : ℕ) → length (x ∷ xs) + i - 1 ≡ length xs + i = λ i. omega arith in (
      more.0,
      record {
        count = omega (arith, b.count, ap (length {A = List ℕ}) m.rest);
        places = λ i. at_later m.rest [] (length (x ∷ xs) + i) (omega arith)
            ∙ ap (λ (n : ℕ). get_or (rest_of image j.cursor) n []) (one i) ∙ b.places i;
      },
    )

module _ {image : List ℕ} {c : Cursor} {n : ℕ} (s t : Entries) (p : s.image.now ≡ image) (q : s.cursor ≡ c) where
  -- the entry at place n
  pub given_at : {e : EntryAt} → SkipsThenYields Reads s n (Some e) t → Placed image (rest_of image c) n n e
  given_at (xs, (u, y, r), k) =
      let b = behind xs s u p q y in
      let m = (rw b.0 at r.1).moves in
      record {
        there = refl;
        below = omega (arith, k, b.1.count, ap (length {A = List ℕ}) m.rest);
        bytes = sym (ap (λ (i : ℕ). get_or (rest_of image c) i []) (omega (arith, k)) ∙ b.1.places 0 ∙ at_first m.rest [] 0 refl);
        stands = m.stands;
      }

  -- there are no more than n
  pub given_none : SkipsThenYields Reads s n None t → length (rest_of image c) ≤ n
  given_none (xs, (u, y, r), k) =
      let b = behind xs s u p q y in
      omega (arith, k, b.1.count, ap (length {A = List ℕ}) (rw b.0 at r))
