-- Laws of the checks' order: the number that each part of the check gives, and the number that all parts give together.
use Prim.Native.Nat.{ℕ, ◌+◌, ◌/◌, ◌<◌}
use mathlib.Core.Path.{◌≡◌, sym, ap, ◌∙◌}
use mathlib.Core.Bool.{Bool, true, false, ◌&&◌, and-false}
use mathlib.Core.List.{List}
use native.Mathlib.Omega.{arith}
use lib.ListN.{length, drop}
use lib.Seq.{get_or-drop}
use lib.Dec.{eqb}
use borrow.Author.Tests.{eq-eqb, ne_eqb}
use Rattle.model.specs.Lists.{every, distinct}
use Rattle.model.specs.Bytes.{be16, Bytes}
use Rattle.model.specs.Facts.{facts_in, facts_of, dir_start, dir_length, N, S, next_file_number, blocks_in}
use Rattle.model.specs.Map.{map_entry}
use Rattle.model.specs.Directory.{directory, forks_in}
use Rattle.model.specs.Check.{or_else, fires1, fires2, fires3, fires4, fires5, fires6, good_number, same_numbers, same_names, fires7}
use Rattle.model.specs.Check.{facts_number, from8, from7, from6, from5, from4, from3, from2, SoundFacts}
use Rattle.model.specs.declared.VolumeFacts.{VolumeFacts}
use Rattle.model.proofs.Check.{else_zero, sound_facts}
use Rattle.directory.specs.declared.Cursor.{Cursor}
use Rattle.directory.specs.Cursor.{rest_of, Begins}
use Rattle.directory.proofs.Whole.{begins_directory}
use Rattle.checks.specs.Numbers.{directory_number, Judged}
use Rattle.checks.specs.Limits.{Sized}
use Rattle.checks.proofs.Firing.{fires_here, passes_here}
use Rattle.checks.proofs.Numbered.{long_blocks}

-- ---- some checks and those behind them

-- some checks and the rest: the number of the first ones, unless it is 0
two_some : (t u : Bool) (i j r n : ℕ) → n ≡ or_else t i (or_else u j 0) → (n ≡ 0 → ⊥) → n ≡ or_else t i (or_else u j r)
two_some true u i j r n h z = h
two_some false true i j r n h z = h
two_some false false i j r n h z = absurd (z h)

three_some : (t u v : Bool) (i j k r n : ℕ) → n ≡ or_else t i (or_else u j (or_else v k 0)) → (n ≡ 0 → ⊥) → n ≡ or_else t i (or_else u j (or_else v k r))
three_some true u v i j k r n h z = h
three_some false u v i j k r n h z = two_some u v j k r n h z

-- ---- checks 6 and 7

module _ (files next : ℕ) (es : List (List ℕ)) where
  pub number_6 : fires6 es ≡ true → 6 ≡ directory_number files next es
  unfolding directory_number
  number_6 h = sym (fires_here (fires6 es) 6 _ h)

  module _ (p : fires6 es ≡ false) where
    seven : fires7 files next es ≡ true → 7 ≡ directory_number files next es
    unfolding directory_number
    seven h = sym (passes_here (fires6 es) 6 _ p ∙ fires_here (fires7 files next es) 7 0 h)

    pub number_count : (length es ≡ files → ⊥) → 7 ≡ directory_number files next es
    unfolding fires7
    number_count h = seven (rw (ne_eqb (length es) files h))

    pub number_number : every (good_number next) es ≡ false → 7 ≡ directory_number files next es
    unfolding fires7
    number_number h = seven (rw (h, and-false (eqb (length es) files)))

    pub number_clash : (distinct same_numbers es && distinct same_names es) ≡ false → 7 ≡ directory_number files next es
    unfolding fires7
    number_clash h = seven (rw (h, and-false (every (good_number next) es), and-false (eqb (length es) files)))

    pub number_clear : length es ≡ files → every (good_number next) es ≡ true → (distinct same_numbers es && distinct same_names es) ≡ true
        → 0 ≡ directory_number files next es
    unfolding directory_number fires7
    number_clear c n d =
        let clear : fires7 files next es ≡ false = rw (eq-eqb (length es) files c, n, d) in
        sym (passes_here (fires6 es) 6 _ p ∙ passes_here (fires7 files next es) 7 0 clear)

-- ---- all of them

module _ (f : VolumeFacts) (image : List ℕ) where
  -- a number of 2 to 4
  pub by_facts : (n : ℕ) → n ≡ facts_number f (blocks_in image) → (n ≡ 0 → ⊥) → n ≡ from2 f image
  unfolding facts_number from2 from3 from4
  by_facts n h z = three_some (fires2 f) (fires3 f (blocks_in image)) (fires4 f) 2 3 4 (from5 f image) n h z

  module _ (n : ℕ) (h : n ≡ facts_number f (blocks_in image)) (z : n ≡ 0) where
    past : (fires2 f ≡ false) × (fires3 f (blocks_in image) ≡ false) × (fires4 f ≡ false)
    unfolding facts_number
    past =
        let a = else_zero (fires2 f) 1 _ (sym h ∙ z) in
        let b = else_zero (fires3 f (blocks_in image)) 2 _ a.1 in
        let c = else_zero (fires4 f) 3 0 b.1 in
        (a.0, b.0, c.0)

    pub facts_sound : fires1 (length image) ≡ false → SoundFacts f (length image)
    facts_sound l = sound_facts f (length image) l past.0 past.1 past.2

    facts_past : from2 f image ≡ from5 f image
    unfolding from2 from3 from4
    facts_past = passes_here (fires2 f) 2 _ past.0 ∙ passes_here (fires3 f (blocks_in image)) 3 _ past.1 ∙ passes_here (fires4 f) 4 _ past.2

    pub by_map5 : fires5 (map_entry image) (N f) ≡ true → 5 ≡ from2 f image
    unfolding from5
    by_map5 t = sym (facts_past ∙ fires_here (fires5 (map_entry image) (N f)) 5 _ t)

    module _ (t : fires5 (map_entry image) (N f) ≡ false) (es : List (List ℕ)) (q : es ≡ directory image) where
      map_past : from2 f image ≡ from6 f (map_entry image) es
      unfolding from5
      map_past = facts_past ∙ passes_here (fires5 (map_entry image) (N f)) 5 _ t ∙ ap (from6 f (map_entry image)) (sym q)

      -- 6 or 7
      pub by_directory : (m : ℕ) → m ≡ directory_number f.files (next_file_number f) es → (m ≡ 0 → ⊥) → m ≡ from2 f image
      unfolding from6 from7 directory_number
      by_directory m d y = two_some (fires6 es) (fires7 f.files (next_file_number f) es) 6 7 (from8 f (map_entry image) (forks_in es)) m d y ∙ sym map_past

      -- 8 to 10, or 0
      pub by_forks : (m : ℕ) → m ≡ directory_number f.files (next_file_number f) es → m ≡ 0 → (k : ℕ) → k ≡ from8 f (map_entry image) (forks_in es)
          → k ≡ from2 f image
      unfolding from6 from7 directory_number
      by_forks m d y k r =
          let a = else_zero (fires6 es) 5 _ (sym d ∙ y) in
          let b = else_zero (fires7 f.files (next_file_number f) es) 6 0 a.1 in
          r ∙ sym (map_past ∙ passes_here (fires6 es) 6 _ a.0 ∙ passes_here (fires7 f.files (next_file_number f) es) 7 _ b.0)

pub directory_passes : (files next : ℕ) (es : List (List ℕ)) (m : ℕ) → m ≡ directory_number files next es → m ≡ 0 → fires6 es ≡ false
unfolding directory_number
directory_passes files next es m d y = (else_zero (fires6 es) 5 _ (sym d ∙ y)).0

-- ---- the cursor over the directory

module _ (f : VolumeFacts) (image : List ℕ) (e : f ≡ facts_of image) (c : Cursor) (b : Begins (dir_start f) (dir_length f) c) where
  pub rest_directory : rest_of image c ≡ directory image
  rest_directory = begins_directory image c (rw e at b)

-- ---- what the check may rely on

bytes_be16 : (image : List ℕ) (p i : ℕ) → Bytes image → be16 (drop p image) i < 65536
unfolding be16 Bytes
bytes_be16 image p i h =
    omega (arith, h (p + i), h (p + (i + 1)), get_or-drop p image i 0, get_or-drop p image (i + 1) 0)

pub judged : (image : List ℕ) (f : VolumeFacts) → Bytes image → f ≡ facts_of image → fires1 (length image) ≡ false → Judged f image
unfolding facts_of facts_in
judged image f h e l = record {
  facts = e;
  long = l;
  directory = rw (ap (λ (g : VolumeFacts). (dir_start g).0) e) (bytes_be16 image 1024 14 h);
  allocation = rw (ap (λ (g : VolumeFacts). (S g).0) e) (bytes_be16 image 1024 28 h);
}

pub judged_sized : (image : List ℕ) (f : VolumeFacts) → Judged f image → Sized f (length image / 512)
judged_sized image f j =
    let b = long_blocks (length image) j.long in
    record { many = b; directory = j.directory; allocation = j.allocation }
