-- An accepted image that reads as a history: its facts, its files and what is known of a name are the history's, and so is what a
-- call that reads tells.
use Prim.Native.Nat.{ℕ, ◌*◌, ◌≤◌, ◌<◌}
use mathlib.Core.Path.{◌≡◌, refl, sym, ap, subst, ◌∙◌}
use mathlib.Core.Bool.{Bool, true, not}
use mathlib.Core.List.{List, []}
use native.Mathlib.Omega.{arith}
use native.Mathlib.Nat.{zero-div}
use lib.ListN.{length, get_or, length-map}
use lib.Dec.{eqb, leb}
use borrow.Author.Tests.{not-false, eqb-true, eq-eqb, leb-false}
use Rattle.model.specs.Lists.{any, distinct, keep, first, place_of}
use Rattle.model.specs.Bytes.{byte, be16, be32}
use Rattle.model.specs.Facts.{facts_of, A, clump, next_file_number, free_count, is_locked, with_counts, no_facts}
use Rattle.model.specs.Directory.{directory, number_in, name_in, finder_in, fork_in, fork_of, wide, entry_in}
use Rattle.model.specs.Directory.{no_entry, flags_lock, block_count, same_name, named}
use Rattle.model.specs.Check.{same_numbers, same_names, Accepted}
use Rattle.model.specs.Calls.{name_of, grown, needed, bad_name, checks, refuses, entry_named, known_in, refusal, fork_bytes}
use Rattle.model.specs.Calls.{read_count, copied, only, tells_facts, tells_entry, tells_bytes, reply}
use Rattle.model.specs.Calls.Call.{check, entry, find, read}
use Rattle.history.specs.History.{Held, File, History, empty, no_file, held_of, free_of, facts_now, called, file_called, known_to, unplaced}
use Rattle.history.specs.History.{without_starts, told_by, lengths_of, entry_of, told_only, file_numbered, says, held_in, file_in, files_in, Agrees}
use Rattle.history.specs.History.{asked, rise}
use Rattle.model.specs.declared.VolumeFacts.{VolumeFacts}
use Rattle.model.specs.declared.Fork.{Fork}
use Rattle.model.specs.declared.Fork.TheVariants.{Data, Resource}
use Rattle.model.proofs.Lists.{keep_map, reordered_any, reordered_keep, reordered_length}
use Rattle.model.proofs.Names.{eqb_comm, same_name_comm, same_name_trans}
use Rattle.model.proofs.Check.{else_zero}
use Rattle.laws.proofs.Reorder.{first_same, first_map, first_at, first_found, any_map, distinct_map}
use Rattle.laws.proofs.Kept.{numbers_differ_lem}
use Rattle.laws.proofs.DirectorySteps.{names_now}
use Rattle.laws.proofs.Content.{length_overwritten}
use Rattle.laws.proofs.Refusals.{own_is, with_full}
use Rattle.laws.proofs.Quick.{quick_directory_lem}
use Rattle.laws.proofs.Acceptance.{readable_of, whole, lengths, name_length, named_length}

-- ---- new blocks

-- the new blocks that a write needs
pub rise_needed : (a o : ℕ) (xs : List ℕ) (g : Held) → o ≤ length g.bytes
    → rise a o xs g ≡ needed a (grown (length g.bytes) o (length xs)) g.count
unfolding rise needed grown
rise_needed a o xs g h = rw (length_overwritten g.bytes o xs h) (omega arith)

-- ---- an image that reads as a history

-- the facts
module _ (image : List ℕ) (h : History) (a : Agrees image h) where
  pub same_A : A (facts_of image) ≡ A h.facts
  unfolding facts_now with_counts
  same_A = ap (λ (f : VolumeFacts). A f) a.facts

  pub same_clump : clump (facts_of image) ≡ clump h.facts
  unfolding facts_now with_counts clump
  same_clump = ap clump a.facts

  pub same_next : next_file_number (facts_of image) ≡ next_file_number h.facts
  unfolding facts_now with_counts
  same_next = ap (λ (f : VolumeFacts). next_file_number f) a.facts

  pub same_locked : is_locked (facts_of image) ≡ is_locked h.facts
  unfolding facts_now with_counts is_locked
  same_locked = ap is_locked a.facts

  pub same_free : free_count (facts_of image) ≡ free_of h
  unfolding facts_now with_counts
  same_free = ap (λ (f : VolumeFacts). free_count f) a.facts

  pub same_length : length (directory image) ≡ length h.files
  unfolding files_in
  same_length = sym (length-map (directory image) (file_in (facts_of image) image)) ∙ reordered_length a.files

  pub same_any : (name : List ℕ) → any (named name) (directory image) ≡ any (called name) h.files
  unfolding files_in named called file_in
  same_any name =
      sym (any_map (called name) (named name) (file_in (facts_of image) image) (λ e. refl) (directory image)) ∙ reordered_any (called name) a.files

  -- another file of a name
  pub same_other : (name new : List ℕ)
      → any (named new) (keep (λ e. not (named name e)) (directory image)) ≡ any (called new) (keep (λ x. not (called name x)) h.files)
  unfolding files_in named called file_in
  same_other name new =
      let tell = file_in (facts_of image) image in
      sym (any_map (called new) (named new) tell (λ e. refl) (keep (λ e. not (named name e)) (directory image)))
      ∙ ap (any (called new)) (sym (keep_map tell (λ e. not (named name e)) (λ x. not (called name x)) (λ e. refl) (directory image)))
      ∙ reordered_any (called new) (reordered_keep (λ x. not (called name x)) a.files)

-- no bytes read as no file
pub no_file_lem : (f : VolumeFacts) (image : List ℕ) → file_in f image [] ≡ no_file
unfolding file_in no_file empty held_in number_in name_in finder_in be32 be16 fork_bytes block_count fork_of fork_in
no_file_lem f image = λ i. record {
  number = 0;
  name = [];
  flags = 0;
  finder = [];
  created = 0;
  changed = 0;
  content = record { bytes = []; count = zero-div (A f) i };
  resource = record { bytes = []; count = zero-div (A f) i };
}

held_is : (f : VolumeFacts) (image e : List ℕ) (fork : Fork) → held_of fork (file_in f image e) ≡ held_in f image (fork_of fork e)
unfolding held_of file_in
held_is f image e Data = refl
held_is f image e Resource = refl

-- the files
module _ (image : List ℕ) (h : History) (acc : Accepted image) (a : Agrees image h) where
  -- no two entries have the same number, and no two the same name
  numbers : distinct same_numbers (directory image) ≡ true
  numbers = let r = readable_of image acc in numbers_differ_lem (facts_of image).files (next_file_number (facts_of image)) (directory image) r.pass6 r.pass7

  names : distinct same_names (directory image) ≡ true
  names = names_now image (readable_of image acc)

  pub same_first : (name : List ℕ) → file_in (facts_of image) image (entry_named name image) ≡ file_called name h
  unfolding entry_named file_called files_in named called file_in
  same_first name =
      let tell = file_in (facts_of image) image in
      let same : File → File → Bool = λ x y. same_name x.name y.name in
      first_map tell (named name) (called name) (λ e. refl) [] (directory image)
      ∙ first_same same (λ x y. same_name_comm x.name y.name) (called name) (λ x y. both x.name y.name) (tell []) a.files
      (distinct_map same same_names tell (λ d e. refl) (directory image) ∙ names)
      ∙ ap (λ (d : File). first (called name) d h.files) (no_file_lem (facts_of image) image)
    where
      both : (m n : List ℕ) → same_name name m ≡ true → same_name name n ≡ true → same_name m n ≡ true
      both m n p q = same_name_trans m name n (same_name_comm m name ∙ p) q

  pub same_at : (place : ℕ) → place < length (directory image)
      → file_in (facts_of image) image (get_or (directory image) place []) ≡ file_numbered (number_in (get_or (directory image) place [])) h
  unfolding file_numbered files_in file_in
  same_at place l =
      let tell = file_in (facts_of image) image in
      let n = number_in (get_or (directory image) place []) in
      let same : File → File → Bool = λ x y. eqb x.number y.number in
      let numbered : File → Bool = λ x. eqb x.number n in
      ap tell (sym (first_at same_numbers (λ e. eq-eqb (number_in e) (number_in e) refl) [] (directory image) place l numbers))
      ∙ first_map tell (λ e. eqb (number_in e) n) numbered (λ e. refl) [] (directory image)
      ∙ first_same same (λ x y. eqb_comm x.number y.number) numbered
      (λ x y p q. eq-eqb x.number y.number (eqb-true x.number n p ∙ sym (eqb-true y.number n q))) (tell []) a.files
      (distinct_map same same_numbers tell (λ d e. refl) (directory image) ∙ numbers)
      ∙ ap (λ (d : File). first numbered d h.files) (no_file_lem (facts_of image) image)

  pub same_held : (name : List ℕ) (fork : Fork) → held_in (facts_of image) image (fork_of fork (entry_named name image)) ≡ held_of fork (file_called name h)
  same_held name fork = sym (held_is (facts_of image) image (entry_named name image) fork) ∙ ap (held_of fork) (same_first name)

-- what a refusal tells of an entry has no start
no_starts : without_starts no_entry ≡ no_entry
unfolding without_starts no_entry entry_in unplaced fork_of fork_in be16 be32
no_starts = refl

pub only_told : (n : ℕ) (buffer : List ℕ) → told_by (only n buffer) ≡ told_only n buffer
unfolding told_by only told_only
only_told n buffer = λ i. record { number = n; facts = no_facts; entry = no_starts i; count = 0; buffer = buffer }

module _ (image : List ℕ) (h : History) (acc : Accepted image) (a : Agrees image h) where
  -- what is known
  pub known_same : (full : Bool) (name : List ℕ) (fork : Fork) → known_to h full name fork ≡ with_full (known_in image name fork) full
  unfolding known_to known_in with_full held_in file_in
  known_same full name fork =
      let x = same_first image h acc a name in
      let g = same_held image h acc a name fork in
      λ i. record {
        locked = sym (same_locked image h a) i;
        files = sym (same_length image h a) i;
        exists = sym (same_any image h a name) i;
        file_locked = flags_lock (sym x i).flags;
        logical = (ap (λ (g : Held). length g.bytes) (sym g) ∙ named_length image (lengths image acc) name fork) i;
        blocks = (sym g i).count;
        size = sym (same_A image h a) i;
        free = sym (same_free image h a) i;
        next = sym (same_next image h a) i;
        full = full;
        another = λ new. sym (same_other image h a name new) i;
        crowded = λ new. full;
        quick = sym (ap (any (named name)) (quick_directory_lem image acc) ∙ same_any image h a name) i;
      }

  -- an entry
  pub entry_told : (i : ℕ) → i < length (directory image)
      → without_starts (entry_in (get_or (directory image) i [])) ≡ entry_of (A h.facts) (file_in (facts_of image) image (get_or (directory image) i []))
  unfolding without_starts entry_in unplaced entry_of lengths_of file_in held_in
  entry_told i l =
      let e = get_or (directory image) i [] in
      let s = acc.files.each i l in
      λ j. record {
        flags = byte e 0;
        version = s.version j;
        finder = finder_in e;
        number = number_in e;
        «data» = record { start = record { 0 = 0 }; logical = sym (lengths image acc i l Data) j; physical = size Data j };
        resource = record { start = record { 0 = 0 }; logical = sym (lengths image acc i l Resource) j; physical = size Resource j };
        created = be32 e 42;
        changed = be32 e 46;
        name_length = sym (name_length (next_file_number (facts_of image)) e s) j;
        name = wide (name_in e);
      }
    where
      size : (fork : Fork)
          → (fork_of fork (get_or (directory image) i [])).physical ≡ block_count (A (facts_of image)) (fork_of fork (get_or (directory image) i [])) * A h.facts
      size fork =
          sym (whole image acc i l fork)
          ∙ ap (λ (n : ℕ). block_count (A (facts_of image)) (fork_of fork (get_or (directory image) i [])) * n) (same_A image h a)

  pub named_told : (name : List ℕ) → any (named name) (directory image) ≡ true
      → without_starts (entry_in (entry_named name image)) ≡ entry_of (A h.facts) (file_called name h)
  unfolding entry_named
  named_told name e =
      let r = first_found (named name) [] (directory image) e in
      subst (λ (e : List ℕ). without_starts (entry_in e) ≡ entry_of (A h.facts) (file_in (facts_of image) image e)) r.1
      (entry_told (place_of (named name) (directory image)) r.0)
      ∙ ap (entry_of (A h.facts)) (same_first image h acc a name)

-- ---- what a call that reads and is not refused tells

-- the facts
pub check_says : (image : List ℕ) (h : History) → Accepted image → Agrees image h → refusal check image ≡ 0
    → told_by (reply check image) ≡ says h (asked image check) check
unfolding told_by reply says tells_facts
check_says image h acc a z = λ i. record { number = 0; facts = a.facts i; entry = no_starts i; count = 0; buffer = [] }

-- the entry at a place
pub entry_says : (place : ℕ) (image : List ℕ) (h : History) → Accepted image → Agrees image h → refusal (entry place) image ≡ 0
    → told_by (reply (entry place) image) ≡ says h (asked image (entry place)) (entry place)
unfolding checks told_by reply says asked tells_entry refuses known_in
entry_says place image h acc a z =
    let p = else_zero (leb (length (directory image)) place) 12 0 (sym (own_is image acc (entry place) refl) ∙ z) in
    let l = leb-false (length (directory image)) place p.0 in
    let e = entry_told image h acc a place l ∙ ap (entry_of (A h.facts)) (same_at image h acc a place l) in
    λ i. record { number = 0; facts = no_facts; entry = e i; count = 0; buffer = [] }

-- the entry of a name
pub find_says : (name : List ℕ) (image : List ℕ) (h : History) → Accepted image → Agrees image h → refusal (find name) image ≡ 0
    → told_by (reply (find name) image) ≡ says h (asked image (find name)) (find name)
unfolding checks told_by reply says asked tells_entry refuses known_in name_of
find_says name image h acc a z =
    let p₁ = else_zero (bad_name name) 11 _ (sym (own_is image acc (find name) refl) ∙ z) in
    let p₂ = else_zero (not (any (named name) (directory image))) 12 0 p₁.1 in
    let e = named_told image h acc a name (not-false _ p₂.0) in
    λ i. record { number = 0; facts = no_facts; entry = e i; count = 0; buffer = [] }

-- the bytes of a fork
pub read_says : (name : List ℕ) (fork : Fork) (offset : ℕ) (buffer : List ℕ) (image : List ℕ) (h : History) → Accepted image → Agrees image h
    → refusal (read name fork offset buffer) image ≡ 0
    → told_by (reply (read name fork offset buffer) image) ≡ says h (asked image (read name fork offset buffer)) (read name fork offset buffer)
unfolding told_by reply says tells_bytes held_in
read_says name fork offset buffer image h acc a z =
    let g = same_held image h acc a name fork in
    λ i. record {
      number = 0;
      facts = no_facts;
      entry = no_starts i;
      count = read_count (length buffer) (length (g i).bytes) offset;
      buffer = copied (g i).bytes offset buffer;
    }
