-- Quick find beside find and check: its answer in each of its cases, and what follows from it for accepted images and for all others.
use Prim.Native.Nat.{ℕ, zero, suc, ◌*◌, ◌≤◌}
use mathlib.Core.Path.{◌≡◌, refl, sym, ap, subst, ◌∙◌}
use mathlib.Core.Bool.{Bool, true, false, not, cond}
use mathlib.Core.List.{List, [], ◌∷◌, ◌++◌, map}
use mathlib.Core.Logic.{inl, inr}
use native.Mathlib.Omega.{arith}
use lib.ListN.{length, take, drop, length-append}
use lib.Dec.{eqb}
use borrow.Author.Tests.{ne_eqb}
use Rattle.model.specs.Lists.{any, first, place_of, flat}
use Rattle.model.specs.Facts.{facts_of, dir_start, dir_length}
use Rattle.model.specs.Directory.{entries, directory_blocks, directory, entry_in, named}
use Rattle.model.specs.Check.{or_else, from5, first_four, verdict, Accepted}
use Rattle.model.specs.Quick.{quick_entries, quick_listing, quick_directory, shows, looked_at, blocks_looked}
use Rattle.model.specs.Calls.{Answer, bad_name, checks, refuses, carries, known_in, refusal, name_of, fork_given, entry_named, counted, only, lent, reply}
use Rattle.model.specs.Calls.{tells_quick, tells_entry, answer}
use Rattle.model.specs.Calls.Call.{check, find, quick_find}
use Rattle.model.proofs.Lists.{so_not, any_at}
use Rattle.model.proofs.Check.{accepted_verdict}
use Rattle.laws.proofs.Calls.{first_zero, first_fires, first_alone, by_checks, by_own}
use Rattle.laws.proofs.Reorder.{first_found}
use Rattle.laws.proofs.Blocks.{cut_count}
use Rattle.laws.proofs.Quick.{place_past, place_within, any_past, first_passes, none_before_lem, shown, looked_all, SameFound, same_found}
use Rattle.laws.proofs.Quick.{four_pass, four_low, four_first, behind_four, quick_at, quick_before, all_good, quick_directory_lem}
use Rattle.history.specs.QuickFind.{InBlock, AsFind, QuickFind, FirstRead, OnAny, QuickAny, QuickReads}
use Rattle.history.proofs.Run.{number_is}

-- ---- its answer

module _ (image name : List ℕ) where
  abbrev call_number : ℕ
  call_number = refusal (quick_find name) image

  abbrev es : List (List ℕ)
  es = quick_directory image

  -- an answer by its number
  by_number : (n : ℕ) → call_number ≡ n → answer (quick_find name) image
      ≡ cond (eqb n 0) (reply (quick_find name) image) (counted n (carries (quick_find name) n image) (lent (quick_find name)))
  unfolding answer
  by_number n h = rw h

  -- refused by 1 to 4
  pub by_four : (n : ℕ) → first_four image ≡ suc n → answer (quick_find name) image ≡ only (suc n) []
  unfolding checks carries lent only
  by_four n h =
      let number = sym (by_checks (quick_find name) image (suc n) (sym h) (λ z. omega arith)) in
      let low = four_low image in
      let other : suc n ≡ 13 → ⊥ = λ e. omega arith in
      by_number (suc n) number ∙ rw (ne_eqb (suc n) 0 (λ z. omega arith), ne_eqb (suc n) 13 other)

  module _ (p : first_four image ≡ 0) where
    -- by 12
    pub by_name : bad_name name ≡ true → answer (quick_find name) image ≡ only 12 []
    unfolding checks refuses carries lent only name_of fork_given
    by_name h = by_number 12 (sym (by_own (quick_find name) image 12 p (rw h)))

    -- by neither
    module _ (h : bad_name name ≡ false) where
      own : (t : Bool) → any (named name) es ≡ t
          → or_else (not t) 13 0 ≡ refuses (quick_find name) (known_in image (name_of (quick_find name)) (fork_given (quick_find name)))
      unfolding refuses known_in name_of fork_given
      own t e = rw (h, e)

      -- by 13
      pub by_absence : any (named name) es ≡ false → answer (quick_find name) image ≡ counted 13 (blocks_looked name image) []
      unfolding checks carries lent
      by_absence e = by_number 13 (sym (by_own (quick_find name) image 13 p (own false e)))

      -- by none
      pub by_search : any (named name) es ≡ true
          → answer (quick_find name) image ≡ tells_quick (place_of (named name) es) (entry_in (first (named name) [] es)) (blocks_looked name image)
      unfolding checks reply
      by_search e = by_number 0 (sym (by_own (quick_find name) image 0 p (own true e)))

  -- what holds in each case holds of the answer
  pub by_cases : (P : Answer → Type 0)
      → ((n : ℕ) → first_four image ≡ suc n → P (only (suc n) []))
      → (first_four image ≡ 0 → bad_name name ≡ true → P (only 12 []))
      → (first_four image ≡ 0 → bad_name name ≡ false → any (named name) es ≡ false → P (counted 13 (blocks_looked name image) []))
      → (first_four image ≡ 0 → bad_name name ≡ false → any (named name) es ≡ true
      → P (tells_quick (place_of (named name) es) (entry_in (first (named name) [] es)) (blocks_looked name image)))
      → P (answer (quick_find name) image)
  by_cases P four bad absent found = checked (first_four image) refl
    where
      searched : (t : Bool) → first_four image ≡ 0 → bad_name name ≡ false → any (named name) es ≡ t → P (answer (quick_find name) image)
      searched true p h e = subst P (sym (by_search p h e)) (found p h e)
      searched false p h e = subst P (sym (by_absence p h e)) (absent p h e)

      titled : (t : Bool) → first_four image ≡ 0 → bad_name name ≡ t → P (answer (quick_find name) image)
      titled true p h = subst P (sym (by_name p h)) (bad p h)
      titled false p h = searched (any (named name) es) p h refl

      checked : (n : ℕ) → first_four image ≡ n → P (answer (quick_find name) image)
      checked zero p = titled (bad_name name) p refl
      checked (suc n) p = subst P (sym (by_four n p)) (four n p)

-- ---- the block of an entry

-- the first entry that passes is in the first block that has one
in_block : (read : List ℕ → List (List ℕ)) (p : List ℕ → Bool) (bs : List (List ℕ)) → any p (flat (map read bs)) ≡ true
    → InBlock read bs (place_of p (flat (map read bs))) (place_of (λ b. any p (read b)) bs)
unfolding any place_of flat
in_block read p [] h = absurd (so_not false refl h)
in_block read p (b ∷ bs) h = go (any p (read b)) refl (in_block read p bs)
  where
    rest : List (List ℕ)
    rest = flat (map read bs)

    go : (t : Bool) → any p (read b) ≡ t → (any p rest ≡ true → InBlock read bs (place_of p rest) (place_of (λ c. any p (read c)) bs))
        → InBlock read (b ∷ bs) (place_of p (read b ++ rest)) (cond t 0 (suc (place_of (λ c. any p (read c)) bs)))
    go true e r = record {
      within = omega arith;
      among = place_of p (read b);
      below = (first_found p [] (read b) e).0;
      behind = omega (arith, place_within p [] rest (read b) e);
    }
    go false e r =
        let k = r (sym (any_past p [] rest (read b) e) ∙ h) in
        record {
          within = omega (arith, k.within);
          among = k.among;
          below = k.below;
          behind =
              let before = flat (map read (take (place_of (λ c. any p (read c)) bs) bs)) in
              omega (arith, place_past p [] rest (read b) e, length-append (read b) before, k.behind);
        }

-- ---- on any image

module _ (image name : List ℕ) where
  abbrev bs : List (List ℕ)
  bs = directory_blocks (facts_of image) image

  -- all blocks are as many as the facts say
  pub all_blocks : length bs ≡ dir_length (facts_of image)
  unfolding directory_blocks
  all_blocks = cut_count (dir_length (facts_of image)) (drop (512 * (dir_start (facts_of image)).0) image)

  absent_all : any (named name) (quick_directory image) ≡ false → blocks_looked name image ≡ dir_length (facts_of image)
  unfolding quick_directory blocks_looked
  absent_all h = looked_all name bs h ∙ all_blocks

  -- the block that is counted is the one that has the entry
  module _ (h : any (named name) (quick_directory image) ≡ true) where
    found_count : blocks_looked name image ≡ suc (place_of (shows name) bs)
    unfolding blocks_looked looked_at quick_directory
    found_count = rw (shown name bs ∙ h)

    found_block : InBlock quick_entries bs (place_of (named name) (quick_directory image)) (place_of (shows name) bs)
    unfolding quick_directory quick_listing shows
    found_block = in_block quick_entries (named name) bs h

    found_read : FirstRead image name
        (tells_quick (place_of (named name) (quick_directory image)) (entry_in (first (named name) [] (quick_directory image))) (blocks_looked name image))
    unfolding tells_quick
    found_read =
        let at = first_found (named name) [] (quick_directory image) h in
        record {
          below = at.0;
          equal = ap (named name) at.1 ∙ first_passes (named name) [] (quick_directory image) h;
          first = none_before_lem (named name) [] (quick_directory image);
          entry = ap entry_in (sym at.1);
          index = place_of (shows name) bs;
          block = found_block;
          count = found_count;
        }

  -- the number that check gives
  module _ (checked : Answer) (c : checked.number ≡ verdict image) where
    on_four : (n : ℕ) → first_four image ≡ suc n → OnAny image name (only (suc n) []) checked
    unfolding only
    on_four n p =
        let same : checked.number ≡ suc n = c ∙ four_first image ∙ first_fires (first_four image) _ (λ z. omega arith) ∙ p in
        let low = four_low image in
        record {
          checks = λ m a b. (λ e. same ∙ e, λ e. sym same ∙ e);
          numbers = inl (omega arith);
          untitled = λ z. absurd (omega arith);
          found = λ z. absurd (omega arith);
          absent = λ z. absurd (omega arith);
          other = λ z y. refl;
        }

    -- past 4, check gives 0 or more than 4
    past_four : first_four image ≡ 0 → (n : ℕ) → 1 ≤ n → n ≤ 4 → checked.number ≡ n → ⊥
    past_four p n a b e =
        let is : checked.number ≡ from5 (facts_of image) image = c ∙ four_first image ∙ first_zero (first_four image) _ p in
        let high = behind_four (facts_of image) image (omega (arith, is)) in
        omega arith

    on_any : OnAny image name (answer (quick_find name) image) checked
    unfolding only tells_quick
    on_any =
        by_cases image name (λ a. OnAny image name a checked) on_four
        (λ p h. record {
          checks = λ n a b. (λ e. absurd (omega arith), λ e. absurd (past_four p n a b e));
          numbers = inr (inl refl);
          untitled = λ z. h;
          found = λ z. absurd (omega arith);
          absent = λ z. absurd (omega arith);
          other = λ z y. refl;
        })
        (λ p h e. record {
          checks = λ n a b. (λ e. absurd (omega arith), λ e. absurd (past_four p n a b e));
          numbers = inr (inr refl);
          untitled = λ z. absurd (omega arith);
          found = λ z. absurd (omega arith);
          absent = λ z. (any_at (named name) [] (quick_directory image) e, absent_all e);
          other = λ z y. absurd (y refl);
        })
        (λ p h e. record {
          checks = λ n a b. (λ e. absurd (omega arith), λ e. absurd (past_four p n a b e));
          numbers = inl (omega arith);
          untitled = λ z. absurd (omega arith);
          found = λ z. found_read e;
          absent = λ z. absurd (omega arith);
          other = λ z y. absurd (z refl);
        })

pub quick_any : QuickAny
unfolding QuickAny refusal checks refuses
quick_any image name quick checked left kept d c =
    let number : checked.number ≡ verdict image =
    ap (λ (a : Answer). a.number) c.answers ∙ number_is check image ∙ first_alone (verdict image) in
    subst (λ (a : Answer). OnAny image name a checked) (sym d.answers) (on_any image name checked number)

-- ---- on an accepted image

module _ (image name : List ℕ) (acc : Accepted image) where
  -- find's answer, by its number
  find_number : (n : ℕ) → n ≡ refuses (find name) (known_in image (name_of (find name)) (fork_given (find name)))
      → answer (find name) image ≡ cond (eqb n 0) (reply (find name) image) (counted n (carries (find name) n image) (lent (find name)))
  unfolding answer checks
  find_number n h =
      let is : n ≡ refusal (find name) image = by_own (find name) image n (accepted_verdict image acc) h in
      rw (← is)

  find_untitled : bad_name name ≡ true → answer (find name) image ≡ only 12 []
  unfolding refuses carries lent only
  find_untitled h = find_number 12 (rw h)

  module _ (h : bad_name name ≡ false) where
    find_absent : any (named name) (directory image) ≡ false → answer (find name) image ≡ only 13 []
    unfolding refuses carries lent only known_in name_of fork_given
    find_absent e = find_number 13 (rw (h, e))

    find_there : any (named name) (directory image) ≡ true
        → answer (find name) image ≡ tells_entry (place_of (named name) (directory image)) (entry_in (entry_named name image))
    unfolding refuses reply known_in name_of fork_given
    find_there e = find_number 0 (rw (h, e))

  same : quick_directory image ≡ directory image
  same = quick_directory_lem image acc

  -- the entry's block, by document 01's reading
  block_is : {place index : ℕ} → InBlock quick_entries (bs image name) place index → InBlock entries (bs image name) place index
  block_is {index = index} k =
      let good = all_good image acc in
      record {
        within = k.within;
        among = k.among;
        below = rw (quick_at (bs image name) good index k.within) at k.below;
        behind = rw (quick_before (bs image name) good index) at k.behind;
      }

  as_find : AsFind image (answer (quick_find name) image) (answer (find name) image)
  unfolding only tells_quick tells_entry entry_named
  as_find =
      by_cases image name (λ a. AsFind image a (answer (find name) image))
      (λ n p. absurd (let z = four_pass image acc.facts in omega arith))
      (λ p h. rw (find_untitled h) (record {
        number = refl;
        place = refl;
        entry = refl;
        block = λ z. absurd (omega arith);
        absent = λ z. absurd (omega arith);
        other = λ z y. refl;
      }))
      (λ p h e. rw (find_absent h (ap (any (named name)) (sym same) ∙ e)) (record {
        number = refl;
        place = refl;
        entry = refl;
        block = λ z. absurd (omega arith);
        absent = λ z. absent_all image name e;
        other = λ z y. absurd (y refl);
      }))
      (λ p h e. rw (find_there h (ap (any (named name)) (sym same) ∙ e)) (record {
        number = refl;
        place = ap (place_of (named name)) same;
        entry = ap (λ (l : List (List ℕ)). entry_in (first (named name) [] l)) same;
        block = λ z. (place_of (shows name) (bs image name), found_count image name e, block_is (found_block image name e));
        absent = λ z. absurd (omega arith);
        other = λ z y. absurd (z refl);
      }))

pub quick_find_lem : QuickFind
unfolding QuickFind
quick_find_lem image name quick found left kept acc d f = rw (d.answers, f.answers) (as_find image name acc)

-- ---- what it answers from

module _ (image other name : List ℕ) (f : first_four other ≡ first_four image) (l : dir_length (facts_of other) ≡ dir_length (facts_of image)) where
  -- the same blocks were looked at
  same_blocks : take (blocks_looked name image) (bs other name) ≡ take (blocks_looked name image) (bs image name)
      → SameFound name (bs other name) (bs image name)
  unfolding blocks_looked
  same_blocks h = same_found name (bs image name) (bs other name) (all_blocks other name ∙ l ∙ sym (all_blocks image name)) h

  same_answer : take (answer (quick_find name) image).count (bs other name) ≡ take (answer (quick_find name) image).count (bs image name)
      → answer (quick_find name) other ≡ answer (quick_find name) image
  unfolding only tells_quick quick_directory blocks_looked
  same_answer =
      by_cases image name (λ a. take a.count (bs other name) ≡ take a.count (bs image name) → answer (quick_find name) other ≡ a)
      (λ n p h. by_four other name n (f ∙ p))
      (λ p t h. by_name other name (f ∙ p) t)
      (λ p t e h.
      let s = same_blocks h in
      by_absence other name (f ∙ p) t (s.exists ∙ e) ∙ ap (λ (k : ℕ). counted 13 k []) s.looked)
      (λ p t e h.
      let s = same_blocks h in
      by_search other name (f ∙ p) t (s.exists ∙ e) ∙ (λ i. tells_quick (s.there i) (entry_in (s.it i)) (s.looked i)))

pub quick_reads : QuickReads
unfolding QuickReads
quick_reads image other name given there left kept d o f l h =
    o.answers ∙ same_answer image other name f l (rw d.answers at h) ∙ sym d.answers
