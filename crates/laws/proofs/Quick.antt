-- Laws of quick find: a search through the blocks, one after another, and what is read of a directory that passes check 6.
use Prim.Native.Nat.{ℕ, zero, suc, ◌+◌, ◌≤◌, ◌<◌}
use mathlib.Core.Path.{◌≡◌, refl, sym, ap, ◌∙◌}
use mathlib.Core.Bool.{Bool, true, false, cond, ◌||◌}
use mathlib.Core.List.{List, [], ◌∷◌, ◌++◌, map}
use native.Mathlib.Omega.{arith}
use lib.ListN.{length, get_or, take, drop}
use borrow.Author.Tests.{not-false}
use Rattle.model.specs.Lists.{every, any, leading, first, place_of, flat}
use Rattle.model.specs.Facts.{facts_of, N, A, next_file_number, free_count, blocks_in}
use Rattle.model.specs.Map.{map_entry}
use Rattle.model.specs.Directory.{entries, directory_blocks, listing, directory, forks_in, named}
use Rattle.model.specs.Check.{or_else, first_refusal, fires1, fires2, fires3, fires4, good_entry, fires6, facts_number, first_four, SoundFacts, Accepted}
use Rattle.model.specs.Check.{fires5, fires7, fires8, fires9, fires10, from9, from8, from7, from6, from5, from4, from3, from2, verdict}
use Rattle.model.specs.declared.VolumeFacts.{VolumeFacts}
use Rattle.model.specs.Quick.{quick_entries, quick_listing, quick_directory, shows, looked_at}
use Rattle.model.proofs.Lists.{and-true, or-false, so_not, every_append, any_append}
use Rattle.model.proofs.Check.{facts_pass1, facts_pass2, facts_pass3, facts_pass4}
use Rattle.laws.proofs.Calls.{first_zero, first_fires}
use Rattle.laws.proofs.Acceptance.{readable_of}

-- ---- what is before the first that fails

module _ {A : Type 0} (p : A → Bool) where
  pub leading_all : (xs : List A) → every p xs ≡ true → leading p xs ≡ xs
  unfolding every leading
  leading_all [] h = refl
  leading_all (x ∷ xs) h = let a = and-true (p x) (every p xs) h in rw (a.0, leading_all xs a.1)

  module _ {es xs : List A} {x : A} (r : es ≡ x ∷ xs) where
    pub leading_more : p x ≡ true → leading p es ≡ x ∷ leading p xs
    unfolding leading
    leading_more h = rw (r, h)

    pub leading_none : p x ≡ false → leading p es ≡ []
    unfolding leading
    leading_none h = rw (r, h)

-- ---- a search through two lists, one behind the other

module _ {A : Type 0} (p : A → Bool) (d : A) (ys : List A) where
  -- the first has none
  module _ where
    pub any_past : (xs : List A) → any p xs ≡ false → any p (xs ++ ys) ≡ any p ys
    any_past xs h = any_append p xs ys ∙ rw h

    pub first_past : (xs : List A) → any p xs ≡ false → first p d (xs ++ ys) ≡ first p d ys
    unfolding any first
    first_past [] h = refl
    first_past (x ∷ xs) h = let a = or-false (p x) (any p xs) h in rw a.0 (first_past xs a.1)

    pub place_past : (xs : List A) → any p xs ≡ false → place_of p (xs ++ ys) ≡ length xs + place_of p ys
    unfolding any place_of
    place_past [] h = omega arith
    place_past (x ∷ xs) h = let a = or-false (p x) (any p xs) h in rw a.0 (omega (arith, place_past xs a.1))

  -- it has one
  module _ where
    pub any_within : (xs : List A) → any p xs ≡ true → any p (xs ++ ys) ≡ true
    any_within xs h = any_append p xs ys ∙ rw h

    pub first_within : (xs : List A) → any p xs ≡ true → first p d (xs ++ ys) ≡ first p d xs
    unfolding any first
    first_within [] h = absurd (so_not false refl h)
    first_within (x ∷ xs) h = go (p x) h (first_within xs)
      where
        go : (t : Bool) → (t || any p xs) ≡ true → (any p xs ≡ true → first p d (xs ++ ys) ≡ first p d xs)
            → cond t x (first p d (xs ++ ys)) ≡ cond t x (first p d xs)
        go true h r = refl
        go false h r = r h

    pub place_within : (xs : List A) → any p xs ≡ true → place_of p (xs ++ ys) ≡ place_of p xs
    unfolding any place_of
    place_within [] h = absurd (so_not false refl h)
    place_within (x ∷ xs) h = go (p x) h (place_within xs)
      where
        go : (t : Bool) → (t || any p xs) ≡ true → (any p xs ≡ true → place_of p (xs ++ ys) ≡ place_of p xs)
            → cond t 0 (suc (place_of p (xs ++ ys))) ≡ cond t 0 (suc (place_of p xs))
        go true h r = refl
        go false h r = ap suc (r h)

-- ---- the first that passes

module _ {A : Type 0} (p : A → Bool) (d : A) where
  pub first_passes : (xs : List A) → any p xs ≡ true → p (first p d xs) ≡ true
  unfolding any first
  first_passes [] h = absurd (so_not false refl h)
  first_passes (x ∷ xs) h = go (p x) refl h (first_passes xs)
    where
      go : (t : Bool) → p x ≡ t → (t || any p xs) ≡ true → (any p xs ≡ true → p (first p d xs) ≡ true) → p (cond t x (first p d xs)) ≡ true
      go true e h r = e
      go false e h r = r h

  pub none_before_lem : (xs : List A) (i : ℕ) → i < place_of p xs → p (get_or xs i d) ≡ false
  unfolding place_of
  none_before_lem [] i l = absurd (omega arith)
  none_before_lem (x ∷ xs) zero l = go (p x) refl l
    where
      go : (t : Bool) → p x ≡ t → 0 < cond t 0 (suc (place_of p xs)) → p x ≡ false
      go true e l = absurd (omega arith)
      go false e l = e
  none_before_lem (x ∷ xs) (suc i) l = go (p x) l (none_before_lem xs i)
    where
      go : (t : Bool) → suc i < cond t 0 (suc (place_of p xs)) → (i < place_of p xs → p (get_or xs i d) ≡ false) → p (get_or xs i d) ≡ false
      go true l r = absurd (omega arith)
      go false l r = r (omega arith)

-- ---- the directory blocks looked at

-- of the name the same is found in the blocks cs as in bs
pub record SameFound (name : List ℕ) (cs bs : List (List ℕ)) : Type 0 where
  pub exists : any (named name) (quick_listing cs) ≡ any (named name) (quick_listing bs)
  pub it : first (named name) [] (quick_listing cs) ≡ first (named name) [] (quick_listing bs)
  pub there : place_of (named name) (quick_listing cs) ≡ place_of (named name) (quick_listing bs)
  pub looked : looked_at name cs ≡ looked_at name bs

-- equal lists have equal heads and tails
heads : {A : Type 0} {x y : A} {xs ys : List A} → x ∷ xs ≡ y ∷ ys → x ≡ y
heads {A} {x} e = ap (λ (l : List A). get_or l 0 x) e

tails : {A : Type 0} {x y : A} {xs ys : List A} → x ∷ xs ≡ y ∷ ys → xs ≡ ys
tails {A} e = ap (λ (l : List A). drop 1 l) e

module _ (name : List ℕ) where
  module _ (b : List ℕ) (bs : List (List ℕ)) where
    -- the block has the name
    module _ (h : shows name b ≡ true) where
      pub looked_here : looked_at name (b ∷ bs) ≡ 1
      unfolding looked_at any place_of
      looked_here = rw h

      pub shown_any : any (named name) (quick_listing (b ∷ bs)) ≡ true
      unfolding quick_listing flat shows
      shown_any = any_within (named name) [] (quick_listing bs) (quick_entries b) h

      pub shown_first : first (named name) [] (quick_listing (b ∷ bs)) ≡ first (named name) [] (quick_entries b)
      unfolding quick_listing flat shows
      shown_first = first_within (named name) [] (quick_listing bs) (quick_entries b) h

      pub shown_place : place_of (named name) (quick_listing (b ∷ bs)) ≡ place_of (named name) (quick_entries b)
      unfolding quick_listing flat shows
      shown_place = place_within (named name) [] (quick_listing bs) (quick_entries b) h

    -- it has not
    module _ (h : shows name b ≡ false) where
      pub looked_past : looked_at name (b ∷ bs) ≡ suc (looked_at name bs)
      unfolding looked_at any place_of
      looked_past = rw h (go (any (shows name) bs))
        where
          go : (t : Bool) → cond t (suc (suc (place_of (shows name) bs))) (suc (length bs)) ≡ suc (cond t (suc (place_of (shows name) bs)) (length bs))
          go true = refl
          go false = refl

      pub past_any : any (named name) (quick_listing (b ∷ bs)) ≡ any (named name) (quick_listing bs)
      unfolding quick_listing flat shows
      past_any = any_past (named name) [] (quick_listing bs) (quick_entries b) h

      pub past_first : first (named name) [] (quick_listing (b ∷ bs)) ≡ first (named name) [] (quick_listing bs)
      unfolding quick_listing flat shows
      past_first = first_past (named name) [] (quick_listing bs) (quick_entries b) h

      pub past_place : place_of (named name) (quick_listing (b ∷ bs)) ≡ length (quick_entries b) + place_of (named name) (quick_listing bs)
      unfolding quick_listing flat shows
      past_place = place_past (named name) [] (quick_listing bs) (quick_entries b) h

  -- no more than there are, and all of them where none has the name
  pub looked_all : (bs : List (List ℕ)) → any (named name) (quick_listing bs) ≡ false → looked_at name bs ≡ length bs
  unfolding looked_at any
  looked_all [] h = refl
  looked_all (b ∷ bs) h = go (shows name b) refl (looked_all bs)
    where
      go : (t : Bool) → shows name b ≡ t → (any (named name) (quick_listing bs) ≡ false → looked_at name bs ≡ length bs)
          → looked_at name (b ∷ bs) ≡ suc (length bs)
      go true e r = absurd (so_not _ h (shown_any b bs e))
      go false e r = looked_past b bs e ∙ ap suc (r (sym (past_any b bs e) ∙ h))

  pub looked_most : (bs : List (List ℕ)) → looked_at name bs ≤ length bs
  unfolding looked_at any
  looked_most [] = omega arith
  looked_most (b ∷ bs) = go (shows name b) refl (looked_most bs)
    where
      go : (t : Bool) → shows name b ≡ t → looked_at name bs ≤ length bs → looked_at name (b ∷ bs) ≤ suc (length bs)
      go true e r = omega (arith, looked_here b bs e)
      go false e r = omega (arith, looked_past b bs e)

  -- a block has it exactly where an entry so read does
  pub shown : (bs : List (List ℕ)) → any (shows name) bs ≡ any (named name) (quick_listing bs)
  unfolding any quick_listing flat shows
  shown [] = refl
  shown (b ∷ bs) = rw (any_append (named name) (quick_entries b) (quick_listing bs), shown bs)

  -- where the blocks looked at are the same, what is found in them is
  pub same_found : (bs cs : List (List ℕ)) → length cs ≡ length bs → take (looked_at name bs) cs ≡ take (looked_at name bs) bs → SameFound name cs bs
  same_found [] [] l e = record { exists = refl; it = refl; there = refl; looked = refl }
  same_found [] (c ∷ cs) l e = absurd (omega arith)
  same_found (b ∷ bs) [] l e = absurd (omega arith)
  same_found (b ∷ bs) (c ∷ cs) l e = go (shows name b) refl (same_found bs cs (omega arith))
    where
      go : (t : Bool) → shows name b ≡ t → (take (looked_at name bs) cs ≡ take (looked_at name bs) bs → SameFound name cs bs) → SameFound name (c ∷ cs) (b ∷ bs)
      go true h r =
          let k = looked_here b bs h in
          let q : c ≡ b = heads (rw k at e) in
          let g : shows name c ≡ true = ap (shows name) q ∙ h in
          record {
            exists = shown_any c cs g ∙ sym (shown_any b bs h);
            it = shown_first c cs g ∙ ap (λ (x : List ℕ). first (named name) [] (quick_entries x)) q ∙ sym (shown_first b bs h);
            there = shown_place c cs g ∙ ap (λ (x : List ℕ). place_of (named name) (quick_entries x)) q ∙ sym (shown_place b bs h);
            looked = looked_here c cs g ∙ sym k;
          }
      go false h r =
          let k = looked_past b bs h in
          let e' = rw k at e in
          let q : c ≡ b = heads e' in
          let g : shows name c ≡ false = ap (shows name) q ∙ h in
          let s = r (tails e') in
          record {
            exists = past_any c cs g ∙ s.exists ∙ sym (past_any b bs h);
            it = past_first c cs g ∙ s.it ∙ sym (past_first b bs h);
            there = past_place c cs g ∙ (λ i. length (quick_entries (q i)) + s.there i) ∙ sym (past_place b bs h);
            looked = looked_past c cs g ∙ ap suc s.looked ∙ sym k;
          }

-- ---- checks 1 to 4

pub four_pass : (image : List ℕ) → SoundFacts (facts_of image) (length image) → first_four image ≡ 0
unfolding first_four facts_number
four_pass image s =
    let f = facts_of image in
    let n = length image in
    rw (facts_pass1 f n s, facts_pass2 f n s, facts_pass3 f n s, facts_pass4 f n s)

-- 2, 3, 4 or 0
pub facts_low : (f : VolumeFacts) (blocks : ℕ) → facts_number f blocks ≤ 4
unfolding facts_number
facts_low f blocks = go (fires2 f) (fires3 f blocks) (fires4 f)
  where
    go : (a b c : Bool) → or_else a 2 (or_else b 3 (or_else c 4 0)) ≤ 4
    go true b c = omega arith
    go false true c = omega arith
    go false false true = omega arith
    go false false false = omega arith

pub four_low : (image : List ℕ) → first_four image ≤ 4
unfolding first_four
four_low image = go (fires1 (length image)) (facts_low (facts_of image) (blocks_in image))
  where
    go : (t : Bool) {n : ℕ} → n ≤ 4 → or_else t 1 n ≤ 4
    go true l = omega arith
    go false l = l

-- the full check gives the same number, or one of those behind
pub four_first : (image : List ℕ) → verdict image ≡ first_refusal (first_four image) (from5 (facts_of image) image)
unfolding verdict from2 from3 from4 first_four facts_number first_refusal
four_first image =
    go (fires1 (length image)) (fires2 (facts_of image)) (fires3 (facts_of image) (blocks_in image)) (fires4 (facts_of image)) (from5 (facts_of image) image)
  where
    go : (a b c d : Bool) (r : ℕ)
        → or_else a 1 (or_else b 2 (or_else c 3 (or_else d 4 r))) ≡ first_refusal (or_else a 1 (or_else b 2 (or_else c 3 (or_else d 4 0)))) r
    go true b c d r = sym (first_fires 1 r (λ z. omega arith))
    go false true c d r = sym (first_fires 2 r (λ z. omega arith))
    go false false true d r = sym (first_fires 3 r (λ z. omega arith))
    go false false false true r = sym (first_fires 4 r (λ z. omega arith))
    go false false false false r = sym (first_zero 0 r refl)

-- which are 5 or more
high : (t : Bool) (k : ℕ) {r : ℕ} → 5 ≤ k → (1 ≤ r → 5 ≤ r) → 1 ≤ or_else t k r → 5 ≤ or_else t k r
high true k l h s = l
high false k l h s = h s

none_left : 1 ≤ 0 → 5 ≤ 0
none_left s = absurd (omega arith)

pub behind_four : (f : VolumeFacts) (image : List ℕ) → 1 ≤ from5 f image → 5 ≤ from5 f image
unfolding from5 from6 from7 from8 from9
behind_four f image =
    let e = map_entry image in
    let es = directory image in
    let gs = forks_in es in
    high (fires5 e (N f)) 5 (omega arith) (high (fires6 es) 6 (omega arith) (high (fires7 f.files (next_file_number f) es) 7 (omega arith)
    (high (fires8 e (N f) (A f) gs) 8 (omega arith) (high (fires9 e (N f) (A f) gs) 9 (omega arith)
    (high (fires10 e (N f) (free_count f)) 10 (omega arith) none_left)))))

-- ---- a directory that passes check 6

whole_block : (b : List ℕ) (bs : List (List ℕ)) → every good_entry (listing (b ∷ bs)) ≡ true
    → (quick_entries b ≡ entries b) × (every good_entry (listing bs) ≡ true)
unfolding quick_entries listing flat
whole_block b bs h =
    let a = and-true (every good_entry (entries b)) (every good_entry (listing bs)) (sym (every_append good_entry (entries b) (listing bs)) ∙ h) in
    (leading_all good_entry (entries b) a.0, a.1)

pub quick_listing_lem : (bs : List (List ℕ)) → every good_entry (listing bs) ≡ true → quick_listing bs ≡ listing bs
unfolding quick_listing listing flat
quick_listing_lem [] h = refl
quick_listing_lem (b ∷ bs) h = let a = whole_block b bs h in rw (a.0, quick_listing_lem bs a.1)

pub quick_at : (bs : List (List ℕ)) → every good_entry (listing bs) ≡ true → (i : ℕ) → i < length bs → quick_entries (get_or bs i []) ≡ entries (get_or bs i [])
quick_at [] h i l = absurd (omega arith)
quick_at (b ∷ bs) h zero l = (whole_block b bs h).0
quick_at (b ∷ bs) h (suc i) l = quick_at bs (whole_block b bs h).1 i (omega arith)

pub quick_before : (bs : List (List ℕ)) → every good_entry (listing bs) ≡ true → (i : ℕ)
    → flat (map quick_entries (take i bs)) ≡ flat (map entries (take i bs))
unfolding flat
quick_before [] h zero = refl
quick_before [] h (suc i) = refl
quick_before (b ∷ bs) h zero = refl
quick_before (b ∷ bs) h (suc i) = let a = whole_block b bs h in rw (a.0, quick_before bs a.1 i)

pub all_good : (image : List ℕ) → Accepted image → every good_entry (listing (directory_blocks (facts_of image) image)) ≡ true
unfolding fires6 directory
all_good image acc = not-false _ (readable_of image acc).pass6

pub quick_directory_lem : (image : List ℕ) → Accepted image → quick_directory image ≡ directory image
unfolding quick_directory directory
quick_directory_lem image acc = quick_listing_lem (directory_blocks (facts_of image) image) (all_good image acc)
