-- A rename that is not refused: forks and entries in another order, the directory blocks that differ, where the entry stands, and that
-- the image is accepted.
use Prim.Native.Nat.{ℕ, ◌+◌, ◌*◌, ◌≤◌, ◌<◌}
use mathlib.Core.Path.{◌≡◌, refl, sym, ap, ap₂, subst, ◌∙◌}
use mathlib.Core.Bool.{Bool, true, false, not, ◌&&◌}
use mathlib.Core.List.{List, [], ◌∷◌, ◌++◌, map}
use native.Mathlib.Omega.{arith}
use lib.ListN.{length}
use lib.Dec.{eqb, leb, ltb}
use borrow.Author.Tests.{not-true}
use Rattle.model.specs.Lists.{every, any, distinct, keep, flat, from, times, Reordered, none, next, swap, then}
use Rattle.model.specs.Bytes.{half, Within}
use Rattle.model.specs.Facts.{facts_of, dir_start, dir_length, N, A, S, next_file_number, free_count, with_counts}
use Rattle.model.specs.Map.{map_entry}
use Rattle.model.specs.Directory.{directory_blocks, listing, directory, number_in, name_in, in_use, fork_of, forks_in, fork_blocks, owned_blocks, named}
use Rattle.model.specs.Check.{good_entry, good_number, same_numbers, same_names, good_fork, shares_none, fires8, fires9, Accepted}
use Rattle.model.specs.Calls.{same_size, removed, rewritten, placed, with_directory, retitled, renamed_in, renamed, change}
use Rattle.model.specs.Calls.Call.{rename}
use Rattle.model.specs.declared.VolumeFacts.{VolumeFacts}
use Rattle.model.specs.declared.ForkFacts.{ForkFacts}
use Rattle.model.specs.declared.Fork.TheVariants.{Data, Resource}
use Rattle.model.proofs.Lists.{and-true, every_append, middle, back, reordered_length, reordered_every, reordered_distinct}
use Rattle.model.proofs.Times.{times_append}
use Rattle.laws.proofs.Reorder.{Alone}
use Rattle.laws.proofs.MapChecks.{MapPasses}
use Rattle.laws.proofs.Alike.{Alike}
use Rattle.laws.proofs.MapSteps.{ForksChanged, alike_changed}
use Rattle.laws.proofs.Block.{sound}
use Rattle.laws.proofs.Titles.{sound_long, retitled_sound, retitled_sized, retitled_length, retitled_number, retitled_name, retitled_fork}
use Rattle.laws.proofs.Blocks.{Whole, Cleans, clean_whole, clean_sounds, Stays, placed_stays, placed_listing, removed_stays, removed_listing}
use Rattle.laws.proofs.Blocks.{rewritten_stays, rewritten_listing}
use Rattle.laws.proofs.Kept.{Listed, listed, listed_pass6, listed_pass7, names_comm, numbers_comm, named_keep, named_map}
use Rattle.laws.proofs.Places.{OneBlock, placed_one, removed_one, rewritten_one}
use Rattle.laws.proofs.Image.{blocks_count, with_blocks, with_length, with_twice, Changed, changed_listing, directory_changed, differs_last, one_half}
use Rattle.laws.proofs.DirectorySteps.{ReadableDirectory, clean_now, names_now}
use Rattle.laws.proofs.Refusals.{MayRename}
use Rattle.laws.proofs.Acceptance.{area, map_passes, accepted_from, readable_of}
use Rattle.laws.proofs.Bases.{alike_directory}
use Rattle.laws.proofs.TheEntry.{it_alone, the_entry, the_entry_lem}

-- ---- forks and entries in another order

owned_times : (e : ℕ → ℕ) (a b : ℕ) {gs hs : List ForkFacts} → Reordered gs hs → times b (owned_blocks e a gs) ≡ times b (owned_blocks e a hs)
unfolding owned_blocks flat
owned_times e a b none = refl
owned_times e a b (next g {xs} {ys} r) =
    omega (
      arith,
      times_append b (fork_blocks e a g) (flat (map (fork_blocks e a) xs)),
      times_append b (fork_blocks e a g) (flat (map (fork_blocks e a) ys)),
      owned_times e a b r,
    )
owned_times e a b (swap g h gs) =
    let x = fork_blocks e a g in
    let y = fork_blocks e a h in
    let z = flat (map (fork_blocks e a) gs) in
    omega (arith, times_append b x (y ++ z), times_append b y z, times_append b y (x ++ z), times_append b x z)
owned_times e a b (then r s) = owned_times e a b r ∙ owned_times e a b s

-- the map's checks ask nothing of the forks' order
pub passes_reordered : (e : ℕ → ℕ) (n a free : ℕ) {gs hs : List ForkFacts} → Reordered gs hs → MapPasses e n a free gs → MapPasses e n a free hs
unfolding fires8 fires9 shares_none
passes_reordered e n a free {gs} {hs} r h =
    let same : ◌≡◌ {A = ℕ → ℕ} (λ b. times b (owned_blocks e a gs)) (λ b. times b (owned_blocks e a hs)) = λ i b. owned_times e a b r i in
    record {
      pass5 = h.pass5;
      pass8 =
          sym (ap₂ (λ (t : Bool) (k : ℕ → ℕ). not (t && every (λ b. leb (k b) 1) (from n 2))) (reordered_every (good_fork e n a) r) same) ∙ h.pass8;
      pass9 = sym (ap (λ (k : ℕ → ℕ). any (λ b. ltb 0 (e b) && eqb (k b) 0) (from n 2)) same) ∙ h.pass9;
      pass10 = h.pass10;
    }

pub forks_reordered : {es fs : List (List ℕ)} → Reordered es fs → Reordered (forks_in es) (forks_in fs)
unfolding forks_in
forks_reordered none = none
forks_reordered (next e r) = next (fork_of Data e) (next (fork_of Resource e) (forks_reordered r))
forks_reordered (swap d e es) =
    let p = fork_of Data d in
    let q = fork_of Resource d in
    let x = fork_of Data e in
    let y = fork_of Resource e in
    then (middle x (p ∷ q ∷ []) (y ∷ forks_in es)) (next x (middle y (p ∷ q ∷ []) (forks_in es)))
forks_reordered (then r s) = then (forks_reordered r) (forks_reordered s)

-- ---- checks 6 and 7

-- e for the entry of the name, wherever it stands: its number is that entry's, and no other has its name
pub rename_listed : (files number : ℕ) (name e : List ℕ) (es fs : List (List ℕ)) → Listed files number es → (o : Alone (named name) es)
    → Reordered fs (e ∷ (o.before ++ o.behind)) → good_entry e ≡ true → number_in e ≡ number_in o.it
    → any (named (name_in e)) (o.before ++ o.behind) ≡ false → Listed files number fs
unfolding every distinct good_number named
rename_listed files number name e es fs s o r g n u =
    let others = o.before ++ o.behind in
    let r₀ : Reordered es (o.it ∷ others) =
    subst (λ (l : List (List ℕ)). Reordered l (o.it ∷ others)) (sym o.whole) (middle o.it o.before o.behind) in
    let clean = (and-true (good_entry o.it) (every good_entry others) (sym (reordered_every good_entry r₀) ∙ s.clean)).1 in
    let numbers = and-true (good_number number o.it) (every (good_number number) others) (sym (reordered_every (good_number number) r₀) ∙ s.numbers) in
    let apart = and-true (not (any (same_numbers o.it) others)) (distinct same_numbers others)
    (sym (reordered_distinct same_numbers numbers_comm r₀) ∙ s.numbers_differ) in
    let other : any (same_numbers e) others ≡ false =
    ap (λ (k : ℕ). any (λ x. eqb k (number_in x)) others) n ∙ not-true _ apart.0 in
    let names = (and-true (not (any (same_names o.it) others)) (distinct same_names others)
    (sym (reordered_distinct same_names names_comm r₀) ∙ s.names_differ)).1 in
    record {
      clean = reordered_every good_entry r ∙ rw (g, clean);
      counted = reordered_length r ∙ sym (reordered_length r₀) ∙ s.counted;
      numbers = reordered_every (good_number number) r ∙ rw (n, numbers.0, numbers.1);
      numbers_differ = reordered_distinct same_numbers numbers_comm r ∙ rw (other, apart.1);
      names_differ = reordered_distinct same_names names_comm r ∙ rw (u, names);
    }

-- ---- the directory blocks

-- cs is bs with a block changed, and then one more
pub record TwoBlocks (bs cs : List (List ℕ)) : Type 0 where
  pub mid : List (List ℕ)
  pub stays : Stays bs mid
  pub one : OneBlock bs mid
  pub two : OneBlock mid cs

-- one block changed, as two of which the second stays
once : (bs cs : List (List ℕ)) → Stays bs cs → OneBlock bs cs → TwoBlocks bs cs
once bs cs s o = record {
  mid = cs;
  stays = s;
  one = o;
  two = record { before = o.before; was = o.now; now = o.now; behind = o.behind; old = o.new; new = o.new; long = o.long };
}

-- left is image, but for two directory blocks
pub record TwoDiffer (image left : List ℕ) : Type 0 where
  pub one : ℕ
  pub two : ℕ
  pub one_first : (dir_start (facts_of image)).0 ≤ one
  pub one_last : one < (dir_start (facts_of image)).0 + dir_length (facts_of image)
  pub two_first : (dir_start (facts_of image)).0 ≤ two
  pub two_last : two < (dir_start (facts_of image)).0 + dir_length (facts_of image)
  pub kept : (h : ℕ) → (Within (512 * one) 512 h → ⊥) → (Within (512 * two) 512 h → ⊥) → half left h ≡ half image h

-- what a rename makes of the blocks: e is the entry put in, others are those that stay
record Retitled (bs cs : List (List ℕ)) (e : List ℕ) (others : List (List ℕ)) : Type 0 where
  pub stays : Stays bs cs
  pub order : Reordered (listing cs) (e ∷ others)
  pub steps : TwoBlocks bs cs

module _ (image : List ℕ) (acc : Accepted image) (name new : List ℕ) (changed : ℕ) (m : MayRename image name new) where
  abbrev f : VolumeFacts
  f = facts_of image

  abbrev blocks : List (List ℕ)
  blocks = directory_blocks (facts_of image) image

  abbrev there : any (named name) (directory image) ≡ true
  there = m.file.exists

  abbrev o : Alone (named name) (directory image)
  o = it_alone image acc name there

  -- the entry as it was and is, and the others
  abbrev pub was : List ℕ
  was = the_entry image acc name there

  abbrev pub now : List ℕ
  now = retitled new changed was

  abbrev pub others : List (List ℕ)
  others = o.before ++ o.behind

  abbrev new_blocks : List (List ℕ)
  new_blocks = renamed_in name new changed was blocks

  -- the image left
  abbrev pub left : List ℕ
  left = renamed f image name new changed was

  pub is_left : change (rename name new changed) image ≡ left
  unfolding change
  is_left = ap (renamed f image name new changed) (the_entry_lem image acc name there)

  abbrev r : ReadableDirectory image
  r = readable_of image acc

  abbrev clean : Cleans blocks
  clean = clean_now image r

  was_sound : sound was ≡ true
  unfolding directory every
  was_sound =
      let all : every sound (o.before ++ (was ∷ o.behind)) ≡ true = rw o.whole at (clean_sounds blocks clean) in
      let both = and-true (every sound o.before) (every sound (was ∷ o.behind)) (sym (every_append sound o.before (was ∷ o.behind)) ∙ all) in
      (and-true (sound was) (every sound o.behind) both.1).0

  now_sound : sound now ≡ true
  now_sound = retitled_sound new changed was was_sound m.title.some

  others_are : keep (λ x. not (named name x)) (directory image) ≡ others
  others_are = named_keep name (directory image) o

  -- it stays
  in_place : same_size name new ≡ true → Retitled blocks (rewritten name (retitled new changed) blocks) now others
  unfolding directory
  in_place q =
      let g = retitled new changed in
      let z = retitled_sized name new changed q m.title.some in
      let s = rewritten_stays name g blocks z clean in
      let l : listing (rewritten name g blocks) ≡ o.before ++ (now ∷ o.behind) =
      rewritten_listing name g blocks z clean ∙ named_map name (directory image) o g in
      record {
        stays = s;
        order = rw l (middle now o.before o.behind);
        steps = once blocks (rewritten name g blocks) s (rewritten_one name blocks clean (names_now image r) there g z);
      }

  -- it is taken out and put in
  moved : same_size name new ≡ false → Retitled blocks (placed now (removed name blocks)) now others
  unfolding directory
  moved q =
      let out = removed name blocks in
      let s = removed_stays name blocks clean in
      let room = rw (← retitled_length new changed was (sound_long was was_sound)) at (m.room q) in
      let t = placed_stays now out now_sound s.clean in
      let l : listing out ≡ others = removed_listing name blocks clean ∙ others_are in
      record {
        stays = record { clean = t.clean; count = t.count ∙ s.count };
        order = subst (λ (es : List (List ℕ)). Reordered (listing (placed now out)) (now ∷ es)) l (placed_listing now out now_sound s.clean room);
        steps = record {
          mid = out;
          stays = s;
          one = removed_one name blocks clean (names_now image r) there;
          two = placed_one now out now_sound s.clean room;
        };
      }

  retitles : Retitled blocks new_blocks now others
  unfolding renamed_in
  retitles = go (same_size name new) refl
    where
      go : (t : Bool) → same_size name new ≡ t
          → Retitled blocks (elim t as (λ _. List (List ℕ)) [
            | true ↦ rewritten name (retitled new changed) blocks
            | false ↦ placed (retitled new changed was) (removed name blocks)
          ]) now others
      go true q = in_place q
      go false q = moved q

  -- ---- the image left

  abbrev as_many : length new_blocks ≡ dir_length f
  as_many = retitles.stays.count ∙ blocks_count f image r.within

  abbrev whole : Whole new_blocks
  whole = clean_whole new_blocks retitles.stays.clean

  stored : Changed f image new_blocks f.files (next_file_number f) (free_count f) left
  unfolding renamed
  stored = directory_changed f image r.behind r.within new_blocks refl whole as_many

  pub same_facts : facts_of left ≡ f
  unfolding with_counts
  same_facts = stored.facts

  pub same_length : length left ≡ length image
  same_length = stored.long

  -- its entries: the one with the new name, and the others
  pub entries_left : directory left ≡ listing new_blocks
  entries_left = changed_listing f image r.behind r.within new_blocks stored

  pub in_order : Reordered (directory left) (now ∷ others)
  in_order = rw entries_left retitles.order

  pub was_long : 46 ≤ length was
  was_long = sound_long was was_sound

  none_other : any (named (name_in now)) others ≡ false
  none_other = rw (retitled_name new changed was was_long, ← others_are) m.other

  all_listed : Listed f.files (next_file_number f) (listing new_blocks)
  all_listed =
      rename_listed f.files (next_file_number f) name now (directory image) (listing new_blocks)
      (listed f.files (next_file_number f) (directory image) r.pass6 r.pass7) o retitles.order
      (and-true (in_use now) (good_entry now) now_sound).1 (retitled_number new changed was was_long) none_other

  -- the map and the blocks
  pub alike : Alike (S f) left image
  unfolding renamed
  alike = alike_directory image acc image new_blocks refl whole as_many

  pub map_changed : ForksChanged (S f) (A f) (N f) (free_count f) image left [] [] (forks_in (directory image))
  map_changed = alike_changed (S f) (A f) (N f) (free_count f) image (area image acc) (forks_in (directory image)) (map_passes image acc) left alike

  forks_order : Reordered (forks_in (directory image)) (forks_in (listing new_blocks))
  unfolding forks_in
  forks_order =
      let was-first : Reordered (directory image) (was ∷ others) =
      subst (λ (l : List (List ℕ)). Reordered l (was ∷ others)) (sym o.whole) (middle was o.before o.behind) in
      let fork = retitled_fork new changed was was_long in
      let same : forks_in (now ∷ others) ≡ forks_in (was ∷ others) = λ i. fork Data i ∷ fork Resource i ∷ forks_in others in
      then (subst (Reordered (forks_in (directory image))) (sym same) (forks_reordered was-first)) (back (forks_reordered retitles.order))

  pub rename_accepted : Accepted left
  rename_accepted =
      accepted_from image left (listing new_blocks) f.files (next_file_number f) (free_count f) acc stored.long stored.facts entries_left
      (listed_pass6 f.files (next_file_number f) (listing new_blocks) all_listed) (listed_pass7 f.files (next_file_number f) (listing new_blocks) all_listed)
      acc.facts.numbered (passes_reordered (map_entry left) (N f) (A f) (free_count f) forks_order map_changed.passes)

  -- ---- two directory blocks differ

  abbrev mid : List (List ℕ)
  mid = retitles.steps.mid

  abbrev mid_whole : Whole mid
  mid_whole = clean_whole mid retitles.steps.stays.clean

  abbrev mid_many : length mid ≡ dir_length f
  mid_many = retitles.steps.stays.count ∙ blocks_count f image r.within

  -- the image with the first of them
  abbrev between : List ℕ
  between = with_directory f image mid

  within_between : 512 * (dir_start f).0 + 512 * dir_length f ≤ length between
  within_between = omega (arith, r.within, with_length f image r.within mid mid_whole mid_many)

  second : OneBlock (directory_blocks f between) new_blocks
  second = subst (λ (bs : List (List ℕ)). OneBlock bs new_blocks) (sym (with_blocks f image r.within mid mid_whole mid_many)) retitles.steps.two

  pub two_differ : TwoDiffer image left
  unfolding renamed
  two_differ =
      let one = retitles.steps.one in
      record {
        one = (dir_start f).0 + length one.before;
        two = (dir_start f).0 + length second.before;
        one_first = omega arith;
        one_last = differs_last f image r.within mid one;
        two_first = omega arith;
        two_last = differs_last f between within_between new_blocks second;
        kept = λ h p q.
            ap (λ (l : List ℕ). half l h) (sym (with_twice f image r.within mid mid_whole mid_many new_blocks))
            ∙ one_half f between within_between new_blocks second h q
            ∙ one_half f image r.within mid one h p;
      }
