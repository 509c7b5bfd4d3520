-- Laws of the directory's blocks all together: blocks cut from bytes and put together again, and what each change makes of the
-- blocks and of their listing.
use Prim.Native.Nat.{ℕ, zero, suc, ◌+◌, ◌*◌, ◌≤◌}
use mathlib.Core.Path.{◌≡◌, refl, ap, ◌∙◌}
use mathlib.Core.Bool.{Bool, true, false, not, ◌||◌}
use mathlib.Core.List.{List, [], ◌∷◌, ◌++◌, map, append_assoc, map-append}
use native.Mathlib.Omega.{arith}
use lib.ListN.{length, take, drop, length-append, length-drop, take-append-drop}
use lib.Seq.{take-take, length-take-le, take_at, drop_at, drop-drop}
use Rattle.model.specs.Lists.{every, any, keep, flat, Reordered}
use Rattle.model.specs.Directory.{entries, cut_blocks, listing, named}
use Rattle.model.specs.Check.{good_entry}
use Rattle.model.specs.Calls.{filled, has_room, placed, removed, on_named, rewritten}
use Rattle.model.proofs.Lists.{and-true, every_append, flat_append, keep_append, middle}
use Rattle.laws.proofs.Stores.{drop_take_add}
use Rattle.laws.proofs.Block.{sound, Clean, split, added_reads, removed_reads, Sized, rewritten_reads}

-- ---- blocks of 512 bytes

unfoldable pub Whole : List (List ℕ) → Type 0
Whole [] = Unit {0}
Whole (b ∷ bs) = (length b ≡ 512) × Whole bs

pub cut_whole : (k : ℕ) (c : List ℕ) → 512 * k ≤ length c → Whole (cut_blocks k c)
unfolding Whole cut_blocks
cut_whole zero c l = tt
cut_whole (suc k) c l = (length-take-le 512 c (omega arith), cut_whole k (drop 512 c) (rw length-drop (omega arith)))

pub cut_count : (k : ℕ) (c : List ℕ) → length (cut_blocks k c) ≡ k
unfolding cut_blocks
cut_count zero c = refl
cut_count (suc k) c = ap suc (cut_count k (drop 512 c))

-- k blocks are in 512 * k bytes
pub cut_front : (k : ℕ) (c : List ℕ) → cut_blocks k (take (512 * k) c) ≡ cut_blocks k c
unfolding cut_blocks
cut_front zero c = refl
cut_front (suc k) c =
    let n : 512 * suc k ≡ 512 + 512 * k = omega arith in
    rw (n, take-take 512 (512 + 512 * k) c (omega arith), drop_take_add 512 (512 * k) c, cut_front k (drop 512 c))

pub cut_flat : (k : ℕ) (c : List ℕ) → 512 * k ≤ length c → flat (cut_blocks k c) ++ drop (512 * k) c ≡ c
unfolding flat cut_blocks
cut_flat zero c h = refl
cut_flat (suc k) c h =
    let n : 512 * suc k ≡ 512 + 512 * k = omega arith in
    rw (append_assoc, n, ← drop-drop (512 * k) 512 c, cut_flat k (drop 512 c) (rw length-drop (omega arith))) (take-append-drop 512 c)

pub flat_cut : (bs : List (List ℕ)) (r : List ℕ) → Whole bs → cut_blocks (length bs) (flat bs ++ r) ≡ bs
unfolding Whole cut_blocks flat
flat_cut [] r w = refl
flat_cut (b ∷ bs) r w = rw (append_assoc, take_at b (flat bs ++ r) 512 w.0, drop_at b (flat bs ++ r) 512 w.0, flat_cut bs r w.1)

pub whole_length : (bs : List (List ℕ)) → Whole bs → length (flat bs) ≡ 512 * length bs
unfolding Whole flat
whole_length [] w = omega arith
whole_length (b ∷ bs) w = rw length-append (omega (arith, w.0, whole_length bs w.1))

pub whole_append : (x y : List (List ℕ)) → Whole x → Whole y → Whole (x ++ y)
unfolding Whole
whole_append [] y u v = v
whole_append (b ∷ x) y u v = (u.0, whole_append x y u.1 v)

pub whole_parts : (x y : List (List ℕ)) → Whole (x ++ y) → Whole x × Whole y
unfolding Whole
whole_parts [] y w = (tt, w)
whole_parts (b ∷ x) y w = let r = whole_parts x y w.1 in ((w.0, r.0), r.1)

-- ---- clean blocks

-- all blocks pass check 6
unfoldable pub Cleans : List (List ℕ) → Type 0
Cleans [] = Unit {0}
Cleans (b ∷ bs) = Clean b × Cleans bs

pub clean_whole : (bs : List (List ℕ)) → Cleans bs → Whole bs
unfolding Cleans Whole
clean_whole [] c = tt
clean_whole (b ∷ bs) c = (c.0.long, clean_whole bs c.1)

pub whole_clean : (bs : List (List ℕ)) → Whole bs → every good_entry (listing bs) ≡ true → Cleans bs
unfolding Whole Cleans listing flat
whole_clean [] w g = tt
whole_clean (b ∷ bs) w g =
    let s = and-true _ _ (rw every_append at g) in
    (record { long = w.0; good = s.0 }, whole_clean bs w.1 s.1)

pub cut_clean : (k : ℕ) (c : List ℕ) → 512 * k ≤ length c → every good_entry (listing (cut_blocks k c)) ≡ true → Cleans (cut_blocks k c)
cut_clean k c l g = whole_clean (cut_blocks k c) (cut_whole k c l) g

pub clean_listing : (bs : List (List ℕ)) → Cleans bs → every good_entry (listing bs) ≡ true
unfolding Cleans listing flat every
clean_listing [] c = refl
clean_listing (b ∷ bs) c = rw (every_append, c.0.good, clean_listing bs c.1)

pub clean_sounds : (bs : List (List ℕ)) → Cleans bs → every sound (listing bs) ≡ true
unfolding Cleans listing flat every
clean_sounds [] c = refl
clean_sounds (b ∷ bs) c = rw (every_append, (split b c.0).sounds, clean_sounds bs c.1)

pub clean_parts : (x y : List (List ℕ)) → Cleans (x ++ y) → Cleans x × Cleans y
unfolding Cleans
clean_parts [] y w = (tt, w)
clean_parts (b ∷ x) y w = let r = clean_parts x y w.1 in ((w.0, r.0), r.1)

pub listing_append : (x y : List (List ℕ)) → listing (x ++ y) ≡ listing x ++ listing y
unfolding listing
listing_append x y = ap flat (map-append entries x y) ∙ flat_append (map entries x) (map entries y)

-- ---- changes

-- what a change of the blocks owes: clean blocks, as many
pub record Stays (bs cs : List (List ℕ)) : Type 0 where
  pub clean : Cleans cs
  pub count : length cs ≡ length bs

-- create
pub placed_stays : (e : List ℕ) (bs : List (List ℕ)) → sound e ≡ true → Cleans bs → Stays bs (placed e bs)
unfolding Cleans placed
placed_stays e [] s c = record { clean = tt; count = refl }
placed_stays e (b ∷ bs) s c = go (has_room (length e) b) refl (placed_stays e bs s c.1)
  where
    go : (t : Bool) → has_room (length e) b ≡ t → Stays bs (placed e bs)
        → Stays (b ∷ bs) (elim t as (λ _. List (List ℕ)) [ true ↦ filled (entries b ++ (e ∷ [])) ∷ bs | false ↦ b ∷ placed e bs ])
    go true h i = record { clean = ((added_reads e b c.0 s h).clean, c.1); count = refl }
    go false h i = record { clean = (c.0, i.clean); count = ap suc i.count }

-- es with e put in somewhere is fs
pub record Inserted (e : List ℕ) (es fs : List (List ℕ)) : Type 0 where
  pub before : List (List ℕ)
  pub behind : List (List ℕ)
  pub old : es ≡ before ++ behind
  pub new : fs ≡ before ++ (e ∷ behind)

pub inserted_reordered : (e : List ℕ) (es fs : List (List ℕ)) → Inserted e es fs → Reordered fs (e ∷ es)
inserted_reordered e es fs i = rw (i.old, i.new) (middle e i.before i.behind)

pub placed_inserted : (e : List ℕ) (bs : List (List ℕ)) → sound e ≡ true → Cleans bs → any (has_room (length e)) bs ≡ true
    → Inserted e (listing bs) (listing (placed e bs))
unfolding Cleans placed any listing flat
placed_inserted e [] s c h = absurd (let z : ◌≡◌ {A = ℕ} 0 1 = cc in omega arith)
placed_inserted e (b ∷ bs) s c h = go (has_room (length e) b) refl h (placed_inserted e bs s c.1)
  where
    go : (t : Bool) → has_room (length e) b ≡ t → (t || any (has_room (length e)) bs) ≡ true
        → (any (has_room (length e)) bs ≡ true → Inserted e (listing bs) (listing (placed e bs)))
        → Inserted e (entries b ++ listing bs)
        (listing (elim t as (λ _. List (List ℕ)) [ true ↦ filled (entries b ++ (e ∷ [])) ∷ bs | false ↦ b ∷ placed e bs ]))
    go true r h i = record { before = entries b; behind = listing bs; old = refl; new = rw ((added_reads e b c.0 s r).reads, append_assoc) }
    go false r h i =
        let j = i h in
        record {
          before = entries b ++ j.before;
          behind = j.behind;
          old = rw (j.old, append_assoc);
          new = rw (j.new, append_assoc);
        }

pub placed_listing : (e : List ℕ) (bs : List (List ℕ)) → sound e ≡ true → Cleans bs → any (has_room (length e)) bs ≡ true
    → Reordered (listing (placed e bs)) (e ∷ listing bs)
placed_listing e bs s c h = inserted_reordered e (listing bs) (listing (placed e bs)) (placed_inserted e bs s c h)

-- delete
pub removed_stays : (name : List ℕ) (bs : List (List ℕ)) → Cleans bs → Stays bs (removed name bs)
unfolding Cleans removed
removed_stays name [] c = record { clean = tt; count = refl }
removed_stays name (b ∷ bs) c =
    let i = removed_stays name bs c.1 in
    record { clean = ((removed_reads name b c.0).clean, i.clean); count = ap suc i.count }

pub removed_listing : (name : List ℕ) (bs : List (List ℕ)) → Cleans bs → listing (removed name bs) ≡ keep (λ e. not (named name e)) (listing bs)
unfolding Cleans removed listing flat keep
removed_listing name [] c = refl
removed_listing name (b ∷ bs) c =
    rw ((removed_reads name b c.0).reads, keep_append)
    (ap (λ (r : List (List ℕ)). keep (λ e. not (named name e)) (entries b) ++ r) (removed_listing name bs c.1))

-- write, cut, and a rename that stays
pub rewritten_stays : (name : List ℕ) (g : List ℕ → List ℕ) (bs : List (List ℕ)) → Sized name g → Cleans bs → Stays bs (rewritten name g bs)
unfolding Cleans rewritten
rewritten_stays name g [] k c = record { clean = tt; count = refl }
rewritten_stays name g (b ∷ bs) k c =
    let i = rewritten_stays name g bs k c.1 in
    record { clean = ((rewritten_reads name g b k c.0).clean, i.clean); count = ap suc i.count }

pub rewritten_listing : (name : List ℕ) (g : List ℕ → List ℕ) (bs : List (List ℕ)) → Sized name g → Cleans bs
    → listing (rewritten name g bs) ≡ map (on_named name g) (listing bs)
unfolding Cleans rewritten listing flat
rewritten_listing name g [] k c = refl
rewritten_listing name g (b ∷ bs) k c = rw ((rewritten_reads name g b k c.0).reads, map-append, rewritten_listing name g bs k c.1)
