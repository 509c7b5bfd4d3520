-- Laws of one directory block. Its reading: a clean block is its entries and a rest that is not in use, and entries put together
-- read as themselves. Its changes: each leaves a clean block, and says what it reads as.
use Prim.Native.Nat.{ℕ, zero, suc, ◌+◌, ◌-◌, ◌*◌, ◌≤◌, ◌<◌}
use mathlib.Core.Path.{◌≡◌, refl, sym, ap, ◌∙◌}
use mathlib.Core.Bool.{Bool, true, false, not, ◌&&◌, ◌||◌, cond}
use mathlib.Core.List.{List, [], ◌∷◌, ◌++◌, map, append_assoc, append-nil}
use native.Mathlib.Omega.{arith}
use native.Mathlib.Decide.{dec_le}
use lib.ListN.{length, take, drop, length-append, length-take, length-replicate, take-append-drop, drop_of_length-le, get_or-append}
use lib.Seq.{length-take-le, drop-drop, take_at, drop_at, get_or-take, drop-append_seam}
use lib.Dec.{eqb, leb, ltb}
use borrow.Author.Tests.{eqb-true, eq-eqb, ne_eqb, leb-true, le-leb, lt-leb}
use Rattle.model.specs.Lists.{every, any, keep, flat}
use Rattle.model.specs.Bytes.{byte, zeros, part}
use Rattle.model.specs.Directory.{padded, entry_size, in_use, ends_at, next_place, read_at, entries, read_end, number_in, name_in, named}
use Rattle.model.specs.Check.{good_entry}
use Rattle.model.specs.Calls.{has_room, filled, removed_in, on_named, rewritten_in}
use Rattle.model.proofs.Lists.{and-true, every_append, flat_append, keep_every, keep_all}
use Rattle.laws.proofs.Reorder.{every_weaker, every_both}

pub size_low : (e : List ℕ) → 52 ≤ entry_size e
unfolding entry_size padded
size_low e = omega arith

-- ---- the reading without places

-- the entries that c begins with, at most k: the bytes left of a block, whose end is the end of c
unfoldable pub read_from : ℕ → List ℕ → List (List ℕ)
read_from zero c = []
read_from (suc k) c = elim (in_use c) [ true ↦ take (entry_size c) c ∷ read_from k (drop (entry_size c) c) | false ↦ [] ]

pub read_more : (k : ℕ) (c : List ℕ) → in_use c ≡ true → read_from (suc k) c ≡ take (entry_size c) c ∷ read_from k (drop (entry_size c) c)
unfolding read_from
read_more k c h = rw (h, read_from) refl

pub read_end_lem : (k : ℕ) (c : List ℕ) → in_use c ≡ false → read_from k c ≡ []
unfolding read_from
read_end_lem zero c h = refl
read_end_lem (suc k) c h = rw (h, read_from) refl

-- behind a block's end nothing is in use
pub past_unused : (b : List ℕ) (p : ℕ) → length b ≤ p → in_use (drop p b) ≡ false
unfolding in_use
past_unused b p h = rw (drop_of_length-le b h)

-- the reading ends exactly where nothing is in use
pub ends_at_lem : (b : List ℕ) (p : ℕ) → length b ≤ 512 → ends_at b p ≡ not (in_use (drop p b))
unfolding ends_at
ends_at_lem b p h = go (dec_le 512 p)
  where
    go : Dec (512 ≤ p) → (leb 512 p || not (in_use (drop p b))) ≡ not (in_use (drop p b))
    go (yes q) = rw (le-leb 512 p q, past_unused b p (omega arith))
    go (no q) = rw (lt-leb 512 p (omega arith))

pub read_at_lem : (k : ℕ) (b : List ℕ) (p : ℕ) → length b ≤ 512 → read_at k b p ≡ read_from k (drop p b)
unfolding read_at read_from next_place
read_at_lem zero b p l = refl
read_at_lem (suc k) b p l = go (in_use (drop p b)) refl (read_at_lem k b (next_place b p) l)
  where
    go : (t : Bool) → in_use (drop p b) ≡ t → read_at k b (next_place b p) ≡ read_from k (drop (next_place b p) b) → read_at (suc k) b p ≡ read_from (suc k) (drop p b)
    go true e ih =
        rw (ends_at_lem b p l, e, read_at, read_from) (ap (λ (r : List (List ℕ)). part p (entry_size (drop p b)) b ∷ r) (ih
        ∙ ap (read_from k) (sym (drop-drop (entry_size (drop p b)) p b))))
    go false e ih = rw (ends_at_lem b p l, e, read_at, read_from) refl

pub read_all : (b : List ℕ) → length b ≤ 512 → entries b ≡ read_from 10 b
unfolding entries
read_all b l = read_at_lem 10 b 0 l

-- ---- one step of the reading at its place

pub step_end : (k : ℕ) (b : List ℕ) (p : ℕ) → ends_at b p ≡ true → read_at k b p ≡ []
unfolding read_at
step_end zero b p h = refl
step_end (suc k) b p h = rw (h, read_at) refl

pub step_more : (k : ℕ) (b : List ℕ) (p : ℕ) → ends_at b p ≡ false → read_at (suc k) b p ≡ part p (entry_size (drop p b)) b ∷ read_at k b (next_place b p)
unfolding read_at
step_more k b p h = rw (h, read_at) refl

take_size : (c : List ℕ) (n : ℕ) → 52 ≤ n → entry_size (take n c) ≡ entry_size c
unfolding entry_size
take_size c n h = rw (get_or-take n c 50 0 (omega arith))

take_within : (c : List ℕ) (n : ℕ) → eqb (length (take n c)) n ≡ leb n (length c)
take_within c n = go (dec_le n (length c))
  where
    go : Dec (n ≤ length c) → eqb (length (take n c)) n ≡ leb n (length c)
    go (yes h) = eq-eqb (length (take n c)) n (length-take-le n c h) ∙ sym (le-leb n (length c) h)
    go (no h) = ne_eqb (length (take n c)) n (λ e. h (omega (arith, length-take n c))) ∙ sym (lt-leb n (length c) (omega arith))

-- check 6 of the entry that begins the bytes left of a block, as document 01 says it: it ends within them, it has a name, its
-- version is 0
pub good_take : (c : List ℕ) → good_entry (take (entry_size c) c) ≡ (leb (entry_size c) (length c) && (ltb 0 (byte c 50) && eqb (byte c 1) 0))
unfolding good_entry
good_take c =
    let n = entry_size c in
    let low = size_low c in
    let size : entry_size (take n c) ≡ n = take_size c n low in
    rw (size, get_or-take n c 50 0 (omega arith), get_or-take n c 1 0 (omega arith), take_within c n)

-- ---- entries put together

-- an entry as a clean block holds it
abbrev pub sound : List ℕ → Bool
sound e = in_use e && good_entry e

pub sound_length : (e : List ℕ) → sound e ≡ true → length e ≡ entry_size e
unfolding good_entry
sound_length e h = eqb-true (length e) (entry_size e) (and-true _ _ (and-true (in_use e) (good_entry e) h).1).0

pub good_long : (e : List ℕ) → good_entry e ≡ true → 52 ≤ length e
unfolding good_entry
good_long e h = omega (arith, size_low e, eqb-true (length e) (entry_size e) (and-true _ _ h).0)

front_size : (e t : List ℕ) → 52 ≤ length e → entry_size (e ++ t) ≡ entry_size e
unfolding entry_size
front_size e t h = rw (get_or-append e t 0 50 (omega arith))

front_used : (e t : List ℕ) → 52 ≤ length e → in_use (e ++ t) ≡ in_use e
unfolding in_use
front_used e t h = rw (get_or-append e t 0 0 (omega arith))

-- an entry in front is read first
pub read_front : (k : ℕ) (e r : List ℕ) → sound e ≡ true → read_from (suc k) (e ++ r) ≡ e ∷ read_from k r
read_front k e r s =
    let n = sound_length e s in
    let low : 52 ≤ length e = omega (arith, size_low e) in
    let size : length e ≡ entry_size (e ++ r) = n ∙ sym (front_size e r low) in
    read_more k (e ++ r) (front_used e r low ∙ (and-true (in_use e) (good_entry e) s).0) ∙ rw (take_at e r _ size, drop_at e r _ size)

-- entries put together, and a rest that is not in use, read as the entries
pub read_join : (k : ℕ) (es : List (List ℕ)) (t : List ℕ) → every sound es ≡ true → in_use t ≡ false → length es ≤ k → read_from k (flat es ++ t) ≡ es
unfolding flat every
read_join k [] t s h l = read_end_lem k t h
read_join zero (e ∷ es) t s h l = absurd (omega arith)
read_join (suc k) (e ∷ es) t s h l =
    let s0 = and-true (sound e) (every sound es) s in
    rw append_assoc (read_front k e (flat es ++ t) s0.0 ∙ ap (λ (r : List (List ℕ)). e ∷ r) (read_join k es t s0.1 h (omega arith)))

pub flat_long : (es : List (List ℕ)) → every sound es ≡ true → 52 * length es ≤ length (flat es)
unfolding flat every
flat_long [] s = omega arith
flat_long (e ∷ es) s =
    let s0 = and-true (sound e) (every sound es) s in
    omega (arith, flat_long es s0.1, sound_length e s0.0, size_low e, length-append e (flat es))

-- the reading of a block that is put together from entries
pub read_block : (es : List (List ℕ)) (t : List ℕ) → every sound es ≡ true → in_use t ≡ false → length (flat es ++ t) ≤ 512 → entries (flat es ++ t) ≡ es
read_block es t s h l = read_all (flat es ++ t) l ∙ read_join 10 es t s h (omega (arith, flat_long es s, length-append (flat es) t))

zeros_unused : (n : ℕ) → in_use (zeros n) ≡ false
unfolding in_use
zeros_unused zero = refl
zeros_unused (suc n) = refl

pub length_filled : (es : List (List ℕ)) → length (flat es) ≤ 512 → length (filled es) ≡ 512
unfolding filled
length_filled es l = simp (length-append, length-replicate) (omega arith)

pub read_filled : (es : List (List ℕ)) → every sound es ≡ true → length (flat es) ≤ 512 → entries (filled es) ≡ es
unfolding filled
read_filled es s l =
    let n = length_filled es l in
    read_block es (zeros (512 - length (flat es))) s (zeros_unused (512 - length (flat es))) (omega arith)

-- ---- a block taken apart

-- the reading of at most k entries of c: the entries and the rest t are c; they are in use and, where they are good and k is
-- enough, the rest is not
record Left (k : ℕ) (c : List ℕ) (es : List (List ℕ)) (t : List ℕ) : Type 0 where
  pub whole : c ≡ flat es ++ t
  pub inuse : every in_use es ≡ true
  pub ends : every good_entry es ≡ true → length c < 52 * k → in_use t ≡ false

take_used : (e : List ℕ) (n : ℕ) → 52 ≤ n → in_use (take n e) ≡ in_use e
unfolding in_use
take_used e n h = rw (get_or-take n e 0 0 (omega arith))

left_more : (k : ℕ) (c : List ℕ) (es : List (List ℕ)) (t : List ℕ) → in_use c ≡ true → Left k (drop (entry_size c) c) es t
    → Left (suc k) c (take (entry_size c) c ∷ es) t
unfolding flat every
left_more k c es t e d =
    let n = entry_size c in
    record {
      whole = rw (append_assoc, ← d.whole, take-append-drop);
      inuse = rw (take_used c n (size_low c), e, d.inuse);
      ends = λ g l.
          let g0 = and-true (good_entry (take n c)) (every good_entry es) g in
          d.ends g0.1 (omega (arith, good_long (take n c) g0.0, length-append (take n c) (drop n c), ap length (take-append-drop n c)));
    }

left : (k : ℕ) (c : List ℕ) → (t : List ℕ) × Left k c (read_from k c) t
unfolding read_from flat every
left zero c = (c, record { whole = refl; inuse = refl; ends = λ g l. absurd (omega arith) })
left (suc k) c = go (in_use c) refl (left k (drop (entry_size c) c))
  where
    go : (b : Bool) → in_use c ≡ b → (t : List ℕ) × Left k (drop (entry_size c) c) (read_from k (drop (entry_size c) c)) t
        → (t : List ℕ) × Left (suc k) c (read_from (suc k) c) t
    go false e d = (c, rw (read_end_lem (suc k) c e) (record { whole = refl; inuse = refl; ends = λ g l. e }))
    go true e d = (d.0, rw (read_more k c e) (left_more k c _ d.0 e d.1))

-- a directory block that passes check 6
pub record Clean (b : List ℕ) : Type 0 where
  pub long : length b ≡ 512
  pub good : every good_entry (entries b) ≡ true

-- the bytes behind the entries
abbrev pub rest : List ℕ → List ℕ
rest b = drop (read_end b) b

-- a clean block is its entries, all sound, and a rest that is not in use
pub record Split (b : List ℕ) : Type 0 where
  pub whole : b ≡ flat (entries b) ++ rest b
  pub sounds : every sound (entries b) ≡ true
  pub ends : in_use (rest b) ≡ false

pub split : (b : List ℕ) → Clean b → Split b
unfolding read_end
split b c =
    let d = left 10 b in
    let same : read_from 10 b ≡ entries b = sym (read_all b (omega (arith, c.long))) in
    let m : Left 10 b (entries b) d.0 = rw same at d.1 in
    let r : rest b ≡ d.0 = ap (drop (read_end b)) m.whole ∙ drop-append_seam (flat (entries b)) d.0 in
    record {
      whole = rw r m.whole;
      sounds = every_both in_use good_entry (entries b) m.inuse c.good;
      ends = rw r (m.ends c.good (omega (arith, c.long)));
    }

pub used_within : (b : List ℕ) → Clean b → read_end b + length (rest b) ≡ 512
unfolding read_end
used_within b c = sym (length-append (flat (entries b)) (rest b)) ∙ sym (ap length (split b c).whole) ∙ c.long

-- ---- changes

-- what a change that gives block c the entries es owes
pub record Reads (c : List ℕ) (es : List (List ℕ)) : Type 0 where
  pub clean : Clean c
  pub reads : entries c ≡ es

sound_good : (es : List (List ℕ)) → every sound es ≡ true → every good_entry es ≡ true
sound_good = every_weaker sound good_entry (λ e h. (and-true (in_use e) (good_entry e) h).1)

reads_as : (c : List ℕ) (es : List (List ℕ)) → length c ≡ 512 → every sound es ≡ true → entries c ≡ es → Reads c es
reads_as c es l s r = record { clean = record { long = l; good = rw r (sound_good es s) }; reads = r }

filled_reads : (es : List (List ℕ)) → every sound es ≡ true → length (flat es) ≤ 512 → Reads (filled es) es
filled_reads es s l = reads_as (filled es) es (length_filled es l) s (read_filled es s l)

-- create: one entry more at the end
pub added_reads : (e b : List ℕ) → Clean b → sound e ≡ true → has_room (length e) b ≡ true → Reads (filled (entries b ++ (e ∷ []))) (entries b ++ (e ∷ []))
unfolding has_room read_end flat every
added_reads e b c s h =
    let r = leb-true (read_end b + length e) 512 h in
    filled_reads (entries b ++ (e ∷ []))
    (rw (every_append sound (entries b) (e ∷ []), (split b c).sounds, s))
    (rw (flat_append (entries b) (e ∷ []), append-nil e, length-append (flat (entries b)) e) r)

keep_shorter : (p : List ℕ → Bool) (es : List (List ℕ)) → length (flat (keep p es)) ≤ length (flat es)
unfolding keep flat
keep_shorter p [] = omega arith
keep_shorter p (e ∷ es) = go (p e) (keep_shorter p es)
  where
    go : (t : Bool) → length (flat (keep p es)) ≤ length (flat es) → length (flat (cond t (e ∷ keep p es) (keep p es))) ≤ length (e ++ flat es)
    go true h = simp length-append (omega arith)
    go false h = simp length-append (omega arith)

-- delete: the entries but those of the name
pub removed_reads : (name b : List ℕ) → Clean b → Reads (removed_in name b) (keep (λ e. not (named name e)) (entries b))
unfolding removed_in read_end
removed_reads name b c = go (any (named name) (entries b)) refl
  where
    go : (t : Bool) → any (named name) (entries b) ≡ t
        → Reads (elim t as (λ _. List ℕ) [ true ↦ filled (keep (λ e. not (named name e)) (entries b)) | false ↦ b ])
        (keep (λ e. not (named name e)) (entries b))
    go true e =
        filled_reads (keep (λ e. not (named name e)) (entries b))
        (keep_every (λ e. not (named name e)) sound (entries b) (split b c).sounds)
        (omega (arith, keep_shorter (λ e. not (named name e)) (entries b), used_within b c))
    go false e = record { clean = c; reads = sym (keep_all (named name) (entries b) e) }

-- write and cut: a change of entries that keeps their sizes, what check 6 asks, and all that check 7 asks about
pub record Keeps (g : List ℕ → List ℕ) : Type 0 where
  pub size : (e : List ℕ) → length (g e) ≡ length e
  pub used : (e : List ℕ) → in_use (g e) ≡ in_use e
  pub good : (e : List ℕ) → good_entry (g e) ≡ good_entry e
  pub number : (e : List ℕ) → number_in (g e) ≡ number_in e
  pub name : (e : List ℕ) → name_in (g e) ≡ name_in e

-- whatever g leaves alike, it leaves alike in the entry of a name
pub on_alike : {A : Type 0} (name : List ℕ) (g : List ℕ → List ℕ) (h : List ℕ → A) → ((e : List ℕ) → h (g e) ≡ h e) → (e : List ℕ) → h (on_named name g e) ≡ h e
unfolding on_named
on_alike name g h w e = go (named name e)
  where
    go : (t : Bool) → h (cond t (g e) e) ≡ h e
    go true = w e
    go false = refl

pub keeps_named : (name : List ℕ) (g : List ℕ → List ℕ) → Keeps g → Keeps (on_named name g)
keeps_named name g k = record {
  size = on_alike name g length k.size;
  used = on_alike name g in_use k.used;
  good = on_alike name g good_entry k.good;
  number = on_alike name g number_in k.number;
  name = on_alike name g name_in k.name;
}

-- and, for rename too, one that keeps the sizes and the soundness of the entries of a name
abbrev pub Sized : List ℕ → (List ℕ → List ℕ) → Type 0
Sized name g = (e : List ℕ) → named name e ≡ true → sound e ≡ true → (sound (g e) ≡ true) × (length (g e) ≡ length e)

pub keeps_sized : (name : List ℕ) (g : List ℕ → List ℕ) → Keeps g → Sized name g
keeps_sized name g k e n s = (rw (k.used e, k.good e) s, k.size e)

sized_on : (name : List ℕ) (g : List ℕ → List ℕ) → Sized name g → (e : List ℕ) → sound e ≡ true
    → (sound (on_named name g e) ≡ true) × (length (on_named name g e) ≡ length e)
unfolding on_named
sized_on name g k e s = go (named name e) refl
  where
    go : (t : Bool) → named name e ≡ t → (sound (cond t (g e) e) ≡ true) × (length (cond t (g e) e) ≡ length e)
    go true n = k e n s
    go false n = (s, refl)

map_sized : (name : List ℕ) (g : List ℕ → List ℕ) → Sized name g → (es : List (List ℕ)) → every sound es ≡ true
    → (every sound (map (on_named name g) es) ≡ true) × (length (flat (map (on_named name g) es)) ≡ length (flat es))
unfolding flat every
map_sized name g k [] s = (refl, refl)
map_sized name g k (e ∷ es) s =
    let p = and-true (sound e) (every sound es) s in
    let h = sized_on name g k e p.0 in
    let r = map_sized name g k es p.1 in
    (rw h.0 r.0, simp (length-append, r.1, h.1))

pub rewritten_reads : (name : List ℕ) (g : List ℕ → List ℕ) (b : List ℕ) → Sized name g → Clean b
    → Reads (rewritten_in name g b) (map (on_named name g) (entries b))
unfolding rewritten_in read_end
rewritten_reads name g b k c =
    let f = on_named name g in
    let d = split b c in
    let j = map_sized name g k (entries b) d.sounds in
    let s = j.0 in
    let w = used_within b c in
    let l = j.1 in
    let n : length (flat (map f (entries b)) ++ rest b) ≡ 512 = simp length-append (omega arith) in
    reads_as (flat (map f (entries b)) ++ rest b) (map f (entries b)) n s (read_block (map f (entries b)) (rest b) s d.ends (omega arith))
