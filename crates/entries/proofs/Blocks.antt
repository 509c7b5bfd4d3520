-- Laws of one directory block: where its reading ends, and its bytes after an entry is taken out.
use Prim.Native.Nat.{ℕ, ◌+◌, ◌-◌, ◌*◌, ◌≤◌, ◌<◌}
use mathlib.Core.Path.{◌≡◌, refl, sym, ap, ◌∙◌}
use mathlib.Core.Bool.{true}
use mathlib.Core.List.{List, [], ◌∷◌, ◌++◌, append_assoc, append-nil}
use native.Mathlib.Omega.{arith}
use lib.ListN.{length, take, drop, length-append, length-drop, length-replicate, take-append-drop}
use lib.Seq.{paste, take-paste, drop-paste, drop-drop, take_all, take-take, take-add, length-take-le}
use borrow.Rule.Slice.PartMut.{put_mid}
use borrow.Author.Tests.{eqb-true, not-false}
use Rattle.std.proofs.lemmas.Slice.{put_mid-paste}
use Rattle.model.specs.Lists.{every, flat}
use Rattle.model.specs.Bytes.{zeros, part}
use Rattle.model.specs.Directory.{padded, entry_size, read_at, entries, read_end, cut_blocks, listing}
use Rattle.model.specs.Check.{good_entry, fires6}
use Rattle.model.specs.Calls.{filled}
use Rattle.model.proofs.Lists.{and-true, every_append, flat_append}
use Rattle.laws.proofs.Stores.{drop_take_add}
use Rattle.laws.proofs.Block.{Clean, used_within}
use Rattle.laws.proofs.Places.{fills, removed_bytes}
use Rattle.directory.specs.declared.Cursor.{Cursor}
use Rattle.directory.specs.declared.EntryAt.{EntryAt}
use Rattle.directory.specs.Cursor.{block_of, rest_of, bytes_at, Passes, Stands, Comes, Lies}
use Rattle.entries.specs.Blocks.{Block}
use Rattle.directory.proofs.Parts.{part_part, title_at}

-- ---- the block

module _ (image : List ℕ) (base : ℕ) (k : Block image base) where
  pub block_clean : Clean (part base 512 image)
  unfolding fires6
  block_clean = record {
    long = length-take-le 512 (drop base image) (omega (arith, length-drop base image, k.within));
    good = not-false _ k.good;
  }

  pub end_within : read_end (part base 512 image) ≤ 512
  end_within = omega (arith, used_within (part base 512 image) block_clean)

  -- a cursor at its first byte
  pub block_passes : Passes image (record { base = base; at = 0; left = 0 })
  unfolding rest_of cut_blocks listing flat entries
  block_passes = record {
    fits = record { blocks = omega (arith, k.within); place = omega arith };
    good = ap fires6 (append-nil (entries (part base 512 image))) ∙ k.good;
  }

  pub block_comes : Comes image base 1 (record { base = base; at = 0; left = 0 })
  unfolding entries flat
  block_comes = record { index = 0; before = []; block = omega arith; count = refl; split = refl; place = refl }

none_front : (xs ys : List (List ℕ)) → xs ++ ys ≡ [] → xs ≡ []
none_front [] ys h = refl
none_front (x ∷ xs) ys h = absurd (let n = ap (length {A = List ℕ}) h in omega arith)

-- the reading of one block ends where no entry is left
pub block_ends : (image : List ℕ) (base : ℕ) (c : Cursor) → Comes image base 1 c → rest_of image c ≡ [] → c.at ≡ read_end (part base 512 image)
unfolding rest_of read_end
block_ends image base c k h =
    let here : c.base ≡ base = omega (arith, k.block, k.count) in
    let none : read_at 10 (block_of image c) c.at ≡ [] = none_front _ _ h in
    let all : entries (block_of image c) ≡ k.before = k.split ∙ ap (λ (es : List (List ℕ)). k.before ++ es) none ∙ append-nil k.before in
    k.place ∙ ap (λ (es : List (List ℕ)). length (flat es)) (sym all) ∙ ap (λ (b : ℕ). length (flat (entries (part b 512 image)))) here

-- ---- zeros

-- filled in from place a to place e
pub zeros_put : (a e : ℕ) (m ys : List ℕ) → e ≤ length m → ys ≡ zeros (length (take (e - a) (drop a m)))
    → put_mid a (e - a) m ys ≡ paste m a (zeros (e - a)) (e - a)
zeros_put a e m ys h p =
    let n : length (take (e - a) (drop a m)) ≡ e - a = length-take-le (e - a) (drop a m) (omega (arith, length-drop a m)) in
    put_mid-paste a (e - a) m ys (zeros (e - a)) (e - a) (p ∙ ap zeros n) refl (sym (length-replicate {A = ℕ} (e - a) 0))

-- ---- a part stored and cleared behind, as one block

module _ (m : List ℕ) (base s n z : ℕ) (c : List ℕ) (low : base ≤ s) (full : s + n + z ≡ base + 512) (within : base + 512 ≤ length m)
    (enough : n ≤ length c) where
  abbrev inside : List ℕ
  inside = part base (s - base) m ++ (take n c ++ zeros z)

  inside_long : length inside ≡ 512
  inside_long =
      length-append (part base (s - base) m) (take n c ++ zeros z)
      ∙ omega (
        arith,
        length-append (take n c) (zeros z),
        length-take-le (s - base) (drop base m) (omega (arith, length-drop base m)),
        length-take-le n c enough,
        length-replicate {A = ℕ} z 0,
      )

  front : take s m ≡ take base m ++ part base (s - base) m
  front =
      let e : base + (s - base) ≡ s = omega arith in
      sym (take-append-drop base (take s m))
      ∙ ap (λ (t : List ℕ). t ++ drop base (take s m)) (take-take base s m low)
      ∙ ap (λ (t : List ℕ). take base m ++ t) (ap (λ (k : ℕ). drop base (take k m)) (sym e) ∙ drop_take_add base (s - base) m)

  back : drop (s + n + z) (paste m s c n) ≡ drop (base + 512) m
  back =
      sym (drop-drop z (s + n) (paste m s c n)) ∙ ap (drop z) (drop-paste m s c n (omega arith) enough)
      ∙ drop-drop z (s + n) m ∙ ap (λ (k : ℕ). drop k m) full

  pub cleared_behind : paste (paste m s c n) (s + n) (zeros z) z ≡ paste m base inside 512
  cleared_behind =
      let z-all = take_all z (zeros z) (omega (arith, length-replicate {A = ℕ} z 0)) in
      let all = take_all 512 inside (omega (arith, inside_long)) in
      rw (take-paste m s c n (omega arith) enough, z-all, back, all, front) (simp append_assoc)

-- ---- the sizes around an entry: p bytes in front of it, w its own, q behind it, u in all

behind_long : (p w q u : ℕ) → u ≡ p + (w + q) → u - (p + w) ≡ q
behind_long p w q u h = omega arith

zeros_long : (w u z : ℕ) → u ≤ 512 → z + u ≡ 512 + w → 512 - u + w ≡ z
zeros_long w u z h k = omega arith

ahead_long : (base p s : ℕ) → s ≡ base + p → s - base ≡ p
ahead_long base p s h = omega arith

next_place_lem : (base p w s next : ℕ) → s ≡ base + p → next ≡ s + w → base + (p + w) ≡ next
next_place_lem base p w s next h k = omega arith

moved_long : (base p w q u next : ℕ) → u ≡ p + (w + q) → base + (p + w) ≡ next → base + u - next ≡ q
moved_long base p w q u next h k = omega arith

moved_short : (base p w q u s n : ℕ) → u ≡ p + (w + q) → u ≤ 512 → s ≡ base + p → n ≡ q → s + n ≤ base + 512
moved_short base p w q u s n h k l m = omega arith

back_again : (m n : ℕ) → m ≤ n → n - m + m ≡ n
back_again m n h = omega arith

-- ---- an entry of the block

module _ (image : List ℕ) (base : ℕ) (e : EntryAt) (k : Block image base) (s : Stands image e) (l : Lies image base 1 e) where
  abbrev b : List ℕ
  b = part base 512 image

  split_here : entries b ≡ l.before ++ (bytes_at image e ∷ l.behind)
  split_here = let h : base ≡ base + 512 * l.index = omega (arith, l.within) in ap (λ (p : ℕ). entries (part p 512 image)) h ∙ l.split

  pub start_here : e.start ≡ base + length (flat l.before)
  start_here = omega (arith, l.place, l.within)

  good_here : good_entry (bytes_at image e) ≡ true
  unfolding every
  good_here =
      let all : every good_entry (l.before ++ (bytes_at image e ∷ l.behind)) ≡ true = rw split_here at (block_clean image base k).good in
      let parted = sym (every_append good_entry l.before (bytes_at image e ∷ l.behind)) ∙ all in
      let behind = (and-true (every good_entry l.before) (every good_entry (bytes_at image e ∷ l.behind)) parted).1 in
      (and-true (good_entry (bytes_at image e)) (every good_entry l.behind) behind).0

  pub size_here : length (bytes_at image e) ≡ padded (51 + e.name_length)
  unfolding good_entry entry_size
  size_here =
      eqb-true (length (bytes_at image e)) (entry_size (bytes_at image e)) (and-true _ _ good_here).0
      ∙ ap (λ (n : ℕ). padded (51 + n)) (title_at image e s)

  used_here : read_end b ≡ length (flat l.before) + (length (bytes_at image e) + length (flat l.behind))
  used_here = fills b (block_clean image base k) l.before (bytes_at image e) l.behind split_here

  -- it ends within the block's reading
  pub behind_within : e.start + padded (51 + e.name_length) ≤ base + read_end b
  behind_within = omega (arith, start_here, size_here, used_here)

  -- the block's reading without it
  pub others_here : length (flat (l.before ++ l.behind)) + padded (51 + e.name_length) ≡ read_end b
  others_here =
      let both = ap (length {A = ℕ}) (flat_append l.before l.behind) in
      omega (arith, size_here, used_here, length-append (flat l.before) (flat l.behind))

  -- it begins in the block
  pub starts_within : e.start < base + 512
  unfolding padded
  starts_within = omega (arith, behind_within, end_within image base k)

  -- the later entries moved up, n bytes from place next, and z zeros behind them
  module _ (next n z : ℕ) (at : base + (length (flat l.before) + length (bytes_at image e)) ≡ next) (moved : n ≡ length (flat l.behind))
      (clear : z + (e.start + n) ≡ base + 512) where
    removed_parts : filled (l.before ++ l.behind) ≡ part base (e.start - base) image ++ (part next n image ++ zeros z)
    removed_parts =
        let p = length (flat l.before) in
        let w = length (bytes_at image e) in
        let q = length (flat l.behind) in
        let ew = end_within image base k in
        let us = used_here in
        let sh = start_here in
        let long : read_end b - (p + w) ≡ n = behind_long p w q (read_end b) us ∙ sym moved in
        let rest : 512 - read_end b + w ≡ z = zeros_long w (read_end b) z ew (omega arith) in
        let ahead : e.start - base ≡ p = ahead_long base p e.start sh in
        let first : take p b ≡ part base p image = take-take p 512 (drop base image) (omega arith) in
        let second : part (p + w) (read_end b - (p + w)) b ≡ part next n image
        = ap (λ (j : ℕ). part (p + w) j b) long ∙ part_part image base 512 (p + w) n (omega arith) ∙ ap (λ (j : ℕ). part j n image) at in
        removed_bytes b (block_clean image base k) l.before (bytes_at image e) l.behind split_here ∙ rw (first, second, rest, ahead)

    removed_pastes : paste (paste image e.start (drop next image) n) (e.start + n) (zeros z) z ≡ paste image base (filled (l.before ++ l.behind)) 512
    removed_pastes =
        let sh = start_here in
        let room : next + n ≤ length image = omega (arith, used_here, end_within image base k, k.within) in
        cleared_behind image base e.start n z (drop next image) (omega (arith, sh)) (omega arith) k.within (omega (arith, length-drop next image))
        ∙ ap (λ (t : List ℕ). paste image base t 512) (sym removed_parts)

  pub removed_stores : (next n z : ℕ) → next ≡ e.start + padded (51 + e.name_length) → n ≡ base + read_end b - next → z ≡ base + 512 - (e.start + n)
      → (x y : List ℕ) → x ≡ paste image e.start (drop next image) n → y ≡ paste x (e.start + n) (zeros z) z
      → y ≡ paste image base (filled (l.before ++ l.behind)) 512
  removed_stores next n z hn hm hz x y px py =
      let p = length (flat l.before) in
      let w = length (bytes_at image e) in
      let q = length (flat l.behind) in
      let at : base + (p + w) ≡ next = next_place_lem base p w e.start next start_here (hn ∙ ap (λ (j : ℕ). e.start + j) (sym size_here)) in
      let moved : n ≡ q = hm ∙ moved_long base p w q (read_end b) next used_here at in
      let clear : z + (e.start + n) ≡ base + 512
      = ap (λ (j : ℕ). j + (e.start + n)) hz
      ∙ back_again (e.start + n) (base + 512) (moved_short base p w q (read_end b) e.start n used_here (end_within image base k) start_here moved) in
      py ∙ ap (λ (t : List ℕ). paste t (e.start + n) (zeros z) z) px
      ∙ removed_pastes next n z at moved clear

-- ---- a part stored right behind another

pub paste_next : (m : List ℕ) (s : ℕ) (c d x y : List ℕ) → s + (length c + length d) ≤ length m
    → x ≡ paste m s c (length c) → y ≡ paste x (s + length c) d (length d) → y ≡ paste m s (c ++ d) (length (c ++ d))
paste_next m s c d x y h px py =
    let n : s + length c + length d ≡ s + length (c ++ d) = omega (arith, length-append c d) in
    let back : drop (s + length c + length d) (paste m s c (length c)) ≡ drop (s + length (c ++ d)) m
    = sym (drop-drop (length d) (s + length c) (paste m s c (length c))) ∙ ap (drop (length d)) (drop-paste m s c (length c) (omega arith) (omega arith))
    ∙ drop-drop (length d) (s + length c) m ∙ ap (λ (k : ℕ). drop k m) n in
    py ∙ ap (λ (t : List ℕ). paste t (s + length c) d (length d)) px
    ∙ rw (
      take-paste m s c (length c) (omega arith) (omega arith),
      back,
      take_all (length c) c (omega arith),
      take_all (length d) d (omega arith),
      take_all (length (c ++ d)) (c ++ d) (omega arith),
    ) (simp append_assoc)

-- ---- a part stored within the block at byte base, n bytes from its place p on

module _ (m : List ℕ) (base p n : ℕ) (g : List ℕ) (within : base + 512 ≤ length m) (fits : p + n ≤ 512) (long : length g ≡ n) where
  abbrev stored : List ℕ
  stored = take p (part base 512 m) ++ (g ++ drop (p + n) (part base 512 m))

  block_long : length (part base 512 m) ≡ 512
  block_long = length-take-le 512 (drop base m) (omega (arith, length-drop base m))

  pub inside_full : length stored ≡ 512
  inside_full =
      length-append (take p (part base 512 m)) (g ++ drop (p + n) (part base 512 m))
      ∙ omega (
        arith,
        block_long,
        length-take-le p (part base 512 m) (omega (arith, block_long)),
        length-append g (drop (p + n) (part base 512 m)),
        length-drop (p + n) (part base 512 m),
      )

  stored_back : drop (p + n) (part base 512 m) ++ drop (base + 512) m ≡ drop (base + p + n) m
  stored_back =
      let k : 512 ≡ p + n + (512 - (p + n)) = omega arith in
      let at : base + (p + n) ≡ base + p + n = omega arith in
      let end : base + p + n + (512 - (p + n)) ≡ base + 512 = omega arith in
      let front : drop (p + n) (part base 512 m) ≡ take (512 - (p + n)) (drop (base + p + n) m)
      = ap (λ (j : ℕ). drop (p + n) (take j (drop base m))) k ∙ drop_take_add (p + n) (512 - (p + n)) (drop base m)
      ∙ ap (take (512 - (p + n))) (drop-drop (p + n) base m ∙ ap (λ (j : ℕ). drop j m) at) in
      let behind : drop (base + 512) m ≡ drop (512 - (p + n)) (drop (base + p + n) m)
      = ap (λ (j : ℕ). drop j m) (sym end) ∙ sym (drop-drop (512 - (p + n)) (base + p + n) m) in
      rw (front, behind) (take-append-drop (512 - (p + n)) (drop (base + p + n) m))

  pub paste_inside : paste m base stored 512 ≡ paste m (base + p) g n
  paste_inside =
      let all = take_all 512 stored (omega (arith, inside_full)) in
      let own = take_all n g (omega arith) in
      let first = take-take p 512 (drop base m) (omega arith) in
      rw (all, own, take-add base p m, first) (simp append_assoc (rw stored_back))
