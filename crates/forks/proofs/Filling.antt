-- Laws of the storing of bytes in a chain's blocks, block by block.
use mathlib.Core.Path.{◌≡◌, refl, sym, ap, ap₂, subst, ◌∙◌}
use mathlib.Core.Bool.{true}
use mathlib.Core.List.{List, [], ◌∷◌, ◌++◌, append_assoc}
use mathlib.Core.Logic.{◌⊎◌, inl, inr}
use Prim.Native.Nat.{ℕ, zero, suc, ◌+◌, ◌-◌, ◌*◌, ◌/◌, ◌%◌, ◌≤◌, ◌<◌, min}
use native.Mathlib.Omega.{arith}
use native.Mathlib.Decide.{ℕ_discrete}
use native.Mathlib.Nat.{add_assoc, mul-le-mul_right, div-add-mod', div-lt_iff_lt-mul}
use lib.ListN.{length, get_or, take, drop, length-drop, length-append, take-append-drop}
use lib.Seq.{paste, paste-zero, take_at, drop_at, drop-drop, take-add, take-take, take-append-le, drop-append-le, take-append-add, drop-append-add}
use lib.Seq.{length-take-le, length-paste, take-length, drop-length}
use Rattle.model.specs.Lists.{times}
use Rattle.model.specs.Bytes.{part}
use Rattle.model.specs.Map.{map_entry, runs, chain_blocks}
use Rattle.model.specs.Calls.{bytes_of, put_blocks, put_content}
use Rattle.model.specs.declared.LogicalBlock.{LogicalBlock}
use Rattle.model.proofs.Times.{times_head, times_tail}
use Rattle.laws.proofs.Joins.{other}
use Rattle.model.proofs.Map.{runs_block, runs_rest, block_low, block_high, chain_low, chain_high, chain_once}
use Rattle.laws.proofs.Content.{byte_of, Inside, bytes_same, part_clear, blocks_apart}
use Rattle.laws.proofs.Alike.{entries_frame}
use Rattle.blockmap.specs.Places.{IsPlace}
use Rattle.forks.specs.Content.{Fillable}

-- ---- pastes

-- a block's own bytes pasted again change nothing
paste_own : (l : List ℕ) (q k : ℕ) (c : List ℕ) → q + k ≤ length l → paste l q (part q k l ++ c) k ≡ l
paste_own l q k c h =
    let e : length (part q k l) ≡ k = length-take-le k (drop q l) (omega (arith, length-drop q l)) in
    rw (take_at (part q k l) c k e, ← take-add q k l) (take-append-drop (q + k) l)

-- a write that begins behind the first block
paste_behind : (x y : List ℕ) (o : ℕ) (xs : List ℕ) → paste (x ++ y) (length x + o) xs (length xs) ≡ x ++ paste y o xs (length xs)
paste_behind x y o xs =
    rw (take-append-add x y o, add_assoc (length x) o (length xs), drop-append-add x y (o + length xs)) (simp append_assoc)

-- a write that begins in the first block: its part there, and the rest from the next block's first byte on
swap : (x y z : List ℕ) → (x ≡ []) ⊎ (y ≡ []) → x ++ (y ++ z) ≡ y ++ (x ++ z)
swap x y z (inl e) = rw e
swap x y z (inr e) = rw e

-- what stands behind it
tail : (x y : List ℕ) (o k n : ℕ) → o + k ≤ length x → k ≤ n → (o + k ≡ length x) ⊎ (k ≡ n) → drop (o + n) (x ++ y) ≡ drop (o + k) x ++ drop (n - k) y
tail x y o k n h low (inl e) =
    let i : o + n ≡ length x + (n - k) = omega arith in
    ap (λ j. drop j (x ++ y)) i ∙ drop-append-add x y (n - k) ∙ ap (λ d. d ++ drop (n - k) y) (sym (ap (λ j. drop j x) e ∙ drop-length x))
tail x y o k n h low (inr e) =
    let i : n - k ≡ 0 = omega arith in
    ap (λ j. drop (o + j) (x ++ y)) (sym e) ∙ drop-append-le (o + k) x y h ∙ ap (λ j. drop (o + k) x ++ drop j y) (sym i)

one_empty : (x : List ℕ) (o k : ℕ) (xs : List ℕ) → (o + k ≡ length x) ⊎ (k ≡ length xs) → (drop k xs ≡ []) ⊎ (drop (o + k) x ≡ [])
one_empty x o k xs (inl e) = inr (ap (λ j. drop j x) e ∙ drop-length x)
one_empty x o k xs (inr e) = inl (ap (λ j. drop j xs) e ∙ drop-length xs)

paste_across : (x y : List ℕ) (o k : ℕ) (xs : List ℕ) → o + k ≤ length x → k ≤ length xs → (o + k ≡ length x) ⊎ (k ≡ length xs)
    → paste (x ++ y) o xs (length xs) ≡ paste x o xs k ++ paste y 0 (drop k xs) (length (drop k xs))
paste_across x y o k xs h low c =
    let d : 0 + length (drop k xs) ≡ length xs - k = omega (arith, length-drop k xs) in
    let z = drop (length xs - k) y in
    rw (take-append-le o x y (omega arith), tail x y o k (length xs) h low c, take-length xs, take-length (drop k xs), d)
    (ap (λ u. take o x ++ u ++ (drop (o + k) x ++ z)) (sym (take-append-drop k xs))
    ∙ simp append_assoc (ap (λ u. take o x ++ (take k xs ++ u)) (swap (drop k xs) (drop (o + k) x) z (one_empty x o k xs c))))

module _ (s : LogicalBlock) (a : ℕ) where
  -- a paste of a part with a paste in it
  paste_inner : (l : List ℕ) (q : ℕ) (o k : ℕ) (xs c : List ℕ) → q + a ≤ length l → o + k ≤ a → k ≤ length xs
      → paste l q (paste (part q a l) o xs k ++ c) a ≡ paste l (q + o) xs k
  paste_inner l q o k xs c h fits low =
      let e : length (part q a l) ≡ a = length-take-le a (drop q l) (omega (arith, length-drop q l)) in
      let i : length (paste (part q a l) o xs k) ≡ a = length-paste (part q a l) o xs k (omega arith) low ∙ e in
      let j : q + o + k ≡ q + (o + k) = omega arith in
      rw (take_at (paste (part q a l) o xs k) c a i, take-take o a (drop q l) (omega arith), take-add q o l, j, ← drop-drop (o + k) q l, ← drop-drop a q l)
      (simp append_assoc (ap (λ u. take q l ++ (take o (drop q l) ++ (take k xs ++ u)))
      (sym (drop-append-le (o + k) (part q a l) (drop a (drop q l)) (omega arith)) ∙ ap (drop (o + k)) (take-append-drop a (drop q l)))))

  clear : (x q o k : ℕ) → o + k ≤ a → (x + a ≤ q) ⊎ (q + a ≤ x) → (x + a ≤ q + o) ⊎ (q + o + k ≤ x)
  clear x q o k h (inl e) = inl (omega arith)
  clear x q o k h (inr e) = inr (omega arith)

  length_block : (l : List ℕ) (b : ℕ) → byte_of s a b + a ≤ length l → length (part (byte_of s a b) a l) ≡ a
  length_block l b h = length-take-le a (drop (byte_of s a b) l) (omega (arith, length-drop (byte_of s a b) l))

  -- ---- a write, block by block

  -- a block at which nothing is written is not stored
  put_skip : (l : List ℕ) (b : ℕ) (bs c : List ℕ) → byte_of s a b + a ≤ length l
      → put_blocks s a l (b ∷ bs) (part (byte_of s a b) a l ++ c) ≡ put_blocks s a l bs c
  unfolding put_blocks
  put_skip l b bs c h =
      ap₂ (λ m x. put_blocks s a m bs x) (paste_own l (byte_of s a b) a c h) (drop_at (part (byte_of s a b) a l) c a (length_block l b h))

  pub content_skip : (l : List ℕ) (b : ℕ) (bs : List ℕ) (o : ℕ) (xs : List ℕ) → byte_of s a b + a ≤ length l
      → put_content s a l (b ∷ bs) (a + o) xs ≡ put_content s a l bs o xs
  unfolding put_content bytes_of
  content_skip l b bs o xs h =
      ap (put_blocks s a l (b ∷ bs))
      (ap (λ i. paste (part (byte_of s a b) a l ++ bytes_of s a l bs) (i + o) xs (length xs)) (sym (length_block l b h))
      ∙ paste_behind (part (byte_of s a b) a l) (bytes_of s a l bs) o xs)
      ∙ put_skip l b bs (paste (bytes_of s a l bs) o xs (length xs)) h

  -- the first k bytes go to the first block: all of them, or up to the block's end
  pub content_here : (l : List ℕ) (b : ℕ) (bs : List ℕ) (o k : ℕ) (xs : List ℕ) → Inside s a l (b ∷ bs) → times b bs ≡ 0 → k ≤ length xs → o + k ≤ a
      → (o + k ≡ a) ⊎ (k ≡ length xs)
      → put_content s a l (b ∷ bs) o xs ≡ put_content s a (paste l (byte_of s a b + o) xs k) bs 0 (drop k xs)
  unfolding put_content bytes_of put_blocks
  content_here l b bs o k xs w z low fits c =
      let i = w b (omega (arith, times_head b bs)) in
      let q = byte_of s a b in
      let e = length_block l b i.1 in
      let x = part q a l in
      let m = paste l (q + o) xs k in
      let r = paste (bytes_of s a l bs) 0 (drop k xs) (length (drop k xs)) in
      let c' = subst (λ j. (o + k ≡ j) ⊎ (k ≡ length xs)) (sym e) c in
      ap (λ u. put_blocks s a (paste l q u a) bs (drop a u)) (paste_across x (bytes_of s a l bs) o k xs (omega arith) low c')
      ∙ ap₂ (λ u v. put_blocks s a u bs v) (paste_inner l q o k xs r i.1 fits low) (drop_at (paste x o xs k) r a (length-paste x o xs k (omega arith) low
      ∙ e))
      ∙ ap (λ u. put_blocks s a m bs (paste u 0 (drop k xs) (length (drop k xs))))
      (sym (bytes_same s a m l bs (λ y p. part_clear l (q + o) xs k (omega arith) low (byte_of s a y) a
      (clear (byte_of s a y) q o k fits (blocks_apart s a y b (w y (omega (arith, times_tail y b bs))).0 i.0
      (other y b bs (omega (arith, times_head b bs)) p))))))

  -- a write of nothing
  put_nothing : (l bs : List ℕ) → Inside s a l bs → put_blocks s a l bs (bytes_of s a l bs) ≡ l
  unfolding bytes_of put_blocks
  put_nothing l [] w = refl
  put_nothing l (b ∷ bs) w =
      put_skip l b bs (bytes_of s a l bs) (w b (omega (arith, times_head b bs))).1 ∙ put_nothing l bs (λ x p. w x (omega (arith, times_tail x b bs)))

  pub content_none : (l bs : List ℕ) (o : ℕ) → Inside s a l bs → put_content s a l bs o [] ≡ l
  unfolding put_content
  content_none l bs o w = ap (put_blocks s a l bs) (sym (paste-zero (bytes_of s a l bs) o [])) ∙ put_nothing l bs w

-- ---- a chain

-- the blocks of a chain lie in an image that is as long
chain_inside : (e : ℕ → ℕ) (s : LogicalBlock) (a n k t : ℕ) (l : List ℕ) → runs e n k t ≡ true → 512 * s.0 + n * a ≤ length l
    → Inside s a l (chain_blocks e k t)
chain_inside e s a n k t l h room b p =
    let low = chain_low e n k t b h p in
    (low, omega (arith, mul-le-mul_right {m = suc (b - 2)} {n = n} a (omega (arith, chain_high e n k t b h p))))

-- xs are due from place `within` of block b on, in an image with the map of `first`; stored there, they leave `result`
pub record Due (first : List ℕ) (s : LogicalBlock) (a : ℕ) (image : List ℕ) (b within : ℕ) (xs result : List ℕ) : Type 0 where
  pub n : ℕ
  pub small : n ≤ 640
  pub low : 2048 ≤ 512 * s.0
  pub room : 512 * s.0 + n * a ≤ length image
  pub rest : ℕ
  pub chain : runs (map_entry first) n (suc rest) b ≡ true
  pub fits : within + length xs ≤ suc rest * a
  pub map : part 1088 960 image ≡ part 1088 960 first
  pub leaves : put_content s a image (chain_blocks (map_entry first) (suc rest) b) within xs ≡ result

-- xs are due from the block behind b on, in an image with the map of `first`; stored there, they leave `result`
pub record Behind (first : List ℕ) (s : LogicalBlock) (a : ℕ) (image : List ℕ) (b : ℕ) (xs result : List ℕ) : Type 0 where
  pub n : ℕ
  pub small : n ≤ 640
  pub low : 2048 ≤ 512 * s.0
  pub room : 512 * s.0 + n * a ≤ length image
  pub block : (2 ≤ b) × (b ≤ 641)
  pub rest : ℕ
  pub chain : runs (map_entry first) n rest (map_entry first b) ≡ true
  pub fits : length xs ≤ rest * a
  pub map : part 1088 960 image ≡ part 1088 960 first
  pub leaves : put_content s a image (chain_blocks (map_entry first) rest (map_entry first b)) 0 xs ≡ result

-- bytes are due at each place of a chain
pub due_at : (image : List ℕ) (s : LogicalBlock) (a n : ℕ) → n ≤ 640 → 2048 ≤ 512 * s.0 → 512 * s.0 + n * a ≤ length image
    → (k t place within : ℕ) (xs : List ℕ) → runs (map_entry image) n k t ≡ true → place < k → place * a + within + length xs ≤ k * a
    → Due image s a image (get_or (chain_blocks (map_entry image) k t) place 0) within xs
    (put_content s a image (chain_blocks (map_entry image) k t) (place * a + within) xs)
unfolding chain_blocks
due_at image s a n small low room zero t place within xs h l f = absurd (omega arith)
due_at image s a n small low room (suc k) t zero within xs h l f =
    let i : within ≡ 0 * a + within = omega arith in
    record {
      n = n;
      small = small;
      low = low;
      room = room;
      rest = k;
      chain = h;
      fits = omega arith;
      map = refl;
      leaves = ap (λ j. put_content s a image (chain_blocks (map_entry image) (suc k) t) j xs) i;
    }
due_at image s a n small low room (suc k) t (suc place) within xs h l f =
    let e = map_entry image in
    let r = due_at image s a n small low room k (e t) place within xs (runs_rest e n k t h) (omega arith) (omega arith) in
    let i : a + (place * a + within) ≡ suc place * a + within = omega arith in
    let w = chain_inside e s a n (suc k) t image h room t (omega (arith, times_head t (chain_blocks e k (e t)))) in
    record {
      n = r.n;
      small = r.small;
      low = r.low;
      room = r.room;
      rest = r.rest;
      chain = r.chain;
      fits = r.fits;
      map = r.map;
      leaves =
          r.leaves ∙ sym (content_skip s a image t (chain_blocks e k (e t)) (place * a + within) xs w.1)
          ∙ ap (λ j. put_content s a image (t ∷ chain_blocks e k (e t)) j xs) i;
    }

module _ (first : List ℕ) (s : LogicalBlock) (a : ℕ) (image : List ℕ) (b within : ℕ) (xs result : List ℕ) (h : Due first s a image b within xs result) where
  pub due_block : (2 ≤ b) × (b ≤ 641)
  due_block =
      let r = runs_block (map_entry first) h.n h.rest b h.chain in
      (block_low h.n b r, omega (arith, block_high h.n b r, h.small))

  due_inside : Inside s a image (chain_blocks (map_entry first) (suc h.rest) b)
  due_inside = chain_inside (map_entry first) s a h.n (suc h.rest) b image h.chain h.room

  pub due_lies : byte_of s a b + a ≤ length image
  unfolding chain_blocks
  due_lies = (due_inside b (omega (arith, times_head b (chain_blocks (map_entry first) h.rest (map_entry first b))))).1

  -- the store does not touch the map
  pub due_map : (j : ℕ) → j ≤ length xs → within + j ≤ a → part 1088 960 (paste image (byte_of s a b + within) xs j) ≡ part 1088 960 first
  due_map j some inner =
      part_clear image (byte_of s a b + within) xs j (omega (arith, due_lies)) some 1088 960 (inl (omega (arith, h.low))) ∙ h.map

  -- the bytes of this block, and those from the next on
  due_here : (j : ℕ) → j ≤ length xs → within + j ≤ a → (within + j ≡ a) ⊎ (j ≡ length xs)
      → put_content s a (paste image (byte_of s a b + within) xs j) (chain_blocks (map_entry first) h.rest (map_entry first b)) 0 (drop j xs) ≡ result
  unfolding chain_blocks
  due_here j some inner c =
      let bs = chain_blocks (map_entry first) h.rest (map_entry first b) in
      let once : times b bs ≡ 0 = omega (arith, chain_once (map_entry first) h.n (suc h.rest) b b h.chain, times_head b bs) in
      sym (content_here s a image b bs within j xs due_inside once some inner c) ∙ h.leaves

  long : (j : ℕ) → j ≤ length xs → within + j ≤ a → length (paste image (byte_of s a b + within) xs j) ≡ length image
  long j some inner = length-paste image (byte_of s a b + within) xs j (omega (arith, due_lies)) some

  -- the bytes of this block are stored: all of them, or up to the block's end
  pub due_behind : (j : ℕ) → j ≤ length xs → within + j ≤ a → (within + j ≡ a) ⊎ (j ≡ length xs)
      → Behind first s a (paste image (byte_of s a b + within) xs j) b (drop j xs) result
  due_behind j some inner c = record {
    n = h.n;
    small = h.small;
    low = h.low;
    room = omega (arith, h.room, long j some inner);
    block = due_block;
    rest = h.rest;
    chain = runs_rest (map_entry first) h.n h.rest b h.chain;
    fits = left c;
    map = due_map j some inner;
    leaves = due_here j some inner c;
  }
    where
      left : (within + j ≡ a) ⊎ (j ≡ length xs) → length (drop j xs) ≤ h.rest * a
      left (inl e) = omega (arith, length-drop j xs, h.fits)
      left (inr e) = omega (arith, length-drop j xs)

  -- so it is for the first of them, and those behind these, as the image after the store has it
  pub due_part : (q : ℕ) (head back after : List ℕ) → xs ≡ head ++ back → within + length head ≤ a → (within + length head ≡ a) ⊎ (length back ≡ 0)
      → q ≡ byte_of s a b + within → after ≡ paste image q (drop 0 head) (length head) → Behind first s a after b back result
  due_part q head back after e inner c p t =
      let j = length head in
      let at = byte_of s a b + within in
      let total : length xs ≡ j + length back = ap length e ∙ length-append head back in
      let some : j ≤ length xs = omega arith in
      let rest : drop j xs ≡ back = ap (drop j) e ∙ drop_at head back j refl in
      let front : take j (drop 0 head) ≡ take j xs = take-length head ∙ sym (ap (take j) e ∙ take_at head back j refl) in
      let same : after ≡ paste image at xs j = t ∙ ap (λ i. paste image i (drop 0 head) j) p ∙ ap (λ u. take at image ++ u ++ drop (at + j) image) front in
      subst (λ x. Behind first s a x b back result) (sym same)
      (subst (λ x. Behind first s a (paste image at xs j) b x result) rest (due_behind j some inner (ends c total)))
    where
      ends : (within + length head ≡ a) ⊎ (length back ≡ 0) → length xs ≡ length head + length back → (within + length head ≡ a) ⊎ (length head ≡ length xs)
      ends (inl e) t = inl e
      ends (inr e) t = inr (omega arith)

module _ (first : List ℕ) (s : LogicalBlock) (a : ℕ) (image : List ℕ) (b : ℕ) (xs result : List ℕ) (h : Behind first s a image b xs result) where
  -- more is due, from the next block's first byte on
  pub behind_due : (next : ℕ) → next ≡ map_entry image b → 1 ≤ length xs → Due first s a image next 0 xs result
  behind_due next q some =
      let at : next ≡ map_entry first b = q ∙ entries_frame image first b h.block.1 h.map in
      rw at (go h.rest h.chain h.fits h.leaves)
    where
      go : (k : ℕ) → runs (map_entry first) h.n k (map_entry first b) ≡ true → length xs ≤ k * a
          → put_content s a image (chain_blocks (map_entry first) k (map_entry first b)) 0 xs ≡ result
          → Due first s a image (map_entry first b) 0 xs result
      go zero r f e = absurd (omega arith)
      go (suc k) r f e = record {
        n = h.n;
        small = h.small;
        low = h.low;
        room = h.room;
        rest = k;
        chain = r;
        fits = omega arith;
        map = h.map;
        leaves = e;
      }

  -- nothing is due
  pub behind_none : length xs ≡ 0 → image ≡ result
  behind_none z = go xs z h.leaves
    where
      go : (xs : List ℕ) → length xs ≡ 0 → put_content s a image (chain_blocks (map_entry first) h.rest (map_entry first b)) 0 xs ≡ result → image ≡ result
      go [] z e =
          let w = chain_inside (map_entry first) s a h.n h.rest (map_entry first b) image h.chain h.room in
          sym (content_none s a image (chain_blocks (map_entry first) h.rest (map_entry first b)) 0 w) ∙ e
      go (x ∷ xs) z e = absurd (omega arith)

-- a part of h bytes, before b others, that ends with the block or with the bytes
pub part_ends : (h b w a : ℕ) → w ≤ a → h ≡ min (h + b) (a - w) → (w + h ≡ a) ⊎ (b ≡ 0)
part_ends h b w a low e = elim (ℕ_discrete b 0) [ yes z ↦ inr z | no n ↦ inl (omega arith) ]

-- ---- the chain that is filled

module _ (image : List ℕ) (s : LogicalBlock) (a t k : ℕ) (h : Fillable image s a t k) (offset : ℕ) (xs : List ℕ) (fits : offset + length xs ≤ k * a) where
  -- nothing is due
  pub fill_none : length xs ≡ 0 → image ≡ put_content s a image (chain_blocks (map_entry image) k t) offset xs
  unfolding chain_blocks times
  fill_none e = go k h.chain xs e
    where
      go : (k : ℕ) → (1 ≤ k → runs (map_entry image) h.n k t ≡ true) → (xs : List ℕ) → length xs ≡ 0
          → image ≡ put_content s a image (chain_blocks (map_entry image) k t) offset xs
      go k c (x ∷ xs) e = absurd (omega arith)
      go zero c [] e = sym (content_none s a image [] offset (λ b p. absurd (omega arith)))
      go (suc k) c [] e =
          sym (content_none s a image (chain_blocks (map_entry image) (suc k) t) offset
          (chain_inside (map_entry image) s a h.n (suc k) t image (c (omega arith)) h.area.room))

  module _ (some : 1 ≤ length xs) where
    fill_chain : runs (map_entry image) h.n k t ≡ true
    fill_chain = h.chain (positive k fits)
      where
        positive : (k : ℕ) → offset + length xs ≤ k * a → 1 ≤ k
        positive zero f = absurd (omega arith)
        positive (suc k) f = omega arith

    below : offset / a < k
    below = (div-lt_iff_lt-mul {k = a} {x = offset} {y = k} (omega (arith, h.area.block))).1 (omega arith)

    pub fill_due : (b : ℕ) → IsPlace (map_entry image) t (offset / a) b
        → Due image s a image b (offset % a) xs (put_content s a image (chain_blocks (map_entry image) k t) offset xs)
    fill_due b p =
        subst (λ i. Due image s a image b (offset % a) xs (put_content s a image (chain_blocks (map_entry image) k t) i xs))
        (div-add-mod' offset a)
        (rw (p.stands k below) (due_at image s a h.n h.area.small h.area.low h.area.room k t (offset / a) (offset % a) xs fill_chain below
        (omega (arith, div-add-mod' offset a))))
