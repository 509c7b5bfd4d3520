-- Laws of the bytes of blocks: what a write stores is read back, and nothing else changes.
use mathlib.Core.Path.{◌≡◌, refl, sym, ap, ap₂, subst, ◌∙◌}
use mathlib.Core.List.{List, [], ◌∷◌, ◌++◌, append_assoc}
use mathlib.Core.Logic.{◌≢◌, ◌⊎◌, inl, inr}
use Prim.Native.Nat.{ℕ, zero, suc, ◌+◌, ◌-◌, ◌*◌, ◌/◌, ◌≤◌, ◌<◌, max}
use native.Mathlib.Omega.{arith}
use native.Mathlib.Decide.{dec_lt}
use native.Mathlib.Nat.{zero-mul, sub-zero, zero-sub, suc-sub-suc, mul-le-mul_right, div-add-mod', mod-lt, div-lt_iff_lt-mul, le_of_suc-le-suc}
use lib.ListN.{length, get_or, take, drop, length-append, length-take, length-drop}
use lib.Seq.{paste, take-nil, take_at, drop_at, drop-drop, take-add, take-length, length_paste_head, take-take}
use lib.Seq.{take-append-le, take-append-add, take-append_seam, drop-append-le, length-take-le, length-paste, drop-paste, take_all, get_or-take, get_or-drop}
use Rattle.model.specs.Lists.{times}
use Rattle.model.specs.Bytes.{byte, part, half}
use Rattle.model.specs.Facts.{block_byte}
use Rattle.model.specs.Calls.{bytes_of, put_blocks, put_content, fewest}
use Rattle.model.specs.Bytes.{overwritten}
use Rattle.model.specs.declared.LogicalBlock.{LogicalBlock}
use Rattle.model.proofs.Times.{times_head, times_tail}
use Rattle.laws.proofs.Entries.{Clear}
use Rattle.laws.proofs.Stores.{half_same}
use Rattle.laws.proofs.Joins.{other}

-- ---- parts

pub drop_take : (m n : ℕ) (l : List ℕ) → drop m (take n l) ≡ take (n - m) (drop m l)
drop_take zero n l = rw sub-zero
drop_take (suc m) zero l = rw zero-sub
drop_take (suc m) (suc n) [] = sym (take-nil (suc n - suc m))
drop_take (suc m) (suc n) (x ∷ l) = rw suc-sub-suc (drop_take m n l)

-- lists that agree from m on, or up to m, agree on what lies there
pub same_drop : (m p : ℕ) (x y : List ℕ) → m ≤ p → drop m x ≡ drop m y → drop p x ≡ drop p y
same_drop m p x y h e =
    let k : m + (p - m) ≡ p = omega arith in
    ap (λ i. drop i x) (sym k) ∙ sym (drop-drop (p - m) m x) ∙ ap (drop (p - m)) e ∙ drop-drop (p - m) m y ∙ ap (λ i. drop i y) k

pub part_take : (m q j : ℕ) (x : List ℕ) → q + j ≤ m → part q j (take m x) ≡ part q j x
part_take m q j x h = ap (take j) (drop_take q m x) ∙ take-take j (m - q) (drop q x) (omega arith)

pub same_part : (m q j : ℕ) (x y : List ℕ) → q + j ≤ m → take m x ≡ take m y → part q j x ≡ part q j y
same_part m q j x y h e = sym (part_take m q j x h) ∙ ap (part q j) e ∙ part_take m q j y h

-- parts that are equal have the same bytes
pub same_byte_lem : (q k j : ℕ) (x y : List ℕ) → part q k x ≡ part q k y → q ≤ j → j < q + k → byte x j ≡ byte y j
same_byte_lem q k j x y e low high =
    let at : q + (j - q) ≡ j = omega arith in
    subst (λ i. byte x i ≡ byte y i) at (inner (j - q) (omega arith))
  where
    inner : (i : ℕ) → i < k → byte x (q + i) ≡ byte y (q + i)
    inner i h =
        sym (get_or-drop q x i 0) ∙ sym (get_or-take k (drop q x) i 0 h) ∙ ap (λ l. get_or l i 0) e ∙ get_or-take k (drop q y) i 0 h ∙ get_or-drop q y i 0

-- ---- a part after a paste

module _ (l : List ℕ) (q : ℕ) (c : List ℕ) (k : ℕ) (fits : q + k ≤ length l) (enough : k ≤ length c) where
  front : length (take q l) ≡ q
  front = length-take-le q l (omega arith)

  pub part_same : part q k (paste l q c k) ≡ take k c
  part_same =
      rw (
        append_assoc,
        drop_at (take q l) (take k c ++ drop (q + k) l) q front,
        take_at (take k c) (drop (q + k) l) k (length-take-le k c enough),
      )

  take_before : (p : ℕ) → p ≤ q → take p (paste l q c k) ≡ take p l
  take_before p h = same_part q 0 p (paste l q c k) l (omega arith) (rw (append_assoc, take_at (take q l) (take k c ++ drop (q + k) l) q front))

  part_before : (p j : ℕ) → p + j ≤ q → part p j (paste l q c k) ≡ part p j l
  part_before p j h = same_part q p j (paste l q c k) l h (take_before q (omega arith))

  pub drop_behind : (p : ℕ) → q + k ≤ p → drop p (paste l q c k) ≡ drop p l
  drop_behind p h = same_drop (q + k) p (paste l q c k) l h (drop-paste l q c k (omega arith) enough)

  pub part_clear : (p j : ℕ) → (p + j ≤ q) ⊎ (q + k ≤ p) → part p j (paste l q c k) ≡ part p j l
  part_clear p j (inl h) = part_before p j h
  part_clear p j (inr h) = ap (take j) (drop_behind p h)

-- a half-byte clear of a part lies in a byte clear of it
clear_byte : (q k h : ℕ) → Clear (2 * q) (2 * q + 2 * k) h → (h / 2 + 1 ≤ q) ⊎ (q + k ≤ h / 2)
clear_byte q k h (inl x) = inl (omega arith)
clear_byte q k h (inr x) = inr (omega arith)

same_half : (x y : List ℕ) (h : ℕ) → part (h / 2) 1 x ≡ part (h / 2) 1 y → half x h ≡ half y h
same_half x y h e = half_same x y h (same_byte_lem (h / 2) 1 (h / 2) x y e (omega arith) (omega arith))

-- ---- the bytes of blocks

-- the first byte of block b, where b is a plain number, as in a list of blocks
abbrev pub byte_of : LogicalBlock → ℕ → ℕ → ℕ
byte_of s a b = block_byte s a (record { 0 = b })

module _ (s : LogicalBlock) (a : ℕ) where
  -- the blocks lie in the image
  abbrev pub Inside : List ℕ → List ℕ → Type 0
  Inside l bs = (b : ℕ) → 1 ≤ times b bs → (2 ≤ b) × (byte_of s a b + a ≤ length l)

  inside_tail : (l : List ℕ) (b : ℕ) (bs : List ℕ) → Inside l (b ∷ bs) → Inside l bs
  inside_tail l b bs w x p = w x (omega (arith, times_tail x b bs))

  inside_head : (l : List ℕ) (b : ℕ) (bs : List ℕ) → Inside l (b ∷ bs) → (2 ≤ b) × (byte_of s a b + a ≤ length l)
  inside_head l b bs w = w b (omega (arith, times_head b bs))

  -- two blocks don't overlap
  lower : (x y : ℕ) → 2 ≤ x → x < y → byte_of s a x + a ≤ byte_of s a y
  lower x y h k = omega (arith, mul-le-mul_right {m = suc (x - 2)} {n = y - 2} a (omega arith))

  -- the rest is long enough for the other blocks
  enough_rest : (k : ℕ) (c : List ℕ) → suc k * a ≤ length c → (a ≤ length c) × (k * a ≤ length (drop a c))
  enough_rest k c h = rw length-drop (omega arith, omega arith)

  inside_kept : (l m bs : List ℕ) → length m ≡ length l → Inside l bs → Inside m bs
  inside_kept l m bs e w x p = ((w x p).0, omega (arith, (w x p).1))

  -- one block more: what holds of the paste and of the rest
  pasted : (l : List ℕ) (b : ℕ) (bs c : List ℕ) → Inside l (b ∷ bs) → suc (length bs) * a ≤ length c → length (paste l (byte_of s a b) c a) ≡ length l
  pasted l b bs c w h = length-paste l (byte_of s a b) c a (inside_head l b bs w).1 (enough_rest (length bs) c h).0

  rest_inside : (l : List ℕ) (b : ℕ) (bs c : List ℕ) → Inside l (b ∷ bs) → suc (length bs) * a ≤ length c → Inside (paste l (byte_of s a b) c a) bs
  rest_inside l b bs c w h = inside_kept l (paste l (byte_of s a b) c a) bs (pasted l b bs c w h) (inside_tail l b bs w)

  pub length_put : (l bs c : List ℕ) → Inside l bs → length bs * a ≤ length c → length (put_blocks s a l bs c) ≡ length l
  unfolding put_blocks
  length_put l [] c w h = refl
  length_put l (b ∷ bs) c w h =
      length_put (paste l (byte_of s a b) c a) bs (drop a c) (rest_inside l b bs c w h) (enough_rest (length bs) c h).1 ∙ pasted l b bs c w h

  -- what lies clear of the blocks stays
  pub put_clear : (q j : ℕ) (l bs c : List ℕ) → Inside l bs → length bs * a ≤ length c
      → ((b : ℕ) → 1 ≤ times b bs → (q + j ≤ byte_of s a b) ⊎ (byte_of s a b + a ≤ q))
      → part q j (put_blocks s a l bs c) ≡ part q j l
  unfolding put_blocks
  put_clear q j l [] c w h k = refl
  put_clear q j l (b ∷ bs) c w h k =
      let r = enough_rest (length bs) c h in
      put_clear q j (paste l (byte_of s a b) c a) bs (drop a c) (rest_inside l b bs c w h) r.1 (λ y p. k y (omega (arith, times_tail y b bs)))
      ∙ part_clear l (byte_of s a b) c a (inside_head l b bs w).1 r.0 q j (k b (omega (arith, times_head b bs)))

  -- no half-byte changes but those of the blocks
  pub put_half : (l bs c : List ℕ) (h : ℕ) → Inside l bs → length bs * a ≤ length c
      → ((b : ℕ) → 1 ≤ times b bs → Clear (2 * byte_of s a b) (2 * byte_of s a b + 2 * a) h) → half (put_blocks s a l bs c) h ≡ half l h
  put_half l bs c h w e k =
      same_half (put_blocks s a l bs c) l h (put_clear (h / 2) 1 l bs c w e (λ b p. clear_byte (byte_of s a b) a h (k b p)))

  pub blocks_apart : (x y : ℕ) → 2 ≤ x → 2 ≤ y → x ≢ y → (byte_of s a x + a ≤ byte_of s a y) ⊎ (byte_of s a y + a ≤ byte_of s a x)
  blocks_apart x y h k ne = elim (dec_lt x y) [ yes z ↦ inl (lower x y h z) | no z ↦ inr (lower y x k (omega arith)) ]

  -- the bytes of the blocks are those of each
  pub bytes_same : (l m bs : List ℕ) → ((b : ℕ) → 1 ≤ times b bs → part (byte_of s a b) a l ≡ part (byte_of s a b) a m)
      → bytes_of s a l bs ≡ bytes_of s a m bs
  unfolding bytes_of
  bytes_same l m [] h = refl
  bytes_same l m (b ∷ bs) h = ap₂ (λ x y. x ++ y) (h b (omega (arith, times_head b bs))) (bytes_same l m bs (λ x p. h x (omega (arith, times_tail x b bs))))

  -- the bytes of other blocks stay
  pub put_others : (l bs c os : List ℕ) → Inside l bs → length bs * a ≤ length c
      → ((b : ℕ) → 1 ≤ times b os → (2 ≤ b) × (times b bs ≡ 0)) → bytes_of s a (put_blocks s a l bs c) os ≡ bytes_of s a l os
  put_others l bs c os w h k =
      bytes_same (put_blocks s a l bs c) l os λ b p. put_clear (byte_of s a b) a l bs c w h
      λ x q. blocks_apart b x (k b p).0 (w x q).0 (λ e. omega (arith, (k b p).1, ap (λ y. times y bs) e))

  -- the blocks' own bytes are those that were put
  pub put_own : (l bs c : List ℕ) → Inside l bs → ((b : ℕ) → times b bs ≤ 1) → length bs * a ≤ length c
      → bytes_of s a (put_blocks s a l bs c) bs ≡ take (length bs * a) c
  unfolding bytes_of put_blocks
  put_own l [] c w d h = rw zero-mul
  put_own l (b ∷ bs) c w d h =
      let r = enough_rest (length bs) c h in
      let i = inside_head l b bs w in
      let x = rest_inside l b bs c w h in
      let e : suc (length bs) * a ≡ a + length bs * a = omega arith in
      ap₂ (λ y z. y ++ z)
      (put_clear (byte_of s a b) a (paste l (byte_of s a b) c a) bs (drop a c) x r.1
      (λ y p. blocks_apart b y i.0 (x y p).0 (λ q. other y b bs (d b) p (sym q)))
      ∙ part_same l (byte_of s a b) c a i.1 r.0)
      (put_own (paste l (byte_of s a b) c a) bs (drop a c) x (λ y. omega (arith, d y, times_tail y b bs)) r.1)
      ∙ sym (take-add a (length bs * a) c) ∙ ap (λ k. take k c) (sym e)

  pub length_bytes : (l bs : List ℕ) → Inside l bs → length (bytes_of s a l bs) ≡ length bs * a
  unfolding bytes_of
  length_bytes l [] w = sym (zero-mul a)
  length_bytes l (b ∷ bs) w =
      let i = inside_head l b bs w in
      omega (
        arith,
        length-append (part (byte_of s a b) a l) (bytes_of s a l bs),
        length_bytes l bs (inside_tail l b bs w),
        length-take-le a (drop (byte_of s a b) l) (omega (arith, length-drop (byte_of s a b) l)),
      )

  pub bytes_append : (l bs cs : List ℕ) → bytes_of s a l (bs ++ cs) ≡ bytes_of s a l bs ++ bytes_of s a l cs
  unfolding bytes_of
  bytes_append l [] cs = refl
  bytes_append l (b ∷ bs) cs = rw (bytes_append l bs cs, append_assoc)

  -- what a write stores
  pub content_own : (l bs : List ℕ) (o : ℕ) (xs : List ℕ) → Inside l bs → ((b : ℕ) → times b bs ≤ 1) → o + length xs ≤ length bs * a
      → bytes_of s a (put_content s a l bs o xs) bs ≡ paste (bytes_of s a l bs) o xs (length xs)
  unfolding put_content
  content_own l bs o xs w d h =
      let e = length_bytes l bs w in
      let k = length-paste (bytes_of s a l bs) o xs (length xs) (omega arith) (omega arith) in
      put_own l bs (paste (bytes_of s a l bs) o xs (length xs)) w d (omega arith) ∙ take_all (length bs * a) _ (omega arith)

-- ---- a fork's bytes

-- the first bytes of what was put at o, up to the new logical length
pub overwritten_taken : (c : List ℕ) (o m : ℕ) (xs : List ℕ) → o ≤ m → m ≤ length c
    → take (max m (o + length xs)) (paste c o xs (length xs)) ≡ overwritten (take m c) o xs
unfolding overwritten
overwritten_taken c o m xs h k =
    let n = length xs in
    let e : max m (o + n) ≡ length (take o c ++ take n xs) + (m - (o + n)) = omega (arith, length_paste_head c o xs n (omega arith) (omega arith)) in
    ap (λ i. take i (paste c o xs n)) e ∙ take-append-add (take o c ++ take n xs) (drop (o + n) c) (m - (o + n))
    ∙ rw (take-take o m c h, drop_take (o + n) m c, take-length xs, append_assoc)

-- how long a fork's bytes are after a write
pub length_overwritten : (old : List ℕ) (o : ℕ) (xs : List ℕ) → o ≤ length old → length (overwritten old o xs) ≡ max (length old) (o + length xs)
unfolding overwritten
length_overwritten old o xs h =
    simp (length-append, length-append, length-take, length-drop) (omega arith)

-- bytes put behind those that a fork has from o on
pub more_bytes : (old : List ℕ) (o : ℕ) (sofar xs : List ℕ) → o + length sofar ≤ length old → part o (length sofar) old ≡ sofar
    → part o (length (sofar ++ xs)) (overwritten old (o + length sofar) xs) ≡ sofar ++ xs
unfolding overwritten
more_bytes old o sofar xs l e =
    let q = o + length sofar in
    let rest = drop (q + length xs) old in
    let front : length (take q old) ≡ q = length-take-le q old l in
    let k : q - o ≡ length sofar = omega arith in
    let behind : drop o (take q old ++ (xs ++ rest)) ≡ (sofar ++ xs) ++ rest =
    drop-append-le o (take q old) (xs ++ rest) (omega arith)
    ∙ ap (λ (z : List ℕ). z ++ (xs ++ rest)) (drop_take o q old ∙ ap (λ (i : ℕ). take i (drop o old)) k ∙ e)
    ∙ sym (append_assoc sofar xs rest) in
    ap (take (length (sofar ++ xs))) behind ∙ take-append_seam (sofar ++ xs) rest

-- the end of the bytes so far, after a piece more
pub length_on : (o q : ℕ) (sofar xs : List ℕ) → o + length sofar ≡ q → o + length (sofar ++ xs) ≡ q + length xs
length_on o q sofar xs p = omega (arith, length-append sofar xs, p)

-- the bytes of blocks lie behind 512·S
pub bytes_drop : (s : LogicalBlock) (a q : ℕ) (l m bs : List ℕ) → q ≤ 512 * s.0 → drop q l ≡ drop q m → bytes_of s a l bs ≡ bytes_of s a m bs
bytes_drop s a q l m bs h e = bytes_same s a l m bs λ b p. ap (take a) (same_drop q (byte_of s a b) l m (omega arith) e)

-- cut: the first n bytes of the fork are those of the blocks that are kept
pub bytes_cut : (s : LogicalBlock) (a : ℕ) (l bs r : List ℕ) (n m : ℕ) → n ≤ m → n ≤ length (bytes_of s a l bs)
    → take n (bytes_of s a l bs) ≡ take n (take m (bytes_of s a l (bs ++ r)))
bytes_cut s a l bs r n m h k =
    sym (rw (take-take n m (bytes_of s a l (bs ++ r)) h, bytes_append s a l bs r, take-append-le n (bytes_of s a l bs) (bytes_of s a l r) k))

-- ---- the fewest blocks

pub fewest_holds : (n a : ℕ) → 0 < a → n ≤ fewest n a * a
unfolding fewest
fewest_holds n a h = omega (arith, div-add-mod' (n + (a - 1)) a, mod-lt (n + (a - 1)) h)

pub fewest_least : (n a k : ℕ) → 0 < a → n ≤ k * a → fewest n a ≤ k
unfolding fewest
fewest_least n a k h q = le_of_suc-le-suc ((div-lt_iff_lt-mul {k = a} {x = n + (a - 1)} {y = suc k} h).1 (omega arith))
