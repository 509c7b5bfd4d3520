-- Laws of runs of stores and of copies: which bytes and half-bytes stay, runs before and over others, and numbers stored and read back.
use Prim.Native.Nat.{ℕ, zero, suc, ◌+◌, ◌-◌, ◌*◌, ◌/◌, ◌%◌, ◌≤◌, ◌<◌}
use mathlib.Core.Path.{◌≡◌, refl, sym, ap, ◌∙◌}
use mathlib.Core.List.{List, [], ◌∷◌, ◌++◌, append_assoc}
use native.Mathlib.Omega.{arith}
use native.Mathlib.Nat.{add-suc, suc-add, add-zero, zero-add, add_assoc}
use lib.ListN.{length, set, take, drop, length-set, length-take, length-drop, get_or-append}
use lib.Seq.{sets, paste, set-set, set_comm, get_or-set_same, get_or-set_other, drop-set-lt, take-set-le, get_or-append-add, drop-append-add, take-nil}
use lib.Seq.{length-take-le, get_or-take, get_or-drop, drop-paste, take-append-le, take-take, ext_get_or}
use Rattle.model.specs.Bytes.{byte, be16, be32, bytes16, bytes32, part, half}

-- ---- a run of stores

pub sets_before : (vs l : List ℕ) (i j : ℕ) → j < i → byte (sets l i vs) j ≡ byte l j
sets_before [] l i j h = refl
sets_before (v ∷ vs) l i j h = sets_before vs (set l i v) (suc i) j (omega arith) ∙ get_or-set_other l i j v 0 (λ e. omega arith)

pub sets_behind : (vs l : List ℕ) (i j : ℕ) → i + length vs ≤ j → byte (sets l i vs) j ≡ byte l j
sets_behind [] l i j h = refl
sets_behind (v ∷ vs) l i j h = sets_behind vs (set l i v) (suc i) j (omega arith) ∙ get_or-set_other l i j v 0 (λ e. omega arith)

pub sets_in : (vs l : List ℕ) (i k : ℕ) → i + length vs ≤ length l → k < length vs → byte (sets l i vs) (i + k) ≡ byte vs k
sets_in [] l i k h q = absurd (omega arith)
sets_in (v ∷ vs) l i zero h q = rw add-zero (sets_before vs (set l i v) (suc i) i (omega arith) ∙ get_or-set_same l i v 0 (omega arith))
sets_in (v ∷ vs) l i (suc k) h q = rw (add-suc, ← suc-add) (sets_in vs (set l i v) (suc i) k (rw length-set (omega arith)) (omega arith))

pub drop_sets : (vs l : List ℕ) (i n : ℕ) → i + length vs ≤ n → drop n (sets l i vs) ≡ drop n l
drop_sets [] l i n h = refl
drop_sets (v ∷ vs) l i n h = drop_sets vs (set l i v) (suc i) n (omega arith) ∙ drop-set-lt n l i v (omega arith)

pub take_sets : (vs l : List ℕ) (i n : ℕ) → n ≤ i → take n (sets l i vs) ≡ take n l
take_sets [] l i n h = refl
take_sets (v ∷ vs) l i n h = take_sets vs (set l i v) (suc i) n (omega arith) ∙ take-set-le n l i v (omega arith)

-- a store before others may come first
set_sets : (vs l : List ℕ) (i j v : ℕ) → j < i → set (sets l i vs) j v ≡ sets (set l j v) i vs
set_sets [] l i j v h = refl
set_sets (w ∷ vs) l i j v h =
    set_sets vs (set l i w) (suc i) j v (omega arith) ∙ ap (λ (m : List ℕ). sets m (suc i) vs) (set_comm l i j w v (omega arith))

-- and so may a run of them
pub sets_comm : (ys vs l : List ℕ) (i p : ℕ) → p + length ys ≤ i → sets (sets l i vs) p ys ≡ sets (sets l p ys) i vs
sets_comm [] vs l i p h = refl
sets_comm (y ∷ ys) vs l i p h =
    ap (λ (m : List ℕ). sets m (suc p) ys) (set_sets vs l i p y (omega arith)) ∙ sets_comm ys vs (set l p y) i (suc p) (omega arith)

-- as many stores over others
pub sets_sets : (xs ys l : List ℕ) (i : ℕ) → length xs ≡ length ys → sets (sets l i xs) i ys ≡ sets l i ys
sets_sets [] [] l i h = refl
sets_sets [] (y ∷ ys) l i h = absurd (omega arith)
sets_sets (x ∷ xs) [] l i h = absurd (omega arith)
sets_sets (x ∷ xs) (y ∷ ys) l i h =
    ap (λ (m : List ℕ). sets m (suc i) ys) (set_sets xs (set l i x) (suc i) i y (omega arith) ∙ ap (λ (m : List ℕ). sets m (suc i) xs) (set-set l i x y))
    ∙ sets_sets xs ys (set l i y) (suc i) (omega arith)

-- ---- a copy

module _ (d : List ℕ) (p : ℕ) (c : List ℕ) (k : ℕ) (fits : p + k ≤ length d) (enough : k ≤ length c) where
  front : length (take p d) ≡ p
  front = length-take-le p d (omega arith)

  pub take_paste_front : (n : ℕ) → n ≤ p → take n (paste d p c k) ≡ take n d
  take_paste_front n h = rw append_assoc (take-append-le n (take p d) _ (omega (arith, front)) ∙ take-take n p d h)

  pub paste_before : (j : ℕ) → j < p → byte (paste d p c k) j ≡ byte d j
  paste_before j h = rw append_assoc (get_or-append (take p d) _ 0 j (omega (arith, front)) ∙ get_or-take p d j 0 h)

  pub paste_behind : (j : ℕ) → p + k ≤ j → byte (paste d p c k) j ≡ byte d j
  paste_behind j h =
      let n : j ≡ (p + k) + (j - (p + k)) = omega arith in
      ap (byte (paste d p c k)) n ∙ sym (get_or-drop (p + k) (paste d p c k) (j - (p + k)) 0)
      ∙ ap (λ (t : List ℕ). byte t (j - (p + k))) (drop-paste d p c k (omega arith) enough)
      ∙ get_or-drop (p + k) d (j - (p + k)) 0 ∙ sym (ap (byte d) n)

  pub paste_in : (j : ℕ) → j < k → byte (paste d p c k) (p + j) ≡ byte c j
  paste_in j h =
      let t = length-take-le k c enough in
      rw append_assoc
      (ap (λ (n : ℕ). byte (take p d ++ (take k c ++ drop (p + k) d)) (n + j)) (sym front)
      ∙ get_or-append-add (take p d) (take k c ++ drop (p + k) d) j 0
      ∙ get_or-append (take k c) (drop (p + k) d) 0 j (omega arith) ∙ get_or-take k c j 0 h)

-- ---- half-bytes

pub half_same : (a b : List ℕ) (h : ℕ) → byte a (h / 2) ≡ byte b (h / 2) → half a h ≡ half b h
unfolding half
half_same a b h e = rw e

pub half_sets_before : (vs l : List ℕ) (p h : ℕ) → h < 2 * p → half (sets l p vs) h ≡ half l h
half_sets_before vs l p h b = half_same (sets l p vs) l h (sets_before vs l p (h / 2) (omega arith))

pub half_sets_behind : (vs l : List ℕ) (p h : ℕ) → 2 * p + 2 * length vs ≤ h → half (sets l p vs) h ≡ half l h
half_sets_behind vs l p h b = half_same (sets l p vs) l h (sets_behind vs l p (h / 2) (omega arith))

module _ (d : List ℕ) (p : ℕ) (c : List ℕ) (k : ℕ) (fits : p + k ≤ length d) (enough : k ≤ length c) where
  pub half_paste_before : (h : ℕ) → h < 2 * p → half (paste d p c k) h ≡ half d h
  half_paste_before h b = half_same (paste d p c k) d h (paste_before d p c k fits enough (h / 2) (omega arith))

  pub half_paste_behind : (h : ℕ) → 2 * p + 2 * k ≤ h → half (paste d p c k) h ≡ half d h
  half_paste_behind h b = half_same (paste d p c k) d h (paste_behind d p c k fits enough (h / 2) (omega arith))

-- ---- numbers as bytes

pub join16 : (v : ℕ) → v / 256 * 256 + v % 256 ≡ v
join16 v = omega arith

pub join32 : (v : ℕ) → (v / 16777216 * 256 + v / 65536 % 256) * 65536 + (v / 256 % 256 * 256 + v % 256) ≡ v
join32 v = omega arith

-- numbers and parts are alike where their bytes are
module _ (a b : List ℕ) (i : ℕ) where
  pub be16_same : ((j : ℕ) → i ≤ j → j < i + 2 → byte a j ≡ byte b j) → be16 a i ≡ be16 b i
  unfolding be16
  be16_same at = rw (at i (omega arith) (omega arith), at (i + 1) (omega arith) (omega arith))

  pub be32_same : ((j : ℕ) → i ≤ j → j < i + 4 → byte a j ≡ byte b j) → be32 a i ≡ be32 b i
  unfolding be32 be16
  be32_same at =
      rw (
        at i (omega arith) (omega arith),
        at (i + 1) (omega arith) (omega arith),
        at (i + 2) (omega arith) (omega arith),
        at (i + 2 + 1) (omega arith) (omega arith),
      )

  pub part_same : (k : ℕ) → length a ≡ length b → ((j : ℕ) → i ≤ j → j < i + k → byte a j ≡ byte b j) → part i k a ≡ part i k b
  part_same k l at =
      ext_get_or 0 (part i k a) (part i k b)
      (rw (length-take, length-take, length-drop, length-drop, l))
      (λ j h. let q : j < k = omega (arith, length-take k (drop i a)) in rw (get_or-take k (drop i a) j 0 q, get_or-take k (drop i b) j 0 q, get_or-drop, get_or-drop)
      (at (i + j) (omega arith) (omega arith)))

pub be16_drop : (n : ℕ) (s : List ℕ) (i : ℕ) → be16 (drop n s) i ≡ be16 s (n + i)
unfolding be16
be16_drop n s i = rw (get_or-drop n s i 0, get_or-drop n s (i + 1) 0, ← add_assoc n i 1)

pub be32_drop : (n : ℕ) (s : List ℕ) (i : ℕ) → be32 (drop n s) i ≡ be32 s (n + i)
unfolding be32
be32_drop n s i = rw (be16_drop n s i, be16_drop n s (i + 2), ← add_assoc n i 2)

-- what is stored is read back
pub be16_sets : (l : List ℕ) (p v : ℕ) → p + 2 ≤ length l → be16 (sets l p (bytes16 v)) p ≡ v
unfolding be16
be16_sets l p v h =
    let a = sets_in (bytes16 v) l p 0 h (omega arith) in
    let b = sets_in (bytes16 v) l p 1 h (omega arith) in
    let c : byte (sets l p (bytes16 v)) p ≡ v / 256 = rw add-zero at a in
    omega (arith, join16 v)

pub be32_sets : (l : List ℕ) (p v : ℕ) → p + 4 ≤ length l → be32 (sets l p (bytes32 v)) p ≡ v
unfolding be32 be16
be32_sets l p v h =
    let a = sets_in (bytes32 v) l p 0 h (omega arith) in
    let b = sets_in (bytes32 v) l p 1 h (omega arith) in
    let c = sets_in (bytes32 v) l p 2 h (omega arith) in
    let d = sets_in (bytes32 v) l p 3 h (omega arith) in
    let e : byte (sets l p (bytes32 v)) p ≡ v / 16777216 = rw add-zero at a in
    let f : byte (sets l p (bytes32 v)) (p + 2 + 1) ≡ v % 256 = rw (add_assoc p 2 1) d in
    rw (e, b, c, f) (join32 v)

-- ---- lists put together

pub get_d_past : (xs ys : List ℕ) (n k : ℕ) → length xs ≡ n → byte (xs ++ ys) (n + k) ≡ byte ys k
get_d_past xs ys n k e = rw (← e) (get_or-append-add xs ys k 0)

pub drop_past : (xs ys : List ℕ) (n k : ℕ) → length xs ≡ n → drop (n + k) (xs ++ ys) ≡ drop k ys
drop_past xs ys n k e = rw (← e) (drop-append-add xs ys k)

pub drop_take_add : (n m : ℕ) (l : List ℕ) → drop n (take (n + m) l) ≡ take m (drop n l)
drop_take_add zero m l = rw zero-add
drop_take_add (suc n) m [] = rw (suc-add, take-nil m)
drop_take_add (suc n) m (x ∷ l) = rw suc-add (drop_take_add n m l)
