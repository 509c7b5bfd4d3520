-- Laws of parts stored one right behind the other: an entry's change date and name, and the entry with them.
use Prim.Native.Nat.{ℕ, ◌+◌, ◌-◌, ◌%◌, ◌≤◌}
use mathlib.Core.Path.{◌≡◌, refl, sym, ap, ◌∙◌}
use mathlib.Core.List.{List, [], ◌∷◌, ◌++◌, append_assoc}
use native.Mathlib.Omega.{arith}
use lib.ListN.{length, set, take, drop, length-drop, length-append, length-replicate, take-append-drop, replicate-append-replicate}
use lib.Seq.{sets, paste, length-paste, length-take-le, take_all, take-take, take-add}
use Rattle.model.specs.Bytes.{bytes32, zeros, part}
use Rattle.model.specs.Directory.{padded, size_for}
use Rattle.model.specs.Calls.{date_and_name, retitled}
use Rattle.directory.specs.declared.EntryAt.{EntryAt}
use Rattle.directory.specs.Cursor.{bytes_at}
use Rattle.entries.proofs.Blocks.{paste_next}
use Rattle.entries.proofs.Stored.{sets_paste}

-- x is m with c, which has n bytes, from place s on
pub record Laid (m : List ℕ) (s : ℕ) (c : List ℕ) (n : ℕ) (x : List ℕ) : Type 0 where
  pub long : length c ≡ n
  pub fits : s + n ≤ length m
  pub is : x ≡ paste m s c n

module _ (m : List ℕ) (s : ℕ) where
  first_sets : (d : List ℕ) (k : ℕ) → length d ≡ k → s + k ≤ length m → (y : List ℕ) → y ≡ sets m s d → Laid m s d k y
  first_sets d k l w y q = record { long = l; fits = w; is = q ∙ sets_paste d m s (omega arith) ∙ ap (paste m s d) l }

  -- what stands there already
  own_part : (k : ℕ) → s + k ≤ length m → Laid m s (part s k m) k m
  own_part k w =
      let l : length (part s k m) ≡ k = length-take-le k (drop s m) (omega (arith, length-drop s m)) in
      record { long = l; fits = w; is = sym (rw (take_all k (part s k m) (omega arith), ← take-add s k m) (take-append-drop (s + k) m)) }

  module _ (c : List ℕ) (n : ℕ) (x : List ℕ) (p : Laid m s c n x) where
    pub laid_size : length x ≡ length m
    laid_size = ap (length {A = ℕ}) p.is ∙ length-paste m s c n p.fits (omega (arith, p.long))

    module _ (d : List ℕ) (k : ℕ) (l : length d ≡ k) (w : s + (n + k) ≤ length m) (y : List ℕ) where
      next_part : y ≡ paste x (s + n) d k → Laid m s (c ++ d) (n + k) y
      next_part q =
          let px : x ≡ paste m s c (length c) = p.is ∙ ap (paste m s c) (sym p.long) in
          let py : y ≡ paste x (s + length c) d (length d) = q ∙ ap (λ (a : ℕ). paste x (s + a) d k) (sym p.long) ∙ ap (paste x (s + length c) d) (sym l) in
          let both : length (c ++ d) ≡ n + k = length-append c d ∙ omega (arith, p.long) in
          record {
            long = both;
            fits = w;
            is = paste_next m s c d x y (omega (arith, p.long)) px py ∙ ap (paste m s (c ++ d)) both;
          }

      next_sets : y ≡ sets x (s + n) d → Laid m s (c ++ d) (n + k) y
      next_sets q = let size = laid_size in next_part (q ∙ sets_paste d x (s + n) (omega arith) ∙ ap (paste x (s + n) d) l)

-- zeros in two parts
pub zeros_split : (x : List ℕ) (a p q : ℕ) → a + (p + q) ≤ length x
    → paste x a (zeros (p + q)) (p + q) ≡ paste (paste x a (zeros p) p) (a + p) (zeros q) q
zeros_split x a p q h =
    let one : Laid x a (zeros p) p (paste x a (zeros p) p) = record { long = length-replicate {A = ℕ} p 0; fits = omega arith; is = refl } in
    let y = paste (paste x a (zeros p) p) (a + p) (zeros q) q in
    let both = next_part x a (zeros p) p (paste x a (zeros p) p) one (zeros q) q (length-replicate {A = ℕ} q 0) h y refl in
    ap (λ (t : List ℕ). paste x a t (p + q)) (sym (replicate-append-replicate p q 0)) ∙ sym both.is

-- ---- date and name

-- the number of pad bytes behind the name
abbrev pub pad : List ℕ → ℕ
pad name = (51 + length name) % 2

module _ (name : List ℕ) (changed : ℕ) where
  abbrev pub title : List ℕ
  title = bytes32 changed ++ (length name ∷ name)

  -- their three stores
  pub title_stores : (m : List ℕ) (at : ℕ) → at + (51 + length name) ≤ length m → (a b c : List ℕ) → a ≡ sets m (at + 46) (bytes32 changed)
      → b ≡ set a (at + 50) (length name) → c ≡ paste b (at + 51) name (length name) → c ≡ paste m (at + 46) title (5 + length name)
  title_stores m at w a b c pa pb pc =
      let s = at + 46 in
      let four : at + 50 ≡ s + 4 = omega arith in
      let five : at + 51 ≡ s + 5 = omega arith in
      let la = first_sets m s (bytes32 changed) 4 refl (omega arith) a pa in
      let lb = next_sets m s _ 4 a la (length name ∷ []) 1 refl (omega arith) b (pb ∙ ap (λ (i : ℕ). set a i (length name)) four) in
      (next_part m s _ 5 b lb name (length name) refl (omega arith) c (pc ∙ ap (λ (i : ℕ). paste b i name (length name)) five)).is

  -- behind 46 bytes, and then with the pad byte behind them
  module _ (m : List ℕ) (s : ℕ) (w : s + size_for (length name) ≤ length m) (head a b : List ℕ) (la : Laid m s head 46 a)
      (pb : b ≡ paste a (s + 46) title (5 + length name)) where
    pub title_laid : Laid m s (head ++ title) (51 + length name) b
    unfolding padded
    title_laid =
        let sum : 46 + (5 + length name) ≡ 51 + length name = omega arith in
        rw sum at (next_part m s head 46 a la title (5 + length name) (omega arith) (omega arith) b pb)

    pub entry_laid : (x : List ℕ) → x ≡ paste b (s + (51 + length name)) (zeros (pad name)) (pad name)
        → Laid m s (head ++ date_and_name changed name) (51 + length name + pad name) x
    unfolding padded
    entry_laid x px =
        let long = length-replicate {A = ℕ} (pad name) 0 in
        rw append_assoc at (next_part m s (head ++ title) (51 + length name) b title_laid (zeros (pad name)) (pad name) long (omega arith) x px)

  -- the entry at e with them, where its padded size stays
  pub retitled_stores : (m : List ℕ) (e : EntryAt) → size_for (length name) ≡ size_for e.name_length → e.start + size_for e.name_length ≤ length m
      → (b y : List ℕ) → b ≡ paste m (e.start + 46) title (5 + length name) → (at z : ℕ) → at ≡ e.start + (51 + length name)
      → z ≡ e.start + size_for (length name) - at → y ≡ paste b at (zeros z) z
      → y ≡ paste m e.start (retitled name changed (bytes_at m e)) (size_for (length name))
  unfolding retitled padded
  retitled_stores m e same w b y pb at z ha hz py =
      let s = e.start in
      let own : part s 46 m ≡ take 46 (bytes_at m e) = sym (take-take 46 (size_for e.name_length) (drop s m) (omega arith)) in
      let last : z ≡ pad name = omega arith in
      let px : y ≡ paste b (s + (51 + length name)) (zeros (pad name)) (pad name)
      = py ∙ ap (λ (i : ℕ). paste b i (zeros z) z) ha ∙ ap (λ (i : ℕ). paste b (s + (51 + length name)) (zeros i) i) last in
      (entry_laid m s (omega arith) (part s 46 m) m b (own_part m s 46 (omega arith)) pb y px).is
      ∙ ap (λ (t : List ℕ). paste m s (t ++ date_and_name changed name) (size_for (length name))) own
