-- Laws of a new entry's stores, one right behind the other.
use Prim.Native.Nat.{ℕ, ◌+◌, ◌-◌, ◌≤◌}
use mathlib.Core.Path.{◌≡◌, refl, sym, ap, ◌∙◌}
use mathlib.Core.List.{List, [], ◌∷◌, ◌++◌, append_assoc}
use native.Mathlib.Omega.{arith}
use lib.ListN.{length}
use lib.Seq.{paste}
use Rattle.model.specs.Bytes.{bytes32, zeros, part}
use Rattle.model.specs.Directory.{padded, size_for, entries, read_end}
use Rattle.model.specs.Calls.{new_entry, date_and_name, filled}
use Rattle.entries.specs.Blocks.{Block}
use Rattle.entries.proofs.Rooming.{added_stores}
use Rattle.entries.proofs.Titles.{Laid, laid_size, zeros_split, title, pad, title_laid, entry_laid}

-- ---- an entry of which the bytes up to its change date are given

module _ (head name : List ℕ) (changed : ℕ) (whole : length head ≡ 46) (image : List ℕ) (base end : ℕ) (k : Block image base)
    (ends : end ≡ read_end (part base 512 image)) (room : end + size_for (length name) ≤ 512) where
  -- its stores, and zeros to the block's end
  pub kept_stores : (a b y : List ℕ) → a ≡ paste image (base + end) head (length head)
      → b ≡ paste a (base + end + 46) (title name changed) (5 + length name) → (at z : ℕ) → at ≡ base + end + (51 + length name) → z ≡ base + 512 - at
      → y ≡ paste b at (zeros z) z
      → y ≡ paste image base (filled (entries (part base 512 image) ++ ((head ++ date_and_name changed name) ∷ []))) 512
  unfolding padded
  kept_stores a b y pa pb at z ha hz py =
      let e = head ++ date_and_name changed name in
      let kw = k.within in
      let s = base + end in
      let n = 51 + length name in
      let p = pad name in
      let q = 512 - (end + (n + p)) in
      let x = paste b (s + n) (zeros p) p in
      let la : Laid image s head 46 a = record { long = whole; fits = omega arith; is = pa ∙ ap (paste image s head) whole } in
      let lb = title_laid name changed image s (omega arith) head a b la pb in
      let lx = entry_laid name changed image s (omega arith) head a b la pb x refl in
      let size = laid_size image s (head ++ title name changed) n b lb in
      let px : x ≡ paste image s e (length e) = lx.is ∙ ap (paste image s e) (sym lx.long) in
      let two : z ≡ p + q = omega arith in
      let far : s + n + p ≡ s + length e = omega (arith, lx.long) in
      let last : y ≡ paste x (s + length e) (zeros q) q
      = py ∙ ap (λ (i : ℕ). paste b i (zeros z) z) ha ∙ ap (λ (i : ℕ). paste b (s + n) (zeros i) i) two ∙ zeros_split b (s + n) p q (omega arith)
      ∙ ap (λ (i : ℕ). paste x i (zeros q) q) far in
      added_stores image base k e (omega (arith, lx.long)) s q (omega arith) (omega (arith, lx.long)) x y px last

-- ---- a new entry

module _ (number : ℕ) (finder : List ℕ) (created : ℕ) where
  -- its bytes up to the change date
  abbrev new_head : List ℕ
  new_head = 0x80 ∷ 0 ∷ (finder ++ (bytes32 number ++ (zeros 20 ++ bytes32 created)))

  -- the entry
  pub new_parts : (name : List ℕ) (changed : ℕ) (head : List ℕ) → head ≡ new_head
      → head ++ date_and_name changed name ≡ new_entry number name finder created changed
  unfolding new_entry
  new_parts name changed head h = rw h (simp append_assoc)
