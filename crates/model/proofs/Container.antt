-- Laws of refusals 22 to 24: each fires not exactly where what it asks for holds; and how long a new header is.
use Prim.Native.Nat.{ℕ, ◌+◌, ◌-◌, ◌≤◌, ◌<◌}
use mathlib.Core.Path.{◌≡◌, sym, ap, ◌∙◌}
use mathlib.Core.Bool.{true, false, not, ◌||◌}
use mathlib.Core.List.{List, ◌++◌}
use mathlib.Core.Logic.{◌⊎◌, inl, inr, ⊎_elim}
use native.Mathlib.Omega.{arith}
use native.Mathlib.Decide.{ℕ_discrete}
use lib.ListN.{length, take, drop, length-append, length-replicate, drop_of_length-le}
use lib.Dec.{eqb, ltb}
use borrow.Author.Tests.{eqb-true, eq-eqb, ne_eqb, ltb-false, le-ltb, not-false}
use Rattle.model.specs.Bytes.{byte, be16, zeros}
use Rattle.model.specs.Container.{inside, tags, data_size, tag_size, data_sum, tag_sum, summed, checksum, tag_checksum}
use Rattle.model.specs.Container.{bad_size, fires22, fires23, fires24, container_verdict, SoundHeader, SoundContainer, ContainerIsSound}
use Rattle.model.specs.Container.{fixed_fields, header_for}
use Rattle.model.proofs.Bytes.{part_to_end}
use Rattle.model.proofs.Lists.{or-false, so_not}
use Rattle.model.proofs.Check.{else_zero}

-- ---- 22

-- what is asked of the lengths
pub size_untagged : (size tag : ℕ) → tag ≡ 0 → not (eqb size 409684) ≡ bad_size size tag
unfolding bad_size
size_untagged size tag h = rw h

pub size_tagged : (size tag : ℕ) → tag ≡ 9600 → not (eqb size 419284) ≡ bad_size size tag
unfolding bad_size
size_tagged size tag h = rw h

pub size_other : (size tag : ℕ) → (tag ≡ 0 → ⊥) → (tag ≡ 9600 → ⊥) → true ≡ bad_size size tag
unfolding bad_size
size_other size tag h k = rw (ne_eqb tag 0 h, ne_eqb tag 9600 k)

size_passes : (size tag : ℕ) → (tag ≡ 0) ⊎ (tag ≡ 9600) → size ≡ 409684 + tag → bad_size size tag ≡ false
size_passes size tag few long =
    ⊎_elim
    (λ z. sym (size_untagged size tag z) ∙ ap not (eq-eqb size 409684 (omega arith)))
    (λ z. sym (size_tagged size tag z) ∙ ap not (eq-eqb size 419284 (omega arith)))
    few

size_few : (size tag : ℕ) → bad_size size tag ≡ false → (tag ≡ 0) ⊎ (tag ≡ 9600)
size_few size tag h = elim (ℕ_discrete tag 0) [
  | yes z ↦ inl z
  | no z ↦ elim (ℕ_discrete tag 9600) [
    | yes y ↦ inr y
    | no y ↦ absurd (so_not _ h (sym (size_other size tag z y)))
  ]
]

size_long : (size tag : ℕ) → bad_size size tag ≡ false → size ≡ 409684 + tag
unfolding bad_size
size_long size tag h = eqb-true size (409684 + tag) (not-false _ (or-false (not (eqb tag 0 || eqb tag 9600)) _ h).1)

module _ (file : List ℕ) where
  pub header : fires22 file ≡ false → SoundHeader file
  unfolding fires22
  header h =
      let a = or-false (bad_size (length file) (tag_size file)) _ h in
      let b = or-false (ltb 63 (byte file 0)) _ a.1 in
      let c = or-false (not (eqb (data_size file) 409600)) _ b.1 in
      let d = or-false (not (eqb (byte file 80) 0)) _ c.1 in
      record {
        few = size_few (length file) (tag_size file) a.0;
        long = size_long (length file) (tag_size file) a.0;
        titled = ltb-false 63 (byte file 0) b.0;
        whole = eqb-true (data_size file) 409600 (not-false _ c.0);
        encoded = eqb-true (byte file 80) 0 (not-false _ d.0);
        marked = eqb-true (be16 file 82) 256 (not-false _ d.1);
      }

  -- the last test alone is left
  pub mark_left : bad_size (length file) (tag_size file) ≡ false → byte file 0 ≤ 63 → data_size file ≡ 409600 → byte file 80 ≡ 0
      → not (eqb (be16 file 82) 256) ≡ fires22 file
  unfolding fires22
  mark_left h t d e = rw (h, le-ltb 63 (byte file 0) t, eq-eqb (data_size file) 409600 d, eq-eqb (byte file 80) 0 e)

  pub header_passes : SoundHeader file → fires22 file ≡ false
  header_passes s =
      sym (mark_left (size_passes (length file) (tag_size file) s.few s.long) s.titled s.whole s.encoded)
      ∙ ap not (eq-eqb (be16 file 82) 256 s.marked)

  pub header_room : fires22 file ≡ false → 409684 ≤ length file
  header_room h = omega (arith, (header h).long)

  -- ---- 22 to 24

  module _ (h : fires22 file ≡ false) (d : data_sum file ≡ checksum (inside file)) where
    pub by_none : tag_sum file ≡ tag_checksum (tags file) → 0 ≡ container_verdict file
    unfolding container_verdict fires23 fires24
    by_none t = rw (h, eq-eqb (data_sum file) (checksum (inside file)) d, eq-eqb (tag_sum file) (tag_checksum (tags file)) t)

  pub sound_passes : SoundContainer file → container_verdict file ≡ 0
  sound_passes s = sym (by_none (header_passes s.header) s.summed s.tagged)

  pub passes_sound : container_verdict file ≡ 0 → SoundContainer file
  unfolding container_verdict fires23 fires24
  passes_sound z =
      let h₂₂ = else_zero (fires22 file) 21 _ z in
      let h₂₃ = else_zero (fires23 file) 22 _ h₂₂.1 in
      let h₂₄ = else_zero (fires24 file) 23 0 h₂₃.1 in
      record {
        header = header h₂₂.0;
        summed = eqb-true (data_sum file) (checksum (inside file)) (not-false _ h₂₃.0);
        tagged = eqb-true (tag_sum file) (tag_checksum (tags file)) (not-false _ h₂₄.0);
      }

  -- header and data are there, and so end within the file
  pub room : container_verdict file ≡ 0 → 409684 ≤ length file
  room z = let s = passes_sound z in omega (arith, s.header.long)

  pub reach : (end : ℕ) → end ≡ 409684 → container_verdict file ≡ 0 → end ≤ length file
  reach end e z = omega (arith, room z)

pub container_is_sound : ContainerIsSound
unfolding ContainerIsSound
container_is_sound file = (passes_sound file, sound_passes file)

-- ---- the tag sum

pub few_tags : (l t : List ℕ) → l ≡ t → length l < 12 → 0 ≡ tag_checksum t
unfolding tag_checksum checksum summed
few_tags l t e h = sym (ap (λ (k : List ℕ). checksum (drop 12 k)) (sym e) ∙ ap checksum (drop_of_length-le l {i = 12} (omega arith)))

pub all_tags : (l t : List ℕ) → l ≡ t → checksum (take (length l - 12) (drop 12 l)) ≡ tag_checksum t
unfolding tag_checksum
all_tags l t e = ap checksum (part_to_end 12 l) ∙ ap (λ (k : List ℕ). checksum (drop 12 k)) e

-- ---- a new header

pub header_length : (name : List ℕ) (format sum : ℕ) → length name ≤ 63 → length (header_for name format sum) ≡ 84
unfolding header_for fixed_fields
header_length name format sum h =
    let a = length-append name (zeros (63 - length name) ++ fixed_fields format sum) in
    let b = length-append (zeros (63 - length name)) (fixed_fields format sum) in
    omega (arith, a, b, length-replicate {A = ℕ} (63 - length name) 0)
