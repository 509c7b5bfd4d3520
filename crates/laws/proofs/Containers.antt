-- Laws of wrapped files: a checksum fits 32 bits, a file whose data are put anew has them inside and keeps the rest, and has the second
-- where they are put anew twice, and what is wrapped is a sound container with the image inside.
use Prim.Native.Nat.{ℕ, suc, ◌+◌, ◌-◌, ◌*◌, ◌/◌, ◌%◌, ◌^◌, ◌≤◌, ◌<◌}
use mathlib.Core.Path.{◌≡◌, refl, sym, ap, subst, ◌∙◌}
use mathlib.Core.List.{List, [], ◌∷◌, ◌++◌, append_assoc}
use mathlib.Core.Logic.{◌⊎◌, inl, inr, ⊎_elim}
use native.Mathlib.Omega.{arith}
use native.Mathlib.Decide.{dec_lt}
use lib.ListN.{length, set, take, drop, length-append, length-replicate, length-drop, drop_of_length-le, get_or-append}
use lib.Seq.{sets, set-get_or, length-sets, length-take-le, take_all, take_at, drop_at, drop-drop, get_or-take, get_or-drop, ext_get_or}
use borrow.Rule.Slice.PartMut.{put_mid, Post-is, put_same, mid_len}
use Rattle.model.specs.Bytes.{byte, be16, be32, bytes32, zeros, Bytes}
use Rattle.model.specs.Container.{inside, tags, tag_size, data_sum, turned, added, summed, checksum, tag_checksum, SoundHeader, SoundContainer}
use Rattle.model.specs.Container.{with_data, renewed, fixed_fields, header_for, wrapping}
use Rattle.model.proofs.Bytes.{part_to_end}
use Rattle.model.proofs.Container.{header_length}
use Rattle.laws.proofs.Stores.{sets_before, sets_behind, sets_in, drop_sets, join32, be16_same, be32_same, be16_drop, be32_drop, be32_sets}
use Rattle.laws.proofs.Content.{same_byte_lem}
use Rattle.laws.proofs.Octets as octets

-- ---- the checksum fits 32 bits

turned_fits : (s : ℕ) → s < 4294967296 → turned s < 4294967296
unfolding turned
turned_fits s h = omega arith

summed_fits : (bytes : List ℕ) (sum : ℕ) → sum < 4294967296 → summed sum bytes < 4294967296
unfolding summed added
summed_fits [] sum h = h
summed_fits (x ∷ []) sum h = h
summed_fits (x ∷ y ∷ rest) sum h = summed_fits rest (turned ((sum + (x * 256 + y)) % 2 ^ 32)) (turned_fits ((sum + (x * 256 + y)) % 2 ^ 32) (omega arith))

pub checksum_fits : (bytes : List ℕ) → checksum bytes < 4294967296
unfolding checksum
checksum_fits bytes = summed_fits bytes 0 (omega arith)

-- ---- the data put anew

tag_at : (file : List ℕ) (i : ℕ) → byte (tags file) i ≡ byte file (409684 + i)
unfolding tags
tag_at file i = get_or-drop 409684 file i 0

-- ---- parts, as slices hold them: they end at a place that is known to be 409,684

module _ (file : List ℕ) (end : ℕ) (e : end ≡ 409684) where
  pub data_is : take (end - 84) (drop 84 file) ≡ inside file
  unfolding inside
  data_is = ap (λ (k : ℕ). take (k - 84) (drop 84 file)) e

  pub tags_is : take (length file - end) (drop end file) ≡ tags file
  unfolding tags
  tags_is = part_to_end end file ∙ ap (λ (k : ℕ). drop k file) e

  -- data that were lent come back between header and tags
  pub back_is : (content : List ℕ) → put_mid 84 (end - 84) file content ≡ with_data file content
  unfolding with_data tags
  back_is content =
      ap (λ (l : List ℕ). take 84 file ++ (content ++ l)) (Post-is 84 end file (omega arith) ∙ ap (λ (k : ℕ). drop k file) e)

-- the data put back as they were
put_inside : (file : List ℕ) → put_mid 84 (409684 - 84) file (inside file) ≡ file
unfolding inside
put_inside file = put_same 84 409600 file

pub with_same : (file : List ℕ) → with_data file (inside file) ≡ file
with_same file = sym (back_is file 409684 refl (inside file)) ∙ put_inside file

-- the checksum of the data that it has, stored
pub renewed_in : (file : List ℕ) → sets file 72 (bytes32 (checksum (inside file))) ≡ renewed file (inside file)
unfolding renewed
renewed_in file = ap (λ (l : List ℕ). sets l 72 (bytes32 (checksum (inside file)))) (sym (with_same file))

pub inside_length : (file : List ℕ) → 409684 ≤ length file → length (inside file) ≡ 409600
unfolding inside
inside_length file room = mid_len 84 409684 file room

pub inside_bytes : (file : List ℕ) → Bytes file → Bytes (inside file)
unfolding inside
inside_bytes file b = octets.bytes _ (octets.octets_take 409600 _ (octets.octets_drop 84 file (octets.octets file b)))

module _ (file content : List ℕ) (room : 409684 ≤ length file) (long : length content ≡ 409600) where
  head_length : length (take 84 file) ≡ 84
  head_length = length-take-le 84 file (omega arith)

  behind_head : drop 84 (with_data file content) ≡ content ++ tags file
  unfolding with_data
  behind_head = drop_at (take 84 file) (content ++ tags file) 84 head_length

  inside_with : inside (with_data file content) ≡ content
  unfolding inside
  inside_with = ap (take 409600) behind_head ∙ take_at content (tags file) 409600 long

  tags_with : tags (with_data file content) ≡ tags file
  unfolding tags
  tags_with = sym (drop-drop 409600 84 (with_data file content)) ∙ ap (drop 409600) behind_head ∙ drop_at content (tags file) 409600 long

  with_length : length (with_data file content) ≡ length file
  unfolding with_data tags
  with_length = rw (length-append, head_length, length-append, long, length-drop) (omega arith)

  -- data put in, then their checksum stored
  pub renewed_with : renewed (with_data file content) (inside (with_data file content)) ≡ renewed file content
  unfolding renewed
  renewed_with = sym (renewed_in (with_data file content)) ∙ rw inside_with

  -- ---- what a renewed file has

  pub renewed_length : length (renewed file content) ≡ length file
  unfolding renewed
  renewed_length = length-sets (with_data file content) 72 (bytes32 (checksum content)) ∙ with_length

  pub renewed_inside : inside (renewed file content) ≡ content
  unfolding renewed inside
  renewed_inside = ap (take 409600) (drop_sets (bytes32 (checksum content)) (with_data file content) 72 84 (omega arith)) ∙ inside_with

  renewed_tags : tags (renewed file content) ≡ tags file
  unfolding renewed tags
  renewed_tags = drop_sets (bytes32 (checksum content)) (with_data file content) 72 409684 (omega arith) ∙ tags_with

  -- the header but for the checksum, and the tags
  head_kept : (i : ℕ) → i < 84 → (i < 72) ⊎ (76 ≤ i) → byte (renewed file content) i ≡ byte file i
  unfolding renewed with_data
  head_kept i h o =
      ⊎_elim
      (λ k. sets_before (bytes32 (checksum content)) (with_data file content) 72 i k)
      (λ k. sets_behind (bytes32 (checksum content)) (with_data file content) 72 i k)
      o
      ∙ get_or-append (take 84 file) (content ++ tags file) 0 i (omega (arith, head_length))
      ∙ get_or-take 84 file i 0 h

  pub renewed_kept : (i : ℕ) → (i < 72) ⊎ ((76 ≤ i) × (i < 84)) ⊎ (409684 ≤ i) → byte (renewed file content) i ≡ byte file i
  renewed_kept i (inl h) = head_kept i (omega arith) (inl h)
  renewed_kept i (inr (inl h)) = head_kept i h.1 (inr h.0)
  renewed_kept i (inr (inr h)) =
      let j : 409684 + (i - 409684) ≡ i = omega arith in
      let at : byte (tags (renewed file content)) (i - 409684) ≡ byte (tags file) (i - 409684) = ap (λ (l : List ℕ). byte l (i - 409684)) renewed_tags in
      subst (λ (k : ℕ). byte (renewed file content) k ≡ byte file k) j
      (sym (tag_at (renewed file content) (i - 409684)) ∙ at ∙ tag_at file (i - 409684))

  low32 : (p : ℕ) → p + 4 ≤ 72 → be32 (renewed file content) p ≡ be32 file p
  low32 p h = be32_same (renewed file content) file p (λ i k m. head_kept i (omega arith) (inl (omega arith)))

  stored : data_sum (renewed file content) ≡ checksum content
  unfolding renewed
  stored = be32_sets (with_data file content) 72 (checksum content) (omega (arith, with_length))

  pub renewed_sound : SoundContainer file → SoundContainer (renewed file content)
  renewed_sound s =
      let h = s.header in
      let t : tag_size (renewed file content) ≡ tag_size file = low32 68 (omega arith) in
      let behind = renewed_tags in
      record {
        header = record {
          few = rw t h.few;
          long = renewed_length ∙ h.long ∙ ap (λ (k : ℕ). 409684 + k) (sym t);
          titled = rw (head_kept 0 (omega arith) (inl (omega arith))) h.titled;
          whole = low32 64 (omega arith) ∙ h.whole;
          encoded = head_kept 80 (omega arith) (inr (omega arith)) ∙ h.encoded;
          marked = be16_same (renewed file content) file 82 (λ i k m. head_kept i (omega arith) (inr (omega arith))) ∙ h.marked;
        };
        summed = stored ∙ ap checksum (sym renewed_inside);
        tagged =
            be32_same (renewed file content) file 76 (λ i k m. head_kept i (omega arith) (inr (omega arith)))
            ∙ s.tagged ∙ ap tag_checksum (sym behind);
      }

  pub renewed_bytes : Bytes file → Bytes content → Bytes (renewed file content)
  unfolding renewed with_data tags
  renewed_bytes f d =
      let head = octets.octets_take 84 file (octets.octets file f) in
      let rest = octets.octets_append content (tags file) (octets.octets content d) (octets.octets_drop 409684 file (octets.octets file f)) in
      let all = octets.octets_append (take 84 file) (content ++ tags file) head rest in
      let stored = octets.octets_u32 (checksum content) (checksum_fits content) in
      octets.bytes _ (octets.octets_sets (with_data file content) 72 (bytes32 (checksum content)) all stored)

-- data put anew twice: the second stand over the first, and so does their checksum
module _ (file first second : List ℕ) (room : 409684 ≤ length file) (long₁ : length first ≡ 409600) (long₂ : length second ≡ 409600) where
  abbrev once : List ℕ
  once = renewed file first

  room_once : 409684 ≤ length once
  room_once = omega (arith, renewed_length file first room long₁)

  abbrev twice : List ℕ
  twice = renewed once second

  sum_byte : (l : List ℕ) → 409684 ≤ length l → (i : ℕ) → i < 4 → byte (renewed l second) (72 + i) ≡ byte (bytes32 (checksum second)) i
  unfolding renewed
  sum_byte l r i h = sets_in (bytes32 (checksum second)) (with_data l second) 72 i (omega (arith, with_length l second r long₂)) h

  twice_byte : (i : ℕ) → byte twice i ≡ byte (renewed file second) i
  unfolding inside
  twice_byte i =
      elim (dec_lt i 72) [
        | yes h ↦ outside (inl h)
        | no h ↦ elim (dec_lt i 76) [
          | yes k ↦
              let at : 72 + (i - 72) ≡ i = omega arith in
              subst (λ (j : ℕ). byte twice j ≡ byte (renewed file second) j) at
              (sum_byte once room_once (i - 72) (omega arith) ∙ sym (sum_byte file room (i - 72) (omega arith)))
          | no k ↦ elim (dec_lt i 84) [
            | yes l ↦ outside (inr (inl (omega arith)))
            | no l ↦ elim (dec_lt i 409684) [
              | yes m ↦ data_byte (omega arith) m
              | no m ↦ outside (inr (inr (omega arith)))
            ]
          ]
        ]
      ]
    where
      outside : (i < 72) ⊎ ((76 ≤ i) × (i < 84)) ⊎ (409684 ≤ i) → byte twice i ≡ byte (renewed file second) i
      outside c = renewed_kept once second room_once long₂ i c ∙ renewed_kept file first room long₁ i c ∙ sym (renewed_kept file second room long₂ i c)

      data_byte : 84 ≤ i → i < 409684 → byte twice i ≡ byte (renewed file second) i
      data_byte low high =
          same_byte_lem 84 409600 i twice (renewed file second) (renewed_inside once second room_once long₂ ∙ sym (renewed_inside file second room long₂)) low
          (omega arith)

  pub renewed_twice : renewed (renewed file first) second ≡ renewed file second
  renewed_twice =
      ext_get_or 0 twice (renewed file second)
      (renewed_length once second room_once long₂ ∙ renewed_length file first room long₁ ∙ sym (renewed_length file second room long₂))
      (λ i h. twice_byte i)

-- the four bytes of a number that was made of four bytes
apart : (a b c d : ℕ) → a < 256 → b < 256 → c < 256 → d < 256 → bytes32 ((a * 256 + b) * 65536 + (c * 256 + d)) ≡ a ∷ b ∷ c ∷ d ∷ []
apart a b c d ha hb hc hd =
    let v = (a * 256 + b) * 65536 + (c * 256 + d) in
    let q₀ : v / 16777216 ≡ a = omega arith in
    let q₁ : v / 65536 % 256 ≡ b = omega arith in
    let q₂ : v / 256 % 256 ≡ c = omega arith in
    let q₃ : v % 256 ≡ d = omega arith in
    λ i. q₀ i ∷ q₁ i ∷ q₂ i ∷ q₃ i ∷ []

-- a number stored where it stands
stored_same : (l : List ℕ) (p : ℕ) → Bytes l → sets l p (bytes32 (be32 l p)) ≡ l
unfolding be32 be16 Bytes
stored_same l p b =
    let same : (i j : ℕ) → i ≡ j → set l i (byte l j) ≡ l = λ i j e. ap (λ (k : ℕ). set l i (byte l k)) (sym e) ∙ set-get_or l i 0 in
    let q₀ = same p p refl in
    let q₁ = same (suc p) (p + 1) (omega arith) in
    let q₂ = same (suc (suc p)) (p + 2) (omega arith) in
    let q₃ = same (suc (suc (suc p))) (p + 2 + 1) (omega arith) in
    ap (sets l p) (apart (byte l p) (byte l (p + 1)) (byte l (p + 2)) (byte l (p + 2 + 1)) (b p) (b (p + 1)) (b (p + 2)) (b (p + 2 + 1)))
    ∙ ap (λ (m : List ℕ). set (set (set m (suc p) (byte l (p + 1))) (suc (suc p)) (byte l (p + 2))) (suc (suc (suc p))) (byte l (p + 2 + 1))) q₀
    ∙ ap (λ (m : List ℕ). set (set m (suc (suc p)) (byte l (p + 2))) (suc (suc (suc p))) (byte l (p + 2 + 1))) q₁
    ∙ ap (λ (m : List ℕ). set m (suc (suc (suc p))) (byte l (p + 2 + 1))) q₂
    ∙ q₃

-- the data that a sound container has, put anew, change nothing
pub renewed_same : (file : List ℕ) → SoundContainer file → Bytes file → renewed file (inside file) ≡ file
renewed_same file s b =
    sym (renewed_in file)
    ∙ ap (λ (k : ℕ). sets file 72 (bytes32 k)) (sym s.summed)
    ∙ stored_same file 72 b

-- ---- what is wrapped

module _ (image name : List ℕ) (format : ℕ) (whole : length image ≡ 409600) (titled : length name ≤ 63) where
  abbrev pub file : List ℕ
  file = wrapping image name format

  sum : ℕ
  sum = checksum image

  -- what stands behind the name's field
  behind : drop 64 file ≡ fixed_fields format sum ++ image
  unfolding sum wrapping header_for
  behind =
      let front = length name ∷ (name ++ zeros (63 - length name)) in
      let rest = fixed_fields format (checksum image) in
      let a = length-append name (zeros (63 - length name)) in
      let long : length front ≡ 64 = omega (arith, a, length-replicate {A = ℕ} (63 - length name) 0) in
      let split : (length name ∷ (name ++ (zeros (63 - length name) ++ rest))) ++ image ≡ front ++ (rest ++ image) = simp append_assoc in
      ap (drop 64) split ∙ drop_at front (rest ++ image) 64 long

  at32 : (i : ℕ) → be32 file (64 + i) ≡ be32 (fixed_fields format sum ++ image) i
  at32 i = sym (be32_drop 64 file i) ∙ ap (λ (l : List ℕ). be32 l i) behind

  size : length file ≡ 409684
  unfolding wrapping
  size = length-append (header_for name format (checksum image)) image ∙ (omega (arith, header_length name format (checksum image) titled))

  tag_size_lem : tag_size file ≡ 0
  unfolding be32 be16 fixed_fields
  tag_size_lem = at32 4

  header : SoundHeader file
  unfolding be32 be16 fixed_fields wrapping header_for
  header = record {
    few = inl tag_size_lem;
    long = size ∙ ap (λ (k : ℕ). 409684 + k) (sym tag_size_lem);
    titled = titled;
    whole = at32 0;
    encoded = sym (get_or-drop 64 file 16 0) ∙ ap (λ (l : List ℕ). byte l 16) behind;
    marked = sym (be16_drop 64 file 18) ∙ ap (λ (l : List ℕ). be16 l 18) behind;
  }

  pub content : inside file ≡ image
  unfolding inside wrapping
  content =
      ap (take 409600) (drop_at (header_for name format (checksum image)) image 84 (header_length name format (checksum image) titled))
      ∙ take_all 409600 image (omega arith)

  pub no_tags : tags file ≡ []
  unfolding tags
  no_tags = drop_of_length-le file {i = 409684} (omega (arith, size))

  pub sound : SoundContainer file
  unfolding be32 be16 fixed_fields tag_checksum checksum summed sum
  sound = record {
    header = header;
    summed = at32 8 ∙ join32 sum ∙ ap checksum (sym content);
    tagged = at32 12 ∙ sym (ap tag_checksum no_tags);
  }
