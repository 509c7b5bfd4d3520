-- What a write leaves, place by place: two such changes in a row are one, and the places tell the whole image.
use Prim.Native.Nat.{ℕ, ◌+◌, ◌-◌, ◌*◌, ◌/◌, ◌%◌, ◌≤◌, ◌<◌}
use mathlib.Core.Path.{◌≡◌, sym, ap, ap₂, subst, ◌∙◌}
use mathlib.Core.List.{List, [], ◌∷◌, ◌++◌, append_assoc}
use native.Mathlib.Omega.{arith}
use native.Mathlib.Decide.{ℕ_discrete, dec_lt, dec_le}
use native.Mathlib.Nat.{div-add-mod', mod-lt}
use lib.ListN.{length, take, drop, length-append, length-drop}
use lib.Seq.{paste, take_at, drop_at, take-append-le, drop-append-le, length-take-le, take-paste, drop-paste, take-length, ext_get_or}
use Rattle.model.specs.Bytes.{byte, bytes16, part, Bytes}
use Rattle.model.specs.Lists.{times}
use Rattle.model.specs.Map.{map_entry, pair_byte, three_bytes, bytes_for}
use Rattle.model.specs.Calls.{bytes_of}
use Rattle.model.specs.declared.LogicalBlock.{LogicalBlock}
use Rattle.model.specs.declared.ThreeBytes.{ThreeBytes}
use Rattle.model.proofs.Threes.{two_in_three}
use Rattle.model.proofs.Times.{times_append, times_head, times_skip, times_tail}
use Rattle.laws.proofs.Sound.{Linked}
use Rattle.laws.proofs.Joins.{Once}
use Rattle.laws.proofs.MapSteps.{BlocksStored}
use Rattle.laws.proofs.Content.{byte_of, Inside, same_drop, same_byte_lem, bytes_same, bytes_append, length_bytes}

-- left is the image after a write: bs are the fork's blocks then, xs are put at o of their bytes, rows are the k bytes of the
-- directory from d on, free is the free count; s, a and n are S, A and N
pub record Stored (s : LogicalBlock) (a n d k : ℕ) (image left bs : List ℕ) (o : ℕ) (xs rows : List ℕ) (free : ℕ) : Type 0 where
  pub size : length left ≡ length image
  -- before the blocks all bytes stay but the free count's, the map's and the directory's
  pub plain : (j : ℕ) → j < 512 * s.0 → (1058 ≤ j → j < 1060 → ⊥) → (1088 ≤ j → j < 2048 → ⊥) → (d ≤ j → j < d + k → ⊥) → byte left j ≡ byte image j
  pub counted : (j : ℕ) → j < 2 → byte left (1058 + j) ≡ byte (bytes16 free) j
  pub listed : (j : ℕ) → j < k → byte left (d + j) ≡ byte rows j
  -- the map and the blocks
  pub blocks : BlocksStored s a n image left bs o xs

-- ---- the map's bytes from its entries

-- images whose entries agree have the same three bytes for each pair of blocks
three_same : (x y : List ℕ) (b : ℕ) → Bytes x → Bytes y → 2 ≤ b → b % 2 ≡ 0 → map_entry x b ≡ map_entry y b → map_entry x (b + 1) ≡ map_entry y (b + 1)
    → three_bytes x (pair_byte b) ≡ three_bytes y (pair_byte b)
three_same x y b bx by low even p q =
    let back = two_in_three.map_back in
    sym (back x b bx low even) ∙ (λ i. bytes_for (record { first = p i; second = q i })) ∙ back y b by low even

-- and so the same map
map_bytes : (x y : List ℕ) → Bytes x → Bytes y → ((b : ℕ) → 2 ≤ b → b ≤ 641 → map_entry x b ≡ map_entry y b)
    → (j : ℕ) → 1088 ≤ j → j < 2048 → byte x j ≡ byte y j
unfolding three_bytes
map_bytes x y bx by h j low high =
    let q = (j - 1088) / 3 in
    let b = 2 * q + 2 in
    let t = three_same x y b bx by (omega arith) (omega arith) (h b (omega arith) (omega arith)) (h (b + 1) (omega arith) (omega arith)) in
    elim (ℕ_discrete j (pair_byte b)) [
      | yes z ↦ rw z (ap (λ (r : ThreeBytes). r.ab) t)
      | no z ↦ elim (ℕ_discrete j (pair_byte b + 1)) [
        | yes z' ↦ rw z' (ap (λ (r : ThreeBytes). r.cd) t)
        | no z' ↦ let i : j ≡ pair_byte b + 2 = omega arith in rw i (ap (λ (r : ThreeBytes). r.ef) t)
      ]
    ]

-- two maps that link the same blocks agree on them
linked_same : (e e' : ℕ → ℕ) (n : ℕ) (bs : List ℕ) → Linked e n bs → Linked e' n bs → (b : ℕ) → 1 ≤ times b bs → e b ≡ e' b
unfolding Linked times
linked_same e e' n [] h k b p = absurd (omega arith)
linked_same e e' n (x ∷ bs) h k b p =
    elim (ℕ_discrete b x) [
      | yes z ↦ rw z (h.2 ∙ sym k.2)
      | no z ↦ linked_same e e' n bs h.3 k.3 b (omega (arith, times_skip b x bs z))
    ]

-- ---- the blocks' bytes

-- the bytes of the blocks tell each block's
bytes_parts : (s : LogicalBlock) (a : ℕ) (l m bs : List ℕ) → Inside s a l bs → length m ≡ length l → bytes_of s a l bs ≡ bytes_of s a m bs
    → (b : ℕ) → 1 ≤ times b bs → part (byte_of s a b) a l ≡ part (byte_of s a b) a m
unfolding bytes_of times
bytes_parts s a l m [] w f e b p = absurd (omega arith)
bytes_parts s a l m (x ∷ bs) w f e b p =
    let i = w x (omega (arith, times_head x bs)) in
    let q = byte_of s a x in
    let u : length (part q a l) ≡ a = length-take-le a (drop q l) (omega (arith, length-drop q l)) in
    let v : length (part q a m) ≡ a = length-take-le a (drop q m) (omega (arith, length-drop q m)) in
    elim (ℕ_discrete b x) [
      | yes z ↦ rw z (sym (take_at (part q a l) (bytes_of s a l bs) a u) ∙ ap (take a) e ∙ take_at (part q a m) (bytes_of s a m bs) a v)
      | no z ↦ bytes_parts s a l m bs (λ y r. w y (omega (arith, times_tail y x bs))) f
          (sym (drop_at (part q a l) (bytes_of s a l bs) a u) ∙ ap (drop a) e ∙ drop_at (part q a m) (bytes_of s a m bs) a v)
          b (omega (arith, times_skip b x bs z))
    ]

-- images whose blocks agree agree from the first block on
area_bytes : (s : LogicalBlock) (a : ℕ) (x y : List ℕ) → 0 < a → ((b : ℕ) → 2 ≤ b → part (byte_of s a b) a x ≡ part (byte_of s a b) a y)
    → (j : ℕ) → 512 * s.0 ≤ j → byte x j ≡ byte y j
area_bytes s a x y pos h j low =
    let q = (j - 512 * s.0) / a in
    let r = (j - 512 * s.0) % a in
    let e = div-add-mod' (j - 512 * s.0) a in
    let l = mod-lt (j - 512 * s.0) pos in
    let i : q + 2 - 2 ≡ q = omega arith in
    let p = rw i at (h (q + 2) (omega arith)) in
    same_byte_lem (512 * s.0 + q * a) a j x y p (omega arith) (omega arith)

-- ---- pastes

-- two pastes, one behind the other
paste_paste : (c : List ℕ) (o : ℕ) (xs ys : List ℕ) → o + length xs + length ys ≤ length c
    → paste (paste c o xs (length xs)) (o + length xs) ys (length ys) ≡ paste c o (xs ++ ys) (length (xs ++ ys))
paste_paste c o xs ys h =
    let k : o + length (xs ++ ys) ≡ o + length xs + length ys = omega (arith, length-append xs ys) in
    rw (
      take-paste c o xs (length xs) (omega arith) (omega arith),
      same_drop (o + length xs) (o + length xs + length ys) (paste c o xs (length xs)) c (omega arith)
          (drop-paste c o xs (length xs) (omega arith) (omega arith)),
      take-length xs,
      take-length ys,
      take-length (xs ++ ys),
      k,
    ) (simp append_assoc)

-- a paste that ends in the first of two lists
paste_front : (x y : List ℕ) (o : ℕ) (xs : List ℕ) → o + length xs ≤ length x → paste (x ++ y) o xs (length xs) ≡ paste x o xs (length xs) ++ y
paste_front x y o xs h = rw (take-append-le o x y (omega arith), drop-append-le (o + length xs) x y h) (simp append_assoc)

-- ---- the two laws

module _ (s : LogicalBlock) (a n d k : ℕ) (pos : 0 < a) (low : 2048 ≤ 512 * s.0) where
  -- the places tell the whole image
  pub stored_one : (image x y bs : List ℕ) (o : ℕ) (xs rows : List ℕ) (free : ℕ) → Inside s a image bs → Bytes x → Bytes y
      → Stored s a n d k image x bs o xs rows free → Stored s a n d k image y bs o xs rows free → x ≡ y
  stored_one image x y bs o xs rows free w bx by hx hy = ext_get_or 0 x y (hx.size ∙ sym hy.size) (λ j l. at j)
    where
      entry : (b : ℕ) → 2 ≤ b → b ≤ 641 → map_entry x b ≡ map_entry y b
      entry b p q =
          elim (ℕ_discrete (times b bs) 0) [
            | yes z ↦ hx.blocks.entries b p q z ∙ sym (hy.blocks.entries b p q z)
            | no z ↦ linked_same (map_entry x) (map_entry y) n bs hx.blocks.chain hy.blocks.chain b (omega arith)
          ]

      block : (b : ℕ) → 2 ≤ b → part (byte_of s a b) a x ≡ part (byte_of s a b) a y
      block b p =
          elim (ℕ_discrete (times b bs) 0) [
            | yes z ↦ hx.blocks.others b p z ∙ sym (hy.blocks.others b p z)
            | no z ↦ bytes_parts s a x y bs (λ c q. ((w c q).0, omega (arith, (w c q).1, hx.size))) (hy.size ∙ sym hx.size)
                (hx.blocks.content ∙ sym hy.blocks.content) b (omega arith)
          ]

      -- a place of the part from p on
      within : (p m j : ℕ) → ((i : ℕ) → i < m → byte x (p + i) ≡ byte y (p + i)) → p ≤ j → j < p + m → byte x j ≡ byte y j
      within p m j h u v = let e : p + (j - p) ≡ j = omega arith in subst (λ i. byte x i ≡ byte y i) e (h (j - p) (omega arith))

      at : (j : ℕ) → byte x j ≡ byte y j
      at j =
          elim (dec_le (512 * s.0) j) [
            | yes u ↦ area_bytes s a x y pos block j u
            | no u ↦ elim (dec_lt j 1058) [
              | yes v ↦ at' j (omega arith) (λ p q. omega arith) (λ p q. omega arith)
              | no v ↦ elim (dec_lt j 1060) [
                | yes t ↦ within 1058 2 j (λ i q. hx.counted i q ∙ sym (hy.counted i q)) (omega arith) (omega arith)
                | no t ↦ elim (dec_lt j 1088) [
                  | yes r ↦ at' j (omega arith) (λ p q. omega arith) (λ p q. omega arith)
                  | no r ↦ elim (dec_lt j 2048) [
                    | yes m ↦ map_bytes x y bx by entry j (omega arith) m
                    | no m ↦ at' j (omega arith) (λ p q. omega arith) (λ p q. omega arith)
                  ]
                ]
              ]
            ]
          ]
        where
          at' : (j : ℕ) → j < 512 * s.0 → (1058 ≤ j → j < 1060 → ⊥) → (1088 ≤ j → j < 2048 → ⊥) → byte x j ≡ byte y j
          at' j u f m =
              elim (dec_le d j) [
                | yes p ↦ elim (dec_lt j (d + k)) [
                  | yes q ↦ within d k j (λ i r. hx.listed i r ∙ sym (hy.listed i r)) p q
                  | no q ↦ let c : d ≤ j → j < d + k → ⊥ = λ _ r. q r in hx.plain j u f m c ∙ sym (hy.plain j u f m c)
                ]
                | no p ↦ let c : d ≤ j → j < d + k → ⊥ = λ r _. p r in hx.plain j u f m c ∙ sym (hy.plain j u f m c)
              ]

  -- a write, and one behind it with more blocks, are one write
  pub stored_then : (image mid left bs r : List ℕ) (o : ℕ) (xs ys rows₁ rows : List ℕ) (free₁ free : ℕ) → Inside s a image (bs ++ r) → Once (bs ++ r)
      → o + length xs ≤ length bs * a → o + length xs + length ys ≤ length (bs ++ r) * a
      → Stored s a n d k image mid bs o xs rows₁ free₁ → Stored s a n d k mid left (bs ++ r) (o + length xs) ys rows free
      → Stored s a n d k image left (bs ++ r) o (xs ++ ys) rows free
  stored_then image mid left bs r o xs ys rows₁ rows free₁ free w c fits₁ fits h₁ h₂ = record {
    size = h₂.size ∙ h₁.size;
    plain = λ j l f m q. h₂.plain j l f m q ∙ h₁.plain j l f m q;
    counted = h₂.counted;
    listed = h₂.listed;
    blocks = record {
      chain = h₂.blocks.chain;
      entries = λ b l q z. h₂.blocks.entries b l q z ∙ h₁.blocks.entries b l q (omega (arith, times_append b bs r));
      content = h₂.blocks.content ∙ ap (λ (e : List ℕ). paste e (o + length xs) ys (length ys)) between
          ∙ paste_paste (bytes_of s a image (bs ++ r)) o xs ys (omega (arith, length_bytes s a image (bs ++ r) w));
      others = λ b l z. h₂.blocks.others b l z ∙ h₁.blocks.others b l (omega (arith, times_append b bs r));
    };
  }
    where
      front : Inside s a image bs
      front b q = w b (omega (arith, times_append b bs r))

      -- the new blocks of the second are none of the first's
      new : bytes_of s a mid r ≡ bytes_of s a image r
      new = bytes_same s a mid image r (λ b q. h₁.blocks.others b (w b (omega (arith, times_append b bs r))).0 (omega (arith, c b, times_append b bs r)))

      between : bytes_of s a mid (bs ++ r) ≡ paste (bytes_of s a image (bs ++ r)) o xs (length xs)
      between =
          bytes_append s a mid bs r ∙ ap₂ (λ (u v : List ℕ). u ++ v) h₁.blocks.content new
          ∙ sym (paste_front (bytes_of s a image bs) (bytes_of s a image r) o xs (omega (arith, length_bytes s a image bs front)))
          ∙ ap (λ (u : List ℕ). paste u o xs (length xs)) (sym (bytes_append s a image bs r))
