-- What `put_chain` and `put_free` leave in the map: each is a `Change` of the forks' lists of blocks.
use mathlib.Core.Path.{◌≡◌, refl, ap, ◌∙◌}
use mathlib.Core.List.{List, [], ◌∷◌, ◌++◌}
use mathlib.Core.Logic.{◌≢◌}
use Prim.Native.Nat.{ℕ, ◌+◌, ◌-◌, ◌*◌, ◌≤◌}
use native.Mathlib.Omega.{arith}
use native.Mathlib.Decide.{ℕ_discrete}
use lib.ListN.{length, take, drop}
use Rattle.model.specs.Lists.{times}
use Rattle.model.specs.Bytes.{half}
use Rattle.model.specs.Map.{map_entry, set_entry, blocks_free, behind, put_chain, put_free}
use Rattle.model.proofs.Times.{times_append, times_head, times_skip, times_tail}
use Rattle.laws.proofs.Entries.{length_set_entry, drop_set_entry, take_set_entry, map_entry_set_entry, map_entry_set_entry_other, Clear, half_set_entry}
use Rattle.laws.proofs.Sound.{held, held_append, Each, Linked, linked_keep, Used, used, Sound, changed}
use Rattle.laws.proofs.Free.{free_in, free_once}

-- only block numbers
abbrev pub InMap : ℕ → List ℕ → Type 0
InMap n bs = (b : ℕ) → 1 ≤ times b bs → (2 ≤ b) × (b ≤ n + 1)

-- none twice
abbrev pub Once : List ℕ → Type 0
Once bs = (b : ℕ) → times b bs ≤ 1

pub absent : (o b : ℕ) (bs : List ℕ) → times o (b ∷ bs) ≡ 0 → o ≢ b
absent o b bs z q = omega (arith, times_head b bs, ap (λ x. times x (b ∷ bs)) q)

pub other : (x b : ℕ) (bs : List ℕ) → times b (b ∷ bs) ≤ 1 → 1 ≤ times x bs → x ≢ b
other x b bs d p q = omega (arith, times_head b bs, ap (λ y. times y bs) q)

module _ (n : ℕ) (small : n ≤ 640) where
  put_same : (l : List ℕ) (b v : ℕ) → 2048 ≤ length l → 2 ≤ b → b ≤ n + 1 → v ≤ n + 1 → map_entry (set_entry l b v) b ≡ v
  put_same l b v big low high ok = map_entry_set_entry l b v (omega arith) (omega arith)

  put_other : (l : List ℕ) (b v o : ℕ) → 2048 ≤ length l → 2 ≤ b → b ≤ n + 1 → v ≤ n + 1 → 2 ≤ o → o ≢ b → map_entry (set_entry l b v) o ≡ map_entry l o
  put_other l b v o big low high ok lo ne = map_entry_set_entry_other l b v o (omega arith) (omega arith) low lo ne

  pub in_map_tail : (b : ℕ) (bs : List ℕ) → InMap n (b ∷ bs) → InMap n bs
  in_map_tail b bs w x p = w x (omega (arith, times_tail x b bs))

  pub in_map_head : (b : ℕ) (bs : List ℕ) → InMap n (b ∷ bs) → (2 ≤ b) × (b ≤ n + 1)
  in_map_head b bs w = w b (omega (arith, times_head b bs))

  pub behind_ok : (bs : List ℕ) → InMap n bs → behind bs ≤ n + 1
  unfolding behind
  behind_ok [] w = omega arith
  behind_ok (b ∷ bs) w = (in_map_head b bs w).1

  pub length_put_chain : (l bs : List ℕ) → length (put_chain l bs) ≡ length l
  unfolding put_chain
  length_put_chain l [] = refl
  length_put_chain l (b ∷ bs) = length_put_chain (set_entry l b (behind bs)) bs ∙ length_set_entry l b (behind bs)

  pub put_chain_other : (l bs : List ℕ) (o : ℕ) → 2048 ≤ length l → InMap n bs → 2 ≤ o → times o bs ≡ 0 → map_entry (put_chain l bs) o ≡ map_entry l o
  unfolding put_chain
  put_chain_other l [] o big w lo z = refl
  put_chain_other l (b ∷ bs) o big w lo z =
      let h = in_map_head b bs w in
      let t = in_map_tail b bs w in
      put_chain_other (set_entry l b (behind bs)) bs o (omega (arith, length_set_entry l b (behind bs))) t lo (omega (arith, times_tail o b bs))
      ∙ put_other l b (behind bs) o big h.0 h.1 (behind_ok bs t) lo (absent o b bs z)

  pub put_chain_links : (l bs : List ℕ) → 2048 ≤ length l → InMap n bs → Once bs → Linked (map_entry (put_chain l bs)) n bs
  unfolding put_chain Linked
  put_chain_links l [] big w d = tt
  put_chain_links l (b ∷ bs) big w d =
      let h = in_map_head b bs w in
      let t = in_map_tail b bs w in
      let m = set_entry l b (behind bs) in
      let g : 2048 ≤ length m = omega (arith, length_set_entry l b (behind bs)) in (
        h.0,
        h.1,
        put_chain_other m bs b g t h.0 (omega (arith, times_head b bs, d b)) ∙ put_same l b (behind bs) big h.0 h.1 (behind_ok bs t),
        put_chain_links m bs g t (λ x. omega (arith, d x, times_tail x b bs)),
      )

  pub length_put_free : (l bs : List ℕ) → length (put_free l bs) ≡ length l
  unfolding put_free
  length_put_free l [] = refl
  length_put_free l (b ∷ bs) = length_put_free (set_entry l b 0) bs ∙ length_set_entry l b 0

  pub put_free_other : (l bs : List ℕ) (o : ℕ) → 2048 ≤ length l → InMap n bs → 2 ≤ o → times o bs ≡ 0 → map_entry (put_free l bs) o ≡ map_entry l o
  unfolding put_free
  put_free_other l [] o big w lo z = refl
  put_free_other l (b ∷ bs) o big w lo z =
      let h = in_map_head b bs w in
      put_free_other (set_entry l b 0) bs o (omega (arith, length_set_entry l b 0)) (in_map_tail b bs w) lo (omega (arith, times_tail o b bs))
      ∙ put_other l b 0 o big h.0 h.1 (omega arith) lo (absent o b bs z)

  pub put_free_zero : (l bs : List ℕ) (o : ℕ) → 2048 ≤ length l → InMap n bs → 1 ≤ times o bs → map_entry (put_free l bs) o ≡ 0
  unfolding put_free times
  put_free_zero l [] o big w p = absurd (omega arith)
  put_free_zero l (b ∷ bs) o big w p =
      let h = in_map_head b bs w in
      let t = in_map_tail b bs w in
      let g : 2048 ≤ length (set_entry l b 0) = omega (arith, length_set_entry l b 0) in
      elim (ℕ_discrete (times o bs) 0) [
        | yes z ↦ elim (ℕ_discrete o b) [
          | yes q ↦ put_free_other (set_entry l b 0) bs o g t (w o p).0 z ∙ rw q (put_same l b 0 big h.0 h.1 (omega arith))
          | no q ↦ absurd (omega (arith, times_skip o b bs q))
        ]
        | no z ↦ put_free_zero (set_entry l b 0) bs o g t (omega arith)
      ]

  -- stores in the map stay in it
  pub put_chain_drop : (l bs : List ℕ) → InMap n bs → drop 2048 (put_chain l bs) ≡ drop 2048 l
  unfolding put_chain
  put_chain_drop l [] w = refl
  put_chain_drop l (b ∷ bs) w =
      put_chain_drop (set_entry l b (behind bs)) bs (in_map_tail b bs w) ∙ drop_set_entry l b (behind bs) 2048 (omega (arith, in_map_head b bs w)) (omega arith)

  pub put_free_drop : (l bs : List ℕ) → InMap n bs → drop 2048 (put_free l bs) ≡ drop 2048 l
  unfolding put_free
  put_free_drop l [] w = refl
  put_free_drop l (b ∷ bs) w = put_free_drop (set_entry l b 0) bs (in_map_tail b bs w) ∙ drop_set_entry l b 0 2048 (omega (arith, in_map_head b bs w)) (omega arith)

  pub put_chain_take : (l bs : List ℕ) → take 1088 (put_chain l bs) ≡ take 1088 l
  unfolding put_chain
  put_chain_take l [] = refl
  put_chain_take l (b ∷ bs) = put_chain_take (set_entry l b (behind bs)) bs ∙ take_set_entry l b (behind bs) 1088 (omega arith)

  pub put_free_take : (l bs : List ℕ) → take 1088 (put_free l bs) ≡ take 1088 l
  unfolding put_free
  put_free_take l [] = refl
  put_free_take l (b ∷ bs) = put_free_take (set_entry l b 0) bs ∙ take_set_entry l b 0 1088 (omega arith)

  -- no half-byte changes but those of the blocks' entries
  put_half : (l : List ℕ) (b v h : ℕ) → 2048 ≤ length l → 2 ≤ b → b ≤ n + 1 → v ≤ n + 1 → Clear (2176 + 3 * (b - 2)) (2179 + 3 * (b - 2)) h
      → half (set_entry l b v) h ≡ half l h
  put_half l b v h big low high ok c = half_set_entry l b v h (omega arith) (omega arith) c

  pub put_chain_half : (l bs : List ℕ) (h : ℕ) → 2048 ≤ length l → InMap n bs
      → ((b : ℕ) → 1 ≤ times b bs → Clear (2176 + 3 * (b - 2)) (2179 + 3 * (b - 2)) h) → half (put_chain l bs) h ≡ half l h
  unfolding put_chain
  put_chain_half l [] h big w c = refl
  put_chain_half l (b ∷ bs) h big w c =
      let i = in_map_head b bs w in
      let t = in_map_tail b bs w in
      put_chain_half (set_entry l b (behind bs)) bs h (omega (arith, length_set_entry l b (behind bs))) t (λ x p. c x (omega (arith, times_tail x b bs)))
      ∙ put_half l b (behind bs) h big i.0 i.1 (behind_ok bs t) (c b (omega (arith, times_head b bs)))

  pub put_free_half : (l bs : List ℕ) (h : ℕ) → 2048 ≤ length l → InMap n bs
      → ((b : ℕ) → 1 ≤ times b bs → Clear (2176 + 3 * (b - 2)) (2179 + 3 * (b - 2)) h) → half (put_free l bs) h ≡ half l h
  unfolding put_free
  put_free_half l [] h big w c = refl
  put_free_half l (b ∷ bs) h big w c =
      let i = in_map_head b bs w in
      put_free_half (set_entry l b 0) bs h (omega (arith, length_set_entry l b 0)) (in_map_tail b bs w) (λ x p. c x (omega (arith, times_tail x b bs)))
      ∙ put_half l b 0 h big i.0 i.1 (omega arith) (c b (omega (arith, times_head b bs)))

  -- ---- the three changes

  -- the blocks of a part of the lists: blocks, each once, none free
  module _ (e : ℕ → ℕ) (p m s : List (List ℕ)) (h : Sound e n (p ++ (m ++ s))) where
    inner : (b : ℕ) → held b m ≤ held b (p ++ (m ++ s))
    inner b = omega (arith, held_append b p (m ++ s), held_append b m s)

    pub part_used : (b : ℕ) → 1 ≤ held b m → Used e n b
    part_used b q = used e n (p ++ (m ++ s)) b h.linked (omega (arith, inner b))

    pub part_once : (b : ℕ) → held b m ≤ 1
    part_once b = omega (arith, inner b, h.once b)

  -- so one list
  pub one_in_map : (e : ℕ → ℕ) (p s : List (List ℕ)) (bs : List ℕ) → Sound e n (p ++ (bs ∷ s)) → InMap n bs
  unfolding held
  one_in_map e p s bs h b q = let u = part_used e p (bs ∷ []) s h b (omega arith) in (u.low, u.high)

  pub one_once : (e : ℕ → ℕ) (p s : List (List ℕ)) (bs : List ℕ) → Sound e n (p ++ (bs ∷ s)) → Once bs
  unfolding held
  one_once e p s bs h b = omega (arith, part_once e p (bs ∷ []) s h b)

  -- write: new blocks, all of them free, are joined behind a fork's
  pub record New (e : ℕ → ℕ) (r : List ℕ) : Type 0 where
    pub free : (b : ℕ) → 1 ≤ times b r → (2 ≤ b) × (b ≤ n + 1) × (e b ≡ 0)
    pub once : Once r

  module _ (l : List ℕ) (big : 2048 ≤ length l) (p s : List (List ℕ)) where
    pub write_sound : (bs r : List ℕ) → Sound (map_entry l) n (p ++ (bs ∷ s)) → New (map_entry l) r
        → Sound (map_entry (put_chain l (bs ++ r))) n (p ++ ((bs ++ r) ∷ s))
    unfolding Each held
    write_sound bs r h f = changed (map_entry l) (map_entry (put_chain l (bs ++ r))) n p (bs ∷ []) ((bs ++ r) ∷ []) s h record {
      links = (put_chain_links l (bs ++ r) big w d, tt);
      single = λ b. omega (arith, d b);
      fresh = λ b z q. (f.free b (omega (arith, times_append b bs r))).2;
      freed = λ b low high q z. absurd (omega (arith, times_append b bs r));
      others = λ b low high z q. put_chain_other l (bs ++ r) b big w low (omega arith);
    }
      where
        w : InMap n (bs ++ r)
        w b q =
            elim (ℕ_discrete (times b bs) 0) [
              | yes z ↦ let u = f.free b (omega (arith, times_append b bs r)) in (u.0, u.1)
              | no z ↦ let u = part_used (map_entry l) p (bs ∷ []) s h b (omega arith) in (u.low, u.high)
            ]

        d : Once (bs ++ r)
        d b =
            elim (ℕ_discrete (times b bs) 0) [
              | yes z ↦ omega (arith, times_append b bs r, f.once b)
              | no z ↦ let u = part_used (map_entry l) p (bs ∷ []) s h b (omega arith) in
                  elim (ℕ_discrete (times b r) 0) [
                    | yes y ↦ omega (arith, times_append b bs r, part_once (map_entry l) p (bs ∷ []) s h b)
                    | no y ↦ let v = f.free b (omega arith) in absurd (omega arith)
                  ]
            ]

    pub cut_sound : (bs r : List ℕ) → Sound (map_entry l) n (p ++ ((bs ++ r) ∷ s)) → Sound (map_entry (put_free (put_chain l bs) r)) n (p ++ (bs ∷ s))
    unfolding Each held
    cut_sound bs r h = changed (map_entry l) (map_entry (put_free (put_chain l bs) r)) n p ((bs ++ r) ∷ []) (bs ∷ []) s h record {
      links = (
        linked_keep (map_entry (put_chain l bs)) _ n bs (put_chain_links l bs big wb (λ b. omega (arith, t b)))
            (λ b q. put_free_other (put_chain l bs) r b big' wr (wb b q).0 (omega (arith, t b))),
        tt,
      );
      single = λ b. omega (arith, t b);
      fresh = λ b z q. absurd (omega (arith, times_append b bs r));
      freed = λ b low high q z. put_free_zero (put_chain l bs) r b big' wr (omega (arith, times_append b bs r));
      others =
          λ b low high z q. put_free_other (put_chain l bs) r b big' wr low (omega (arith, times_append b bs r)) ∙ put_chain_other l bs b big wb low (omega arith);
    }
      where
        u : (b : ℕ) → 1 ≤ times b bs + times b r → Used (map_entry l) n b
        u b q = part_used (map_entry l) p ((bs ++ r) ∷ []) s h b (omega (arith, times_append b bs r))

        t : (b : ℕ) → times b bs + times b r ≤ 1
        t b = omega (arith, times_append b bs r, part_once (map_entry l) p ((bs ++ r) ∷ []) s h b)

        wb : InMap n bs
        wb b q = let v = u b (omega arith) in (v.low, v.high)

        wr : InMap n r
        wr b q = let v = u b (omega arith) in (v.low, v.high)

        big' : 2048 ≤ length (put_chain l bs)
        big' = omega (arith, length_put_chain l bs)

    pub delete_sound : (c d : List ℕ) → Sound (map_entry l) n (p ++ (c ∷ d ∷ s)) → Sound (map_entry (put_free l (c ++ d))) n (p ++ s)
    unfolding Each held
    delete_sound c d h = changed (map_entry l) (map_entry (put_free l (c ++ d))) n p (c ∷ d ∷ []) [] s h record {
      links = tt;
      single = λ b. omega arith;
      fresh = λ b z q. absurd (omega arith);
      freed = λ b low high q z. put_free_zero l (c ++ d) b big w (omega (arith, times_append b c d));
      others = λ b low high z q. put_free_other l (c ++ d) b big w low (omega (arith, times_append b c d));
    }
      where
        w : InMap n (c ++ d)
        w b q = let v = part_used (map_entry l) p (c ∷ d ∷ []) s h b (omega (arith, times_append b c d)) in (v.low, v.high)

  -- the lowest k free blocks are new
  pub lowest_free : (e : ℕ → ℕ) (k : ℕ) → New e (take k (blocks_free e n))
  lowest_free e k = record { free = λ b q. free_in e n k b q; once = λ b. free_once e n k b }
