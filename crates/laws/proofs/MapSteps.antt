-- Write, cut, delete and create on the map and the blocks: checks 5, 8, 9 and 10 pass again, the forks have the bytes and
-- blocks that the change gives them, and nothing else changes. l'' is the image after the call: as the step leaves the map and the blocks, whatever stands in
-- the counts and the directory.
use mathlib.Core.Path.{◌≡◌, refl, sym, ap, ap₂, subst, ◌∙◌}
use mathlib.Core.List.{List, [], ◌∷◌, ◌++◌, map, append_assoc}
use mathlib.Core.Logic.{◌⊎◌, inl}
use Prim.Native.Nat.{ℕ, suc, ◌+◌, ◌-◌, ◌*◌, ◌≤◌, ◌<◌, max}
use native.Mathlib.Omega.{arith}
use native.Mathlib.Nat.{mul-le-mul_right, mul-div_left, zero-div}
use lib.ListN.{length, take, drop, length-append, take-append-drop}
use lib.Seq.{paste, length-paste, length-take-le, take-append-le}
use Rattle.model.specs.Lists.{first_or0, times, flat}
use Rattle.model.specs.Bytes.{part, half, Bytes}
use Rattle.model.specs.Facts.{N, A, S}
use Rattle.model.specs.Map.{map_entry, chain_blocks, blocks_free, put_chain, put_free}
use Rattle.model.specs.Directory.{block_count, fork_blocks}
use Rattle.model.specs.Check.{SoundFacts}
use Rattle.model.specs.Calls.{fewest, grown, bytes_of, fork_bytes, put_content}
use Rattle.model.specs.Bytes.{overwritten, Within}
use Rattle.model.specs.declared.VolumeFacts.{VolumeFacts}
use Rattle.model.specs.declared.ForkFacts.{ForkFacts}
use Rattle.model.specs.declared.LogicalBlock.{LogicalBlock}
use Rattle.model.proofs.Times.{times_append}
use Rattle.laws.proofs.Entries.{Clear, clear}
use Rattle.laws.proofs.Sound.{held, held_append, Each, each_left, each_right, Linked, used, Sound, changed}
use Rattle.laws.proofs.Chains.{Fields, length_fork_blocks, fields_blocks}
use Rattle.laws.proofs.Joins.{InMap, Once, New, write_sound, cut_sound, delete_sound, lowest_free, part_used, one_in_map, one_once, put_chain_other}
use Rattle.laws.proofs.Joins.{length_put_chain, length_put_free, put_chain_drop, put_free_drop, put_chain_take, put_free_take, put_chain_half, put_free_half}
use Rattle.laws.proofs.Content.{byte_of, Inside, same_drop, blocks_apart, bytes_drop, put_others, put_clear, put_half, length_put, content_own}
use Rattle.laws.proofs.Content.{length_bytes, bytes_append, overwritten_taken, bytes_cut, fewest_holds, fewest_least}
use Rattle.laws.proofs.MapChecks.{MapPasses, Fit, lists, Lists, free_length, to_lists, from_lists, fit_left, fit_right, reads, replaced, parted}
use Rattle.laws.proofs.Alike.{Alike, alike_sound, alike_bytes, entries_frame, sound_frame}
use Rattle.laws.proofs.Octets.{bytes_put_chain, bytes_put_free, bytes_put_content}

-- the allocation blocks lie behind the map, in the image
pub record Area (s : LogicalBlock) (a n : ℕ) (l : List ℕ) : Type 0 where
  pub few : n ≤ 640
  pub some : 0 < a
  pub low : 2048 ≤ 512 * s.0
  pub room : 512 * s.0 + n * a ≤ length l

-- the fields of a fork of m bytes in these blocks
abbrev pub fork_with : ℕ → ℕ → List ℕ → ForkFacts
fork_with a m bs = record { start = record { 0 = first_or0 bs }; logical = m; physical = length bs * a }

pub count_with : (a m : ℕ) (bs : List ℕ) → 0 < a → block_count a (fork_with a m bs) ≡ length bs
unfolding block_count
count_with a m bs pos = rw mul-div_left

pub sound_area : (f : VolumeFacts) (l : List ℕ) → SoundFacts f (length l) → Area (S f) (A f) (N f) l
sound_area f l h = record {
  few = h.layout.most;
  some = omega (arith, h.layout.large);
  low = omega (arith, h.layout.dir_behind, h.layout.dir_before);
  room = omega (arith, h.layout.backup, h.many);
}

-- ---- what a step leaves alone

-- the bytes before the map, those from its end to the blocks, and each half-byte that is neither in the blocks bs nor in their
-- entries
pub record Framed (s : LogicalBlock) (a : ℕ) (bs l m : List ℕ) : Type 0 where
  pub size : length m ≡ length l
  pub before : take 1088 m ≡ take 1088 l
  pub between : part 2048 (512 * s.0 - 2048) m ≡ part 2048 (512 * s.0 - 2048) l
  pub halves : (h : ℕ) → ((b : ℕ) → 1 ≤ times b bs → Within (byte_of s a b) a h → ⊥)
      → ((b : ℕ) → 1 ≤ times b bs → 2176 + 3 * (b - 2) ≤ h → h < 2179 + 3 * (b - 2) → ⊥) → half m h ≡ half l h

-- what a write stores: in m the blocks bs are joined, and xs are put at o of their bytes in l; all other entries and blocks stay
pub record BlocksStored (s : LogicalBlock) (a n : ℕ) (l m bs : List ℕ) (o : ℕ) (xs : List ℕ) : Type 0 where
  pub chain : Linked (map_entry m) n bs
  pub entries : (b : ℕ) → 2 ≤ b → b ≤ 641 → times b bs ≡ 0 → map_entry m b ≡ map_entry l b
  pub content : bytes_of s a m bs ≡ paste (bytes_of s a l bs) o xs (length xs)
  pub others : (b : ℕ) → 2 ≤ b → times b bs ≡ 0 → part (byte_of s a b) a m ≡ part (byte_of s a b) a l

clear_entry : (bs : List ℕ) (h : ℕ) → ((b : ℕ) → 1 ≤ times b bs → 2176 + 3 * (b - 2) ≤ h → h < 2179 + 3 * (b - 2) → ⊥)
    → (b : ℕ) → 1 ≤ times b bs → Clear (2176 + 3 * (b - 2)) (2179 + 3 * (b - 2)) h
clear_entry bs h c b p = clear (2176 + 3 * (b - 2)) (2179 + 3 * (b - 2)) h (c b p)

clear_block : (s : LogicalBlock) (a : ℕ) (bs : List ℕ) (h : ℕ) → ((b : ℕ) → 1 ≤ times b bs → Within (byte_of s a b) a h → ⊥)
    → (b : ℕ) → 1 ≤ times b bs → Clear (2 * byte_of s a b) (2 * byte_of s a b + 2 * a) h
clear_block s a bs h c b p = clear (2 * byte_of s a b) (2 * byte_of s a b + 2 * a) h (λ x y. c b p (x, y))

-- ---- the steps on lists of blocks

module _ (s : LogicalBlock) (a n : ℕ) (l : List ℕ) (ar : Area s a n l) where
  -- blocks lie in the image
  inside : (m bs : List ℕ) → length m ≡ length l → InMap n bs → Inside s a m bs
  inside m bs e w b p =
      let r = w b p in
      (r.0, omega (arith, mul-le-mul_right {m = suc (b - 2)} {n = n} a (omega arith)))

  -- write: bs ++ r are the blocks after it, m the logical length before it
  module _ (p t : List (List ℕ)) (bs r : List ℕ) (h : Sound (map_entry l) n (p ++ (bs ∷ t))) (f : New n ar.few (map_entry l) r)
      (m o : ℕ) (xs : List ℕ) (fits : m ≤ length bs * a) (at : o ≤ m) (holds : o + length xs ≤ length (bs ++ r) * a) where
    -- the image with the blocks joined, the bytes not yet stored
    abbrev chained : List ℕ
    chained = put_chain l (bs ++ r)

    abbrev stored : List ℕ
    stored = put_content s a chained (bs ++ r) o xs

    chained_sound : Sound (map_entry chained) n (p ++ ((bs ++ r) ∷ t))
    chained_sound = write_sound n ar.few l (omega arith) p t bs r h f

    within : InMap n (bs ++ r)
    within = one_in_map n ar.few (map_entry chained) p t (bs ++ r) chained_sound

    lies : Inside s a chained (bs ++ r)
    lies = inside chained (bs ++ r) (length_put_chain n ar.few l (bs ++ r)) within

    bytes_kept : (os : List ℕ) → bytes_of s a chained os ≡ bytes_of s a l os
    bytes_kept os = bytes_drop s a 2048 chained l os ar.low (put_chain_drop n ar.few l (bs ++ r) within)

    -- as many bytes are put as the blocks hold
    whole : length (bs ++ r) * a ≤ length (paste (bytes_of s a chained (bs ++ r)) o xs (length xs))
    whole =
        let e = length_bytes s a chained (bs ++ r) lies in
        omega (arith, length-paste (bytes_of s a chained (bs ++ r)) o xs (length xs) (omega arith) (omega arith))

    -- what lies clear of the blocks, and not in the map, stays
    write_clear : (q j : ℕ) → ((b : ℕ) → 1 ≤ times b (bs ++ r) → (q + j ≤ byte_of s a b) ⊎ (byte_of s a b + a ≤ q)) → part q j stored ≡ part q j chained
    unfolding put_content
    write_clear q j k = put_clear s a q j chained (bs ++ r) _ lies whole k

    stored_frame : Framed s a (bs ++ r) l stored
    unfolding put_content
    stored_frame = record {
      size = length_put s a chained (bs ++ r) _ lies whole ∙ length_put_chain n ar.few l (bs ++ r);
      before = write_clear 0 1088 (λ b q. inl (omega arith)) ∙ put_chain_take n ar.few l (bs ++ r);
      between = write_clear 2048 (512 * s.0 - 2048) (λ b q. inl (omega arith))
          ∙ ap (take (512 * s.0 - 2048)) (put_chain_drop n ar.few l (bs ++ r) within);
      halves = λ h c d. put_half s a chained (bs ++ r) _ h lies whole (clear_block s a (bs ++ r) h c)
          ∙ put_chain_half n ar.few l (bs ++ r) h (omega arith) within (clear_entry (bs ++ r) h d);
    }

    stored_sound : Sound (map_entry stored) n (p ++ ((bs ++ r) ∷ t))
    stored_sound = sound_frame (map_entry chained) (map_entry stored) n (p ++ ((bs ++ r) ∷ t)) chained_sound
        λ b low high. entries_frame stored chained b (omega arith) (write_clear 1088 960 (λ x q. inl (omega arith)))

    once : Once (bs ++ r)
    once = one_once n ar.few (map_entry chained) p t (bs ++ r) chained_sound

    -- the blocks' own bytes, the other entries and the other blocks
    stored_content : bytes_of s a stored (bs ++ r) ≡ paste (bytes_of s a l (bs ++ r)) o xs (length xs)
    stored_content = content_own s a chained (bs ++ r) o xs lies once holds ∙ ap (λ x. paste x o xs (length xs)) (bytes_kept (bs ++ r))

    stored_entries : (b : ℕ) → 2 ≤ b → b ≤ 641 → times b (bs ++ r) ≡ 0 → map_entry stored b ≡ map_entry l b
    stored_entries b low high z =
        entries_frame stored chained b high (write_clear 1088 960 (λ x q. inl (omega arith)))
        ∙ put_chain_other n ar.few l (bs ++ r) b (omega arith) within low z

    stored_blocks : (b : ℕ) → 2 ≤ b → times b (bs ++ r) ≡ 0 → part (byte_of s a b) a stored ≡ part (byte_of s a b) a l
    stored_blocks b low z =
        write_clear (byte_of s a b) a (λ x q. blocks_apart s a b x low (within x q).0 (λ e. omega (arith, ap (λ y. times y (bs ++ r)) e)))
        ∙ ap (take a) (same_drop 2048 (byte_of s a b) chained l (omega arith) (put_chain_drop n ar.few l (bs ++ r) within))

    -- the fork's bytes are the old ones with the written part replaced
    stored_own : take (grown m o (length xs)) (bytes_of s a stored (bs ++ r)) ≡ overwritten (take m (bytes_of s a l bs)) o xs
    unfolding grown
    stored_own =
        let i = inside l bs refl (one_in_map n ar.few (map_entry l) p t bs h) in
        let k = length_bytes s a l bs i in
        ap (take (max m (o + length xs))) (stored_content ∙ ap (λ x. paste x o xs (length xs)) (bytes_append s a l bs r))
        ∙ overwritten_taken (bytes_of s a l bs ++ bytes_of s a l r) o m xs at (omega (arith, length-append (bytes_of s a l bs) (bytes_of s a l r)))
        ∙ ap (λ x. overwritten x o xs) (take-append-le m (bytes_of s a l bs) (bytes_of s a l r) (omega arith))

    -- every other fork's bytes stay
    stored_others : (os : List ℕ) → ((b : ℕ) → 1 ≤ times b os → 1 ≤ held b (p ++ t)) → bytes_of s a stored os ≡ bytes_of s a l os
    unfolding put_content held
    stored_others os k =
        put_others s a chained (bs ++ r) _ os lies whole
        (λ b q.
        let x = k b q in
        let g = held_append b p t in
        let d = held_append b p ((bs ++ r) ∷ t) in
        let u = used (map_entry chained) n (p ++ ((bs ++ r) ∷ t)) b chained_sound.linked (omega arith) in
        (u.low, omega (arith, chained_sound.once b)))
        ∙ bytes_kept os

  -- a step that stores in the map alone: bs are joined, then r freed
  module _ (bs r : List ℕ) (w : InMap n (bs ++ r)) where
    abbrev freed : List ℕ
    freed = put_free (put_chain l bs) r

    wb : InMap n bs
    wb b q = w b (omega (arith, times_append b bs r))

    wr : InMap n r
    wr b q = w b (omega (arith, times_append b bs r))

    freed_drop : drop 2048 freed ≡ drop 2048 l
    freed_drop = put_free_drop n ar.few (put_chain l bs) r wr ∙ put_chain_drop n ar.few l bs wb

    freed_frame : Framed s a (bs ++ r) l freed
    freed_frame = record {
      size = length_put_free n ar.few (put_chain l bs) r ∙ length_put_chain n ar.few l bs;
      before = put_free_take n ar.few (put_chain l bs) r ∙ put_chain_take n ar.few l bs;
      between = ap (take (512 * s.0 - 2048)) freed_drop;
      halves = λ h c d.
          put_free_half n ar.few (put_chain l bs) r h (omega (arith, length_put_chain n ar.few l bs)) wr
          (λ b q. clear_entry (bs ++ r) h d b (omega (arith, times_append b bs r)))
          ∙ put_chain_half n ar.few l bs h (omega arith) wb (λ b q. clear_entry (bs ++ r) h d b (omega (arith, times_append b bs r)));
    }

    freed_bytes : (os : List ℕ) → bytes_of s a freed os ≡ bytes_of s a l os
    freed_bytes os = bytes_drop s a 2048 freed l os ar.low freed_drop

-- ---- what the forks read as

-- a fork with these fields reads as the first bytes of its blocks
reads_as : (s : LogicalBlock) (a n : ℕ) (l : List ℕ) (g : ForkFacts) (bs : List ℕ) → 0 < a → Linked (map_entry l) n bs → Fields a g bs
    → fork_bytes s a l g ≡ take g.logical (bytes_of s a l bs)
unfolding fork_bytes
reads_as s a n l g bs pos h f = ap (λ x. take g.logical (bytes_of s a l x)) (fields_blocks (map_entry l) n a g bs pos h f)

-- forks whose blocks keep their bytes read as before
kept : (s : LogicalBlock) (a n : ℕ) (l m : List ℕ) (gs : List ForkFacts) (bss : List (List ℕ)) → 0 < a → Fit a gs bss → Each (Linked (map_entry l) n) bss
    → Each (Linked (map_entry m) n) bss
    → ((os : List ℕ) → ((b : ℕ) → 1 ≤ times b os → 1 ≤ held b bss) → bytes_of s a m os ≡ bytes_of s a l os) → map (fork_bytes s a m) gs ≡ map (fork_bytes s a l) gs
unfolding Fit Each held
kept s a n l m [] [] pos f x y k = refl
kept s a n l m [] (bs ∷ bss) pos f x y k = absurd f
kept s a n l m (g ∷ gs) [] pos f x y k = absurd f
kept s a n l m (g ∷ gs) (bs ∷ bss) pos f x y k =
    ap₂ (λ u v. u ∷ v)
    (reads_as s a n m g bs pos y.0 f.0 ∙ ap (take g.logical) (k bs (λ b q. omega arith)) ∙ sym (reads_as s a n l g bs pos x.0 f.0))
    (kept s a n l m gs bss pos f.1 x.1 y.1 (λ os c. k os (λ b q. omega (arith, c b q))))

-- the image m passes with the forks now between p and t, and those of p and t have the bytes and the blocks that they have in l
pub record ForksChanged (s : LogicalBlock) (a n free : ℕ) (l m : List ℕ) (p now t : List ForkFacts) : Type 0 where
  pub passes : MapPasses (map_entry m) n a free (p ++ (now ++ t))
  pub bytes_before : map (fork_bytes s a m) p ≡ map (fork_bytes s a l) p
  pub bytes_behind : map (fork_bytes s a m) t ≡ map (fork_bytes s a l) t
  pub blocks_before : map (fork_blocks (map_entry m) a) p ≡ map (fork_blocks (map_entry l) a) p
  pub blocks_behind : map (fork_blocks (map_entry m) a) t ≡ map (fork_blocks (map_entry l) a) t

around : (s : LogicalBlock) (a n free free' : ℕ) (l l'' : List ℕ) (p m m' t : List ForkFacts) (x : List (List ℕ)) → 0 < a
    → MapPasses (map_entry l) n a free (p ++ (m ++ t))
    → Lists (map_entry l'') n a free' (p ++ (m' ++ t)) (lists (map_entry l) a p ++ (x ++ lists (map_entry l) a t))
    → ((os : List ℕ) → ((b : ℕ) → 1 ≤ times b os → 1 ≤ held b (lists (map_entry l) a p ++ lists (map_entry l) a t)) → bytes_of s a l'' os ≡ bytes_of s a l os)
    → ForksChanged s a n free' l l'' p m' t
around s a n free free' l l'' p m m' t x pos h k c =
    let e = map_entry l in
    let lp = lists e a p in
    let lt = lists e a t in
    let f = (to_lists e n a free (p ++ (m ++ t)) h).fits in
    let fp = fit_left e a p (m ++ t) f in
    let ft = fit_right e a m t (fit_right e a p (m ++ t) f) in
    let b = (parted e n a free p m t h).linked in
    let d = k.sound.linked in
    let dp = each_left (Linked (map_entry l'') n) lp (x ++ lt) d in
    let dt = each_right (Linked (map_entry l'') n) x lt (each_right (Linked (map_entry l'') n) lp (x ++ lt) d) in
    record {
      passes = from_lists (map_entry l'') n a free' (p ++ (m' ++ t)) _ pos k;
      bytes_before =
          kept s a n l l'' p lp pos fp (each_left (Linked e n) lp (lists e a m ++ lt) b) dp (λ os q. c os (λ i r. omega (arith, q i r, held_append i lp lt)));
      bytes_behind = kept s a n l l'' t lt pos ft
          (each_right (Linked e n) (lists e a m) lt (each_right (Linked e n) lp (lists e a m ++ lt) b)) dt
          (λ os q. c os (λ i r. omega (arith, q i r, held_append i lp lt)));
      blocks_before = reads (map_entry l'') n a p lp pos fp dp;
      blocks_behind = reads (map_entry l'') n a t lt pos ft dt;
    }

-- ---- the calls

-- write of xs at o to the fork g that takes so many new blocks: its logical length then, its blocks then, and the map and the blocks then
abbrev pub size_after : ForkFacts → ℕ → List ℕ → ℕ
size_after g o xs = grown g.logical o (length xs)

abbrev pub blocks_after : (ℕ → ℕ) → ℕ → ℕ → ForkFacts → ℕ → List ℕ
blocks_after e n a g many = fork_blocks e a g ++ take many (blocks_free e n)

abbrev pub after_write : LogicalBlock → ℕ → ℕ → List ℕ → ForkFacts → ℕ → ℕ → List ℕ → List ℕ
after_write s a n l g many o xs = put_content s a (put_chain l (blocks_after (map_entry l) n a g many)) (blocks_after (map_entry l) n a g many) o xs

-- cut of the fork g to m bytes: the blocks that it keeps, those that become free, and the map then
abbrev pub kept_blocks : (ℕ → ℕ) → ℕ → ForkFacts → ℕ → List ℕ
kept_blocks e a g m = take (fewest m a) (fork_blocks e a g)

abbrev pub freed_blocks : (ℕ → ℕ) → ℕ → ForkFacts → ℕ → List ℕ
freed_blocks e a g m = drop (fewest m a) (fork_blocks e a g)

abbrev pub after_cut : ℕ → List ℕ → ForkFacts → ℕ → List ℕ
after_cut a l g m = put_free (put_chain l (kept_blocks (map_entry l) a g m)) (freed_blocks (map_entry l) a g m)

-- delete of a file with the forks g and r: the blocks that become free
abbrev pub both_blocks : (ℕ → ℕ) → ℕ → ForkFacts → ForkFacts → List ℕ
both_blocks e a g r = fork_blocks e a g ++ fork_blocks e a r

-- the forks of a new file
abbrev pub blank_fork : ForkFacts
blank_fork = record { start = record { 0 = 0 }; logical = 0; physical = 0 }

module _ (s : LogicalBlock) (a n free : ℕ) (l : List ℕ) (ar : Area s a n l) where
  module _ (p t : List ForkFacts) (g : ForkFacts) (h : MapPasses (map_entry l) n a free (p ++ (g ∷ t))) where
    abbrev old : List ℕ
    old = fork_blocks (map_entry l) a g

    old_sound : Sound (map_entry l) n (lists (map_entry l) a p ++ (old ∷ lists (map_entry l) a t))
    old_sound = parted (map_entry l) n a free p (g ∷ []) t h

    old_fields : Fields a g old
    unfolding Fit
    old_fields = (fit_right (map_entry l) a p (g ∷ t) (to_lists (map_entry l) n a free (p ++ (g ∷ t)) h).fits).0

    pub old_linked : Linked (map_entry l) n (fork_blocks (map_entry l) a g)
    unfolding Each
    old_linked = (each_right (Linked (map_entry l) n) (lists (map_entry l) a p) (old ∷ lists (map_entry l) a t) old_sound.linked).0

    old_in_map : InMap n old
    old_in_map = one_in_map n ar.few (map_entry l) (lists (map_entry l) a p) (lists (map_entry l) a t) old old_sound

    -- a fork has as many bytes as its logical length says
    pub length_fork_bytes : length (fork_bytes s a l g) ≡ g.logical
    unfolding fork_bytes
    length_fork_bytes = length-take-le g.logical (bytes_of s a l old)
        (omega (arith, length_bytes s a l old (inside s a n l ar l old refl old_in_map), old_fields.logical))

    -- write of xs at o that takes so many new blocks: these are free, and with them the fork holds its bytes
    module _ (many o : ℕ) (xs : List ℕ) (at : o ≤ g.logical) (enough : many ≤ free) (holds : size_after g o xs ≤ (block_count a g + many) * a) where
      abbrev size : ℕ
      size = size_after g o xs

      abbrev new : List ℕ
      new = take many (blocks_free (map_entry l) n)

      abbrev image : List ℕ
      image = put_content s a (put_chain l (old ++ new)) (old ++ new) o xs

      length_new : length new ≡ many
      length_new = length-take-le many (blocks_free (map_entry l) n) (omega (arith, free_length (map_entry l) n a free (p ++ (g ∷ t)) h))

      write_length : length (blocks_after (map_entry l) n a g many) ≡ block_count a g + many
      write_length = omega (arith, length-append old new, length_new, length_fork_blocks (map_entry l) a g)

      pub write_holds : size_after g o xs ≤ length (blocks_after (map_entry l) n a g many) * a
      write_holds = rw write_length holds

      new_free : New n ar.few (map_entry l) new
      new_free = lowest_free n ar.few (map_entry l) many

      fits : g.logical ≤ length old * a
      fits = old_fields.logical

      room : o + length xs ≤ length (old ++ new) * a
      unfolding grown
      room = omega (arith, write_holds)

      fields : Fields a (fork_with a size (old ++ new)) (old ++ new)
      fields = record { start = refl; physical = refl; logical = write_holds }

      write_lists : (l'' : List ℕ) → Alike s l'' image
          → Lists (map_entry l'') n a (free - many) (p ++ (fork_with a size (old ++ new) ∷ t)) (lists (map_entry l) a p ++ ((old ++ new) ∷ lists (map_entry l) a t))
      unfolding Fit flat
      write_lists l'' k =
          replaced (map_entry l) (map_entry l'') n a free (free - many) p (g ∷ []) (fork_with a size (old ++ new) ∷ []) t ((old ++ new) ∷ []) h (fields, tt)
          (omega (arith, length-append (old ++ new) [], length-append old [], length-append old new, length_new))
          (alike_sound s n l'' image _ ar.few k
          (stored_sound s a n l ar (lists (map_entry l) a p) (lists (map_entry l) a t) old new old_sound new_free g.logical o xs fits at room))

      -- ---- write

      pub write_frame : Framed s a (blocks_after (map_entry l) n a g many) l (after_write s a n l g many o xs)
      write_frame = stored_frame s a n l ar (lists (map_entry l) a p) (lists (map_entry l) a t) old new old_sound new_free g.logical o xs fits at room

      pub write_once : Once (blocks_after (map_entry l) n a g many)
      write_once = once s a n l ar (lists (map_entry l) a p) (lists (map_entry l) a t) old new old_sound new_free g.logical o xs fits at room

      pub write_inside : Inside s a l (blocks_after (map_entry l) n a g many)
      write_inside = inside s a n l ar l (old ++ new) refl
          (within s a n l ar (lists (map_entry l) a p) (lists (map_entry l) a t) old new old_sound new_free g.logical o xs fits at room)

      pub write_count : block_count a (fork_with a (size_after g o xs) (blocks_after (map_entry l) n a g many)) ≡ block_count a g + many
      write_count = count_with a size (old ++ new) ar.some ∙ write_length

      pub write_bytes : Bytes l → Bytes xs → Bytes (after_write s a n l g many o xs)
      write_bytes b c =
          let w = within s a n l ar (lists (map_entry l) a p) (lists (map_entry l) a t) old new old_sound new_free g.logical o xs fits at room in
          bytes_put_content s a (put_chain l (old ++ new)) (old ++ new) o xs (bytes_put_chain n ar.few l (old ++ new) w b) c

      module _ (l'' : List ℕ) (k : Alike s l'' (after_write s a n l g many o xs)) where
        pub write_changed : ForksChanged s a n (free - many) l l'' p
            (fork_with a (size_after g o xs) (blocks_after (map_entry l) n a g many) ∷ []) t
        write_changed =
            around s a n free (free - many) l l'' p (g ∷ []) (fork_with a size (old ++ new) ∷ []) t ((old ++ new) ∷ []) ar.some h (write_lists l'' k)
            λ os c. alike_bytes s a l'' image os k
            ∙ stored_others s a n l ar (lists (map_entry l) a p) (lists (map_entry l) a t) old new old_sound new_free g.logical o xs fits at room os c

        after_linked : Linked (map_entry l'') n (old ++ new)
        unfolding Each
        after_linked =
            (each_right (Linked (map_entry l'') n) (lists (map_entry l) a p) ((old ++ new) ∷ lists (map_entry l) a t) (write_lists l'' k).sound.linked).0

        pub write_stores : BlocksStored s a n l l'' (blocks_after (map_entry l) n a g many) o xs
        write_stores =
            let e = stored_entries s a n l ar (lists (map_entry l) a p) (lists (map_entry l) a t) old new old_sound new_free g.logical o xs fits at room in
            let c = stored_content s a n l ar (lists (map_entry l) a p) (lists (map_entry l) a t) old new old_sound new_free g.logical o xs fits at room in
            let b = stored_blocks s a n l ar (lists (map_entry l) a p) (lists (map_entry l) a t) old new old_sound new_free g.logical o xs fits at room in
            record {
              chain = after_linked;
              entries = λ x low high z. entries_frame l'' image x high k.entries ∙ e x low high z;
              content = alike_bytes s a l'' image (old ++ new) k ∙ c;
              others = λ x low z. ap (take a) (same_drop (512 * s.0) (byte_of s a x) l'' image (omega arith) k.blocks) ∙ b x low z;
            }

        pub write_blocks : fork_blocks (map_entry l'') a (fork_with a (size_after g o xs) (blocks_after (map_entry l) n a g many)) ≡ blocks_after
            (map_entry l) n a g many
        write_blocks = fields_blocks (map_entry l'') n a (fork_with a size (old ++ new)) (old ++ new) ar.some after_linked fields

        pub write_own : fork_bytes s a l'' (fork_with a (size_after g o xs) (blocks_after (map_entry l) n a g many)) ≡ overwritten (fork_bytes s a l g) o xs
        write_own =
            reads_as s a n l'' (fork_with a size (old ++ new)) (old ++ new) ar.some after_linked fields
            ∙ ap (take size) (alike_bytes s a l'' image (old ++ new) k)
            ∙ stored_own s a n l ar (lists (map_entry l) a p) (lists (map_entry l) a t) old new old_sound new_free g.logical o xs fits at room
            ∙ ap (λ x. overwritten x o xs) (sym (reads_as s a n l g old ar.some old_linked old_fields))

    -- ---- cut to c bytes

    module _ (c : ℕ) (at : c ≤ g.logical) where
      abbrev front : List ℕ
      front = take (fewest c a) old

      abbrev gone : List ℕ
      gone = drop (fewest c a) old

      split : front ++ gone ≡ old
      split = take-append-drop (fewest c a) old

      split_sound : Sound (map_entry l) n (lists (map_entry l) a p ++ ((front ++ gone) ∷ lists (map_entry l) a t))
      split_sound = rw split old_sound

      split_in_map : InMap n (front ++ gone)
      split_in_map = rw split old_in_map

      length_front : length front ≡ fewest c a
      length_front = length-take-le (fewest c a) old (fewest_least c a (length old) ar.some (omega (arith, old_fields.logical)))

      front_holds : c ≤ length front * a
      front_holds = rw length_front (fewest_holds c a ar.some)

      front_fields : Fields a (fork_with a c front) front
      front_fields = record { start = refl; physical = refl; logical = front_holds }

      cut_lists : (l'' : List ℕ) → Alike s l'' (put_free (put_chain l front) gone)
          → Lists (map_entry l'') n a (free + length gone) (p ++ (fork_with a c front ∷ t)) (lists (map_entry l) a p ++ (front ∷ lists (map_entry l) a t))
      unfolding Fit flat
      cut_lists l'' k =
          replaced (map_entry l) (map_entry l'') n a free (free + length gone) p (g ∷ []) (fork_with a c front ∷ []) t (front ∷ []) h (front_fields, tt)
          (omega (arith, length-append front [], length-append old [], length-append front gone, ap length split))
          (alike_sound s n l'' (put_free (put_chain l front) gone) _ ar.few k
          (cut_sound n ar.few l (omega arith) (lists (map_entry l) a p) (lists (map_entry l) a t) front gone split_sound))

      pub cut_frame : Framed s a (fork_blocks (map_entry l) a g) l (after_cut a l g c)
      cut_frame = subst (λ x. Framed s a x l (put_free (put_chain l front) gone)) split (freed_frame s a n l ar front gone split_in_map)

      -- the blocks' bytes are unchanged
      pub cut_drop : drop 2048 (after_cut a l g c) ≡ drop 2048 l
      cut_drop = freed_drop s a n l ar front gone split_in_map

      pub cut_count : block_count a (fork_with a c (kept_blocks (map_entry l) a g c)) ≡ fewest c a
      cut_count = count_with a c front ar.some ∙ length_front

      -- the blocks kept and those freed are the fork's
      pub cut_freed_lem : fewest c a + length (freed_blocks (map_entry l) a g c) ≡ block_count a g
      cut_freed_lem = omega (arith, length-append front gone, ap length split, length_front, length_fork_blocks (map_entry l) a g)

      pub cut_bytes : Bytes l → Bytes (after_cut a l g c)
      cut_bytes b = bytes_put_free (put_chain l front) gone (bytes_put_chain n ar.few l front (wb s a n l ar front gone split_in_map) b)

      module _ (l'' : List ℕ) (k : Alike s l'' (after_cut a l g c)) where
        all_kept : (os : List ℕ) → bytes_of s a l'' os ≡ bytes_of s a l os
        all_kept os = alike_bytes s a l'' (put_free (put_chain l front) gone) os k ∙ freed_bytes s a n l ar front gone split_in_map os

        pub cut_changed : ForksChanged s a n (free + length (freed_blocks (map_entry l) a g c)) l l'' p (fork_with a c (kept_blocks (map_entry l) a g c) ∷ []) t
        cut_changed =
            around s a n free (free + length gone) l l'' p (g ∷ []) (fork_with a c front ∷ []) t (front ∷ []) ar.some h (cut_lists l'' k) (λ os q. all_kept os)

        front_linked : Linked (map_entry l'') n front
        unfolding Each
        front_linked =
            (each_right (Linked (map_entry l'') n) (lists (map_entry l) a p) (front ∷ lists (map_entry l) a t) (cut_lists l'' k).sound.linked).0

        pub cut_blocks_lem : fork_blocks (map_entry l'') a (fork_with a c (kept_blocks (map_entry l) a g c)) ≡ kept_blocks (map_entry l) a g c
        cut_blocks_lem = fields_blocks (map_entry l'') n a (fork_with a c front) front ar.some front_linked front_fields

        pub cut_own : fork_bytes s a l'' (fork_with a c (kept_blocks (map_entry l) a g c)) ≡ take c (fork_bytes s a l g)
        cut_own =
            let i = inside s a n l ar l front refl (wb s a n l ar front gone split_in_map) in
            reads_as s a n l'' (fork_with a c front) front ar.some front_linked front_fields
            ∙ ap (take c) (all_kept front)
            ∙ bytes_cut s a l front gone c g.logical at (omega (arith, length_bytes s a l front i, front_holds))
            ∙ ap (λ x. take c (take g.logical (bytes_of s a l x))) split
            ∙ ap (take c) (sym (reads_as s a n l g old ar.some old_linked old_fields))

  -- ---- delete of a file with the forks g and r

  module _ (p t : List ForkFacts) (g r : ForkFacts) (h : MapPasses (map_entry l) n a free (p ++ (g ∷ r ∷ t))) where
    abbrev gs : List ℕ
    gs = fork_blocks (map_entry l) a g

    abbrev rs : List ℕ
    rs = fork_blocks (map_entry l) a r

    both_sound : Sound (map_entry l) n (lists (map_entry l) a p ++ (gs ∷ rs ∷ lists (map_entry l) a t))
    both_sound = parted (map_entry l) n a free p (g ∷ r ∷ []) t h

    both_in_map : InMap n (gs ++ rs)
    unfolding held
    both_in_map b q =
        let u = part_used n ar.few (map_entry l) (lists (map_entry l) a p) (gs ∷ rs ∷ []) (lists (map_entry l) a t) both_sound b
        (omega (arith, times_append b gs rs)) in
        (u.low, u.high)

    pub delete_frame : Framed s a (both_blocks (map_entry l) a g r) l (put_free l (both_blocks (map_entry l) a g r))
    unfolding put_chain
    delete_frame = freed_frame s a n l ar [] (gs ++ rs) both_in_map

    -- the blocks' bytes are unchanged
    pub delete_drop : drop 2048 (put_free l (both_blocks (map_entry l) a g r)) ≡ drop 2048 l
    unfolding put_chain
    delete_drop = freed_drop s a n l ar [] (gs ++ rs) both_in_map

    pub delete_freed_lem : length (both_blocks (map_entry l) a g r) ≡ block_count a g + block_count a r
    delete_freed_lem = omega (arith, length-append gs rs, length_fork_blocks (map_entry l) a g, length_fork_blocks (map_entry l) a r)

    pub delete_bytes : Bytes l → Bytes (put_free l (both_blocks (map_entry l) a g r))
    delete_bytes b = bytes_put_free l (gs ++ rs) b

    pub delete_changed : (l'' : List ℕ) → Alike s l'' (put_free l (both_blocks (map_entry l) a g r))
        → ForksChanged s a n (free + length (both_blocks (map_entry l) a g r)) l l'' p [] t
    unfolding Fit flat
    delete_changed l'' k =
        around s a n free (free + length (gs ++ rs)) l l'' p (g ∷ r ∷ []) [] t [] ar.some h
        (replaced (map_entry l) (map_entry l'') n a free (free + length (gs ++ rs)) p (g ∷ r ∷ []) [] t [] h tt
        (omega (arith, length-append gs rs, length-append gs (rs ++ []), length-append rs []))
        (alike_sound s n l'' (put_free l (gs ++ rs)) _ ar.few k
        (delete_sound n ar.few l (omega arith) (lists (map_entry l) a p) (lists (map_entry l) a t) gs rs both_sound)))
        λ os q. alike_bytes s a l'' (put_free l (gs ++ rs)) os k ∙ bytes_drop s a 2048 (put_free l (gs ++ rs)) l os ar.low delete_drop

  -- ---- create of a file with empty forks

  module _ (p t : List ForkFacts) (h : MapPasses (map_entry l) n a free (p ++ t)) (l'' : List ℕ) (k : Alike s l'' l) where
    pub create_changed : ForksChanged s a n free l l'' p (blank_fork ∷ blank_fork ∷ []) t
    unfolding Fit flat Each Linked held times first_or0
    create_changed =
        let none : Fields a blank_fork [] = record { start = refl; physical = omega arith; logical = omega arith } in
        around s a n free free l l'' p [] (blank_fork ∷ blank_fork ∷ []) t ([] ∷ [] ∷ []) ar.some h
        (replaced (map_entry l) (map_entry l'') n a free free p [] (blank_fork ∷ blank_fork ∷ []) t ([] ∷ [] ∷ []) h (none, (none, tt)) refl
        (alike_sound s n l'' l (lists (map_entry l) a p ++ ([] ∷ [] ∷ lists (map_entry l) a t)) ar.few k
        (changed (map_entry l) (map_entry l) n (lists (map_entry l) a p) [] ([] ∷ [] ∷ []) (lists (map_entry l) a t)
        (parted (map_entry l) n a free p [] t h) record {
          links = (tt, (tt, tt));
          single = λ b. omega arith;
          fresh = λ b z q. absurd (omega arith);
          freed = λ b low high q z. absurd (omega arith);
          others = λ b low high z q. refl;
        })))
        λ os q. alike_bytes s a l'' l os k

  -- ---- stores elsewhere alone

  pub alike_changed : (gs : List ForkFacts) → MapPasses (map_entry l) n a free gs → (l'' : List ℕ) → Alike s l'' l → ForksChanged s a n free l l'' [] [] gs
  alike_changed gs h l'' k =
      let x = to_lists (map_entry l) n a free gs h in
      around s a n free free l l'' [] [] [] gs [] ar.some h
      (record { fits = x.fits; sound = alike_sound s n l'' l (lists (map_entry l) a gs) ar.few k x.sound; count = x.count })
      λ os q. alike_bytes s a l'' l os k

  -- ---- each fork has as many bytes as its logical length says

  pub fork_lengths : (gs : List ForkFacts) → MapPasses (map_entry l) n a free gs → Each (λ x. length (fork_bytes s a l x) ≡ x.logical) gs
  unfolding Each
  fork_lengths gs h = go [] gs h
    where
      go : (p t : List ForkFacts) → MapPasses (map_entry l) n a free (p ++ t) → Each (λ x. length (fork_bytes s a l x) ≡ x.logical) t
      go p [] k = tt
      go p (g ∷ t) k = (length_fork_bytes p t g k, go (p ++ (g ∷ [])) t (rw (append_assoc p (g ∷ []) t) k))

-- an empty fork has no bytes and no blocks
pub blank_bytes : (s : LogicalBlock) (a : ℕ) (l : List ℕ) → fork_bytes s a l blank_fork ≡ []
unfolding fork_bytes
blank_bytes s a l = refl

pub blank_count : (a : ℕ) → block_count a blank_fork ≡ 0
unfolding block_count
blank_count a = zero-div a

pub blank_blocks : (e : ℕ → ℕ) (a : ℕ) → fork_blocks e a blank_fork ≡ []
unfolding fork_blocks chain_blocks
blank_blocks e a = rw (blank_count a)
