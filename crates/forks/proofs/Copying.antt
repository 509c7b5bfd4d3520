-- Laws of the copying of a fork's bytes, block by block, and that an accepted image's forks can be copied.
use Prim.Native.Nat.{ℕ, zero, suc, ◌+◌, ◌-◌, ◌*◌, ◌/◌, ◌%◌, ◌≤◌, ◌<◌}
use mathlib.Core.Path.{◌≡◌, sym, ap, subst, ◌∙◌}
use mathlib.Core.Bool.{true}
use mathlib.Core.List.{List, [], ◌∷◌, ◌++◌}
use native.Mathlib.Omega.{arith}
use native.Mathlib.Nat.{mul-le-mul_right, div-add-mod', div-lt_iff_lt-mul}
use lib.ListN.{length, get_or, take, drop, length-drop}
use lib.Seq.{paste, take_at, take-add, drop-drop, take-append-le, drop-append-le, drop-append-add, length-take-le}
use Rattle.model.specs.Bytes.{part}
use Rattle.model.specs.Facts.{facts_of, N, A, S}
use Rattle.model.specs.Map.{map_entry, runs, chain_blocks}
use Rattle.model.specs.Directory.{directory, fork_of, block_count, fork_blocks}
use Rattle.model.specs.Check.{SoundFork, Accepted}
use Rattle.model.specs.Calls.{bytes_of, fork_bytes, read_count, copied}
use Rattle.model.specs.declared.ForkFacts.{ForkFacts}
use Rattle.model.specs.declared.Fork.{Fork}
use Rattle.model.specs.declared.LogicalBlock.{LogicalBlock}
use Rattle.model.proofs.Map.{block_low, block_high, runs_block, runs_rest, chain_runs}
use Rattle.model.proofs.Check.{good_fork_lem, fork_good, fork_block}
use Rattle.laws.proofs.Chains.{good}
use Rattle.laws.proofs.Content.{byte_of, Inside, length_bytes, part_take}
use Rattle.laws.proofs.Acceptance.{sound_fork, area}
use Rattle.blockmap.specs.Places.{HasPlace, IsPlace}
use Rattle.blockmap.proofs.Chains.{chain_most}
use Rattle.forks.specs.Content.{Copyable}

-- ---- the buffer

-- d bytes of xs are copied into l, and n more that stand at the head of c
pub copy_on : (l xs c : List ℕ) (d n : ℕ) → d ≤ length xs → d ≤ length l → take n c ≡ part d n xs
    → paste (take d xs ++ drop d l) d c n ≡ take (d + n) xs ++ drop (d + n) l
copy_on l xs c d n hx hl e =
    let k = length-take-le d xs hx in
    let at : d + n ≡ length (take d xs) + n = omega arith in
    let rest : drop (d + n) (take d xs ++ drop d l) ≡ drop (d + n) l =
    ap (λ i. drop i (take d xs ++ drop d l)) at ∙ drop-append-add (take d xs) (drop d l) n ∙ drop-drop n d l
    in
    rw (take_at (take d xs) (drop d l) d k, e, rest, take-add d n xs)

-- ---- a chain's bytes

part_front : (x y : List ℕ) (q j : ℕ) → q + j ≤ length x → part q j (x ++ y) ≡ part q j x
part_front x y q j h =
    let h₀ : q ≤ length x = omega arith in
    let h₁ : j ≤ length (drop q x) = omega (arith, length-drop q x) in
    rw (drop-append-le, take-append-le)

module _ (image : List ℕ) (s : LogicalBlock) (a : ℕ) where
  length_block : (b : ℕ) → byte_of s a b + a ≤ length image → length (part (byte_of s a b) a image) ≡ a
  length_block b h = length-take-le a (drop (byte_of s a b) image) (omega (arith, length-drop (byte_of s a b) image))

  -- from behind the first block, and within it
  read_skip : (b : ℕ) (bs : List ℕ) (o : ℕ) → byte_of s a b + a ≤ length image
      → drop (a + o) (bytes_of s a image (b ∷ bs)) ≡ drop o (bytes_of s a image bs)
  unfolding bytes_of
  read_skip b bs o h =
      ap (λ i. drop (i + o) (part (byte_of s a b) a image ++ bytes_of s a image bs)) (sym (length_block b h))
      ∙ drop-append-add (part (byte_of s a b) a image) (bytes_of s a image bs) o

  read_here : (b : ℕ) (bs : List ℕ) (o k : ℕ) → byte_of s a b + a ≤ length image → o + k ≤ a
      → part o k (bytes_of s a image (b ∷ bs)) ≡ part (byte_of s a b + o) k image
  unfolding bytes_of
  read_here b bs o k h fits =
      let e = length_block b h in
      let q = byte_of s a b in
      part_front (part q a image) (bytes_of s a image bs) o k (omega arith) ∙ part_take a o k (drop q image) fits
      ∙ ap (take k) (drop-drop o q image)

-- xs are the bytes of a chain in the image from block b on, from place `within` of that block on; `rest` blocks stand behind it
pub record Onward (image : List ℕ) (s : LogicalBlock) (a : ℕ) (xs : List ℕ) (b within : ℕ) : Type 0 where
  pub n : ℕ
  pub small : n ≤ 640
  pub room : 512 * s.0 + n * a ≤ length image
  pub rest : ℕ
  pub chain : runs (map_entry image) n (suc rest) b ≡ true
  pub reads : xs ≡ drop within (bytes_of s a image (b ∷ chain_blocks (map_entry image) rest (map_entry image b)))

-- xs are the bytes of the chain behind block b, of `rest` blocks
pub record Farther (image : List ℕ) (s : LogicalBlock) (a : ℕ) (xs : List ℕ) (b : ℕ) : Type 0 where
  pub n : ℕ
  pub small : n ≤ 640
  pub room : 512 * s.0 + n * a ≤ length image
  pub block : (2 ≤ b) × (b ≤ 641)
  pub rest : ℕ
  pub chain : runs (map_entry image) n rest (map_entry image b) ≡ true
  pub reads : xs ≡ bytes_of s a image (chain_blocks (map_entry image) rest (map_entry image b))

-- blocks 2 to N+1 lie in the image
lies : (image : List ℕ) (s : LogicalBlock) (a n b : ℕ) → 512 * s.0 + n * a ≤ length image → 2 ≤ b → b ≤ n + 1 → byte_of s a b + a ≤ length image
lies image s a n b room low high = omega (arith, mul-le-mul_right {m = suc (b - 2)} {n = n} a (omega arith))

module _ (image : List ℕ) (s : LogicalBlock) (a n : ℕ) (small : n ≤ 640) (room : 512 * s.0 + n * a ≤ length image) where
  chain_lies : (k b : ℕ) → runs (map_entry image) n (suc k) b ≡ true → byte_of s a b + a ≤ length image
  chain_lies k b h = let r = runs_block (map_entry image) n k b h in lies image s a n b room (block_low n b r) (block_high n b r)

  -- so it is at each place of a chain
  onward_at : (k t place within : ℕ) → runs (map_entry image) n k t ≡ true → place < k
      → Onward image s a (drop (place * a + within) (bytes_of s a image (chain_blocks (map_entry image) k t)))
      (get_or (chain_blocks (map_entry image) k t) place 0) within
  unfolding chain_blocks
  onward_at zero t place within h l = absurd (omega arith)
  onward_at (suc k) t zero within h l =
      let i : 0 * a + within ≡ within = omega arith in
      record {
        n = n;
        small = small;
        room = room;
        rest = k;
        chain = h;
        reads = ap (λ j. drop j (bytes_of s a image (chain_blocks (map_entry image) (suc k) t))) i;
      }
  onward_at (suc k) t (suc place) within h l =
      let r = onward_at k (map_entry image t) place within (runs_rest (map_entry image) n k t h) (omega arith) in
      let i : suc place * a + within ≡ a + (place * a + within) = omega arith in
      let bs = chain_blocks (map_entry image) k (map_entry image t) in
      record {
        n = r.n;
        small = r.small;
        room = r.room;
        rest = r.rest;
        chain = r.chain;
        reads = ap (λ j. drop j (bytes_of s a image (t ∷ bs))) i ∙ read_skip image s a t bs (place * a + within) (chain_lies k t h) ∙ r.reads;
      }

module _ (image : List ℕ) (s : LogicalBlock) (a : ℕ) (xs : List ℕ) (b within : ℕ) (h : Onward image s a xs b within) where
  pub onward_block : (2 ≤ b) × (b ≤ 641)
  onward_block = let r = runs_block (map_entry image) h.n h.rest b h.chain in (block_low h.n b r, omega (arith, block_high h.n b r, h.small))

  pub onward_lies : byte_of s a b + a ≤ length image
  onward_lies = chain_lies image s a h.n h.small h.room h.rest b h.chain

  -- the bytes in this block
  onward_here : (j : ℕ) → within + j ≤ a → part (byte_of s a b + within) j image ≡ take j xs
  onward_here j fits =
      sym (ap (take j) h.reads ∙ read_here image s a b (chain_blocks (map_entry image) h.rest (map_entry image b)) within j onward_lies fits)

  -- those behind this block
  pub onward_behind : (j : ℕ) → within + j ≡ a → Farther image s a (drop j xs) b
  unfolding bytes_of chain_blocks
  onward_behind j end =
      let bs = chain_blocks (map_entry image) h.rest (map_entry image b) in
      let all = bytes_of s a image (b ∷ bs) in
      let i : within + j ≡ a + 0 = omega arith in
      record {
        n = h.n;
        small = h.small;
        room = h.room;
        block = onward_block;
        rest = h.rest;
        chain = runs_rest (map_entry image) h.n h.rest b h.chain;
        reads = ap (drop j) h.reads ∙ drop-drop j within all ∙ ap (λ i. drop i all) i ∙ read_skip image s a b bs 0 onward_lies;
      }

-- they begin in the next block
pub farther_onward : (image : List ℕ) (s : LogicalBlock) (a : ℕ) (xs : List ℕ) (b next : ℕ) → Farther image s a xs b → next ≡ map_entry image b → 1 ≤ length xs
    → Onward image s a xs next 0
unfolding bytes_of chain_blocks
farther_onward image s a xs b next h q some = rw q (go h.rest h.chain h.reads)
  where
    go : (k : ℕ) → runs (map_entry image) h.n k (map_entry image b) ≡ true
        → xs ≡ bytes_of s a image (chain_blocks (map_entry image) k (map_entry image b)) → Onward image s a xs (map_entry image b) 0
    go zero r e = absurd (omega (arith, ap length e))
    go (suc k) r e = record { n = h.n; small = h.small; room = h.room; rest = k; chain = r; reads = e }

-- ---- the copy, block by block

-- the first d of the bytes are copied; with j more from block b, read at q, so are the first k
pub copied_more : (image : List ℕ) (s : LogicalBlock) (a : ℕ) (xs before buffer after : List ℕ) (d j k b within q : ℕ) → Onward image s a (drop d xs) b within
    → within + j ≤ a → k ≡ d + j → d ≤ length xs → d ≤ length before → buffer ≡ take d xs ++ drop d before → q ≡ byte_of s a b + within
    → after ≡ paste buffer d (drop q image) j → after ≡ take k xs ++ drop k before
copied_more image s a xs before buffer after d j k b within q h inner z hx hl m e p =
    p ∙ ap (λ x. paste x d (drop q image) j) m ∙ ap (λ i. paste (take d xs ++ drop d before) d (drop i image) j) e
    ∙ copy_on before xs (drop (byte_of s a b + within) image) d j hx hl (onward_here image s a (drop d xs) b within h j inner) ∙ ap (λ i. take i xs ++ drop i before) (sym z)

-- ---- a fork

-- the bytes of a fork's blocks from an offset on
abbrev pub bytes_from : List ℕ → LogicalBlock → ℕ → ForkFacts → ℕ → List ℕ
bytes_from image s a g offset = drop offset (bytes_of s a image (fork_blocks (map_entry image) a g))

module _ (image : List ℕ) (s : LogicalBlock) (a : ℕ) (g : ForkFacts) (h : Copyable image s a g) where
  sound : SoundFork (map_entry image) h.n a g
  sound = good_fork_lem (map_entry image) h.n a g h.good

  inside : Inside s a image (fork_blocks (map_entry image) a g)
  inside b p =
      let r = fork_block (map_entry image) h.n a g b sound p in
      (r.0, lies image s a h.n b h.area.room r.0 r.1)

  -- the blocks hold the fork
  holds : g.logical ≤ length (bytes_of s a image (fork_blocks (map_entry image) a g))
  holds = omega (arith, length_bytes s a image (fork_blocks (map_entry image) a g) inside, (good (map_entry image) h.n a g h.good).0.logical)

  length_fork : length (fork_bytes s a image g) ≡ g.logical
  unfolding fork_bytes
  length_fork = length-take-le g.logical (bytes_of s a image (fork_blocks (map_entry image) a g)) holds

  -- what a read copies
  pub copied_fork : (offset count : ℕ) (buffer : List ℕ) → count ≡ read_count (length buffer) g.logical offset
      → part offset count (fork_bytes s a image g) ++ drop count buffer ≡ copied (fork_bytes s a image g) offset buffer
  unfolding copied
  copied_fork offset count buffer e = rw (length_fork, e)

  pub fork_enough : (offset count : ℕ) → offset + count ≤ g.logical → count ≤ length (bytes_from image s a g offset)
  fork_enough offset count fits = omega (arith, holds, length-drop offset (bytes_of s a image (fork_blocks (map_entry image) a g)))

  pub fork_part : (offset count : ℕ) → offset + count ≤ g.logical → take count (bytes_from image s a g offset) ≡ part offset count (fork_bytes s a image g)
  unfolding fork_bytes
  fork_part offset count fits = sym (part_take g.logical offset count (bytes_of s a image (fork_blocks (map_entry image) a g)) fits)

  -- the bytes from an offset before the end on
  module _ (offset : ℕ) (before : offset < g.logical) where
    from_start : g.start.0 ≡ 0 → ⊥
    from_start z = omega (arith, (sound.empty z).0)

    fork_runs : runs (map_entry image) h.n (g.physical / a) g.start.0 ≡ true
    unfolding block_count
    fork_runs = chain_runs (map_entry image) h.n (sound.chain from_start)

    below : offset / a < g.physical / a
    below = (div-lt_iff_lt-mul {k = a} {x = offset} {y = g.physical / a} (omega (arith, h.area.block))).1
        (omega (arith, div-add-mod' g.physical a, sound.whole from_start, sound.within from_start))

    pub place_small : offset / a < 640
    place_small = omega (arith, below, chain_most (map_entry image) h.n (g.physical / a) g.start.0 fork_runs, h.area.small)

    pub has_place : HasPlace (map_entry image) g.start.0 (offset / a)
    has_place = record { n = h.n; k = g.physical / a; small = h.area.small; chain = fork_runs; within = below }

    pub fork_onward : (b : ℕ) → IsPlace (map_entry image) g.start.0 (offset / a) b
        → Onward image s a (bytes_from image s a g offset) b (offset % a)
    unfolding fork_blocks block_count
    fork_onward b p =
        subst (λ i. Onward image s a (drop i (bytes_of s a image (chain_blocks (map_entry image) (g.physical / a) g.start.0))) b (offset % a))
        (div-add-mod' offset a)
        (rw (p.stands (g.physical / a) below) (onward_at image s a h.n h.area.small h.area.room (g.physical / a) g.start.0 (offset / a)
        (offset % a) fork_runs below))

-- ---- an accepted image

pub copyable : (image : List ℕ) → Accepted image → (i : ℕ) → i < length (directory image) → (fork : Fork)
    → Copyable image (S (facts_of image)) (A (facts_of image)) (fork_of fork (get_or (directory image) i []))
copyable image acc i l fork =
    let f = facts_of image in
    let r = area image acc in
    record {
      n = N f;
      area = record {
        small = r.few;
        block = acc.facts.layout.large;
        most = acc.facts.layout.small;
        whole = omega (arith, acc.facts.layout.multiple);
        start = omega (arith, acc.facts.layout.backup, acc.facts.few);
        low = r.low;
        room = r.room;
      };
      good = fork_good (map_entry image) (N f) (A f) (fork_of fork (get_or (directory image) i [])) (sound_fork image acc i l fork);
    }
