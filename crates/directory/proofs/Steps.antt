-- Laws of the cursor: where a block's reading ends, what the entry at the cursor is, and the entries from the cursor on by one
-- step.
use Prim.Native.Nat.{ℕ, zero, suc, ◌+◌, ◌-◌, ◌*◌, ◌≤◌, ◌<◌}
use mathlib.Core.Path.{◌≡◌, refl, sym, ap, ◌∙◌}
use mathlib.Core.Bool.{Bool, true, false, not, and-false}
use mathlib.Core.List.{List, [], ◌∷◌, ◌++◌, append_assoc, append-nil}
use native.Mathlib.Omega.{arith}
use native.Mathlib.Nat.{add_assoc, add-zero}
use lib.ListN.{length, take, drop, length-drop, length-append}
use lib.Seq.{length-take-le, get_or-drop, drop-drop}
use lib.Dec.{leb, ltb}
use Rattle.std.proofs.lemmas.Bool.Decides.{leb_tells}
use mathlib.Core.Logic.{◌⊎◌, inl, inr}
use borrow.Author.Tests.{le-leb, lt-leb, lt-ltb, le-ltb, eq-eqb, ne_eqb}
use Rattle.model.specs.Lists.{flat}
use Rattle.model.specs.Bytes.{byte, part}
use Rattle.model.specs.Directory.{padded, entry_size, in_use, ends_at, next_place, read_at, entries, cut_blocks, listing}
use Rattle.model.specs.Check.{good_entry}
use Rattle.model.proofs.Lists.{flat_append}
use Rattle.laws.proofs.Block.{size_low, step_end, step_more, good_take}
use Rattle.directory.specs.declared.Cursor.{Cursor}
use Rattle.directory.proofs.Parts.{part_part, part_byte}
use Rattle.directory.specs.Cursor.{block_of, rest_of, CursorFits, Comes, Lies, Moves, Fails}

-- ---- any fuel that reaches the block's end is enough

at_end : (b : List ℕ) (p : ℕ) → 512 ≤ p → ends_at b p ≡ true
unfolding ends_at
at_end b p h = rw (le-leb 512 p h)

further : (b : List ℕ) (p i : ℕ) → 512 ≤ p + 52 * suc i → 512 ≤ next_place b p + 52 * i
unfolding next_place
further b p i l = omega (arith, size_low (drop p b))

pub enough : (b : List ℕ) (k j p : ℕ) → 512 ≤ p + 52 * k → 512 ≤ p + 52 * j → read_at k b p ≡ read_at j b p
enough b zero j p h g = step_end 0 b p (at_end b p (omega arith)) ∙ sym (step_end j b p (at_end b p (omega arith)))
enough b (suc k) zero p h g = step_end (suc k) b p (at_end b p (omega arith)) ∙ sym (step_end 0 b p (at_end b p (omega arith)))
enough b (suc k) (suc j) p h g = go (ends_at b p) refl (enough b k j (next_place b p) (further b p k h) (further b p j g))
  where
    go : (t : Bool) → ends_at b p ≡ t → read_at k b (next_place b p) ≡ read_at j b (next_place b p) → read_at (suc k) b p ≡ read_at (suc j) b p
    go true e r = step_end (suc k) b p e ∙ sym (step_end (suc j) b p e)
    go false e r = step_more k b p e ∙ ap (λ (es : List (List ℕ)). part p (entry_size (drop p b)) b ∷ es) r ∙ sym (step_more j b p e)

-- ---- whole blocks

-- the entries of so many blocks from byte p on are those of a cursor at the first of them
pub blocks_rest : (image : List ℕ) (k p : ℕ) → (k ≡ 0 → ⊥) → listing (cut_blocks k (drop p image)) ≡ rest_of image (record { base = p; at = 0; left = k - 1 })
unfolding rest_of cut_blocks listing flat entries
blocks_rest image zero p z = absurd (z refl)
blocks_rest image (suc k) p z =
    let one : k ≡ suc k - 1 = omega arith in
    rw (drop-drop 512 p image) (ap (λ (m : ℕ). entries (take 512 (drop p image)) ++ listing (cut_blocks m (drop (p + 512) image))) one)

-- ---- the bytes at the cursor

module _ (image : List ℕ) (c : Cursor) (f : CursorFits image c) where
  block_long : length (block_of image c) ≡ 512
  block_long = length-take-le 512 (drop c.base image) (omega (arith, length-drop c.base image))

  left_long : length (drop c.at (block_of image c)) ≡ 512 - c.at
  left_long = length-drop c.at (block_of image c) ∙ ap (λ (n : ℕ). n - c.at) block_long

  -- the byte i behind the cursor
  here : (i : ℕ) → c.at + i < 512 → byte (drop c.at (block_of image c)) i ≡ byte image (c.base + c.at + i)
  here i h =
      get_or-drop c.at (block_of image c) i 0
      ∙ part_byte image c.base 512 (c.at + i) h
      ∙ ap (byte image) (sym (add_assoc c.base c.at i))

  pub ends_block : 512 ≤ c.at → ends_at (block_of image c) c.at ≡ true
  ends_block h = at_end (block_of image c) c.at h

  used : c.at < 512 → in_use (drop c.at (block_of image c)) ≡ leb 128 (byte image (c.base + c.at))
  unfolding in_use
  used h = ap (leb 128) (here 0 (omega arith) ∙ ap (byte image) (add-zero (c.base + c.at)))

  -- within the block the entry's first byte says it
  pub ends_here : c.at < 512 → ltb (byte image (c.base + c.at)) 128 ≡ ends_at (block_of image c) c.at
  unfolding ends_at
  ends_here h = rw (used h, lt-leb 512 c.at h) (go (byte image (c.base + c.at)) (leb_tells 128 (byte image (c.base + c.at))))
    where
      go : (x : ℕ) → ((leb 128 x ≡ true) × (128 ≤ x)) ⊎ ((leb 128 x ≡ false) × (x < 128)) → ltb x 128 ≡ not (leb 128 x)
      go x (inl p) = rw (p.0, le-ltb x 128 p.1)
      go x (inr p) = rw (p.0, lt-ltb x 128 p.1)

  size_here : c.at + 52 ≤ 512 → entry_size (drop c.at (block_of image c)) ≡ padded (51 + byte image (c.base + c.at + 50))
  unfolding entry_size
  size_here h = ap (λ (n : ℕ). padded (51 + n)) (here 50 (omega arith))

  -- ---- the entry at the cursor

  module _ (e : ends_at (block_of image c) c.at ≡ false) where
    fails : good_entry (part c.at (entry_size (drop c.at (block_of image c))) (block_of image c)) ≡ false → Fails image c
    unfolding rest_of
    fails g = record {
      entry = part c.at (entry_size (drop c.at (block_of image c))) (block_of image c);
      others = read_at 9 (block_of image c) (next_place (block_of image c) c.at) ++ listing (cut_blocks c.left (drop (c.base + 512) image));
      rest = ap (λ (es : List (List ℕ)). es ++ listing (cut_blocks c.left (drop (c.base + 512) image))) (step_more 9 (block_of image c) c.at e);
      bad = g;
    }

    too_long_lem : 512 < c.at + entry_size (drop c.at (block_of image c)) → Fails image c
    too_long_lem h =
        let n = entry_size (drop c.at (block_of image c)) in
        let l = left_long in
        fails (good_take (drop c.at (block_of image c)) ∙ rw (lt-leb n (length (drop c.at (block_of image c))) (omega arith)))

    -- no entry is shorter than 52 bytes
    pub short : 512 < c.at + 52 → Fails image c
    short h = too_long_lem (omega (arith, size_low (drop c.at (block_of image c))))

    module _ (h : c.at + 52 ≤ 512) where
      pub crosses : 512 < c.at + padded (51 + byte image (c.base + c.at + 50)) → Fails image c
      crosses l = too_long_lem (omega (arith, size_here h))

      pub version : (byte image (c.base + c.at + 1) ≡ 0 → ⊥) → Fails image c
      version v =
          let b = drop c.at (block_of image c) in
          fails
          (good_take b
          ∙ rw (here 1 (omega arith), ne_eqb (byte image (c.base + c.at + 1)) 0 v, and-false (ltb 0 (byte b 50)), and-false (leb (entry_size b) (length b))))

      pub nameless : byte image (c.base + c.at + 50) ≡ 0 → Fails image c
      nameless v =
          let b = drop c.at (block_of image c) in
          fails
          (good_take b
          ∙ rw (here 50 (omega arith), le-ltb 0 (byte image (c.base + c.at + 50)) (omega arith), and-false (leb (entry_size b) (length b))))

      -- a good entry, with the place where the next begins
      module _
          (n next : ℕ)
          (titled : n ≡ byte image (c.base + c.at + 50))
          (some : 1 ≤ n)
          (most : n ≤ 255)
          (current : byte image (c.base + c.at + 1) ≡ 0)
          (behind : next ≡ c.at + padded (51 + n))
          (within : next ≤ 512)
        where
          size : entry_size (drop c.at (block_of image c)) ≡ padded (51 + n)
          size = size_here h ∙ ap (λ (k : ℕ). padded (51 + k)) (sym titled)

          bytes_same : part c.at (padded (51 + n)) (block_of image c) ≡ part (c.base + c.at) (padded (51 + n)) image
          bytes_same = part_part image c.base 512 c.at (padded (51 + n)) (omega arith)

          bytes_are : part c.at (entry_size (drop c.at (block_of image c))) (block_of image c) ≡ part (c.base + c.at) (padded (51 + n)) image
          bytes_are = ap (λ (k : ℕ). part c.at k (block_of image c)) size ∙ bytes_same

          good_here : good_entry (part (c.base + c.at) (padded (51 + n)) image) ≡ true
          good_here =
              let b = drop c.at (block_of image c) in
              let s = size in
              let l = left_long in
              ap good_entry (sym bytes_are) ∙ good_take b
              ∙ rw (
                le-leb (entry_size b) (length b) (omega arith),
                here 50 (omega arith),
                here 1 (omega arith),
                ← titled,
                lt-ltb 0 n (omega arith),
                eq-eqb (byte image (c.base + c.at + 1)) 0 current,
              )

          -- the block's entries from here on
          read_here : read_at 10 (block_of image c) c.at ≡ part (c.base + c.at) (padded (51 + n)) image ∷ read_at 10 (block_of image c) next
          unfolding next_place
          read_here =
              let b = block_of image c in
              let place : next_place b c.at ≡ next = ap (λ (k : ℕ). c.at + k) size ∙ sym behind in
              let low = size_low (drop c.at b) in
              let fuel : read_at 9 b next ≡ read_at 10 b next = enough b 9 10 next (omega (arith, size)) (omega (arith, size)) in
              step_more 9 b c.at e
              ∙ ap (λ (x : List ℕ). x ∷ read_at 9 b (next_place b c.at)) bytes_are
              ∙ ap (λ (es : List (List ℕ)). part (c.base + c.at) (padded (51 + n)) image ∷ es) (ap (read_at 9 b) place ∙ fuel)

          rest_here : rest_of image c ≡ part (c.base + c.at) (padded (51 + n)) image ∷ rest_of image (record { base = c.base; at = next; left = c.left })
          unfolding rest_of
          rest_here = ap (λ (es : List (List ℕ)). es ++ listing (cut_blocks c.left (drop (c.base + 512) image))) read_here

          bytes_long : length (part (c.base + c.at) (padded (51 + n)) image) ≡ padded (51 + n)
          bytes_long = length-take-le (padded (51 + n)) (drop (c.base + c.at) image) (omega (arith, length-drop (c.base + c.at) image))

          lies_here : (base blocks : ℕ) → Comes image base blocks c → Lies image base blocks (record { start = c.base + c.at; name_length = n })
          lies_here base blocks k = record {
            index = k.index;
            before = k.before;
            behind = read_at 10 (block_of image c) next;
            within = omega arith;
            split = ap (λ (b : ℕ). entries (part b 512 image)) (sym k.block) ∙ k.split ∙ ap (λ (es : List (List ℕ)). k.before ++ es) read_here;
            place = omega arith;
          }

          comes_next : (base blocks : ℕ) → Comes image base blocks c → Comes image base blocks (record { base = c.base; at = next; left = c.left })
          unfolding flat
          comes_next base blocks k =
              let x = part (c.base + c.at) (padded (51 + n)) image in
              let long : length (flat (k.before ++ (x ∷ []))) ≡ length (flat k.before) + length x
              = rw (flat_append k.before (x ∷ []), length-append (flat k.before) (x ++ []), append-nil x) in
              record {
                index = k.index;
                before = k.before ++ (x ∷ []);
                block = k.block;
                count = k.count;
                split =
                    k.split ∙ ap (λ (es : List (List ℕ)). k.before ++ es) read_here
                    ∙ sym (append_assoc k.before (x ∷ []) (read_at 10 (block_of image c) next));
                place = omega (arith, bytes_long);
              }

          pub moves : Moves image c (record { start = c.base + c.at; name_length = n }) (record { base = c.base; at = next; left = c.left })
          unfolding padded
          moves = record {
            rest = rest_here;
            good = good_here;
            stands = record {
              inside = omega arith;
              titled = titled;
              some = some;
              most = most;
            };
            fits = record { blocks = f.blocks; place = within };
            less = omega arith;
            lies = lies_here;
            comes = comes_next;
          }

  -- ---- past a block's end

  module _ (e : ends_at (block_of image c) c.at ≡ true) where
    block_read : rest_of image c ≡ listing (cut_blocks c.left (drop (c.base + 512) image))
    unfolding rest_of
    block_read = ap (λ (es : List (List ℕ)). es ++ listing (cut_blocks c.left (drop (c.base + 512) image))) (step_end 10 (block_of image c) c.at e)

    pub last_block : c.left ≡ 0 → rest_of image c ≡ []
    unfolding cut_blocks listing flat
    last_block z = block_read ∙ rw z

    pub next_block : (c.left ≡ 0 → ⊥) → rest_of image c ≡ rest_of image (record { base = c.base + 512; at = 0; left = c.left - 1 })
    next_block z = block_read ∙ blocks_rest image c.left (c.base + 512) z

-- the reading comes to the first byte of the next block
pub comes_block : (image : List ℕ) (c : Cursor) (base blocks : ℕ) → (c.left ≡ 0 → ⊥) → Comes image base blocks c
    → Comes image base blocks (record { base = c.base + 512; at = 0; left = c.left - 1 })
unfolding entries flat
comes_block image c base blocks z k = record { index = k.index + 1; before = []; block = omega arith; count = omega arith; split = refl; place = refl }
