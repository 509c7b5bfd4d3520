-- What a refusal and a success of a call mean: the image that each leaves, the number on an accepted image, where it is 17 and how it
-- depends on 18, and what the tests of a changing call that is not refused have shown.
use Prim.Native.Nat.{ℕ, zero, suc, ◌+◌, ◌≤◌}
use mathlib.Core.Path.{◌≡◌, refl, sym, ◌∙◌}
use mathlib.Core.Bool.{Bool, true, false, not, ◌&&◌}
use mathlib.Core.List.{List}
use native.Mathlib.Omega.{arith}
use lib.ListN.{length}
use lib.Dec.{eqb, ltb}
use borrow.Author.Tests.{not-false, eqb-false, eq-eqb, ne_eqb, ltb-false}
use Rattle.model.specs.Lists.{any, keep}
use Rattle.model.specs.Bytes.{byte}
use Rattle.model.specs.Facts.{facts_of, A, next_file_number, free_count, is_locked}
use Rattle.model.specs.Directory.{padded, directory_blocks, directory, fork_of, flags_lock, block_count, named}
use Rattle.model.specs.Check.{or_else, first_refusal, verdict, Accepted}
use Rattle.model.specs.Calls.{Call, Known, name_of, fork_given, grown, needed, needed_blocks, bad_name, too_long, checks, refuses, entry_named, has_room}
use Rattle.model.specs.Calls.{known_in, refusal}
use Rattle.model.specs.Calls.{same_size, removed, change, after}
use Rattle.model.specs.Calls.Call.{create, write, cut, delete, rename}
use Rattle.model.specs.declared.Fork.{Fork}
use Rattle.model.proofs.Lists.{or-false}
use Rattle.model.proofs.Check.{else_zero, verdict_accepted, accepted_verdict}
use Rattle.laws.proofs.Calls.{by_own}

-- ---- the image that a call leaves

pub refused : (call : Call) (image : List ℕ) → (refusal call image ≡ 0 → ⊥) → after call image ≡ image
unfolding after
refused call image z = rw (ne_eqb (refusal call image) 0 z)

pub done : (call : Call) (image : List ℕ) → refusal call image ≡ 0 → after call image ≡ change call image
unfolding after
done call image z = rw (eq-eqb (refusal call image) 0 z)

-- ---- numbers

-- on an accepted image the number of a call that checks 1 to 10 first is its own
pub own_is : (image : List ℕ) → Accepted image → (call : Call) → checks call image ≡ verdict image
    → refusal call image ≡ refuses call (known_in image (name_of call) (fork_given call))
own_is image acc call c =
    sym (by_own call image (refuses call (known_in image (name_of call) (fork_given call))) (c ∙ accepted_verdict image acc) refl)

-- no other number is 17
pub no_check : ◌≡◌ {A = ℕ} 0 17 → ⊥
no_check e = omega arith

pub other : (t : Bool) (k : ℕ) → eqb k 17 ≡ false → {r : ℕ} → (r ≡ 17 → ⊥) → or_else t k r ≡ 17 → ⊥
other true k n h e = eqb-false k 17 n e
other false k n h e = h e

-- the tests that find, block and read share, and those that write, cut and delete share
pub other_found : (name : List ℕ) (k : Known) {r : ℕ} → (r ≡ 17 → ⊥) → or_else (bad_name name) 12 (or_else (not k.exists) 13 r) ≡ 17 → ⊥
other_found name k n = other (bad_name name) 12 refl (other (not k.exists) 13 refl n)

pub other_change : (name : List ℕ) (k : Known) {r : ℕ} → (r ≡ 17 → ⊥)
    → or_else k.locked 11 (or_else (bad_name name) 12 (or_else (not k.exists) 13 (or_else k.file_locked 15 r))) ≡ 17 → ⊥
other_change name k n = other k.locked 11 refl (other_found name k (other k.file_locked 15 refl n))

-- a test before 17 that did not fire, and 17 itself
pub past : (t : Bool) (k r : ℕ) → eqb k 17 ≡ false → or_else t k r ≡ 17 → (t ≡ false) × (r ≡ 17)
past true k r n e = absurd (eqb-false k 17 n e)
past false k r n e = (refl, e)

pub fires : (t : Bool) → or_else t 17 0 ≡ 17 → t ≡ true
fires true e = refl
fires false e = absurd (omega arith)

-- what is known, but for the room for an entry
unfoldable pub with_full : Known → Bool → Known
with_full k full = record {
  locked = k.locked;
  files = k.files;
  exists = k.exists;
  file_locked = k.file_locked;
  logical = k.logical;
  blocks = k.blocks;
  size = k.size;
  free = k.free;
  next = k.next;
  full = full;
  another = k.another;
  crowded = λ new. full;
  quick = k.quick;
}

-- a create needs to be told that it gives 18, and gives no 17
pub create_fed : (name finder : List ℕ) (made changed : ℕ) (k : Known)
    → refuses (create name finder made changed) k
    ≡ refuses (create name finder made changed) (with_full k (eqb (refuses (create name finder made changed) k) 18))
unfolding refuses with_full
create_fed name finder made changed k = go k.locked (bad_name name) (too_long name) k.exists (eqb k.next 4294967295) k.full
  where
    number : (l b t e n f : Bool) → ℕ
    number l b t e n f = or_else l 11 (or_else b 12 (or_else t 21 (or_else e 14 (or_else n 19 (or_else f 18 0)))))

    go : (l b t e n f : Bool) → number l b t e n f ≡ number l b t e n (eqb (number l b t e n f) 18)
    go true b t e n f = refl
    go false true t e n f = refl
    go false false true e n f = refl
    go false false false true n f = refl
    go false false false false true f = refl
    go false false false false false true = refl
    go false false false false false false = refl

pub create_never : (name finder : List ℕ) (made changed : ℕ) (k : Known) → refuses (create name finder made changed) k ≡ 17 → ⊥
unfolding refuses
create_never name finder made changed k =
    other k.locked 11 refl (other (bad_name name) 12 refl (other (too_long name) 21 refl (other k.exists 14 refl
    (other (eqb k.next 4294967295) 19 refl (other k.full 18 refl no_check)))))

-- and so does a rename
pub rename_fed : (name new : List ℕ) (changed : ℕ) (k : Known)
    → refuses (rename name new changed) k ≡ refuses (rename name new changed) (with_full k (eqb (refuses (rename name new changed) k) 18))
unfolding refuses with_full
rename_fed name new changed k =
    go k.locked (bad_name name) (bad_name new) (too_long new) (not k.exists) k.file_locked (k.another new) (not (same_size name new)) (k.crowded new)
  where
    number : (l b c t e k a s f : Bool) → ℕ
    number l b c t e k a s f =
        or_else l 11 (or_else b 12 (or_else c 12 (or_else t 21 (or_else e 13 (or_else k 15 (or_else a 14 (or_else (s && f) 18 0)))))))

    go : (l b c t e k a s f : Bool) → number l b c t e k a s f ≡ number l b c t e k a s (eqb (number l b c t e k a s f) 18)
    go true b c t e k a s f = refl
    go false true c t e k a s f = refl
    go false false true t e k a s f = refl
    go false false false true e k a s f = refl
    go false false false false true k a s f = refl
    go false false false false false true a s f = refl
    go false false false false false false true s f = refl
    go false false false false false false false false f = refl
    go false false false false false false false true true = refl
    go false false false false false false false true false = refl

pub rename_never : (name new : List ℕ) (changed : ℕ) (k : Known) → refuses (rename name new changed) k ≡ 17 → ⊥
unfolding refuses
rename_never name new changed k =
    other k.locked 11 refl (other (bad_name name) 12 refl (other (bad_name new) 12 refl (other (too_long new) 21 refl
    (other (not k.exists) 13 refl (other k.file_locked 15 refl (other (k.another new) 14 refl
    (other (not (same_size name new) && k.crowded new) 18 refl no_check)))))))

-- ---- what a call that is not refused has shown

-- a name of 1 to 255 bytes
pub record GoodName (name : List ℕ) : Type 0 where
  pub some : 1 ≤ length name
  pub short : length name ≤ 255

pub good_name : (name : List ℕ) → bad_name name ≡ false → GoodName name
unfolding bad_name
good_name name h =
    let s = or-false (eqb (length name) 0) (ltb 255 (length name)) h in
    let z = eqb-false (length name) 0 s.0 in
    record { some = omega arith; short = ltb-false 255 (length name) s.1 }

-- create
pub record MayCreate (image name : List ℕ) : Type 0 where
  pub unlocked : is_locked (facts_of image) ≡ false
  pub title : GoodName name
  pub fresh : any (named name) (directory image) ≡ false
  pub number : next_file_number (facts_of image) ≡ 4294967295 → ⊥
  pub room : any (has_room (padded (51 + length name))) (directory_blocks (facts_of image) image) ≡ true

-- write, cut, delete and rename: the file is there, and neither it nor the volume is locked
pub record MayChangeFile (image name : List ℕ) : Type 0 where
  pub unlocked : is_locked (facts_of image) ≡ false
  pub title : GoodName name
  pub exists : any (named name) (directory image) ≡ true
  pub file_unlocked : flags_lock (byte (entry_named name image) 0) ≡ false

-- the new blocks that a write of count bytes needs, as its refusal 17 asks
abbrev pub needs : List ℕ → List ℕ → Fork → ℕ → ℕ → ℕ
needs image name fork offset count = needed_blocks (facts_of image) (fork_of fork (entry_named name image)) offset count

-- write: its room too
pub record MayWrite (image name : List ℕ) (fork : Fork) (offset count : ℕ) : Type 0 where
  pub file : MayChangeFile image name
  pub within : offset ≤ (fork_of fork (entry_named name image)).logical
  pub room : needs image name fork offset count ≤ free_count (facts_of image)

-- cut, and write before its room is asked: the fork is at least so long
pub record MayChangeFork (image name : List ℕ) (fork : Fork) (size : ℕ) : Type 0 where
  pub file : MayChangeFile image name
  pub within : size ≤ (fork_of fork (entry_named name image)).logical

-- rename: no other file has the new name, and where its size differs some directory block has room once the entry is out
pub record MayRename (image name new : List ℕ) : Type 0 where
  pub file : MayChangeFile image name
  pub title : GoodName new
  pub other : any (named new) (keep (λ e. not (named name e)) (directory image)) ≡ false
  pub room : same_size name new ≡ false
      → any (has_room (padded (51 + length new))) (removed name (directory_blocks (facts_of image) image)) ≡ true

-- both numbers are 0 where the answer is
both_zero : (m n : ℕ) → first_refusal m n ≡ 0 → (m ≡ 0) × (n ≡ 0)
unfolding first_refusal
both_zero zero n h = (refl, h)
both_zero (suc m) n h = absurd (omega arith)

module _ (image : List ℕ) where
  own_zero : (call : Call) → refusal call image ≡ 0 → refuses call (known_in image (name_of call) (fork_given call)) ≡ 0
  unfolding refusal
  own_zero call z = (both_zero (checks call image) _ z).1

  -- an image on which a call that checks 1 to 10 first is not refused is accepted
  pub served_accepted : (call : Call) → checks call image ≡ verdict image → refusal call image ≡ 0 → Accepted image
  unfolding refusal
  served_accepted call c z = verdict_accepted image (sym c ∙ (both_zero (checks call image) _ z).0)

  pub may_create : (name finder : List ℕ) (created changed : ℕ) → refusal (create name finder created changed) image ≡ 0 → MayCreate image name
  unfolding refuses known_in name_of fork_given
  may_create name finder created changed z =
      let f = facts_of image in
      let p₁ = else_zero (is_locked f) 10 _ (own_zero (create name finder created changed) z) in
      let p₂ = else_zero (bad_name name) 11 _ p₁.1 in
      let p₃ = else_zero (too_long name) 20 _ p₂.1 in
      let p₄ = else_zero (any (named name) (directory image)) 13 _ p₃.1 in
      let p₅ = else_zero (eqb (next_file_number f) 4294967295) 18 _ p₄.1 in
      let p₆ = else_zero (not (any (has_room (padded (51 + length name))) (directory_blocks f image))) 17 0 p₅.1 in
      record {
        unlocked = p₁.0;
        title = good_name name p₂.0;
        fresh = p₄.0;
        number = eqb-false (next_file_number f) 4294967295 p₅.0;
        room = not-false _ p₆.0;
      }

  -- the tests that write, cut and delete share, and what stands behind them
  may_change : (name : List ℕ) (r : ℕ)
      → or_else (is_locked (facts_of image)) 11 (or_else (bad_name name) 12 (or_else (not (any (named name) (directory image))) 13
      (or_else (flags_lock (byte (entry_named name image) 0)) 15 r))) ≡ 0
      → MayChangeFile image name × (r ≡ 0)
  may_change name r z =
      let p₁ = else_zero (is_locked (facts_of image)) 10 _ z in
      let p₂ = else_zero (bad_name name) 11 _ p₁.1 in
      let p₃ = else_zero (not (any (named name) (directory image))) 12 _ p₂.1 in
      let p₄ = else_zero (flags_lock (byte (entry_named name image) 0)) 14 r p₃.1 in
      (record { unlocked = p₁.0; title = good_name name p₂.0; exists = not-false _ p₃.0; file_unlocked = p₄.0 }, p₄.1)

  pub may_write : (name : List ℕ) (fork : Fork) (offset : ℕ) (bytes : List ℕ) (changed : ℕ)
      → refusal (write name fork offset bytes changed) image ≡ 0 → MayWrite image name fork offset (length bytes)
  unfolding refuses known_in name_of fork_given needed_blocks
  may_write name fork offset bytes changed z =
      let f = facts_of image in
      let g = fork_of fork (entry_named name image) in
      let need = needed (A f) (grown g.logical offset (length bytes)) (block_count (A f) g) in
      let s = may_change name _ (own_zero (write name fork offset bytes changed) z) in
      let p₅ = else_zero (ltb g.logical offset) 15 _ s.1 in
      let p₆ = else_zero (ltb (free_count f) need) 16 0 p₅.1 in
      record { file = s.0; within = ltb-false g.logical offset p₅.0; room = ltb-false (free_count f) need p₆.0 }

  pub may_cut : (name : List ℕ) (fork : Fork) (size changed : ℕ) → refusal (cut name fork size changed) image ≡ 0 → MayChangeFork image name fork size
  unfolding refuses known_in name_of fork_given
  may_cut name fork size changed z =
      let g = fork_of fork (entry_named name image) in
      let s = may_change name _ (own_zero (cut name fork size changed) z) in
      let p₅ = else_zero (ltb g.logical size) 15 0 s.1 in
      record { file = s.0; within = ltb-false g.logical size p₅.0 }

  pub may_rename : (name new : List ℕ) (changed : ℕ) → refusal (rename name new changed) image ≡ 0 → MayRename image name new
  unfolding refuses known_in name_of fork_given
  may_rename name new changed z =
      let f = facts_of image in
      let full = not (any (has_room (padded (51 + length new))) (removed name (directory_blocks f image))) in
      let p₁ = else_zero (is_locked f) 10 _ (own_zero (rename name new changed) z) in
      let p₂ = else_zero (bad_name name) 11 _ p₁.1 in
      let p₃ = else_zero (bad_name new) 11 _ p₂.1 in
      let p₄ = else_zero (too_long new) 20 _ p₃.1 in
      let p₅ = else_zero (not (any (named name) (directory image))) 12 _ p₄.1 in
      let p₆ = else_zero (flags_lock (byte (entry_named name image) 0)) 14 _ p₅.1 in
      let p₇ = else_zero (any (named new) (keep (λ e. not (named name e)) (directory image))) 13 _ p₆.1 in
      let p₈ = else_zero (not (same_size name new) && full) 17 0 p₇.1 in
      record {
        file = record { unlocked = p₁.0; title = good_name name p₂.0; exists = not-false _ p₅.0; file_unlocked = p₆.0 };
        title = good_name new p₃.0;
        other = p₇.0;
        room = λ d. not-false _ (rw d at p₈.0);
      }

  pub may_delete : (name : List ℕ) → refusal (delete name) image ≡ 0 → MayChangeFile image name
  unfolding refuses known_in name_of fork_given
  may_delete name z = (may_change name 0 (own_zero (delete name) z)).0
