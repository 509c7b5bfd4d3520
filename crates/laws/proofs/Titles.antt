-- Laws of an entry with another name and change date: what stays, what is read back, and that its size is its name's.
use Prim.Native.Nat.{ℕ, suc, ◌+◌, ◌≤◌, ◌<◌}
use mathlib.Core.Path.{◌≡◌, refl, sym, ap, ◌∙◌}
use mathlib.Core.Bool.{true, ◌&&◌}
use mathlib.Core.List.{List, [], ◌∷◌, ◌++◌}
use native.Mathlib.Omega.{arith}
use lib.ListN.{length, take, drop, length-append, length-take, length-drop, length-replicate, get_or-append}
use lib.Seq.{length-take-le, take-append-le, take-append_seam, take-take, get_or-take, get_or-drop}
use lib.Dec.{eqb, ltb}
use borrow.Author.Tests.{eqb-true, eq-eqb, lt-ltb}
use Rattle.model.specs.Bytes.{byte, be16, be32}
use Rattle.model.specs.Directory.{padded, entry_size, in_use, number_in, name_in, finder_in, fork_place, fork_of, same_byte, same_name, named}
use Rattle.model.specs.Check.{good_entry}
use Rattle.model.specs.Calls.{date_and_name, retitled, same_size}
use Rattle.model.specs.declared.Fork.{Fork}
use Rattle.model.proofs.Lists.{and-true}
use Rattle.laws.proofs.Stores.{join32, be32_same, get_d_past, drop_past, drop_take_add}
use Rattle.laws.proofs.Block.{sound, sound_length, size_low, Sized}
use Rattle.laws.proofs.Entry.{fork_same, place_high}

-- equal names are equally long
pub same_length : (m n : List ℕ) → same_name m n ≡ true → length m ≡ length n
unfolding same_name
same_length [] [] h = refl
same_length [] (c ∷ n) h = absurd (let z : ◌≡◌ {A = ℕ} 0 1 = cc in omega arith)
same_length (b ∷ m) [] h = absurd (let z : ◌≡◌ {A = ℕ} 0 1 = cc in omega arith)
same_length (b ∷ m) (c ∷ n) h = ap suc (same_length m n (and-true (same_byte b c) (same_name m n) h).1)

module _ (new : List ℕ) (changed : ℕ) (e : List ℕ) (l : 46 ≤ length e) where
  abbrev tail : List ℕ
  tail = date_and_name changed new

  head_long : length (take 46 e) ≡ 46
  head_long = length-take-le 46 e l

  pub retitled_before : (j : ℕ) → j < 46 → byte (retitled new changed e) j ≡ byte e j
  unfolding retitled
  retitled_before j h = get_or-append (take 46 e) tail 0 j (omega (arith, head_long)) ∙ get_or-take 46 e j 0 h

  pub retitled_flags : byte (retitled new changed e) 0 ≡ byte e 0
  retitled_flags = retitled_before 0 (omega arith)

  pub retitled_version : byte (retitled new changed e) 1 ≡ byte e 1
  retitled_version = retitled_before 1 (omega arith)

  pub retitled_used : in_use (retitled new changed e) ≡ in_use e
  unfolding in_use
  retitled_used = rw retitled_flags

  pub retitled_number : number_in (retitled new changed e) ≡ number_in e
  unfolding number_in
  retitled_number = be32_same (retitled new changed e) e 18 (λ j p h. retitled_before j (omega arith))

  pub retitled_created : be32 (retitled new changed e) 42 ≡ be32 e 42
  retitled_created = be32_same (retitled new changed e) e 42 (λ j p h. retitled_before j (omega arith))

  pub retitled_finder : finder_in (retitled new changed e) ≡ finder_in e
  unfolding finder_in retitled
  retitled_finder =
      sym (drop_take_add 2 16 (retitled new changed e))
      ∙ ap (drop 2) (take-append-le 18 (take 46 e) tail (omega (arith, head_long)) ∙ take-take 18 46 e (omega arith))
      ∙ drop_take_add 2 16 e

  pub retitled_fork : (fork : Fork) → fork_of fork (retitled new changed e) ≡ fork_of fork e
  unfolding fork_of
  retitled_fork fork =
      fork_same (drop (fork_place fork) (retitled new changed e)) (drop (fork_place fork) e)
      (λ k h. get_or-drop (fork_place fork) (retitled new changed e) k 0
      ∙ retitled_before (fork_place fork + k) (omega (arith, place_high fork))
      ∙ sym (get_or-drop (fork_place fork) e k 0))

  pub retitled_changed : be32 (retitled new changed e) 46 ≡ changed
  unfolding retitled be32 be16
  retitled_changed =
      let at : (k : ℕ) → byte (take 46 e ++ tail) (46 + k) ≡ byte tail k = λ k. get_d_past (take 46 e) tail 46 k head_long in
      rw (at 0, at 1, at 2, at 3) (join32 changed)

  pub retitled_titled : byte (retitled new changed e) 50 ≡ length new
  unfolding retitled
  retitled_titled = get_d_past (take 46 e) tail 46 4 head_long

  pub retitled_length : length (retitled new changed e) ≡ padded (51 + length new)
  unfolding retitled padded
  retitled_length = simp (length-append, length-replicate, head_long) (omega arith)

  pub retitled_name : name_in (retitled new changed e) ≡ new
  unfolding name_in retitled
  retitled_name = rw (retitled_titled, drop_past (take 46 e) tail 46 5 head_long) (take-append_seam new _)

  pub retitled_size : entry_size (retitled new changed e) ≡ padded (51 + length new)
  unfolding entry_size
  retitled_size = rw retitled_titled

  pub retitled_good : 1 ≤ length new → byte e 1 ≡ 0 → good_entry (retitled new changed e) ≡ true
  unfolding good_entry
  retitled_good h v =
      rw (retitled_size, retitled_version, retitled_titled, v, eq-eqb _ _ retitled_length, lt-ltb 0 (length new) h)

-- ---- a sound entry

pub sound_long : (e : List ℕ) → sound e ≡ true → 46 ≤ length e
sound_long e h = omega (arith, sound_length e h, size_low e)

pub retitled_sound : (new : List ℕ) (changed : ℕ) (e : List ℕ) → sound e ≡ true → 1 ≤ length new → sound (retitled new changed e) ≡ true
unfolding good_entry
retitled_sound new changed e h s =
    let p = and-true (in_use e) (good_entry e) h in
    let q = and-true (eqb (length e) (entry_size e)) (ltb 0 (byte e 50) && eqb (byte e 1) 0) p.1 in
    let v = eqb-true (byte e 1) 0 (and-true (ltb 0 (byte e 50)) (eqb (byte e 1) 0) q.1).1 in
    let l = sound_long e h in
    rw (retitled_used new changed e l, p.0, retitled_good new changed e l s v)

-- the entry of a name is as long as the name says
pub named_size : (name e : List ℕ) → named name e ≡ true → sound e ≡ true → length e ≡ padded (51 + length name)
unfolding named name_in entry_size padded
named_size name e n h =
    let l = sound_length e h in
    let t = same_length name (name_in e) n in
    let u : length (name_in e) ≡ byte e 50 = simp (length-take, length-drop) (omega arith) in
    omega arith

-- so a name of the same padded size leaves its size
pub retitled_sized : (name new : List ℕ) (changed : ℕ) → same_size name new ≡ true → 1 ≤ length new → Sized name (retitled new changed)
unfolding same_size
retitled_sized name new changed q s e n h = (
  retitled_sound new changed e h s,
  retitled_length new changed e (sound_long e h) ∙ sym (eqb-true (padded (51 + length name)) (padded (51 + length new)) q)
      ∙ sym (named_size name e n h),
)
