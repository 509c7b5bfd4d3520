-- Laws of a directory entry's fields: of a new entry, and of an entry whose fork fields and change date are stored.
use Prim.Native.Nat.{ℕ, ◌+◌, ◌*◌, ◌%◌, ◌≤◌, ◌<◌}
use mathlib.Core.Path.{◌≡◌, refl, sym, ap, ◌∙◌}
use mathlib.Core.Bool.{true}
use mathlib.Core.List.{List, ◌∷◌, ◌++◌}
use native.Mathlib.Omega.{arith}
use lib.ListN.{length, drop, length-append, length-replicate}
use lib.Seq.{sets, length-sets, take_at, take-append_seam, get_or-drop}
use borrow.Author.Tests.{eq-eqb, lt-ltb}
use Rattle.model.specs.Lists.{first_or0}
use Rattle.model.specs.Bytes.{byte, be16, be32, bytes16, bytes32, zeros}
use Rattle.model.specs.Directory.{padded, entry_size, in_use, number_in, name_in, finder_in, fork_in, fork_place, fork_of, named}
use Rattle.model.specs.Check.{good_entry}
use Rattle.model.specs.Calls.{new_entry, with_fork}
use Rattle.model.specs.declared.Fork.{Fork}
use Rattle.model.specs.declared.Fork.TheVariants.{Data, Resource}
use Rattle.laws.proofs.Stores.{sets_before, sets_behind, sets_in, drop_sets, take_sets, join16, join32, be32_same, be32_sets, get_d_past, drop_past}
use Rattle.laws.proofs.Stores.{drop_take_add}
use Rattle.laws.proofs.Block.{sound, Keeps}

-- ---- a new entry

module _ (number : ℕ) (name finder : List ℕ) (created changed : ℕ) (f : length finder ≡ 16) where
  abbrev new : List ℕ
  new = new_entry number name finder created changed

  abbrev behind : List ℕ
  behind = bytes32 number ++ (zeros 20 ++ (bytes32 created ++ (bytes32 changed ++ (length name ∷ (name ++ zeros ((51 + length name) % 2))))))

  pub new_flags : byte new 0 ≡ 0x80
  unfolding new_entry
  new_flags = refl

  pub new_version : byte new 1 ≡ 0
  unfolding new_entry
  new_version = refl

  pub new_titled : byte new 50 ≡ length name
  unfolding new_entry
  new_titled = get_d_past finder behind 16 32 f

  pub new_length : length new ≡ padded (51 + length name)
  unfolding new_entry padded
  new_length = simp (length-append, length-replicate) (omega arith)

  pub new_size : entry_size new ≡ padded (51 + length name)
  unfolding entry_size
  new_size = rw new_titled

  pub new_used : in_use new ≡ true
  unfolding in_use
  new_used = rw new_flags

  pub new_good : 1 ≤ length name → good_entry new ≡ true
  unfolding good_entry
  new_good h = rw (new_size, new_version, new_titled, eq-eqb _ _ new_length, lt-ltb 0 (length name) h)

  pub new_sound : 1 ≤ length name → sound new ≡ true
  new_sound h = rw (new_used, new_good h)

  pub new_number : number_in new ≡ number
  unfolding number_in new_entry be32 be16
  new_number =
      rw (get_d_past finder behind 16 0 f, get_d_past finder behind 16 1 f, get_d_past finder behind 16 2 f, get_d_past finder behind 16 3 f) (join32 number)

  pub new_finder : finder_in new ≡ finder
  unfolding new_entry finder_in
  new_finder = take_at finder behind 16 f

  pub new_created : be32 new 42 ≡ created
  unfolding new_entry be32 be16
  new_created =
      rw (get_d_past finder behind 16 24 f, get_d_past finder behind 16 25 f, get_d_past finder behind 16 26 f, get_d_past finder behind 16 27 f) (join32 created)

  pub new_changed : be32 new 46 ≡ changed
  unfolding new_entry be32 be16
  new_changed =
      rw (get_d_past finder behind 16 28 f, get_d_past finder behind 16 29 f, get_d_past finder behind 16 30 f, get_d_past finder behind 16 31 f) (join32 changed)

  new_text : drop 51 new ≡ name ++ zeros ((51 + length name) % 2)
  unfolding new_entry
  new_text = drop_past finder behind 16 33 f

  pub new_name : name_in new ≡ name
  unfolding name_in
  new_name = rw (new_titled, new_text) (take-append_seam name _)

  -- both forks are empty
  pub new_fork : (fork : Fork) → fork_of fork new ≡ record { start = record { 0 = 0 }; logical = 0; physical = 0 }
  unfolding new_entry fork_of fork_in be32 be16
  new_fork Data = rw (drop_past finder behind 16 4 f)
  new_fork Resource = rw (drop_past finder behind 16 14 f)

-- ---- an entry with a fork's fields and the change date stored

-- a fork's facts are in ten bytes
pub fork_same : (g h : List ℕ) → ((k : ℕ) → k < 10 → byte g k ≡ byte h k) → fork_in g ≡ fork_in h
unfolding fork_in be32 be16
fork_same g h at =
    rw (
      at 0 (omega arith),
      at 1 (omega arith),
      at 2 (omega arith),
      at 3 (omega arith),
      at 4 (omega arith),
      at 5 (omega arith),
      at 6 (omega arith),
      at 7 (omega arith),
      at 8 (omega arith),
      at 9 (omega arith),
    )

pub place_low : (fork : Fork) → 22 ≤ fork_place fork
place_low Data = omega arith
place_low Resource = omega arith

pub place_high : (fork : Fork) → fork_place fork ≤ 32
place_high Data = omega arith
place_high Resource = omega arith

module _ (fork : Fork) (a logical : ℕ) (bs : List ℕ) (changed : ℕ) where
  abbrev fields : List ℕ
  fields = bytes16 (first_or0 bs) ++ (bytes32 logical ++ bytes32 (length bs * a))

  abbrev stored : List ℕ → List ℕ
  stored = with_fork fork a logical bs changed

  -- the bytes of the fork's fields and the change date apart, all bytes stay
  pub fork_before : (e : List ℕ) (j : ℕ) → j < 22 → byte (stored e) j ≡ byte e j
  unfolding with_fork
  fork_before e j h =
      sets_before (bytes32 changed) (sets e (fork_place fork) fields) 46 j (omega arith)
      ∙ sets_before fields e (fork_place fork) j (omega (arith, place_low fork))

  pub fork_between : (e : List ℕ) (j : ℕ) → 42 ≤ j → j < 46 → byte (stored e) j ≡ byte e j
  unfolding with_fork
  fork_between e j l h =
      sets_before (bytes32 changed) (sets e (fork_place fork) fields) 46 j (omega arith)
      ∙ sets_behind fields e (fork_place fork) j (omega (arith, place_high fork))

  pub fork_behind : (e : List ℕ) (j : ℕ) → 50 ≤ j → byte (stored e) j ≡ byte e j
  unfolding with_fork
  fork_behind e j h =
      sets_behind (bytes32 changed) (sets e (fork_place fork) fields) 46 j (omega arith)
      ∙ sets_behind fields e (fork_place fork) j (omega (arith, place_high fork))

  pub fork_length : (e : List ℕ) → length (stored e) ≡ length e
  unfolding with_fork
  fork_length e = length-sets (sets e (fork_place fork) fields) 46 (bytes32 changed) ∙ length-sets e (fork_place fork) fields

  pub fork_flags : (e : List ℕ) → byte (stored e) 0 ≡ byte e 0
  fork_flags e = fork_before e 0 (omega arith)

  pub fork_version : (e : List ℕ) → byte (stored e) 1 ≡ byte e 1
  fork_version e = fork_before e 1 (omega arith)

  pub fork_titled : (e : List ℕ) → byte (stored e) 50 ≡ byte e 50
  fork_titled e = fork_behind e 50 (omega arith)

  pub fork_size : (e : List ℕ) → entry_size (stored e) ≡ entry_size e
  unfolding entry_size
  fork_size e = rw (fork_titled e)

  pub fork_used : (e : List ℕ) → in_use (stored e) ≡ in_use e
  unfolding in_use
  fork_used e = rw (fork_flags e)

  pub fork_good : (e : List ℕ) → good_entry (stored e) ≡ good_entry e
  unfolding good_entry
  fork_good e = rw (fork_size e, fork_version e, fork_titled e, fork_length e)

  pub fork_number : (e : List ℕ) → number_in (stored e) ≡ number_in e
  unfolding number_in
  fork_number e = be32_same (stored e) e 18 (λ j l h. fork_before e j (omega arith))

  pub fork_finder : (e : List ℕ) → finder_in (stored e) ≡ finder_in e
  unfolding finder_in with_fork
  fork_finder e =
      sym (drop_take_add 2 16 (stored e))
      ∙ ap (drop 2) (take_sets (bytes32 changed) (sets e (fork_place fork) fields) 46 18 (omega arith)
      ∙ take_sets fields e (fork_place fork) 18 (omega (arith, place_low fork)))
      ∙ drop_take_add 2 16 e

  pub fork_created : (e : List ℕ) → be32 (stored e) 42 ≡ be32 e 42
  fork_created e = be32_same (stored e) e 42 (λ j l h. fork_between e j l (omega arith))

  fork_text : (e : List ℕ) → drop 51 (stored e) ≡ drop 51 e
  unfolding with_fork
  fork_text e =
      drop_sets (bytes32 changed) (sets e (fork_place fork) fields) 46 51 (omega arith)
      ∙ drop_sets fields e (fork_place fork) 51 (omega (arith, place_high fork))

  pub fork_name : (e : List ℕ) → name_in (stored e) ≡ name_in e
  unfolding name_in
  fork_name e = rw (fork_titled e, fork_text e)

  pub fork_keeps : Keeps stored
  fork_keeps = record { size = fork_length; used = fork_used; good = fork_good; number = fork_number; name = fork_name }

  pub fork_named : (name e : List ℕ) → named name (stored e) ≡ named name e
  unfolding named
  fork_named name e = rw (fork_name e)

  -- what is stored is read back
  pub fork_changed : (e : List ℕ) → 50 ≤ length e → be32 (stored e) 46 ≡ changed
  unfolding with_fork
  fork_changed e l = be32_sets (sets e (fork_place fork) fields) 46 changed (omega (arith, length-sets e (fork_place fork) fields))

  fork_in_lem : (e : List ℕ) (k : ℕ) → k < 10 → 50 ≤ length e → byte (drop (fork_place fork) (stored e)) k ≡ byte fields k
  unfolding with_fork
  fork_in_lem e k h l =
      get_or-drop (fork_place fork) (stored e) k 0
      ∙ sets_before (bytes32 changed) (sets e (fork_place fork) fields) 46 (fork_place fork + k) (omega (arith, place_high fork))
      ∙ sets_in fields e (fork_place fork) k (omega (arith, place_high fork)) (omega arith)

  pub fork_fields : (e : List ℕ) → 50 ≤ length e
      → fork_of fork (stored e) ≡ record { start = record { 0 = first_or0 bs }; logical = logical; physical = length bs * a }
  unfolding fork_of fork_in be32 be16
  fork_fields e l =
      fork_same (drop (fork_place fork) (stored e)) fields (λ k h. fork_in_lem e k h l)
      ∙ (λ i. record { start = record { 0 = join16 (first_or0 bs) i }; logical = join32 logical i; physical = join32 (length bs * a) i })

-- the other fork's fields stay
module _ (a logical : ℕ) (bs : List ℕ) (changed : ℕ) where
  pub other_resource : (e : List ℕ) → fork_of Resource (with_fork Data a logical bs changed e) ≡ fork_of Resource e
  unfolding fork_of with_fork
  other_resource e =
      fork_same (drop 32 (with_fork Data a logical bs changed e)) (drop 32 e)
      (λ k h. get_or-drop 32 (with_fork Data a logical bs changed e) k 0
      ∙ sets_before (bytes32 changed) (sets e 22 (fields Data a logical bs changed)) 46 (32 + k) (omega arith)
      ∙ sets_behind (fields Data a logical bs changed) e 22 (32 + k) (omega arith)
      ∙ sym (get_or-drop 32 e k 0))

  pub other_data : (e : List ℕ) → fork_of Data (with_fork Resource a logical bs changed e) ≡ fork_of Data e
  unfolding fork_of with_fork
  other_data e =
      fork_same (drop 22 (with_fork Resource a logical bs changed e)) (drop 22 e)
      (λ k h. get_or-drop 22 (with_fork Resource a logical bs changed e) k 0
      ∙ sets_before (bytes32 changed) (sets e 32 (fields Resource a logical bs changed)) 46 (22 + k) (omega arith)
      ∙ sets_before (fields Resource a logical bs changed) e 32 (22 + k) (omega arith)
      ∙ sym (get_or-drop 22 e k 0))

pub fork_other : (fork other : Fork) (a logical : ℕ) (bs : List ℕ) (changed : ℕ) (e : List ℕ) → (other ≡ fork → ⊥)
    → fork_of other (with_fork fork a logical bs changed e) ≡ fork_of other e
fork_other Data Data a logical bs changed e h = absurd (h refl)
fork_other Data Resource a logical bs changed e h = other_resource a logical bs changed e
fork_other Resource Data a logical bs changed e h = other_data a logical bs changed e
fork_other Resource Resource a logical bs changed e h = absurd (h refl)
