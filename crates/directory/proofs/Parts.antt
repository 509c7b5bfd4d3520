-- Laws of the fields of an entry: they are the same in the image, counted from the entry's start.
use Prim.Native.Nat.{ℕ, ◌+◌, ◌-◌, ◌≤◌, ◌<◌}
use mathlib.Core.Path.{◌≡◌, sym, ap, ◌∙◌}
use mathlib.Core.List.{List, ◌++◌}
use native.Mathlib.Omega.{arith}
use native.Mathlib.Nat.{add_assoc, add-sub_cancel_left}
use lib.ListN.{length, take, drop}
use lib.Seq.{get_or-take, get_or-drop, drop-drop, take-take}
use Rattle.model.specs.Bytes.{byte, be16, be32, zeros, part}
use Rattle.model.specs.Directory.{padded, number_in, name_in, finder_in, fork_in, fork_place, fork_of, wide, entry_in}
use Rattle.model.specs.declared.DirectoryEntry.{DirectoryEntry}
use Rattle.model.specs.declared.ForkFacts.{ForkFacts}
use Rattle.model.specs.declared.Fork.{Fork}
use Rattle.model.specs.declared.Fork.TheVariants.{Data, Resource}
use Rattle.model.proofs.Bytes.{drop_zeros}
use Rattle.laws.proofs.Stores.{drop_take_add, be16_drop, be32_drop}
use Rattle.directory.specs.declared.EntryAt.{EntryAt}
use Rattle.directory.specs.Cursor.{bytes_at, Stands}

-- a fork whose fields are those that the bytes begin with
pub fork_are : (g : List ℕ) (f : ForkFacts) → f.start.0 ≡ be16 g 0 → f.logical ≡ be32 g 2 → f.physical ≡ be32 g 6 → f ≡ fork_in g
unfolding fork_in
fork_are g f a b c = λ j. record { start = record { 0 = a j }; logical = b j; physical = c j }

-- ---- a part of a part

pub part_part : (l : List ℕ) (q k i m : ℕ) → i + m ≤ k → part i m (part q k l) ≡ part (q + i) m l
part_part l q k i m h =
    let s : k ≡ i + (k - i) = omega arith in
    ap (λ (x : ℕ). take m (drop i (take x (drop q l)))) s
    ∙ ap (take m) (drop_take_add i (k - i) (drop q l))
    ∙ take-take m (k - i) (drop i (drop q l)) (omega arith)
    ∙ ap (take m) (drop-drop i q l)

module _ (l : List ℕ) (q k : ℕ) where
  pub part_byte : (i : ℕ) → i < k → byte (part q k l) i ≡ byte l (q + i)
  part_byte i h = get_or-take k (drop q l) i 0 h ∙ get_or-drop q l i 0

  pub part_be16 : (i : ℕ) → i + 1 < k → be16 (part q k l) i ≡ be16 l (q + i)
  unfolding be16
  part_be16 i h = rw (part_byte i (omega arith), part_byte (i + 1) h, ← add_assoc q i 1)

  pub part_be32 : (i : ℕ) → i + 3 < k → be32 (part q k l) i ≡ be32 l (q + i)
  unfolding be32
  part_be32 i h = rw (part_be16 i (omega arith), part_be16 (i + 2) (omega arith), ← add_assoc q i 2)

  -- the same numbers, counted from a place within
  within16 : (i n : ℕ) → i + n + 1 < k → be16 (drop i (part q k l)) n ≡ be16 (drop (q + i) l) n
  within16 i n h = be16_drop i (part q k l) n ∙ part_be16 (i + n) h ∙ ap (be16 l) (sym (add_assoc q i n)) ∙ sym (be16_drop (q + i) l n)

  within32 : (i n : ℕ) → i + n + 3 < k → be32 (drop i (part q k l)) n ≡ be32 (drop (q + i) l) n
  within32 i n h = be32_drop i (part q k l) n ∙ part_be32 (i + n) h ∙ ap (be32 l) (sym (add_assoc q i n)) ∙ sym (be32_drop (q + i) l n)

  pub part_fork : (i : ℕ) → i + 10 ≤ k → fork_in (drop i (part q k l)) ≡ fork_in (drop (q + i) l)
  unfolding fork_in
  part_fork i h =
      fork_are (drop (q + i) l) (fork_in (drop i (part q k l))) (within16 i 0 (omega arith)) (within32 i 2 (omega arith)) (within32 i 6 (omega arith))

-- ---- the fields of an entry

module _ (image : List ℕ) (e : EntryAt) (s : Stands image e) where
  pub long : 51 + e.name_length ≤ padded (51 + e.name_length)
  unfolding padded
  long = omega arith

  pub title_at : byte (bytes_at image e) 50 ≡ e.name_length
  title_at = part_byte image e.start (padded (51 + e.name_length)) 50 (omega (arith, long)) ∙ sym s.titled

  -- the name is where it stands in the image
  pub name_of : name_in (bytes_at image e) ≡ part (e.start + 51) e.name_length image
  unfolding name_in
  name_of = ap (λ (n : ℕ). part 51 n (bytes_at image e)) title_at ∙ part_part image e.start (padded (51 + e.name_length)) 51 e.name_length long

  pub number_at : number_in (bytes_at image e) ≡ be32 image (e.start + 18)
  unfolding number_in
  number_at = part_be32 image e.start (padded (51 + e.name_length)) 18 (omega (arith, long, s.some))

  pub fork_field : (fork : Fork) → fork_of fork (bytes_at image e) ≡ fork_in (drop (e.start + fork_place fork) image)
  unfolding fork_of
  fork_field Data = part_fork image e.start (padded (51 + e.name_length)) 22 (omega (arith, long))
  fork_field Resource = part_fork image e.start (padded (51 + e.name_length)) 32 (omega (arith, long))

  -- the name as the code takes its part, from its start to its end
  pub name_part : part (e.start + 51) (e.start + 51 + e.name_length - (e.start + 51)) image ≡ name_in (bytes_at image e)
  name_part = ap (λ (n : ℕ). part (e.start + 51) n image) (add-sub_cancel_left (e.start + 51) e.name_length) ∙ sym name_of

  -- an entry whose fields are read from the image
  pub entry_are : (d : DirectoryEntry)
      → d.flags ≡ byte image (e.start + 0)
      → d.version ≡ byte image (e.start + 1)
      → d.finder ≡ part (e.start + 2) 16 image
      → d.number ≡ number_in (bytes_at image e)
      → d.«data» ≡ fork_of Data (bytes_at image e)
      → d.resource ≡ fork_of Resource (bytes_at image e)
      → d.created ≡ be32 image (e.start + 42)
      → d.changed ≡ be32 image (e.start + 46)
      → d.name_length ≡ byte image (e.start + 50)
      → d.name ≡ wide (part (e.start + 51) e.name_length image)
      → d ≡ entry_in (bytes_at image e)
  unfolding entry_in finder_in
  entry_are d flags version finder number data0 resource created changed length0 name =
      let k = padded (51 + e.name_length) in
      let l = long in
      let flags1 = flags ∙ sym (part_byte image e.start k 0 (omega arith)) in
      let version1 = version ∙ sym (part_byte image e.start k 1 (omega arith)) in
      let finder1 = finder ∙ sym (part_part image e.start k 2 16 (omega arith)) in
      let created1 = created ∙ sym (part_be32 image e.start k 42 (omega arith)) in
      let changed1 = changed ∙ sym (part_be32 image e.start k 46 (omega arith)) in
      let length1 = length0 ∙ sym (part_byte image e.start k 50 (omega arith)) in
      let name1 = name ∙ ap wide (sym name_of) in
      λ j. record {
        flags = flags1 j;
        version = version1 j;
        finder = finder1 j;
        number = number j;
        «data» = data0 j;
        resource = resource j;
        created = created1 j;
        changed = changed1 j;
        name_length = length1 j;
        name = name1 j;
      }

-- ---- a name put before zeros

pub wide_are : (m : List ℕ) (n : ℕ) → length m ≡ n → m ++ drop n (zeros 255) ≡ wide m
unfolding wide
wide_are m n h = rw (drop_zeros 255 n, ← h)
