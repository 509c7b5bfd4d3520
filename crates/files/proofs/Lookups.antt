-- Laws of the search in an accepted image's directory: the cursor at its first entry, what is found from there on, and what a
-- name names.
use Prim.Native.Nat.{ℕ, ◌*◌, ◌≤◌}
use mathlib.Core.Path.{◌≡◌, refl}
use mathlib.Core.Bool.{Bool, true, false, not}
use mathlib.Core.List.{List}
use native.Mathlib.Omega.{arith}
use Rattle.model.specs.Facts.{facts_of, dir_start, dir_length}
use Rattle.model.specs.Lists.{any}
use Rattle.model.specs.Directory.{directory, named}
use Rattle.model.specs.Check.{or_else}
use Rattle.model.specs.Calls.{bad_name}
use Rattle.model.proofs.Check.{accepted_passes}
use Rattle.directory.specs.Cursor.{rest_of, Passes, Begins}
use Rattle.directory.specs.Search.{Finds, Located}
use Rattle.directory.proofs.Whole.{begins_directory, sound_passes}
use Rattle.entries.proofs.Located.{begins_comes}
use Rattle.model.specs.declared.VolumeFacts.{VolumeFacts}
use Rattle.directory.specs.declared.Cursor.{Cursor}
use Rattle.directory.specs.declared.Found.{Found}
use Rattle.std.specs.Prelude.{Option, Some, None}
use Rattle.std.specs.Prelude.{Result}
use Rattle.std.specs.Option.{ok_or}
use Rattle.model.specs.declared.refusal.Refusal.{Refusal}
use Rattle.model.specs.declared.refusal.Refusal.TheVariants.{NotFound}
use Rattle.files.specs.Lookup.{Readable, Missed, Names}

-- ---- names

-- a bad name
pub missed_title : (image name : List ℕ) → bad_name name ≡ true → Missed image name 12
missed_title image name h = record { fires = rw h; some = λ z. omega arith }

-- a good name that names nothing: no file has it
pub missed_none : {image name : List ℕ} {number : ℕ} → bad_name name ≡ false → Missed image name number → any (named name) (directory image) ≡ false
missed_none {image} {name} {number} g m = go (any (named name) (directory image)) (rw g at m.fires)
  where
    go : (t : Bool) → number ≡ or_else (not t) 13 0 → t ≡ false
    go true h = absurd (m.some h)
    go false h = refl

-- ---- an accepted image's directory

module _ {f : VolumeFacts} {image : List ℕ} (r : Readable f image) where
  pub some_block : 1 ≤ dir_length f
  some_block = rw r.facts r.accepted.facts.layout.dir_some

  -- from its first entry on
  module _ {c : Cursor} (b : Begins (dir_start f) (dir_length f) c) where
    begins : Begins (dir_start (facts_of image)) (dir_length (facts_of image)) c
    begins = rw r.facts at b

    pub first_passes : Passes image c
    first_passes = sound_passes image c begins r.accepted.facts (accepted_passes image r.accepted).pass6

    pub first_rest : rest_of image c ≡ directory image
    first_rest = begins_directory image c begins

    module _ (name : List ℕ) (good : bad_name name ≡ false) where
      found_or : (s : Option Found) → Finds image name (rest_of image c) s → Located image c s → Names image name (ok_or s NotFound)
      found_or None h l =
          let none : any (named name) (directory image) ≡ false = rw first_rest at h in
          record { fires = rw (good, none); some = λ z. omega arith }
      found_or (Some f) h l =
          let v = facts_of image in
          record {
            title = good;
            there = rw first_rest at h;
            lies = l (512 * (dir_start v).0) (dir_length v) (begins_comes image (dir_start v) (dir_length v) c begins);
          }

      -- the entry that was found, or 13
      pub names_or : (s : Option Found) → Finds image name (rest_of image c) s → Located image c s
          → (r : Result Found Refusal) → r ≡ ok_or s NotFound → Names image name r
      names_or s h l r e = rw e (found_or s h l)
