-- What a name given to a call names, and which files and forks a call may change.
use Rattle.std.specs.Prelude.{ℕ, ◌*◌, ◌≤◌, ◌≡◌, Bool, false, not, List, ltb, Result, Ok, Err}
use Rattle.model.specs.Bytes.{byte}
use Rattle.model.specs.Facts.{facts_of, dir_start, dir_length, is_locked}
use Rattle.model.specs.Lists.{any}
use Rattle.model.specs.Directory.{directory, fork_of, flags_lock, named}
use Rattle.model.specs.Check.{or_else, Accepted}
use Rattle.model.specs.Calls.{bad_name, entry_named}
use Rattle.model.specs.Refusals.{number_of}
use Rattle.directory.specs.Cursor.{bytes_at, Lies}
use Rattle.directory.specs.Search.{FirstNamed}
use Rattle.directory.specs.declared.EntryAt.{EntryAt}
use Rattle.model.specs.declared.VolumeFacts.{VolumeFacts}
use Rattle.model.specs.declared.Fork.{Fork}
use Rattle.model.specs.declared.ForkFacts.{ForkFacts}
use Rattle.model.specs.declared.refusal.Refusal.{Refusal}
use Rattle.directory.specs.declared.Found.{Found}
use Rattle.files.specs.declared.NamedFork.{NamedFork}

-- an accepted image and its facts
pub record Readable (f : VolumeFacts) (image : List ℕ) : Type 0 where
  pub facts : f ≡ facts_of image
  pub accepted : Accepted image

-- the entry of a good name, with its place in directory order, and where in the directory it stands
pub record NamedEntry (image name : List ℕ) (place : ℕ) (e : EntryAt) : Type 0 where
  pub title : bad_name name ≡ false
  pub there : FirstNamed image name (directory image) place e
  pub lies : Lies image (512 * (dir_start (facts_of image)).0) (dir_length (facts_of image)) e

-- 12 or 13
pub record Missed (image name : List ℕ) (number : ℕ) : Type 0 where
  pub fires : number ≡ or_else (bad_name name) 12 (or_else (not (any (named name) (directory image))) 13 0)
  pub some : number ≡ 0 → ⊥

abbrev pub Names : List ℕ → List ℕ → Result Found Refusal → Type 0
Names image name (Ok named) = NamedEntry image name named.place named.entry
Names image name (Err refusal) = Missed image name (number_of refusal)

-- the entry of a name where neither the volume nor the file is locked
pub record Changeable (image name : List ℕ) (place : ℕ) (e : EntryAt) : Type 0 where
  pub writable : is_locked (facts_of image) ≡ false
  pub found : NamedEntry image name place e
  pub unlocked : flags_lock (byte (bytes_at image e) 0) ≡ false

-- 11, 12, 13, 15 and, beyond a fork's end, 16, which a call that changes the file of a name begins with, then the rest
abbrev pub barred : List ℕ → List ℕ → Bool → ℕ → ℕ
barred image name beyond rest =
    or_else (is_locked (facts_of image)) 11 (or_else (bad_name name) 12 (or_else (not (any (named name) (directory image))) 13
    (or_else (flags_lock (byte (entry_named name image) 0)) 15 (or_else beyond 16 rest))))

-- one of them
pub record Barred (image name : List ℕ) (beyond : Bool) (number : ℕ) : Type 0 where
  pub fires : number ≡ barred image name beyond 0
  pub some : number ≡ 0 → ⊥

-- a call that asks for no fork has no 16
abbrev pub MayChange : List ℕ → List ℕ → Result Found Refusal → Type 0
MayChange image name (Ok named) = Changeable image name named.place named.entry
MayChange image name (Err refusal) = Barred image name false (number_of refusal)

-- the offset is beyond the end of the fork of a name
abbrev pub beyond_end : List ℕ → List ℕ → Fork → ℕ → Bool
beyond_end image name fork offset = ltb (fork_of fork (entry_named name image)).logical offset

-- the fork of a file that may be changed, and the offset is not beyond its end
pub record ChangeableFork (image name : List ℕ) (fork : Fork) (offset : ℕ) (e : EntryAt) (g : ForkFacts) : Type 0 where
  pub place : ℕ
  pub file : Changeable image name place e
  pub is : g ≡ fork_of fork (bytes_at image e)
  pub within : offset ≤ g.logical

abbrev pub MayChangeFork : List ℕ → List ℕ → Fork → ℕ → Result NamedFork Refusal → Type 0
MayChangeFork image name fork offset (Ok named) = ChangeableFork image name fork offset named.entry named.facts
MayChangeFork image name fork offset (Err refusal) = Barred image name (beyond_end image name fork offset) (number_of refusal)

-- e is the entry of a name in an accepted image, whose facts are f
pub record FileAt (f : VolumeFacts) (image : List ℕ) (e : EntryAt) : Type 0 where
  pub readable : Readable f image
  pub name : List ℕ
  pub place : ℕ
  pub found : NamedEntry image name place e

-- and g is a fork of it
pub record ForkAt (f : VolumeFacts) (image : List ℕ) (e : EntryAt) (fork : Fork) (g : ForkFacts) : Type 0 where
  pub held : FileAt f image e
  pub is : g ≡ fork_of fork (bytes_at image e)
