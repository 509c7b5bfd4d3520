-- Write and cut: one fork of the named file gets other fields and blocks, and the image is accepted.
use Prim.Native.Nat.{ℕ}
use mathlib.Core.Path.{◌≡◌, ap, ◌∙◌}
use mathlib.Core.Bool.{true}
use mathlib.Core.List.{List, [], ◌∷◌, ◌++◌, map}
use Rattle.model.specs.Lists.{any, first}
use Rattle.model.specs.Facts.{facts_of, N, A, S, next_file_number}
use Rattle.model.specs.Directory.{directory, forks_in, named}
use Rattle.model.specs.Check.{Accepted}
use Rattle.model.specs.Calls.{entry_named, on_named, with_fork}
use Rattle.model.specs.declared.VolumeFacts.{VolumeFacts}
use Rattle.model.specs.declared.Fork.{Fork}
use Rattle.laws.proofs.Reorder.{Alone}
use Rattle.laws.proofs.MapSteps.{fork_with, Framed, ForksChanged}
use Rattle.laws.proofs.Entry.{fork_named}
use Rattle.laws.proofs.Kept.{named_first, named_map}
use Rattle.laws.proofs.DirectorySteps.{DirectoryStored}
use Rattle.laws.proofs.Acceptance.{accepted_from}
use Rattle.laws.proofs.TheEntry.{it_alone, the_entry, the_length, around, beyond, forks_stored}

-- `left` is the image after that: the fork has the blocks bs and logical bytes now, and the blocks touched are those whose bytes and
-- map entries were stored
pub record Rewritten (image : List ℕ) (acc : Accepted image) (name : List ℕ) (there : any (named name) (directory image) ≡ true)
    (fork : Fork) (logical : ℕ) (bs touched : List ℕ) (changed free : ℕ) (left : List ℕ) : Type 0 where
  -- the image after those stores
  pub base : List ℕ
  pub frame : Framed (S (facts_of image)) (A (facts_of image)) touched image base
  -- the stores of the directory and the counts
  pub step : DirectoryStored image base (map (on_named name (with_fork fork (A (facts_of image)) logical bs changed)) (directory image))
      (facts_of image).files (next_file_number (facts_of image)) free left
  -- the forks and their bytes
  pub forks : ForksChanged (S (facts_of image)) (A (facts_of image)) (N (facts_of image)) free image left (around image acc name there fork)
      (fork_with (A (facts_of image)) logical bs ∷ []) (beyond image acc name there fork)

module _ {image : List ℕ} {acc : Accepted image} {name : List ℕ} {there : any (named name) (directory image) ≡ true}
    {fork : Fork} {logical : ℕ} {bs touched : List ℕ} {changed free : ℕ} {left : List ℕ}
    (r : Rewritten image acc name there fork logical bs touched changed free left) where
  abbrev f : VolumeFacts
  f = facts_of image

  -- the named entry among the others, its bytes, and how they change
  abbrev pub alone : Alone (named name) (directory image)
  alone = it_alone image acc name there

  abbrev pub entry : List ℕ
  entry = the_entry image acc name there

  abbrev pub stored : List ℕ → List ℕ
  stored = with_fork fork (A f) logical bs changed

  pub listed : map (on_named name stored) (directory image)
      ≡ alone.before ++ (stored entry ∷ alone.behind)
  listed = named_map name (directory image) alone stored

  forks_left : forks_in (map (on_named name stored) (directory image))
      ≡ around image acc name there fork ++ (fork_with (A f) logical bs ∷ beyond image acc name there fork)
  forks_left = ap forks_in listed ∙ forks_stored fork (A f) logical bs changed alone.before entry alone.behind (the_length image acc name there)

  pub rewrite_accepted : Accepted left
  rewrite_accepted =
      let t = r.step in
      accepted_from image left (map (on_named name stored) (directory image)) f.files (next_file_number f) free acc
      t.long t.facts t.entries t.pass6 t.pass7 acc.facts.numbered (rw forks_left r.forks.passes)

  -- the named entry afterwards
  unfoldable alone_now : Alone (named name) (map (on_named name stored) (directory image))
  alone_now = record {
    before = alone.before;
    it = stored entry;
    behind = alone.behind;
    whole = listed;
    passes = fork_named fork (A f) logical bs changed name entry ∙ alone.passes;
    none_before = alone.none_before;
    none_behind = alone.none_behind;
  }

  pub entry_now : entry_named name left ≡ stored entry
  unfolding entry_named alone_now
  entry_now = ap (first (named name) []) r.step.entries ∙ named_first name (map (on_named name stored) (directory image)) alone_now
