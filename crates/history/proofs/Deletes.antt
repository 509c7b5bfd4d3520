-- A delete that is not refused: the image reads as the history says, and differs in the named bytes alone.
use Prim.Native.Nat.{ℕ, ◌-◌}
use mathlib.Core.Path.{◌≡◌, refl, ap, ap₂, ◌∙◌}
use mathlib.Core.Bool.{not}
use mathlib.Core.List.{List, [], ◌++◌, map}
use native.Mathlib.Omega.{arith}
use Rattle.model.specs.Lists.{keep, times, Reordered}
use Rattle.model.specs.Bytes.{Bytes}
use Rattle.model.specs.Facts.{facts_of, N, A, next_file_number, with_counts}
use Rattle.model.specs.Map.{map_entry}
use Rattle.model.specs.Directory.{directory, fork_of, named}
use Rattle.model.specs.Check.{Accepted}
use Rattle.model.specs.Calls.{refusal, Fits}
use Rattle.model.specs.Calls.Call.{delete}
use Rattle.history.specs.History.{History, held_in, file_in, files_in, facts_now, called, moves, named_blocks, blocks_named, OnlyNamed, Agrees}
use Rattle.model.specs.declared.VolumeFacts.{VolumeFacts}
use Rattle.model.specs.declared.Fork.TheVariants.{Data, Resource}
use Rattle.model.proofs.Times.{times_append}
use Rattle.laws.proofs.Reorder.{Alone, after_delete}
use Rattle.laws.proofs.MapSteps.{both_blocks}
use Rattle.laws.proofs.DirectorySteps.{DirectoryStored}
use Rattle.laws.proofs.Refusals.{MayChangeFile, may_delete}
use Rattle.laws.proofs.TheEntry.{it_alone, the_entry_lem}
use Rattle.laws.proofs.Deletes.{freed, free, base, rest, left, frame, step, map_changed, listed, delete_accepted, is_left}
use Rattle.laws.proofs.BytesKept.{deleted_bytes}
use Rattle.history.proofs.Reading.{SameVolume, agrees_from, files_around}
use Rattle.history.proofs.Joined.{only_named, Done}

module _ (image : List ℕ) (acc : Accepted image) (name : List ℕ) (m : MayChangeFile image name) where
  abbrev f : VolumeFacts
  f = facts_of image

  abbrev it : Alone (named name) (directory image)
  it = it_alone image acc name m.exists

  abbrev after : List ℕ
  after = left image acc name m

  abbrev others : List (List ℕ)
  others = rest image acc name m

  abbrev t : DirectoryStored image (base image acc name m) others (f.files - 1) (next_file_number f) (free image acc name m) after
  t = step image acc name m

  same_files : map (file_in f after) others ≡ map (file_in f image) others
  same_files =
      files_around f (N f) (free image acc name m) image after it.before it.behind others [] (listed image acc name m) (map_changed image acc name m)

  files_in_left : files_in after ≡ map (file_in f after) others
  unfolding files_in file_in held_in with_counts
  files_in_left = ap₂ (λ (v : VolumeFacts) (xs : List (List ℕ)). map (file_in v after) xs) t.facts t.entries

  module _ (h : History) (a : Agrees image h) where
    same_volume : SameVolume (facts_of after) h.facts
    unfolding SameVolume with_counts facts_now
    same_volume =
        ap (λ (v : VolumeFacts). with_counts v 0 (next_file_number v) 0) t.facts
        ∙ ap (λ (v : VolumeFacts). with_counts v 0 (next_file_number v) 0) a.facts

    in_order : Reordered (files_in after) (keep (λ x. not (called name x)) h.files)
    unfolding files_in called named file_in
    in_order =
        rw files_in_left
        (after_delete (file_in f image) (file_in f after) (directory image) a.files (λ x. not (named name x)) (λ x. not (called name x))
        (λ x. refl) same_files)

    pub delete_agrees : Agrees after (moves h (delete name))
    unfolding moves
    delete_agrees = agrees_from after (moves h (delete name)) (delete_accepted image acc name m) in_order same_volume

  before_blocks : blocks_named image name Data ++ blocks_named image name Resource ≡ freed image acc name m
  unfolding blocks_named
  before_blocks =
      ap (λ (x : List ℕ). both_blocks (map_entry image) (A f) (fork_of Data x) (fork_of Resource x)) (the_entry_lem image acc name m.exists)

  pub delete_kept : OnlyNamed (delete name) image after
  unfolding named_blocks
  delete_kept =
      only_named image (delete name) (freed image acc name m) (base image acc name m) after others (f.files - 1) (next_file_number f)
      (free image acc name m) (omega arith) t (frame image acc name m)
      (λ b k. omega (arith, times_append b (named_blocks (delete name) image) (named_blocks (delete name) after), ap (times b) before_blocks))

pub delete_done : (name : List ℕ) (image : List ℕ) (h : History) → Accepted image → Agrees image h → Bytes image
    → Fits (delete name) → refusal (delete name) image ≡ 0 → Done (delete name) image h
delete_done name image h acc a b w z =
    let m = may_delete image name z in
    let l = is_left image acc name m in
    record {
      bytes = deleted_bytes image acc b name w m;
      accepted = rw l (delete_accepted image acc name m);
      agrees = rw l (delete_agrees image acc name m h a);
      kept = rw l (delete_kept image acc name m);
    }
