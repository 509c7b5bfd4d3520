-- A create that is not refused: the image reads as the history says, and differs in the named bytes alone.
use Prim.Native.Nat.{ℕ, ◌+◌}
use mathlib.Core.Path.{◌≡◌, refl, ap, ap₂, ◌∙◌}
use mathlib.Core.List.{List, [], ◌∷◌, ◌++◌, map}
use native.Mathlib.Omega.{arith}
use lib.ListN.{length}
use Rattle.model.specs.Lists.{times, Reordered}
use Rattle.model.specs.Bytes.{Bytes}
use Rattle.model.specs.Facts.{facts_of, N, A, S, next_file_number, free_count, with_counts}
use Rattle.model.specs.Directory.{directory_blocks, directory, listing, fork_of}
use Rattle.model.specs.Check.{Accepted}
use Rattle.model.specs.Calls.{refusal, Fits, new_entry, placed}
use Rattle.model.specs.Calls.Call.{create}
use Rattle.history.specs.History.{File, History, empty, held_in, file_in, files_in, facts_now, new_file, moves, OnlyNamed, Agrees}
use Rattle.model.specs.declared.VolumeFacts.{VolumeFacts}
use Rattle.model.specs.declared.ForkFacts.{ForkFacts}
use Rattle.model.specs.declared.Fork.TheVariants.{Data, Resource}
use Rattle.laws.proofs.Reorder.{after_create}
use Rattle.laws.proofs.MapSteps.{blank_fork, Framed, blank_bytes, blank_count}
use Rattle.laws.proofs.Entry.{new_flags, new_number, new_name, new_finder, new_created, new_changed, new_fork}
use Rattle.laws.proofs.Blocks.{Inserted, inserted_reordered}
use Rattle.laws.proofs.DirectorySteps.{DirectoryStored}
use Rattle.laws.proofs.Refusals.{MayCreate, may_create}
use Rattle.laws.proofs.Creates.{left, inserted, step, map_changed, create_accepted, is_left}
use Rattle.laws.proofs.BytesKept.{created_bytes}
use Rattle.history.proofs.Answers.{same_next}
use Rattle.history.proofs.Reading.{SameVolume, agrees_from, files_around}
use Rattle.history.proofs.Joined.{only_named, Done}

-- a fork with no bytes and no blocks
held_blank : (f : VolumeFacts) (image : List ℕ) (g : ForkFacts) → g ≡ blank_fork → held_in f image g ≡ empty
unfolding held_in empty
held_blank f image g h =
    ap (held_in f image) h ∙ (λ i. record { bytes = blank_bytes (S f) (A f) image i; count = blank_count (A f) i })

new_file_lem : (f : VolumeFacts) (left : List ℕ) (number : ℕ) (name finder : List ℕ) (made changed : ℕ) → length finder ≡ 16
    → file_in f left (new_entry number name finder made changed) ≡ new_file number name finder made changed
unfolding file_in new_file
new_file_lem f left number name finder made changed w = λ i. record {
  number = new_number number name finder made changed w i;
  name = new_name number name finder made changed w i;
  flags = new_flags number name finder made changed w i;
  finder = new_finder number name finder made changed w i;
  created = new_created number name finder made changed w i;
  changed = new_changed number name finder made changed w i;
  content = held_blank f left (fork_of Data (new_entry number name finder made changed)) (new_fork number name finder made changed w Data) i;
  resource = held_blank f left (fork_of Resource (new_entry number name finder made changed)) (new_fork number name finder made changed w Resource) i;
}

module _ (image : List ℕ) (acc : Accepted image) (name finder : List ℕ) (made changed : ℕ) (whole : length finder ≡ 16) (m : MayCreate image name) where
  abbrev f : VolumeFacts
  f = facts_of image

  abbrev new : List ℕ
  new = new_entry (next_file_number f) name finder made changed

  abbrev all : List (List ℕ)
  all = listing (placed new (directory_blocks f image))

  abbrev after : List ℕ
  after = left image acc name finder made changed whole m

  abbrev i : Inserted new (directory image) all
  i = inserted image acc name finder made changed whole m

  abbrev t : DirectoryStored image image all (f.files + 1) (next_file_number f + 1) (free_count f) after
  t = step image acc name finder made changed whole m

  same_files : map (file_in f after) (directory image) ≡ map (file_in f image) (directory image)
  same_files =
      files_around f (N f) (free_count f) image after i.before i.behind (directory image) (blank_fork ∷ blank_fork ∷ []) i.old
      (map_changed image acc name finder made changed whole m)

  files_in_left : files_in after ≡ map (file_in f after) all
  unfolding files_in file_in held_in with_counts
  files_in_left = ap₂ (λ (v : VolumeFacts) (xs : List (List ℕ)). map (file_in v after) xs) t.facts t.entries

  module _ (h : History) (a : Agrees image h) where
    abbrev next_facts : VolumeFacts
    next_facts = with_counts h.facts h.facts.files (next_file_number h.facts + 1) (free_count h.facts)

    abbrev file : File
    file = new_file (next_file_number h.facts) name finder made changed

    same_volume : SameVolume (facts_of after) next_facts
    unfolding SameVolume with_counts facts_now
    same_volume =
        ap (λ (v : VolumeFacts). with_counts v 0 (next_file_number v) 0) t.facts
        ∙ ap (λ (v : VolumeFacts). with_counts v 0 (next_file_number v + 1) 0) a.facts

    in_order : Reordered (files_in after) (h.files ++ (file ∷ []))
    unfolding files_in
    in_order =
        rw files_in_left
        (after_create (file_in f image) (file_in f after) (directory image) a.files new file (inserted_reordered new (directory image) all i)
        (new_file_lem f after (next_file_number f) name finder made changed whole ∙ ap (λ (n : ℕ). new_file n name finder made changed) (same_next image h a))
        same_files)

    pub create_agrees : Agrees after (moves h (create name finder made changed))
    unfolding moves
    create_agrees =
        agrees_from after (moves h (create name finder made changed)) (create_accepted image acc name finder made changed whole m) in_order same_volume

  nothing : Framed (S f) (A f) [] image image
  nothing = record { size = refl; before = refl; between = refl; halves = λ h x y. refl }

  pub create_kept : OnlyNamed (create name finder made changed) image after
  unfolding times
  create_kept =
      only_named image (create name finder made changed) [] image after all (f.files + 1) (next_file_number f + 1) (free_count f) (omega arith) t nothing
      (λ b k. absurd (omega arith))

pub create_done : (name finder : List ℕ) (made changed : ℕ) (image : List ℕ) (h : History) → Accepted image → Agrees image h → Bytes image
    → Fits (create name finder made changed) → refusal (create name finder made changed) image ≡ 0 → Done (create name finder made changed) image h
unfolding Fits
create_done name finder made changed image h acc a b w z =
    let m = may_create image name finder made changed z in
    let l = is_left image acc name finder made changed w.2 m in
    record {
      bytes = created_bytes image acc b name finder made changed w m;
      accepted = rw l (create_accepted image acc name finder made changed w.2 m);
      agrees = rw l (create_agrees image acc name finder made changed w.2 m h a);
      kept = rw l (create_kept image acc name finder made changed w.2 m);
    }
