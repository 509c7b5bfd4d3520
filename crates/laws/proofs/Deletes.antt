-- A delete that is not refused: what it stores, which entries stay, and that the image is accepted.
use Prim.Native.Nat.{ℕ, ◌+◌, ◌-◌}
use mathlib.Core.Path.{◌≡◌, ap, ◌∙◌}
use mathlib.Core.Bool.{true, not}
use mathlib.Core.List.{List, [], ◌∷◌, ◌++◌}
use lib.ListN.{length}
use Rattle.model.specs.Lists.{any, keep}
use Rattle.model.specs.Facts.{facts_of, N, A, S, next_file_number, free_count}
use Rattle.model.specs.Map.{map_entry, put_free}
use Rattle.model.specs.Directory.{directory, directory_blocks, fork_of, forks_in, named}
use Rattle.model.specs.Check.{Accepted}
use Rattle.model.specs.Calls.{entry_named, removed, with_directory, with_files, deleted, change}
use Rattle.model.specs.Calls.Call.{delete}
use Rattle.model.specs.declared.VolumeFacts.{VolumeFacts}
use Rattle.model.specs.declared.ForkFacts.{ForkFacts}
use Rattle.model.specs.declared.Fork.TheVariants.{Data, Resource}
use Rattle.laws.proofs.Reorder.{Alone}
use Rattle.laws.proofs.MapChecks.{MapPasses}
use Rattle.laws.proofs.Alike.{Alike, alike_trans}
use Rattle.laws.proofs.MapSteps.{both_blocks, Framed, ForksChanged, delete_frame, delete_changed}
use Rattle.laws.proofs.Blocks.{clean_whole, removed_stays}
use Rattle.laws.proofs.Kept.{named_keep}
use Rattle.laws.proofs.Image.{blocks_count}
use Rattle.laws.proofs.DirectorySteps.{DirectoryStored, clean_now, deleted_step}
use Rattle.laws.proofs.Refusals.{MayChangeFile}
use Rattle.laws.proofs.Acceptance.{area, forks_append, accepted_from, readable_of}
use Rattle.laws.proofs.Bases.{based, alike_directory, alike_files, alike_free}
use Rattle.laws.proofs.TheEntry.{it_alone, the_entry, the_entry_lem, passes_there}

module _ (image : List ℕ) (acc : Accepted image) (name : List ℕ) (m : MayChangeFile image name) where
  abbrev f : VolumeFacts
  f = facts_of image

  abbrev there : any (named name) (directory image) ≡ true
  there = m.exists

  abbrev o : Alone (named name) (directory image)
  o = it_alone image acc name there

  abbrev e : List ℕ
  e = the_entry image acc name there

  -- the image left
  abbrev pub left : List ℕ
  left = deleted f image name e

  same_entry : entry_named name image ≡ e
  same_entry = the_entry_lem image acc name there

  pub is_left : change (delete name) image ≡ left
  unfolding change
  is_left = ap (deleted f image name) same_entry

  abbrev before : List ForkFacts
  before = forks_in o.before

  abbrev beyond : List ForkFacts
  beyond = forks_in o.behind

  passes : MapPasses (map_entry image) (N f) (A f) (free_count f) (before ++ (fork_of Data e ∷ fork_of Resource e ∷ beyond))
  passes = passes_there image acc name there Data

  -- the blocks freed, the free count now, the image after that, and the entries that stay
  abbrev pub freed : List ℕ
  freed = both_blocks (map_entry image) (A f) (fork_of Data e) (fork_of Resource e)

  abbrev pub free : ℕ
  free = free_count f + length freed

  abbrev pub base : List ℕ
  base = put_free image freed

  abbrev pub rest : List (List ℕ)
  rest = keep (λ x. not (named name x)) (directory image)

  -- what the stores of the map, of the directory and of the counts do
  pub frame : Framed (S f) (A f) freed image base
  frame = delete_frame (S f) (A f) (N f) (free_count f) image (area image acc) before beyond (fork_of Data e) (fork_of Resource e) passes

  pub step : DirectoryStored image base rest (f.files - 1) (next_file_number f) free left
  step = deleted_step image (readable_of image acc) name there e (based image acc freed base frame)

  abbrev new_blocks : List (List ℕ)
  new_blocks = removed name (directory_blocks f image)

  alike : Alike (S f) left base
  unfolding deleted
  alike =
      let r = readable_of image acc in
      let st = removed_stays name (directory_blocks f image) (clean_now image r) in
      let d = with_directory f base new_blocks in
      alike_trans (S f) left (with_files (f.files - 1) d) base (alike_free image acc free (with_files (f.files - 1) d))
      (alike_trans (S f) (with_files (f.files - 1) d) d base (alike_files image acc (f.files - 1) d)
      (alike_directory image acc base new_blocks frame.size (clean_whole new_blocks st.clean) (st.count ∙ blocks_count f image r.within)))

  -- the forks and their bytes
  pub map_changed : ForksChanged (S f) (A f) (N f) free image left before [] beyond
  map_changed = delete_changed (S f) (A f) (N f) (free_count f) image (area image acc) before beyond (fork_of Data e) (fork_of Resource e) passes left alike

  pub listed : rest ≡ o.before ++ o.behind
  listed = named_keep name (directory image) o

  forks_left : forks_in rest ≡ before ++ beyond
  forks_left = ap forks_in listed ∙ forks_append o.before o.behind

  pub delete_accepted : Accepted left
  delete_accepted =
      accepted_from image left rest (f.files - 1) (next_file_number f) free acc step.long step.facts step.entries step.pass6 step.pass7
      acc.facts.numbered (rw forks_left map_changed.passes)
