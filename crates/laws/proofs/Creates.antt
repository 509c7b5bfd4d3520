-- A create that is not refused: what it stores, where its entry stands, and that the image is accepted.
use Prim.Native.Nat.{ℕ, ◌+◌}
use mathlib.Core.Path.{◌≡◌, refl, ap, subst, ◌∙◌}
use mathlib.Core.List.{List, [], ◌∷◌, ◌++◌}
use native.Mathlib.Omega.{arith}
use lib.ListN.{length}
use Rattle.model.specs.Facts.{facts_of, N, A, S, next_file_number, free_count}
use Rattle.model.specs.Map.{map_entry}
use Rattle.model.specs.Directory.{directory, directory_blocks, listing, forks_in}
use Rattle.model.specs.Check.{Accepted}
use Rattle.model.specs.Calls.{new_entry, placed, with_directory, with_next, created, change}
use Rattle.model.specs.Calls.Call.{create}
use Rattle.model.specs.declared.VolumeFacts.{VolumeFacts}
use Rattle.model.specs.declared.ForkFacts.{ForkFacts}
use Rattle.model.specs.declared.Fork.TheVariants.{Data, Resource}
use Rattle.laws.proofs.MapChecks.{MapPasses}
use Rattle.laws.proofs.Alike.{Alike, alike_trans}
use Rattle.laws.proofs.MapSteps.{blank_fork, ForksChanged, create_changed}
use Rattle.laws.proofs.Entry.{new_fork, new_sound}
use Rattle.laws.proofs.Blocks.{clean_whole, placed_stays, Inserted}
use Rattle.laws.proofs.Image.{blocks_count}
use Rattle.laws.proofs.DirectorySteps.{DirectoryStored, clean_now, created_inserted, created_step}
use Rattle.laws.proofs.Refusals.{MayCreate}
use Rattle.laws.proofs.Acceptance.{area, map_passes, forks_append, accepted_from, readable_of}
use Rattle.laws.proofs.Bases.{alike_directory, alike_files, alike_next}

module _ (image : List ℕ) (acc : Accepted image) (name finder : List ℕ) (made changed : ℕ) (whole : length finder ≡ 16) (m : MayCreate image name) where
  abbrev f : VolumeFacts
  f = facts_of image

  abbrev e : List ℕ
  e = new_entry (next_file_number f) name finder made changed

  abbrev new_blocks : List (List ℕ)
  new_blocks = placed e (directory_blocks f image)

  -- the image left
  abbrev pub left : List ℕ
  left = created f image e

  pub is_left : change (create name finder made changed) image ≡ left
  unfolding change
  is_left = refl

  -- where the entry stands
  pub inserted : Inserted e (directory image) (listing new_blocks)
  inserted = created_inserted image (readable_of image acc) name finder made changed whole m.title.some m.room

  -- what the stores of the directory and of the counts do
  pub step : DirectoryStored image image (listing new_blocks) (f.files + 1) (next_file_number f + 1) (free_count f) left
  step = created_step image (readable_of image acc) name finder made changed whole m.title.some m.room m.fresh

  alike : Alike (S f) left image
  unfolding created
  alike =
      let r = readable_of image acc in
      let st = placed_stays e (directory_blocks f image) (new_sound (next_file_number f) name finder made changed whole m.title.some) (clean_now image r) in
      let d = with_directory f image new_blocks in
      alike_trans (S f) left (with_next (next_file_number f + 1) d) image (alike_files image acc (f.files + 1) (with_next (next_file_number f + 1) d))
      (alike_trans (S f) (with_next (next_file_number f + 1) d) d image (alike_next image acc (next_file_number f + 1) d)
      (alike_directory image acc image new_blocks refl (clean_whole new_blocks st.clean) (st.count ∙ blocks_count f image r.within)))

  abbrev before : List ForkFacts
  before = forks_in inserted.before

  abbrev beyond : List ForkFacts
  beyond = forks_in inserted.behind

  passes : MapPasses (map_entry image) (N f) (A f) (free_count f) (before ++ beyond)
  passes =
      let split : forks_in (directory image) ≡ before ++ beyond = ap forks_in inserted.old ∙ forks_append inserted.before inserted.behind in
      subst (MapPasses (map_entry image) (N f) (A f) (free_count f)) split (map_passes image acc)

  -- the forks and their bytes
  pub map_changed : ForksChanged (S f) (A f) (N f) (free_count f) image left before (blank_fork ∷ blank_fork ∷ []) beyond
  map_changed = create_changed (S f) (A f) (N f) (free_count f) image (area image acc) before beyond passes left alike

  forks_left : forks_in (listing new_blocks) ≡ before ++ (blank_fork ∷ blank_fork ∷ beyond)
  unfolding forks_in
  forks_left =
      let blank = new_fork (next_file_number f) name finder made changed whole in
      ap forks_in inserted.new ∙ forks_append inserted.before (e ∷ inserted.behind)
      ∙ (λ i. before ++ (blank Data i ∷ blank Resource i ∷ beyond))

  pub create_accepted : Accepted left
  create_accepted =
      accepted_from image left (listing new_blocks) (f.files + 1) (next_file_number f + 1) (free_count f) acc
      step.long step.facts step.entries step.pass6 step.pass7 (omega arith) (rw forks_left map_changed.passes)
