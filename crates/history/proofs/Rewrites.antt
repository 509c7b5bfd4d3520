-- Write and cut: one fork of the named file gets other fields, what its blocks hold is the history's, and all other files stay.
use Prim.Native.Nat.{ℕ, ◌≤◌}
use mathlib.Core.Path.{◌≡◌, refl, sym, ap, ap₂, ◌∙◌}
use mathlib.Core.Bool.{true}
use mathlib.Core.List.{List, [], ◌∷◌, ◌++◌, map, map-append}
use lib.ListN.{length}
use Rattle.model.specs.Lists.{any, times}
use Rattle.model.specs.Facts.{facts_of, A, S, next_file_number, with_counts}
use Rattle.model.specs.Map.{map_entry}
use Rattle.model.specs.Directory.{directory, fork_of, forks_in, fork_blocks, named}
use Rattle.model.specs.Check.{Accepted}
use Rattle.model.specs.Calls.{Call, fork_bytes, on_named, with_fork}
use Rattle.history.specs.History.{Held, File, History, held_in, file_in, files_in, facts_now, changed_fork, on_called, called, following}
use Rattle.history.specs.History.{named_blocks, blocks_named, OnlyNamed, Agrees}
use Rattle.model.specs.declared.VolumeFacts.{VolumeFacts}
use Rattle.model.specs.declared.ForkFacts.{ForkFacts}
use Rattle.model.specs.declared.Fork.{Fork}
use Rattle.model.specs.declared.Fork.TheVariants.{Data, Resource}
use Rattle.laws.proofs.Reorder.{after_change}
use Rattle.laws.proofs.Sound.{Each, each_same, each_left, each_right}
use Rattle.laws.proofs.MapSteps.{fork_with}
use Rattle.laws.proofs.Entry.{fork_flags, fork_number, fork_finder, fork_created, fork_name, fork_changed, fork_fields, other_resource, other_data}
use Rattle.laws.proofs.TheEntry.{the_length, around, beyond}
use Rattle.laws.proofs.Rewrites.{Rewritten, alone, entry, stored, listed, rewrite_accepted, entry_now}
use Rattle.history.proofs.Reading.{SameVolume, agrees_from, held_same, files_same}
use Rattle.history.proofs.Joined.{only_named, uncalled}

-- a file whose one fork has other fields and holds F of what it held, and whose other fork keeps its bytes
other : Fork → Fork
other Data = Resource
other Resource = Data

file_stored : (fork : Fork) (f : VolumeFacts) (image left e : List ℕ) (logical : ℕ) (bs : List ℕ) (changed : ℕ) (F : Held → Held) → 50 ≤ length e
    → held_in f left (fork_with (A f) logical bs) ≡ F (held_in f image (fork_of fork e))
    → fork_bytes (S f) (A f) left (fork_of (other fork) e) ≡ fork_bytes (S f) (A f) image (fork_of (other fork) e)
    → file_in f left (with_fork fork (A f) logical bs changed e) ≡ changed_fork fork F changed (file_in f image e)
unfolding file_in changed_fork other
file_stored Data f image left e logical bs changed F l own h = λ i. record {
  number = fork_number Data (A f) logical bs changed e i;
  name = fork_name Data (A f) logical bs changed e i;
  flags = fork_flags Data (A f) logical bs changed e i;
  finder = fork_finder Data (A f) logical bs changed e i;
  created = fork_created Data (A f) logical bs changed e i;
  changed = fork_changed Data (A f) logical bs changed e l i;
  content = (ap (held_in f left) (fork_fields Data (A f) logical bs changed e l) ∙ own) i;
  resource = (ap (held_in f left) (other_resource (A f) logical bs changed e) ∙ held_same f f image left (fork_of Resource e) refl refl h) i;
}
file_stored Resource f image left e logical bs changed F l own h = λ i. record {
  number = fork_number Resource (A f) logical bs changed e i;
  name = fork_name Resource (A f) logical bs changed e i;
  flags = fork_flags Resource (A f) logical bs changed e i;
  finder = fork_finder Resource (A f) logical bs changed e i;
  created = fork_created Resource (A f) logical bs changed e i;
  changed = fork_changed Resource (A f) logical bs changed e l i;
  content = (ap (held_in f left) (other_data (A f) logical bs changed e) ∙ held_same f f image left (fork_of Data e) refl refl h) i;
  resource = (ap (held_in f left) (fork_fields Resource (A f) logical bs changed e l) ∙ own) i;
}

-- the file that the name calls changes
called_changes : (name : List ℕ) (g : File → File) (f : VolumeFacts) (image e : List ℕ) → named name e ≡ true
    → on_called name g (file_in f image e) ≡ g (file_in f image e)
unfolding on_called called named file_in
called_changes name g f image e h = rw h

module _ {image : List ℕ} {acc : Accepted image} {name : List ℕ} {there : any (named name) (directory image) ≡ true}
    {fork : Fork} {logical : ℕ} {bs touched : List ℕ} {changed free : ℕ} {left : List ℕ}
    (r : Rewritten image acc name there fork logical bs touched changed free left) where
  abbrev f : VolumeFacts
  f = facts_of image

  -- the bytes of every other fork are the same
  abbrev Same : ForkFacts → Type 0
  Same x = fork_bytes (S f) (A f) left x ≡ fork_bytes (S f) (A f) image x

  same_before : Each Same (around image acc name there fork)
  same_before = each_same (fork_bytes (S f) (A f) left) (fork_bytes (S f) (A f) image) (around image acc name there fork) r.forks.bytes_before

  same_behind : Each Same (beyond image acc name there fork)
  same_behind = each_same (fork_bytes (S f) (A f) left) (fork_bytes (S f) (A f) image) (beyond image acc name there fork) r.forks.bytes_behind

  before_same : map (file_in f left) (alone r).before ≡ map (file_in f image) (alone r).before
  before_same = files_same f f image left (alone r).before refl refl (go fork same_before)
    where
      go : (k : Fork) → Each Same (around image acc name there k) → Each Same (forks_in (alone r).before)
      go Data x = x
      go Resource x = each_left Same (forks_in (alone r).before) (fork_of Data (entry r) ∷ []) x

  behind_same : map (file_in f left) (alone r).behind ≡ map (file_in f image) (alone r).behind
  unfolding Each
  behind_same = files_same f f image left (alone r).behind refl refl (go fork same_behind)
    where
      go : (k : Fork) → Each Same (beyond image acc name there k) → Each Same (forks_in (alone r).behind)
      go Data x = x.1
      go Resource x = x

  other_same : Same (fork_of (other fork) (entry r))
  unfolding other Each
  other_same = go fork same_before same_behind
    where
      go : (k : Fork) → Each Same (around image acc name there k) → Each Same (beyond image acc name there k) → Same (fork_of (other k) (entry r))
      go Data p q = q.0
      go Resource p q = (each_right Same (forks_in (alone r).before) (fork_of Data (entry r) ∷ []) p).0

  files_in_left : files_in left ≡ map (file_in f left) (map (on_named name (stored r)) (directory image))
  unfolding files_in file_in held_in with_counts
  files_in_left = ap₂ (λ (v : VolumeFacts) (xs : List (List ℕ)). map (file_in v left) xs) r.step.facts r.step.entries

  -- what the fork holds is F of what it held
  module _ (F : Held → Held)
      (own : held_in (facts_of image) left (fork_with (A (facts_of image)) logical bs) ≡ F (held_in (facts_of image) image (fork_of fork (entry r)))) where
    abbrev step : File → File
    step = on_called name (changed_fork fork F changed)

    -- the named file changes in the history, and no other
    history_now : map step (map (file_in f image) (directory image))
        ≡ map (file_in f image) (alone r).before ++ (changed_fork fork F changed (file_in f image (entry r)) ∷ map (file_in f image) (alone r).behind)
    history_now =
        let g = changed_fork fork F changed in
        ap (λ (xs : List (List ℕ)). map step (map (file_in f image) xs)) (alone r).whole
        ∙ ap (map step) (map-append (file_in f image) (alone r).before (entry r ∷ (alone r).behind))
        ∙ map-append step (map (file_in f image) (alone r).before) (file_in f image (entry r) ∷ map (file_in f image) (alone r).behind)
        ∙ (λ i. uncalled name g f image (alone r).before (alone r).none_before i
        ++ (called_changes name g f image (entry r) (alone r).passes i ∷ uncalled name g f image (alone r).behind (alone r).none_behind i))

    -- every file is the history's
    files_now : map (file_in f left) (map (on_named name (stored r)) (directory image)) ≡ map step (map (file_in f image) (directory image))
    files_now =
        let file = file_stored fork f image left (entry r) logical bs changed F (the_length image acc name there) own other_same in
        ap (map (file_in f left)) (listed r)
        ∙ map-append (file_in f left) (alone r).before (stored r (entry r) ∷ (alone r).behind)
        ∙ (λ i. before_same i ++ (file i ∷ behind_same i))
        ∙ sym history_now

    module _ (h : History) (a : Agrees image h) where
      same_volume : SameVolume (facts_of left) h.facts
      unfolding SameVolume with_counts facts_now
      same_volume =
          ap (λ (v : VolumeFacts). with_counts v 0 (next_file_number v) 0) r.step.facts
          ∙ ap (λ (v : VolumeFacts). with_counts v 0 (next_file_number v) 0) a.facts

      pub rewrite_agrees : Agrees left (record { facts = h.facts; files = map step h.files })
      unfolding files_in
      rewrite_agrees =
          agrees_from left (record { facts = h.facts; files = map step h.files }) (rewrite_accepted r)
          (rw files_in_left (after_change (file_in f image) (file_in f left) (directory image) a.files (on_named name (stored r)) step files_now)) same_volume

  -- the blocks of the named fork afterwards
  pub named_now_blocks : blocks_named left name fork ≡ fork_blocks (map_entry left) (A f) (fork_with (A f) logical bs)
  unfolding blocks_named with_counts
  named_now_blocks =
      ap₂ (λ (v : VolumeFacts) (x : List ℕ). fork_blocks (map_entry left) (A v) (fork_of fork x)) r.step.facts (entry_now r)
      ∙ ap (fork_blocks (map_entry left) (A f)) (fork_fields fork (A f) logical bs changed (entry r) (the_length image acc name there))

  -- only the named bytes differ, where the blocks touched are the named fork's before or after
  pub rewrite_kept : (call : Call) → 1 ≤ (following call).directories
      → ((b : ℕ) → 1 ≤ times b touched → 1 ≤ times b (named_blocks call image ++ named_blocks call left)) → OnlyNamed call image left
  rewrite_kept call one sub =
      only_named image call touched r.base left (map (on_named name (stored r)) (directory image)) f.files (next_file_number f) free one
      r.step r.frame sub
