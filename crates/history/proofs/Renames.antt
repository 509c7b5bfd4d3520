-- A rename that is not refused: the image reads as the history says, and differs in two directory blocks alone.
use Prim.Native.Nat.{ℕ, zero, suc, ◌+◌, ◌≤◌, ◌<◌}
use mathlib.Core.Path.{◌≡◌, refl, sym, ap, subst, ◌∙◌}
use mathlib.Core.List.{List, [], ◌∷◌, ◌++◌, map, map-append}
use native.Mathlib.Omega.{arith}
use lib.ListN.{length}
use Rattle.model.specs.Lists.{Reordered, then}
use Rattle.model.specs.Bytes.{Bytes}
use Rattle.model.specs.Facts.{facts_of, dir_start, dir_length, A, S, next_file_number, with_counts}
use Rattle.model.specs.Directory.{directory, fork_of, forks_in, named}
use Rattle.model.specs.Check.{Accepted}
use Rattle.model.specs.Calls.{refusal, Fits, fork_bytes, retitled}
use Rattle.model.specs.Calls.Call.{rename}
use Rattle.history.specs.History.{File, History, called, on_called, retitled_file, held_in, file_in, files_in, facts_now, moves, directory_at, OnlyNamed, Agrees}
use Rattle.history.specs.History.{in_directory}
use Rattle.model.specs.declared.VolumeFacts.{VolumeFacts}
use Rattle.model.specs.declared.ForkFacts.{ForkFacts}
use Rattle.model.specs.declared.Fork.TheVariants.{Data, Resource}
use Rattle.model.proofs.Lists.{middle, back, reordered_map}
use Rattle.laws.proofs.Reorder.{Alone}
use Rattle.laws.proofs.Sound.{Each, each_left, each_right, each_same}
use Rattle.laws.proofs.Titles.{retitled_flags, retitled_number, retitled_created, retitled_finder, retitled_fork, retitled_changed, retitled_name}
use Rattle.laws.proofs.Refusals.{MayRename, may_rename}
use Rattle.laws.proofs.Acceptance.{forks_append}
use Rattle.laws.proofs.TheEntry.{it_alone}
use Rattle.laws.proofs.Renames.{was, now, others, left, is_left, same_facts, same_length, in_order, was_long, map_changed, two_differ}
use Rattle.laws.proofs.Renames.{rename_accepted}
use Rattle.laws.proofs.BytesKept.{renamed_bytes}
use Rattle.history.proofs.Reading.{SameVolume, agrees_from, held_same, files_same}
use Rattle.history.proofs.Joined.{uncalled, Done}

-- the file of an entry with another name, whose forks keep their bytes
renamed_file : (f : VolumeFacts) (image left new : List ℕ) (changed : ℕ) (e : List ℕ) → 46 ≤ length e
    → fork_bytes (S f) (A f) left (fork_of Data e) ≡ fork_bytes (S f) (A f) image (fork_of Data e)
    → fork_bytes (S f) (A f) left (fork_of Resource e) ≡ fork_bytes (S f) (A f) image (fork_of Resource e)
    → file_in f left (retitled new changed e) ≡ retitled_file new changed (file_in f image e)
unfolding file_in retitled_file
renamed_file f image left new changed e l d r = λ i. record {
  number = retitled_number new changed e l i;
  name = retitled_name new changed e l i;
  flags = retitled_flags new changed e l i;
  finder = retitled_finder new changed e l i;
  created = retitled_created new changed e l i;
  changed = retitled_changed new changed e l i;
  content = (ap (held_in f left) (retitled_fork new changed e l Data) ∙ held_same f f image left (fork_of Data e) refl refl d) i;
  resource = (ap (held_in f left) (retitled_fork new changed e l Resource) ∙ held_same f f image left (fork_of Resource e) refl refl r) i;
}

-- what holds of two directory blocks holds of each in the list of them
both : (P : ℕ → Type 0) (d e : ℕ) → P d → P e → (i : ℕ) → i < 2 → P (directory_at (record { 0 = d } ∷ record { 0 = e } ∷ []) i)
both P d e p q zero l = p
both P d e p q (suc zero) l = q
both P d e p q (suc (suc i)) l = absurd (omega arith)

module _ (image : List ℕ) (acc : Accepted image) (name new : List ℕ) (changed : ℕ) (m : MayRename image name new) where
  abbrev f : VolumeFacts
  f = facts_of image

  abbrev it : Alone (named name) (directory image)
  it = it_alone image acc name m.file.exists

  abbrev old : List ℕ
  old = was image acc name new changed m

  abbrev titled : List ℕ
  titled = now image acc name new changed m

  abbrev rest : List (List ℕ)
  rest = others image acc name new changed m

  abbrev after : List ℕ
  after = left image acc name new changed m

  abbrev Same : ForkFacts → Type 0
  Same x = fork_bytes (S f) (A f) after x ≡ fork_bytes (S f) (A f) image x

  -- every fork keeps its bytes
  all_same : Each Same (forks_in it.before ++ forks_in (old ∷ it.behind))
  all_same =
      subst (Each Same) (ap forks_in it.whole ∙ forks_append it.before (old ∷ it.behind))
      (each_same (fork_bytes (S f) (A f) after) (fork_bytes (S f) (A f) image) (forks_in (directory image))
      (map_changed image acc name new changed m).bytes_behind)

  own_same : Same (fork_of Data old) × (Same (fork_of Resource old) × Each Same (forks_in it.behind))
  unfolding forks_in Each
  own_same = each_right Same (forks_in it.before) (forks_in (old ∷ it.behind)) all_same

  others_same : map (file_in f after) rest ≡ map (file_in f image) rest
  others_same =
      let x = files_same f f image after it.before refl refl (each_left Same (forks_in it.before) (forks_in (old ∷ it.behind)) all_same) in
      let y = files_same f f image after it.behind refl refl own_same.1.1 in
      map-append (file_in f after) it.before it.behind ∙ (λ i. x i ++ y i) ∙ sym (map-append (file_in f image) it.before it.behind)

  abbrev retitle : File → File
  retitle = retitled_file new changed

  its_file : file_in f after titled ≡ retitle (file_in f image old)
  its_file = renamed_file f image after new changed old (was_long image acc name new changed m) own_same.0 own_same.1.0

  -- the files of the image before, with the step done
  stepped : map (on_called name retitle) (files_in image)
      ≡ map (file_in f image) it.before ++ (retitle (file_in f image old) ∷ map (file_in f image) it.behind)
  unfolding files_in on_called called named file_in
  stepped =
      ap (λ (es : List (List ℕ)). map (on_called name retitle) (map (file_in f image) es)) it.whole
      ∙ rw (
        map-append (file_in f image) it.before (old ∷ it.behind),
        map-append (on_called name retitle) (map (file_in f image) it.before) (map (file_in f image) (old ∷ it.behind)),
        uncalled name retitle f image it.before it.none_before,
        uncalled name retitle f image it.behind it.none_behind,
        it.passes,
      )

  files_in_left : files_in after ≡ map (file_in f after) (directory after)
  unfolding files_in
  files_in_left = ap (λ (v : VolumeFacts). map (file_in v after) (directory after)) (same_facts image acc name new changed m)

  files_order : Reordered (files_in after) (map (on_called name retitle) (files_in image))
  files_order =
      let tell = file_in f image in
      let first : Reordered (map (file_in f after) (directory after)) (file_in f after titled ∷ map (file_in f after) rest) =
      reordered_map (file_in f after) (in_order image acc name new changed m) in
      let same : file_in f after titled ∷ map (file_in f after) rest ≡ retitle (tell old) ∷ (map tell it.before ++ map tell it.behind) =
      λ i. its_file i ∷ (others_same ∙ map-append tell it.before it.behind) i in
      rw (files_in_left, stepped)
      (then (subst (Reordered (map (file_in f after) (directory after))) same first)
      (back (middle (retitle (tell old)) (map tell it.before) (map tell it.behind))))

  module _ (h : History) (a : Agrees image h) where
    same_volume : SameVolume (facts_of after) h.facts
    unfolding SameVolume with_counts facts_now
    same_volume =
        ap (λ (v : VolumeFacts). with_counts v 0 (next_file_number v) 0) (same_facts image acc name new changed m)
        ∙ ap (λ (v : VolumeFacts). with_counts v 0 (next_file_number v) 0) a.facts

    pub rename_agrees : Agrees after (moves h (rename name new changed))
    unfolding moves
    rename_agrees =
        agrees_from after (moves h (rename name new changed)) (rename_accepted image acc name new changed m)
        (then files_order (reordered_map (on_called name retitle) a.files)) same_volume

  pub rename_kept : OnlyNamed (rename name new changed) image after
  rename_kept =
      let t = two_differ image acc name new changed m in
      record {
        size = same_length image acc name new changed m;
        blocks = record { 0 = t.one } ∷ record { 0 = t.two } ∷ [];
        few = omega arith;
        first = λ i l. both (λ (d : ℕ). (dir_start f).0 ≤ d) t.one t.two t.one_first t.two_first i l;
        last = λ i l. both (λ (d : ℕ). d < (dir_start f).0 + dir_length f) t.one t.two t.one_last t.two_last i l;
        kept = λ h n. t.kept h (λ w. n (in_directory 0 h (omega arith) w)) (λ w. n (in_directory 1 h (omega arith) w));
      }

pub rename_done : (name new : List ℕ) (changed : ℕ) (image : List ℕ) (h : History) → Accepted image → Agrees image h → Bytes image
    → Fits (rename name new changed) → refusal (rename name new changed) image ≡ 0 → Done (rename name new changed) image h
rename_done name new changed image h acc a b w z =
    let m = may_rename image name new changed z in
    let l = is_left image acc name new changed m in
    record {
      bytes = renamed_bytes image b name new changed w m;
      accepted = rw l (rename_accepted image acc name new changed m);
      agrees = rw l (rename_agrees image acc name new changed m h a);
      kept = rw l (rename_kept image acc name new changed m);
    }
