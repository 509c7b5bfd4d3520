-- The returns of the calls on an image that is not accepted.
use Rattle.std.proofs.Common.{Err}
use Prim.Native.Nat.{ℕ, ◌^◌, ◌<◌}
use mathlib.Core.Path.{◌≡◌, refl, sym, ◌∙◌}
use mathlib.Core.List.{List}
use lib.ListN.{length}
use Rattle.model.specs.Bytes.{Bytes}
use Rattle.model.specs.Check.{verdict}
use Rattle.model.specs.Calls.{Call, Does, Fits, checks, carries, only, lent}
use Rattle.model.specs.Calls.Call.{check, entry, find, block, read, create, write, cut, delete, rename}
use Rattle.laws.proofs.Calls.{by_checks, does_refuse}
use Rattle.model.specs.declared.Fork.{Fork}
use Rattle.model.specs.Refusals.{number_of}
use Rattle.model.proofs.Refusals.{number_some}
use Rattle.model.specs.declared.refusal.Refusal.{Refusal}
use Rattle.files.specs.Told.{told_check, told_entry, told_find, told_block, told_read, told_number}
use Rattle.volume.proofs.Checked.{number_is}

-- check refused the image
module _ {image : List ℕ} (refusal : Refusal) (d : Does check image (told_check (Err refusal)) image) where
  abbrev n : ℕ
  n = number_of refusal

  z : n ≡ 0 → ⊥
  z = number_some refusal

  -- each call that checks 1 to 10 first answers that number and leaves the image
  stop : (call : Call) → Fits call → checks call image ≡ verdict image → carries call n image ≡ 0 → Does call image (only n (lent call)) image
  stop call fits c k = does_refuse call image n d.bytes fits (by_checks call image n (number_is (Err refusal) d ∙ sym c) z) z k

  pub entry_stopped : {place : ℕ} → place < 2 ^ 64 → Does (entry place) image (told_entry (Err refusal)) image
  unfolding Fits checks carries only lent
  entry_stopped {place} fits = stop (entry place) fits refl refl

  pub find_stopped : {name : List ℕ} → Bytes name → Does (find name) image (told_find (Err refusal)) image
  unfolding Fits checks carries only lent
  find_stopped {name} fits = stop (find name) fits refl refl

  pub block_stopped : {name : List ℕ} {fork : Fork} {place : ℕ} → Bytes name → place < 2 ^ 64
      → Does (block name fork place) image (told_block (Err refusal)) image
  unfolding Fits checks carries only lent
  block_stopped {name} {fork} {place} letters fits = stop (block name fork place) (letters, fits) refl refl

  pub read_stopped : {name : List ℕ} {fork : Fork} {offset : ℕ} {buffer : List ℕ} → Bytes name → offset < 2 ^ 64 → Bytes buffer
      → Does (read name fork offset buffer) image (told_read (Err refusal) buffer) image
  unfolding Fits checks carries only lent
  read_stopped {name} {fork} {offset} {buffer} letters fits room = stop (read name fork offset buffer) (letters, fits, room) refl refl

  pub create_stopped : {name finder : List ℕ} {created changed : ℕ} → Bytes name → Bytes finder → length finder ≡ 16 → created < 2 ^ 32 → changed < 2 ^ 32
      → Does (create name finder created changed) image (told_number (Err refusal)) image
  unfolding Fits checks carries lent
  create_stopped {name} {finder} {created} {changed} letters octets long made fits =
      stop (create name finder created changed) (letters, octets, long, made, fits) refl refl

  pub write_stopped : {name : List ℕ} {fork : Fork} {offset : ℕ} {bytes : List ℕ} {changed : ℕ}
      → Bytes name → offset < 2 ^ 64 → Bytes bytes → changed < 2 ^ 32
      → Does (write name fork offset bytes changed) image (told_number (Err refusal)) image
  unfolding Fits checks carries lent
  write_stopped {name} {fork} {offset} {bytes} {changed} letters at octets fits =
      stop (write name fork offset bytes changed) (letters, at, octets, fits) refl refl

  pub cut_stopped : {name : List ℕ} {fork : Fork} {size changed : ℕ} → Bytes name → size < 2 ^ 64 → changed < 2 ^ 32
      → Does (cut name fork size changed) image (told_number (Err refusal)) image
  unfolding Fits checks carries lent
  cut_stopped {name} {fork} {size} {changed} letters long fits = stop (cut name fork size changed) (letters, long, fits) refl refl

  pub delete_stopped : {name : List ℕ} → Bytes name → Does (delete name) image (told_number (Err refusal)) image
  unfolding Fits checks carries lent
  delete_stopped {name} letters = stop (delete name) letters refl refl

  pub rename_stopped : {name new : List ℕ} {changed : ℕ} → Bytes name → Bytes new → changed < 2 ^ 32 → Does (rename name new changed) image (told_number (Err refusal)) image
  unfolding Fits checks carries lent
  rename_stopped {name} {new} {changed} letters fresh fits = stop (rename name new changed) (letters, fresh, fits) refl refl
