-- How the calls' returns meet `DoesWrapped`: refused by 22 to 24, a call that only reads, a call that changes.
use Rattle.std.proofs.Common.{Ok, Err}
use Prim.Native.Nat.{ℕ, ◌-◌, ◌≤◌}
use mathlib.Core.Path.{◌≡◌, sym, ap, subst, ◌∙◌}
use mathlib.Core.Bool.{true}
use mathlib.Core.List.{List}
use lib.ListN.{length, take, drop}
use borrow.Rule.Slice.PartMut.{put_mid, same_len_mid}
use Rattle.model.specs.Bytes.{Bytes}
use Rattle.model.specs.Container.{inside, container_verdict, with_data, renewed}
use Rattle.model.specs.Calls.{Call, Answer, only, lent, serves_wrapped, Fits, Does}
use Rattle.model.specs.Calls.{refusal as refusal_of}
use Rattle.model.specs.Wrapped.{DoesWrapped}
use Rattle.model.proofs.Container.{passes_sound, room}
use Rattle.laws.proofs.Refusals.{refused}
use Rattle.laws.proofs.Containers.{data_is, back_is, with_same, inside_length, renewed_with}
use Rattle.laws.proofs.Wrapped.{bare, outer_refusal, outer_answer, inner_answer, left_refused, left_is, left_same}
use Rattle.history.proofs.Run.{number_is}
use Rattle.files.specs.Told.{told_number}
use Rattle.model.specs.Refusals.{number_of}
use Rattle.model.proofs.Refusals.{number_some}
use Rattle.model.specs.declared.refusal.Refusal.{Refusal}

module _ (file : List ℕ) (octets : Bytes file) where
  -- 22 to 24
  pub stopped : (call : Call) (n : ℕ) → serves_wrapped call ≡ true → Fits call → n ≡ container_verdict file → (n ≡ 0 → ⊥)
      → DoesWrapped call file (only n (lent call)) file
  stopped call n serves fits h z =
      let fires : container_verdict file ≡ 0 → ⊥ = λ e. z (h ∙ e) in
      record {
        bytes = octets;
        fits = fits;
        serves = serves;
        answers = ap (λ (k : ℕ). only k (lent call)) h ∙ sym (outer_answer call file fires);
        leaves = sym (left_refused call file (λ e. fires (sym (outer_refusal call file fires) ∙ e)));
      }

  -- a call that only reads, on a part that is the data
  pub served : {call : Call} {given : Answer} {part : List ℕ} → container_verdict file ≡ 0 → serves_wrapped call ≡ true → part ≡ inside file
      → Does call part given part → DoesWrapped call file given file
  served {call} {given} z serves e d =
      let inner = subst (λ (x : List ℕ). Does call x given x) e d in
      record {
        bytes = octets;
        fits = d.fits;
        serves = serves;
        answers = inner.answers ∙ sym (inner_answer call file (bare call serves _ _) z);
        leaves = sym (left_same call file (passes_sound file z) octets (sym inner.leaves));
      }

  -- a call that changes, on a part that is the data, which it left as l
  module _ {call : Call} (end : ℕ) (e : end ≡ 409684) (l : List ℕ) (z : container_verdict file ≡ 0) (serves : serves_wrapped call ≡ true) where
    -- it was refused: the file is as it came
    pub changed_not : (refusal : Refusal) → Does call (take (end - 84) (drop 84 file)) (told_number (Err refusal)) l
        → DoesWrapped call file (told_number (Err refusal)) (put_mid 84 (end - 84) file l)
    unfolding only
    changed_not refusal d =
        let inner = subst (λ (x : List ℕ). Does call x (told_number (Err refusal)) l) (data_is file end e) d in
        let number : number_of refusal ≡ refusal_of call (inside file) =
        ap (λ (a : Answer). a.number) inner.answers ∙ number_is call (inside file) in
        let same = refused call (inside file) (λ q. number_some refusal (number ∙ q)) in
        record {
          bytes = octets;
          fits = d.fits;
          serves = serves;
          answers = inner.answers ∙ sym (inner_answer call file (bare call serves _ _) z);
          leaves =
              back_is file end e l ∙ ap (with_data file) (inner.leaves ∙ same) ∙ with_same file
              ∙ sym (left_same call file (passes_sound file z) octets same);
        }

    -- it succeeded, and the checksum was renewed
    pub changed : length l ≡ length (take (end - 84) (drop 84 file)) → (left : List ℕ) → Does call (take (end - 84) (drop 84 file)) (told_number (Ok tt)) l
        → left ≡ renewed (put_mid 84 (end - 84) file l) (inside (put_mid 84 (end - 84) file l)) → DoesWrapped call file (told_number (Ok tt)) left
    changed long left d s =
        let counted : length l ≡ 409600 = long ∙ ap (λ (x : List ℕ). length x) (data_is file end e) ∙ inside_length file (room file z) in
        let inner = subst (λ (x : List ℕ). Does call x (told_number (Ok tt)) l) (data_is file end e) d in
        let stored = subst (λ (x : List ℕ). left ≡ renewed x (inside x)) (back_is file end e l) s in
        record {
          bytes = octets;
          fits = d.fits;
          serves = serves;
          answers = inner.answers ∙ sym (inner_answer call file (bare call serves _ _) z);
          leaves =
              stored ∙ renewed_with file l (room file z) counted ∙ ap (renewed file) inner.leaves
              ∙ sym (left_is call file (passes_sound file z) octets);
        }

-- the file is as long while its data are changed
pub room_after : (file l : List ℕ) (end : ℕ) → container_verdict file ≡ 0 → length l ≡ length (take (end - 84) (drop 84 file))
    → 409684 ≤ length (put_mid 84 (end - 84) file l)
room_after file l end z long = rw (same_len_mid 84 (end - 84) file l long) (room file z)
