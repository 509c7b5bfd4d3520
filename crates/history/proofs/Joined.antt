-- What the calls have in common: what a call that is not refused must do, that only the named bytes differ, and that files which
-- the name does not call stay.
use Prim.Native.Nat.{ℕ, zero, suc, ◌+◌, ◌≤◌, ◌<◌}
use mathlib.Core.Path.{◌≡◌, refl, ◌∙◌}
use mathlib.Core.Bool.{false}
use mathlib.Core.List.{List, [], ◌∷◌, ◌++◌, map}
use native.Mathlib.Omega.{arith}
use Rattle.model.specs.Lists.{any, times}
use Rattle.model.specs.Bytes.{Bytes}
use Rattle.model.specs.Facts.{facts_of, dir_start, dir_length, A, S}
use Rattle.model.specs.Directory.{named}
use Rattle.model.specs.Check.{Accepted}
use Rattle.model.specs.Calls.{Call, change}
use Rattle.history.specs.History.{File, History, moves, Agrees, called, on_called, file_in, named_blocks, following, directory_at, OnlyNamed}
use Rattle.history.specs.History.{in_block, in_entry, in_directory, in_files, in_next, in_free}
use Rattle.model.specs.declared.VolumeFacts.{VolumeFacts}
use Rattle.model.proofs.Lists.{or-false}
use Rattle.laws.proofs.MapSteps.{Framed}
use Rattle.laws.proofs.DirectorySteps.{DirectoryStored}

-- what a call that is not refused does
pub record Done (call : Call) (image : List ℕ) (h : History) : Type 0 where
  pub bytes : Bytes (change call image)
  pub accepted : Accepted (change call image)
  pub agrees : Agrees (change call image) (moves h call)
  pub kept : OnlyNamed call image (change call image)

-- what holds of a directory block holds of each in the list of it alone
alone : (P : ℕ → Type 0) (d : ℕ) → P d → (i : ℕ) → i < 1 → P (directory_at (record { 0 = d } ∷ []) i)
alone P d h zero l = h
alone P d h (suc i) l = absurd (omega arith)

-- only the named bytes differ, where the blocks bs are the named fork's before or after, and one directory block may
pub only_named : (image : List ℕ) (call : Call) (bs base left : List ℕ) (es : List (List ℕ)) (files number free : ℕ) → 1 ≤ (following call).directories
    → DirectoryStored image base es files number free left → Framed (S (facts_of image)) (A (facts_of image)) bs image base
    → ((b : ℕ) → 1 ≤ times b bs → 1 ≤ times b (named_blocks call image ++ named_blocks call left)) → OnlyNamed call image left
only_named image call bs base left es files number free one t r sub = record {
  size = t.long;
  blocks = record { 0 = t.d } ∷ [];
  few = one;
  first = λ i l. alone (λ (d : ℕ). (dir_start (facts_of image)).0 ≤ d) t.d t.first i l;
  last = λ i l. alone (λ (d : ℕ). d < (dir_start (facts_of image)).0 + dir_length (facts_of image)) t.d t.last i l;
  kept = λ h n.
      t.kept h (λ w. n (in_directory 0 h (omega arith) w)) (λ w. n (in_files h w)) (λ w. n (in_next h w)) (λ w. n (in_free h w))
      ∙ r.halves h (λ b k w. n (in_block b h (sub b k) w)) (λ b k x y. n (in_entry b h (sub b k) x y));
}

-- files that the name does not call stay
pub uncalled : (name : List ℕ) (g : File → File) (f : VolumeFacts) (image : List ℕ) (es : List (List ℕ)) → any (named name) es ≡ false
    → map (on_called name g) (map (file_in f image) es) ≡ map (file_in f image) es
unfolding any on_called called named file_in
uncalled name g f image [] h = refl
uncalled name g f image (e ∷ es) h =
    let s = or-false (named name e) (any (named name) es) h in
    rw (s.0, uncalled name g f image es s.1)

-- an image that stays has only named bytes that differ
pub stays : (call : Call) (image : List ℕ) → OnlyNamed call image image
stays call image =
    record {
      size = refl;
      blocks = [];
      few = omega arith;
      first = λ i l. absurd (omega arith);
      last = λ i l. absurd (omega arith);
      kept = λ h n. refl;
    }
