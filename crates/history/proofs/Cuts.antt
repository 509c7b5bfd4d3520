-- A cut that is not refused: the image reads as the history says, and differs in the named bytes alone.
use Prim.Native.Nat.{ℕ}
use mathlib.Core.Path.{◌≡◌, ap, subst}
use mathlib.Core.List.{List, map}
use native.Mathlib.Omega.{arith}
use Rattle.model.specs.Lists.{times}
use Rattle.model.specs.Bytes.{Bytes}
use Rattle.model.specs.Facts.{facts_of, A}
use Rattle.model.specs.Map.{map_entry}
use Rattle.model.specs.Directory.{fork_of, fork_blocks}
use Rattle.model.specs.Check.{Accepted}
use Rattle.model.specs.Calls.{refusal, Fits}
use Rattle.model.specs.Calls.Call.{cut}
use Rattle.history.specs.History.{History, held_in, cuts, changed_fork, on_called, moves, named_blocks, blocks_named, OnlyNamed, Agrees}
use Rattle.model.specs.declared.VolumeFacts.{VolumeFacts}
use Rattle.model.specs.declared.ForkFacts.{ForkFacts}
use Rattle.model.specs.declared.Fork.{Fork}
use Rattle.model.proofs.Times.{times_append}
use Rattle.laws.proofs.MapSteps.{fork_with}
use Rattle.laws.proofs.Refusals.{MayChangeFork, may_cut}
use Rattle.laws.proofs.TheEntry.{the_entry_lem}
use Rattle.laws.proofs.Rewrites.{Rewritten}
use Rattle.laws.proofs.Cuts.{its, kept, free, left, cut_rewrites, now_bytes, now_count, is_left, cut_accepted}
use Rattle.laws.proofs.BytesKept.{shortened_bytes}
use Rattle.history.proofs.Answers.{same_A}
use Rattle.history.proofs.Rewrites.{rewrite_agrees, rewrite_kept}
use Rattle.history.proofs.Joined.{Done}

module _ (image : List ℕ) (acc : Accepted image) (name : List ℕ) (fork : Fork) (n changed : ℕ) (m : MayChangeFork image name fork n) where
  abbrev f : VolumeFacts
  f = facts_of image

  abbrev after : List ℕ
  after = left image acc name fork n changed m

  abbrev now : List ℕ
  now = kept image acc name fork n changed m

  abbrev was : ForkFacts
  was = its image acc name fork n changed m

  abbrev old : List ℕ
  old = fork_blocks (map_entry image) (A f) was

  abbrev r : Rewritten image acc name m.file.exists fork n now old changed (free image acc name fork n changed m) after
  r = cut_rewrites image acc name fork n changed m

  own : held_in f after (fork_with (A f) n now) ≡ cuts (A f) n (held_in f image was)
  unfolding held_in cuts
  own =
      let bytes = now_bytes image acc name fork n changed m in
      let count = now_count image acc name fork n changed m in
      λ i. record { bytes = bytes i; count = count i }

  pub cut_agrees : (h : History) → Agrees image h → Agrees after (moves h (cut name fork n changed))
  unfolding moves
  cut_agrees h a =
      subst
      (λ (k : ℕ). Agrees after (record { facts = h.facts; files = map (on_called name (changed_fork fork (cuts k n) changed)) h.files }))
      (same_A image h a)
      (rewrite_agrees r (cuts (A f) n) own h a)

  before_blocks : blocks_named image name fork ≡ old
  unfolding blocks_named
  before_blocks = ap (λ (e : List ℕ). fork_blocks (map_entry image) (A f) (fork_of fork e)) (the_entry_lem image acc name m.file.exists)

  pub cut_kept_lem : OnlyNamed (cut name fork n changed) image after
  unfolding named_blocks
  cut_kept_lem =
      rewrite_kept r (cut name fork n changed) (omega arith)
      (λ b k. omega (arith, times_append b (blocks_named image name fork) (blocks_named after name fork), ap (times b) before_blocks))

pub cut_done : (name : List ℕ) (fork : Fork) (size changed : ℕ) (image : List ℕ) (h : History) → Accepted image → Agrees image h → Bytes image
    → Fits (cut name fork size changed) → refusal (cut name fork size changed) image ≡ 0 → Done (cut name fork size changed) image h
cut_done name fork size changed image h acc a b w z =
    let m = may_cut image name fork size changed z in
    let l = is_left image acc name fork size changed m in
    record {
      bytes = shortened_bytes image acc b name fork size changed w m;
      accepted = rw l (cut_accepted image acc name fork size changed m);
      agrees = rw l (cut_agrees image acc name fork size changed m h a);
      kept = rw l (cut_kept_lem image acc name fork size changed m);
    }
