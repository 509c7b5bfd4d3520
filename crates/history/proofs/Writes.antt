-- A write that is not refused: the image reads as the history says, and differs in the named bytes alone.
use Prim.Native.Nat.{ℕ, ◌+◌, ◌-◌, ◌*◌, ◌<◌, max}
use mathlib.Core.Path.{◌≡◌, sym, ap, subst, ◌∙◌}
use mathlib.Core.List.{List, map}
use native.Mathlib.Omega.{arith}
use native.Mathlib.Decide.{dec_le}
use lib.ListN.{length}
use borrow.Author.Tests.{le-leb, lt-leb}
use Rattle.model.specs.Lists.{times}
use Rattle.model.specs.Bytes.{overwritten, Bytes}
use Rattle.model.specs.Facts.{facts_of, A, S, clump, free_count}
use Rattle.model.specs.Directory.{block_count}
use Rattle.model.specs.Check.{Accepted}
use Rattle.model.specs.Calls.{fewest, grown, needed, needed_blocks, rounded, taken, taken_blocks, fork_bytes, refusal, Fits}
use Rattle.model.specs.Calls.Call.{write}
use Rattle.history.specs.History.{History, free_of, held_in, holding, count_after, writes, changed_fork, on_called, moves}
use Rattle.history.specs.History.{named_blocks, blocks_named, OnlyNamed, Agrees}
use Rattle.model.specs.declared.VolumeFacts.{VolumeFacts}
use Rattle.model.specs.declared.ForkFacts.{ForkFacts}
use Rattle.model.specs.declared.Fork.{Fork}
use Rattle.model.proofs.Times.{times_append}
use Rattle.laws.proofs.Content.{length_overwritten}
use Rattle.laws.proofs.Counts.{clump_some, rounded_holds, taken_none, taken_whole, taken_exact}
use Rattle.laws.proofs.MapSteps.{fork_with, size_after}
use Rattle.laws.proofs.Refusals.{MayWrite, may_write}
use Rattle.laws.proofs.Acceptance.{area}
use Rattle.laws.proofs.Rewrites.{Rewritten}
use Rattle.laws.proofs.Writes.{its, all, free, left, write_rewrites, was_within, was_length, now_bytes, now_many, now_blocks, is_left}
use Rattle.laws.proofs.Writes.{write_accepted}
use Rattle.laws.proofs.BytesKept.{written_bytes}
use Rattle.history.proofs.Answers.{same_A, same_clump, same_free}
use Rattle.history.proofs.Rewrites.{rewrite_agrees, rewrite_kept, named_now_blocks}
use Rattle.history.proofs.Joined.{Done}

-- the fork's count and the blocks that a write takes make the history's count, where all bytes need so many blocks
count_taken : (c : ℕ) → 0 < c → (free count least : ℕ) → count + taken c free count (least - count) ≡ count_after c free count least
unfolding count_after rounded
count_taken c pos free count least =
    elim (dec_le least count) [
      | yes h ↦
          let none : least - count ≡ 0 = omega arith in
          rw (le-leb least count h) (omega (arith, ap (taken c free count) none, taken_none c free count))
      | no h ↦
          let all : count + (least - count) ≡ least = omega arith in
          let more : rounded c (count + (least - count)) ≡ fewest least c * c = ap (λ (k : ℕ). fewest k c * c) all in
          let holds = rounded_holds c pos least in
          elim (dec_le (fewest least c * c) (count + free)) [
            | yes k ↦
                rw (lt-leb least count (omega arith), le-leb (fewest least c * c) (count + free) k)
                (omega (arith, more, holds, taken_whole c free count (least - count) (omega arith) (omega (arith, more))))
            | no k ↦
                rw (lt-leb least count (omega arith), lt-leb (fewest least c * c) (count + free) (omega arith))
                (omega (arith, taken_exact c free count (least - count) (omega arith) (omega (arith, more))))
          ]
    ]

module _ (image : List ℕ) (acc : Accepted image) (name : List ℕ) (fork : Fork) (o : ℕ) (xs : List ℕ) (changed : ℕ)
    (m : MayWrite image name fork o (length xs)) where
  abbrev f : VolumeFacts
  f = facts_of image

  abbrev after : List ℕ
  after = left image acc name fork o xs changed m

  abbrev now : List ℕ
  now = all image acc name fork o xs changed m

  abbrev was : ForkFacts
  was = its image acc name fork o xs changed m

  abbrev r : Rewritten image acc name m.file.exists fork (size_after was o xs) now now changed (free image acc name fork o xs changed m) after
  r = write_rewrites image acc name fork o xs changed m

  -- the count rises by the blocks taken
  count_after_lem : block_count (A f) was + taken_blocks f was o (length xs)
      ≡ count_after (clump f) (free_count f) (block_count (A f) was) (holding (A f) o xs (held_in f image was))
  unfolding taken_blocks needed_blocks needed grown held_in
  count_after_lem =
      let bytes = fork_bytes (S f) (A f) image was in
      let long = was_length image acc name fork o xs changed m in
      let size : max was.logical (o + length xs) ≡ length (overwritten bytes o xs) =
      ap (λ (k : ℕ). max k (o + length xs)) (sym long)
      ∙ sym (length_overwritten bytes o xs (omega (arith, long, was_within image acc name fork o xs changed m))) in
      count_taken (clump f) (clump_some f (area image acc).some) (free_count f) (block_count (A f) was) (fewest (max was.logical (o + length xs)) (A f))
      ∙ ap (λ (n : ℕ). count_after (clump f) (free_count f) (block_count (A f) was) (fewest n (A f))) size

  own : held_in f after (fork_with (A f) (size_after was o xs) now) ≡ writes (A f) (clump f) (free_count f) o xs (held_in f image was)
  unfolding held_in writes
  own =
      let bytes = now_bytes image acc name fork o xs changed m in
      let count = now_many image acc name fork o xs changed m ∙ count_after_lem in
      λ i. record { bytes = bytes i; count = count i }

  pub write_agrees : (h : History) → Agrees image h → Agrees after (moves h (write name fork o xs changed))
  unfolding moves
  write_agrees h a =
      let Then : ℕ → ℕ → ℕ → Type 0 = λ size c free.
      Agrees after (record { facts = h.facts; files = map (on_called name (changed_fork fork (writes size c free o xs) changed)) h.files }) in
      subst (λ (size : ℕ). Then size (clump h.facts) (free_of h)) (same_A image h a)
      (subst (λ (c : ℕ). Then (A f) c (free_of h)) (same_clump image h a)
      (subst (λ (free : ℕ). Then (A f) (clump f) free) (same_free image h a)
      (rewrite_agrees r (writes (A f) (clump f) (free_count f) o xs) own h a)))

  after_blocks : blocks_named after name fork ≡ now
  after_blocks = named_now_blocks r ∙ now_blocks image acc name fork o xs changed m

  pub write_kept : OnlyNamed (write name fork o xs changed) image after
  unfolding named_blocks
  write_kept =
      rewrite_kept r (write name fork o xs changed) (omega arith)
      (λ b k. omega (arith, times_append b (blocks_named image name fork) (blocks_named after name fork), ap (times b) after_blocks))

pub write_done : (name : List ℕ) (fork : Fork) (offset : ℕ) (bytes : List ℕ) (changed : ℕ) (image : List ℕ) (h : History)
    → Accepted image → Agrees image h → Bytes image → Fits (write name fork offset bytes changed)
    → refusal (write name fork offset bytes changed) image ≡ 0 → Done (write name fork offset bytes changed) image h
write_done name fork offset bytes changed image h acc a b w z =
    let m = may_write image name fork offset bytes changed z in
    let l = is_left image acc name fork offset bytes changed m in
    record {
      bytes = written_bytes image acc b name fork offset bytes changed w m;
      accepted = rw l (write_accepted image acc name fork offset bytes changed m);
      agrees = rw l (write_agrees image acc name fork offset bytes changed m h a);
      kept = rw l (write_kept image acc name fork offset bytes changed m);
    }
