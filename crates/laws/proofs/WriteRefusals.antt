-- The refusals of a write are those of a cut to its offset, and then 17: only 17 depends on the bytes.
use Prim.Native.Nat.{ℕ, zero, suc, ◌≤◌, ◌<◌}
use mathlib.Core.Path.{◌≡◌, refl, sym, ◌∙◌}
use mathlib.Core.Bool.{Bool, true, false, not}
use mathlib.Core.List.{List}
use native.Mathlib.Omega.{arith}
use lib.ListN.{length}
use lib.Dec.{ltb}
use borrow.Author.Tests.{ne_eqb, ltb-true, lt-ltb, le-ltb}
use Rattle.model.specs.Lists.{any}
use Rattle.model.specs.Bytes.{byte}
use Rattle.model.specs.Facts.{facts_of, N, A, next_file_number, free_count, is_locked, blocks_in}
use Rattle.model.specs.Map.{map_entry}
use Rattle.model.specs.Directory.{directory, fork_of, forks_in, named, flags_lock}
use Rattle.model.specs.Check.{or_else, first_refusal, verdict, from2, from3, from4, from5, from6, from7, from8, from9, Accepted}
use Rattle.model.specs.Check.{fires1, fires2, fires3, fires4, fires5, fires6, fires7, fires8, fires9, fires10}
use Rattle.model.specs.Calls.{name_of, fork_given, needed_blocks, bad_name, checks, refuses, entry_named, known_in, refusal}
use Rattle.model.specs.Calls.Call.{write, cut}
use Rattle.model.specs.declared.Fork.{Fork}
use Rattle.model.proofs.Check.{accepted_verdict}
use Rattle.laws.proofs.Refusals.{no_check, other, other_change, fires, GoodName, MayChangeFork, needs}

-- ---- numbers

-- one test more behind a run of them
first_then : (v a b c : ℕ) → c ≡ first_refusal a b → first_refusal v c ≡ first_refusal (first_refusal v a) b
unfolding first_refusal
first_then zero a b c e = e
first_then (suc v) a b c e = refl

else_then : (t : Bool) (k a b c : ℕ) → c ≡ first_refusal a b → or_else t (suc k) c ≡ first_refusal (or_else t (suc k) a) b
unfolding first_refusal
else_then true k a b c e = refl
else_then false k a b c e = e

first_17 : (n r : ℕ) → (n ≡ 17 → ⊥) → first_refusal n r ≡ 17 → (n ≡ 0) × (r ≡ 17)
unfolding first_refusal
first_17 zero r h e = (refl, e)
first_17 (suc n) r h e = absurd (h e)

-- where the first number is neither 0 nor 17, the room has no say
first_other : (n : ℕ) (t t' : Bool) → (first_refusal n (or_else t 17 0) ≡ 0 → ⊥) → (first_refusal n (or_else t 17 0) ≡ 17 → ⊥)
    → first_refusal n (or_else t' 17 0) ≡ first_refusal n (or_else t 17 0)
unfolding first_refusal
first_other zero true t' z f = absurd (f refl)
first_other zero false t' z f = absurd (z refl)
first_other (suc n) t t' z f = refl

-- checks 1 to 10 never give 17
verdict_never : (image : List ℕ) → verdict image ≡ 17 → ⊥
unfolding verdict from2 from3 from4 from5 from6 from7 from8 from9
verdict_never image =
    let f = facts_of image in
    let e = map_entry image in
    let es = directory image in
    let gs = forks_in es in
    other (fires1 (length image)) 1 refl (other (fires2 f) 2 refl (other (fires3 f (blocks_in image)) 3 refl (other (fires4 f) 4 refl
    (other (fires5 e (N f)) 5 refl (other (fires6 es) 6 refl (other (fires7 f.files (next_file_number f) es) 7 refl
    (other (fires8 e (N f) (A f) gs) 8 refl (other (fires9 e (N f) (A f) gs) 9 refl (other (fires10 e (N f) (free_count f)) 10 refl no_check)))))))))

-- ---- a write

good_bad : (name : List ℕ) → GoodName name → bad_name name ≡ false
unfolding bad_name
good_bad name h = rw (ne_eqb (length name) 0 (omega (arith, h.some)), le-ltb 255 (length name) h.short)

module _ (image name : List ℕ) (fork : Fork) (o changed : ℕ) where
  -- the number of a cut to the offset
  abbrev ahead : ℕ
  ahead = refusal (cut name fork o changed) image

  -- no room for so many bytes
  abbrev full : ℕ → Bool
  full count = ltb (free_count (facts_of image)) (needs image name fork o count)

  as_cut : (xs : List ℕ) → refusal (write name fork o xs changed) image ≡ first_refusal ahead (or_else (full (length xs)) 17 0)
  unfolding refusal checks refuses known_in name_of fork_given first_refusal needed_blocks
  as_cut xs =
      let r = or_else (full (length xs)) 17 0 in
      first_then (verdict image) _ r _ (else_then (is_locked (facts_of image)) 10 _ r _ (else_then (bad_name name) 11 _ r _
      (else_then (not (any (named name) (directory image))) 12 _ r _ (else_then (flags_lock (byte (entry_named name image) 0)) 14 _ r _
      (else_then (ltb (fork_of fork (entry_named name image)).logical o) 15 0 r r refl)))))

  ahead_never : ahead ≡ 17 → ⊥
  unfolding refusal checks refuses known_in name_of fork_given first_refusal
  ahead_never = go (verdict image) (verdict_never image)
    where
      own : ℕ
      own = refuses (cut name fork o changed) (known_in image name fork)

      go : (v : ℕ) → (v ≡ 17 → ⊥) → first_refusal v own ≡ 17 → ⊥
      go zero n e = other_change name (known_in image name fork) (other (ltb (fork_of fork (entry_named name image)).logical o) 16 refl no_check) e
      go (suc v) n e = n e

  -- all tests before 17 pass
  pub cut_passes : Accepted image → MayChangeFork image name fork o → refusal (cut name fork o changed) image ≡ 0
  unfolding refusal checks refuses known_in name_of fork_given first_refusal
  cut_passes acc m =
      rw (
        accepted_verdict image acc,
        m.file.unlocked,
        good_bad name m.file.title,
        m.file.exists,
        m.file.file_unlocked,
        le-ltb (fork_of fork (entry_named name image)).logical o m.within,
      ) refl

  -- then the room alone decides
  pub write_served : (xs : List ℕ) → refusal (cut name fork o changed) image ≡ 0 → needs image name fork o (length xs) ≤ free_count (facts_of image)
      → refusal (write name fork o xs changed) image ≡ 0
  unfolding first_refusal
  write_served xs z h = as_cut xs ∙ rw (z, le-ltb (free_count (facts_of image)) (needs image name fork o (length xs)) h)

  pub write_full : (xs : List ℕ) → refusal (cut name fork o changed) image ≡ 0 → free_count (facts_of image) < needs image name fork o (length xs)
      → refusal (write name fork o xs changed) image ≡ 17
  unfolding first_refusal
  write_full xs z h = as_cut xs ∙ rw (z, lt-ltb (free_count (facts_of image)) (needs image name fork o (length xs)) h)

  pub full_shows : (xs : List ℕ) → refusal (write name fork o xs changed) image ≡ 17
      → (refusal (cut name fork o changed) image ≡ 0) × (free_count (facts_of image) < needs image name fork o (length xs))
  full_shows xs e =
      let p = first_17 ahead _ ahead_never (sym (as_cut xs) ∙ e) in
      (p.0, ltb-true (free_count (facts_of image)) (needs image name fork o (length xs)) (fires (full (length xs)) p.1))

  -- a write that is refused, and not for room, is refused so whatever its bytes
  pub other_same : (xs ys : List ℕ) → (refusal (write name fork o xs changed) image ≡ 0 → ⊥) → (refusal (write name fork o xs changed) image ≡ 17 → ⊥)
      → refusal (write name fork o ys changed) image ≡ refusal (write name fork o xs changed) image
  other_same xs ys z f =
      as_cut ys ∙ first_other ahead (full (length xs)) (full (length ys)) (λ e. z (as_cut xs ∙ e)) (λ e. f (as_cut xs ∙ e)) ∙ sym (as_cut xs)
