-- Every list of calls from an accepted image keeps step with its history.
use Prim.Native.Nat.{ℕ, zero, suc}
use mathlib.Core.Path.{◌≡◌, refl, sym, ap, subst, ◌∙◌}
use mathlib.Core.Bool.{Bool, true, false, cond}
use mathlib.Core.List.{List, [], ◌∷◌}
use mathlib.Core.Logic.{◌⊎◌, inl, inr}
use native.Mathlib.Decide.{ℕ_discrete}
use lib.Dec.{eqb, eqb-suc-zero}
use borrow.Author.Tests.{eqb-true, eq-eqb, ne_eqb}
use Rattle.model.specs.Check.{Accepted}
use Rattle.model.specs.Calls.{Call, name_of, fork_given, refuses, carries, known_in, refusal, change, counted, only, reply, lent, answer, Does}
use Rattle.history.specs.History.{History, declines, moves, step, says, tells, told_by, told_only, asked, compared, Agrees, reading}
use Rattle.history.specs.History.{Told, Event, Run, is18, RoomRule, InStep, Holds, EveryRun}
use Rattle.model.proofs.Lists.{so_not}
use Rattle.laws.proofs.Refusals.{own_is, refused, done, with_full}
use Rattle.history.proofs.Answers.{known_same, only_told}
use Rattle.history.proofs.Reading.{starts}
use Rattle.history.proofs.Joined.{stays}
use Rattle.history.proofs.Lawful.{Compared, Aside, lawful}

-- the number of an answer is the refusal, or 0
pub number_of : (call : Call) (image : List ℕ) (n count : ℕ) → (cond (eqb n 0) (reply call image) (counted n count (lent call))).number ≡ n
number_of call image n count = go (eqb n 0) refl
  where
    go : (t : Bool) → eqb n 0 ≡ t → (cond t (reply call image) (counted n count (lent call))).number ≡ n
    go true e = (lawful call).answered image ∙ sym (eqb-true n 0 e)
    go false e = refl

pub number_is : (call : Call) (image : List ℕ) → (answer call image).number ≡ refusal call image
unfolding answer
number_is call image = number_of call image (refusal call image) (carries call (refusal call image) image)

either_way : (t : Bool) (h : History) → cond t h h ≡ h
either_way true h = refl
either_way false h = refl

-- a call on an accepted image that reads as a history
module _ (image : List ℕ) (h : History) (acc : Accepted image) (a : Agrees image h) (call : Call) where
  -- the refusal, where the call checks 1 to 10 first
  same_refusal : Compared call → refusal call image ≡ declines h (eqb (refusal call image) 18) call
  unfolding declines
  same_refusal c =
      let k = known_in image (name_of call) (fork_given call) in
      own_is image acc call (c.first image)
      ∙ (lawful call).fed k
      ∙ ap (λ (n : ℕ). refuses call (with_full k (eqb n 18))) (sym (own_is image acc call (c.first image)))
      ∙ ap (refuses call) (sym (known_same image h acc a (eqb (refusal call image) 18) (name_of call) (fork_given call)))

  -- the history's step
  step_refused : (refusal call image ≡ 0 → ⊥) → step h (eqb (refusal call image) 18) call ≡ h
  unfolding step
  step_refused z = go (lawful call).joins
    where
      go : Compared call ⊎ Aside call → step h (eqb (refusal call image) 18) call ≡ h
      go (inl c) = rw (← same_refusal c, ne_eqb (refusal call image) 0 z)
      go (inr s) = rw (s.stays h) (either_way (eqb (declines h (eqb (refusal call image) 18) call) 0) h)

  step_done : refusal call image ≡ 0 → step h (eqb (refusal call image) 18) call ≡ moves h call
  unfolding step
  step_done z = go (lawful call).joins
    where
      go : Compared call ⊎ Aside call → step h (eqb (refusal call image) 18) call ≡ moves h call
      go (inl c) = rw (← same_refusal c, eq-eqb (refusal call image) 0 z)
      go (inr s) = rw (s.stays h) (either_way (eqb (declines h (eqb (refusal call image) 18) call) 0) h)

  -- refusal 17
  room_rule : RoomRule h call (answer call image).number
  room_rule = subst (λ (n : ℕ). RoomRule h call n) (sym (number_is call image)) (go (lawful call).joins)
    where
      go : Compared call ⊎ Aside call → RoomRule h call (refusal call image)
      go (inl c) = subst (λ (n : ℕ). RoomRule h call n) (sym (same_refusal c)) ((lawful call).room h (eqb (refusal call image) 18))
      go (inr s) = s.room image h acc

  -- the answer
  same_told : compared call ≡ true → told_by (answer call image) ≡ tells h (eqb (refusal call image) 18) (asked image call) call
  unfolding answer tells only
  same_told k = join (lawful call).joins
    where
      go : (n : ℕ) → refusal call image ≡ n
          → told_by (cond (eqb n 0) (reply call image) (counted n 0 (lent call))) ≡ cond (eqb n 0) (says h (asked image call) call) (told_only n (lent call))
      go zero e = (lawful call).told k image h acc a e
      go (suc n) e = rw (eqb-suc-zero n) (only_told (suc n) (lent call))

      join : Compared call ⊎ Aside call → told_by (answer call image) ≡ tells h (eqb (refusal call image) 18) (asked image call) call
      join (inl c) = rw (← same_refusal c, c.bare (refusal call image) image) (go (refusal call image) refl)
      join (inr s) = absurd (so_not (compared call) s.uncompared k)

-- one event
pub event : (e : Event) (image : List ℕ) (h : History) → Accepted image → Agrees image h → Does e.call image e.given e.left → InStep e image h
unfolding is18
event e image h acc a m =
    let call = e.call in
    let n : e.given.number ≡ refusal call image = ap (λ r. r.number) m.answers ∙ number_is call image in
    let tell : ℕ → Told = λ k. tells h (eqb k 18) (asked image call) call in
    let told : compared call ≡ true → told_by e.given ≡ tell e.given.number =
    λ k. ap told_by m.answers ∙ same_told image h acc a call k ∙ sym (ap tell n) in
    let room = subst (λ r. RoomRule h call r.number) (sym m.answers) (room_rule image h acc a call) in
    elim (ℕ_discrete (refusal call image) 0) [
      | yes z ↦
          let c = (lawful call).done image h acc a m.bytes m.fits z in
          let l : e.left ≡ change call image = m.leaves ∙ done call image z in
          record {
            bytes = rw l c.bytes;
            accepted = rw l c.accepted;
            agrees = rw (l, n, step_done image h acc a call z) c.agrees;
            told = told;
            kept = rw l c.kept;
            still = rw n (λ t. m.leaves ∙ (lawful call).still image t);
            room = room;
          }
      | no z ↦
          let l : e.left ≡ image = m.leaves ∙ refused call image z in
          record {
            bytes = rw l m.bytes;
            accepted = rw l acc;
            agrees = rw (l, n, step_refused image h acc a call z) a;
            told = told;
            kept = rw l (stays call image);
            still = λ t. l;
            room = room;
          }
    ]

holds : (events : List Event) (image : List ℕ) (h : History) → Accepted image → Agrees image h → Run image events → Holds image h events
unfolding Run Holds
holds [] image h acc a r = tt
holds (e ∷ events) image h acc a r =
    let s = event e image h acc a r.0 in
    (s, holds events e.left (step h (is18 e) e.call) s.accepted s.agrees r.1)

pub every_run : EveryRun
unfolding EveryRun
every_run image events acc r =
    let a = starts image acc in
    (a, holds events image (reading image) acc a r)
