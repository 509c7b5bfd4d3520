-- Every list of calls on a wrapped file keeps step with the history of the data inside; and a wrapped image unwraps to the image.
use Prim.Native.Nat.{ℕ, ◌≤◌}
use mathlib.Core.Path.{◌≡◌, refl, sym, ap, subst, ◌∙◌}
use mathlib.Core.Bool.{false, ◌&&◌}
use mathlib.Core.List.{List, [], ◌∷◌, map}
use lib.ListN.{length}
use lib.Dec.{eqb}
use borrow.Author.Tests.{eq-eqb, le-ltb}
use Rattle.model.specs.Bytes.{byte, Bytes}
use Rattle.model.specs.Check.{Accepted}
use Rattle.model.specs.Container.{inside, tags, bad_lengths, wrapping, SoundContainer, renewed}
use Rattle.model.specs.Calls.{Call, Answer, checks, refuses, refusal, reply, only, answer, after, Does}
use Rattle.model.specs.Calls.Call.{wrap}
use Rattle.model.specs.Wrapped.{file_answer, file_after, DoesWrapped}
use Rattle.model.proofs.Check.{accepted_verdict}
use Rattle.model.proofs.Container.{room, sound_passes}
use Rattle.laws.proofs.Calls.{first_alone}
use Rattle.laws.proofs.Containers.{inside_length, inside_bytes, renewed_same, renewed_length, renewed_inside, renewed_kept, renewed_sound}
use Rattle.laws.proofs.Containers.{renewed_bytes, sound, content, no_tags}
use Rattle.laws.proofs.Wrapped.{bare as no_count_of, inner_answer, left_is}
use Rattle.history.specs.History.{History, Event, Agrees, Run, reading, step, is18, changes, InStep}
use Rattle.history.specs.WrappedRuns.{within, WrappedRun, Outside, WrappedStep, WrappedHolds, WrappedRuns, made_wrapped, AllServe, EveryWrappedList}
use Rattle.history.specs.EveryList.{AllFit}
use Rattle.history.specs.Wrapping.{Wrapping}
use Rattle.history.proofs.Lawful.{lawful}
use Rattle.history.proofs.Run.{number_is, event}
use Rattle.history.proofs.Reading.{starts}

-- ---- one event

-- a call on a sound container with an accepted image inside
module _ (e : Event) (file : List ℕ) (s : SoundContainer file) (acc : Accepted (inside file)) (d : DoesWrapped e.call file e.given e.left) where
  abbrev new : List ℕ
  new = after e.call (inside file)

  abbrev big : 409684 ≤ length file
  big = room file (sound_passes file s)

  -- the event on the data inside
  inner : Event
  inner = record { call = e.call; given = e.given; left = new }

  inner_does : Does e.call (inside file) e.given new
  inner_does = record {
    bytes = inside_bytes file d.bytes;
    fits = d.fits;
    answers = d.answers ∙ inner_answer e.call file (no_count_of e.call d.serves _ _) (sound_passes file s);
    leaves = refl;
  }

  left : e.left ≡ renewed file new
  left = d.leaves ∙ left_is e.call file s d.bytes

  long : (h : History) → Agrees (inside file) h → length new ≡ 409600
  unfolding inner
  long h a = (event inner (inside file) h acc a inner_does).kept.size ∙ inside_length file big

  -- the data inside are what the call leaves of them
  inside_left : (h : History) → Agrees (inside file) h → inside e.left ≡ new
  inside_left h a = ap inside left ∙ renewed_inside file new big (long h a)

  pub wrapped_does : (h : History) → Agrees (inside file) h → Does e.call (inside file) e.given (inside e.left)
  wrapped_does h a = subst (λ (l : List ℕ). Does e.call (inside file) e.given l) (sym (inside_left h a)) inner_does

  pub wrapped_event : (h : History) → Agrees (inside file) h → WrappedStep e file h
  unfolding Outside within
  wrapped_event h a =
      let call = e.call in
      let n : e.given.number ≡ refusal call (inside file) = ap (λ (r : Answer). r.number) inner_does.answers ∙ number_is call (inside file) in
      let step : InStep (within e) (inside file) h = event (within e) (inside file) h acc a (wrapped_does h a) in
      let l = long h a in
      record {
        bytes = rw left (renewed_bytes file new big l d.bytes (subst Bytes (inside_left h a) step.bytes));
        sound = rw left (renewed_sound file new big l s);
        keeps = step;
        size = ap (λ (k : List ℕ). length k) left ∙ renewed_length file new big l;
        kept = λ i o. ap (λ (k : List ℕ). byte k i) left ∙ renewed_kept file new big l i o;
        still = λ t.
            let same : new ≡ inside file = (lawful call).still (inside file) (subst (λ (k : ℕ). (changes call && eqb k 0) ≡ false) n t) in
            left ∙ ap (renewed file) same ∙ renewed_same file s d.bytes;
      }

-- ---- all events

holds : (events : List Event) (file : List ℕ) (h : History) → SoundContainer file → Accepted (inside file) → Agrees (inside file) h → WrappedRun file events
    → Run (inside file) (map within events) × WrappedHolds file h events
unfolding WrappedRun WrappedHolds Run within is18
holds [] file h s acc a r = (tt, tt)
holds (e ∷ events) file h s acc a r =
    let w = wrapped_event e file s acc r.0 h a in
    let rest = holds events e.left (step h (is18 e) e.call) w.sound w.keeps.accepted w.keeps.agrees r.1 in
    ((wrapped_does e file s acc r.0 h a, rest.0), (w, rest.1))

pub wrapped_runs : WrappedRuns
unfolding WrappedRuns
wrapped_runs file events s acc r =
    let a = starts (inside file) acc in
    let all = holds events file (reading (inside file)) s acc a r in
    (a, all.0, all.1)

made_run : (file : List ℕ) (calls : List Call) (h : History) → SoundContainer file → Accepted (inside file) → Agrees (inside file) h → Bytes file
    → AllFit calls → AllServe calls → WrappedRun file (made_wrapped file calls)
unfolding WrappedRun made_wrapped AllFit AllServe within is18
made_run file [] h s acc a b f n = tt
made_run file (c ∷ calls) h s acc a b f n =
    let e : Event = record { call = c; given = file_answer c file; left = file_after c file } in
    let d : DoesWrapped c file (file_answer c file) (file_after c file) =
    record { bytes = b; fits = f.0; serves = n.0; answers = refl; leaves = refl } in
    let w = wrapped_event e file s acc d h a in
    (d, made_run (file_after c file) calls (step h (is18 e) c) w.sound w.keeps.accepted w.keeps.agrees w.bytes f.1 n.1)

pub every_wrapped_list : EveryWrappedList
unfolding EveryWrappedList WrappedRuns
every_wrapped_list file calls s acc b f n =
    let r = made_run file calls (reading (inside file)) s acc (starts (inside file) acc) b f n in
    (r, (wrapped_runs file (made_wrapped file calls) s acc r).2)

-- ---- a wrapped image

pub wrapping_unwraps : Wrapping
unfolding Wrapping refusal checks refuses bad_lengths answer reply only
wrapping_unwraps image name buffer format given left acc whole size titled d =
    let call = wrap name format buffer in
    let passes : refusal call image ≡ 0 =
    rw (eq-eqb (length image) 409600 whole, eq-eqb (length buffer) 409684 size, le-ltb 63 (length name) titled, accepted_verdict image acc) (first_alone 0) in
    let told : given ≡ only 0 (wrapping image name format) = d.answers ∙ rw (eq-eqb (refusal call image) 0 passes) in
    let made : given.buffer ≡ wrapping image name format = ap (λ (r : Answer). r.buffer) told in
    let whole-sound : SoundContainer given.buffer = subst SoundContainer (sym made) (sound image name format whole titled) in
    let same : inside given.buffer ≡ image = ap inside made ∙ content image name format whole titled in (
      ap (λ (r : Answer). r.number) told,
      whole-sound,
      ap tags made ∙ no_tags image name format whole titled,
      same,
      λ call bare wrapped rest kept b w.
          let e : Event = record { call = call; given = wrapped; left = kept } in
          let acc' : Accepted (inside given.buffer) = subst Accepted (sym same) acc in
          let data-left = inside_left e given.buffer whole-sound acc' w (reading (inside given.buffer)) (starts (inside given.buffer) acc') in (
            w.answers ∙ inner_answer call given.buffer (no_count_of call w.serves _ _) (sound_passes given.buffer whole-sound) ∙ ap (answer call) same ∙ sym b.answers,
            data-left ∙ ap (after call) same ∙ sym b.leaves,
          ),
    )
