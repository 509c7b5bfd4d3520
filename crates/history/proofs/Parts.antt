-- A write in parts is the single write: the law for two parts, part by part, over runs on images and on wrapped files.
use Prim.Native.Nat.{ℕ, ◌+◌}
use mathlib.Core.Path.{◌≡◌, refl, sym, ap, subst, ◌∙◌}
use mathlib.Core.List.{List, [], ◌∷◌, ◌++◌, append-nil}
use mathlib.Core.Logic.{inl, inr}
use native.Mathlib.Decide.{ℕ_discrete}
use lib.ListN.{length}
use Rattle.model.specs.Lists.{flat}
use Rattle.model.specs.Bytes.{Bytes}
use Rattle.model.specs.Container.{inside}
use Rattle.model.specs.Calls.{Call, Answer, refusal, only, answer, after, Fits, serves_wrapped}
use Rattle.model.specs.Calls.Call.{write}
use Rattle.model.specs.Wrapped.{file_refusal, file_answer, file_after}
use Rattle.model.specs.declared.Fork.{Fork}
use Rattle.laws.proofs.Parts.{Parts, first_fits, image_parts}
use Rattle.laws.proofs.WrappedParts.{file_parts}
use Rattle.history.specs.History.{Event, Run}
use Rattle.history.specs.Among.{last_image}
use Rattle.history.specs.InParts.{WritesParts, Succeed, Meets, FirstGives, AsOne, InParts, EveryCut}
use Rattle.history.specs.WrappedRuns.{WrappedRun}
use Rattle.history.specs.WrappedParts.{WrappedInParts, EveryWrappedCut}
use Rattle.history.proofs.Run.{number_of, number_is}

-- calls on images, or on wrapped files: the number that a call gives, what it answers, what it leaves, and the runs of them
record Way : Type 1 where
  gives : Call → List ℕ → ℕ
  tells : Call → List ℕ → Answer
  leaves : Call → List ℕ → List ℕ
  Runs : List ℕ → List Event → Type 0
  -- a run is one call after the other
  first : (e : Event) (events : List Event) (image : List ℕ) → Runs image (e ∷ events)
      → (e.given.number ≡ gives e.call image) × (e.left ≡ leaves e.call image) × Runs e.left events
  none : (image : List ℕ) → Runs image []
  next : (name : List ℕ) (fork : Fork) (o : ℕ) (xs : List ℕ) (changed : ℕ) (image : List ℕ) (events : List Event)
      → let call = write name fork o xs changed in
      Bytes image → Fits call → Runs (leaves call image) events
      → Runs image (record { call = call; given = tells call image; left = leaves call image } ∷ events)
  number : (call : Call) (image : List ℕ) → (tells call image).number ≡ gives call image
  -- the law for two parts
  parts : (name : List ℕ) (fork : Fork) (changed : ℕ) → Parts gives leaves name fork changed

module _ (way : Way) (name : List ℕ) (fork : Fork) (changed : ℕ) where
  abbrev put : ℕ → List ℕ → Call
  put o xs = write name fork o xs changed

  law : Parts way.gives way.leaves name fork changed
  law = way.parts name fork changed

  -- an event that is the write of xs at o
  gave : (e : Event) (events : List Event) (image : List ℕ) (o : ℕ) (xs : List ℕ) → way.Runs image (e ∷ events) → e.call ≡ put o xs
      → (e.given.number ≡ way.gives (put o xs) image) × (e.left ≡ way.leaves (put o xs) image) × way.Runs e.left events
  gave e events image o xs r c =
      let f = way.first e events image r in
      (f.0 ∙ ap (λ (k : Call). way.gives k image) c, f.1 ∙ ap (λ (k : Call). way.leaves k image) c, f.2)

  -- the single write of one part
  one : (o : ℕ) (xs : List ℕ) → put o (xs ++ []) ≡ put o xs
  one o xs = ap (put o) (append-nil xs)

  -- not refused: the parts are not, and leave what the single write leaves
  run_same : (rest : List (List ℕ)) (events : List Event) (image : List ℕ) (o : ℕ) (xs : List ℕ) → Bytes image → Fits (put o (flat (xs ∷ rest)))
      → way.gives (put o (flat (xs ∷ rest))) image ≡ 0 → way.Runs image events → WritesParts name fork o (xs ∷ rest) changed events
      → Succeed events × (last_image image events ≡ way.leaves (put o (flat (xs ∷ rest))) image)
  unfolding flat WritesParts Succeed last_image
  run_same rest [] image o xs b w z r h = absurd h
  run_same [] (e ∷ []) image o xs b w z r h =
      let g = gave e [] image o xs r h.0 in
      ((g.0 ∙ subst (λ (k : Call). way.gives k image ≡ 0) (one o xs) z, tt), g.1 ∙ ap (λ (k : Call). way.leaves k image) (sym (one o xs)))
  run_same [] (e ∷ d ∷ events) image o xs b w z r h =
      let g = gave e (d ∷ events) image o xs r h.0 in
      elim h.1 [ inl s ↦ absurd s | inr s ↦ absurd (s.0 (g.0 ∙ subst (λ (k : Call). way.gives k image ≡ 0) (one o xs) z)) ]
  run_same (ys ∷ rest) (e ∷ events) image o xs b w z r h =
      let q = o + length xs in
      let tail = flat (ys ∷ rest) in
      let t = law.same image o xs tail b w z in
      let k = law.behind image o xs tail b w t.0 in
      let g = gave e events image o xs r h.0 in
      let l = g.1 in
      elim h.1 [
        | inl s ↦
            let i = run_same rest events e.left q ys (subst Bytes (sym l) k.0) k.1
            (subst (λ (m : List ℕ). way.gives (put q tail) m ≡ 0) (sym l) t.1) g.2 s in
            ((g.0 ∙ t.0, i.0), i.1 ∙ ap (way.leaves (put q tail)) l ∙ t.2)
        | inr s ↦ absurd (s.0 (g.0 ∙ t.0))
      ]

  -- refused for room: so is some part, and those before it are not refused
  run_full : (rest : List (List ℕ)) (events : List Event) (image : List ℕ) (o : ℕ) (xs : List ℕ) → Bytes image → Fits (put o (flat (xs ∷ rest)))
      → way.gives (put o (flat (xs ∷ rest))) image ≡ 17 → way.Runs image events → WritesParts name fork o (xs ∷ rest) changed events → Meets 17 events
  unfolding flat WritesParts Meets
  run_full rest [] image o xs b w z r h = absurd h
  run_full [] (e ∷ events) image o xs b w z r h =
      inl ((gave e events image o xs r h.0).0 ∙ subst (λ (k : Call). way.gives k image ≡ 17) (one o xs) z)
  run_full (ys ∷ rest) (e ∷ events) image o xs b w z r h =
      let q = o + length xs in
      let tail = flat (ys ∷ rest) in
      let g = gave e events image o xs r h.0 in
      let l = g.1 in
      elim (law.full image o xs tail b w z) [
        | inl f ↦ inl (g.0 ∙ f)
        | inr f ↦ elim h.1 [
          | inl s ↦
              let k = law.behind image o xs tail b w f.0 in
              inr (
                g.0 ∙ f.0,
                run_full rest events e.left q ys (subst Bytes (sym l) k.0) k.1
                    (subst (λ (m : List ℕ). way.gives (put q tail) m ≡ 17) (sym l) f.1) g.2 s,
              )
          | inr s ↦ absurd (s.0 (g.0 ∙ f.0))
        ]
      ]

  -- refused otherwise: so is the first part
  run_other : (rest : List (List ℕ)) (events : List Event) (image : List ℕ) (o : ℕ) (xs : List ℕ) → (way.gives (put o (flat (xs ∷ rest))) image ≡ 0 → ⊥)
      → (way.gives (put o (flat (xs ∷ rest))) image ≡ 17 → ⊥) → way.Runs image events → WritesParts name fork o (xs ∷ rest) changed events
      → FirstGives (way.gives (put o (flat (xs ∷ rest))) image) events
  unfolding WritesParts FirstGives
  run_other rest [] image o xs z f r h = absurd h
  run_other rest (e ∷ events) image o xs z f r h = (gave e events image o xs r h.0).0 ∙ law.other image o (flat (xs ∷ rest)) xs z f

  as_one : (rest : List (List ℕ)) (events : List Event) (image : List ℕ) (o : ℕ) (xs : List ℕ) (given : Answer) (left : List ℕ) → Bytes image
      → Fits (put o (flat (xs ∷ rest))) → given.number ≡ way.gives (put o (flat (xs ∷ rest))) image
      → left ≡ way.leaves (put o (flat (xs ∷ rest))) image → way.Runs image events → WritesParts name fork o (xs ∷ rest) changed events
      → AsOne image given left events
  as_one rest events image o xs given left b w n l r h = record {
    same = λ z. let s = run_same rest events image o xs b w (sym n ∙ z) r h in (s.0, s.1 ∙ sym l);
    full = λ z. run_full rest events image o xs b w (sym n ∙ z) r h;
    other = λ z f.
        subst (λ (k : ℕ). FirstGives k events) (sym n) (run_other rest events image o xs (λ e. z (n ∙ e)) (λ e. f (n ∙ e)) r h);
  }

  -- every way to cut has a run, up to the first part that is refused
  cut_runs : (rest : List (List ℕ)) (image : List ℕ) (o : ℕ) (xs : List ℕ) → Bytes image → Fits (put o (flat (xs ∷ rest)))
      → (events : List Event) × way.Runs image events × WritesParts name fork o (xs ∷ rest) changed events
  unfolding flat WritesParts
  cut_runs [] image o xs b w =
      let e : Event = record { call = put o xs; given = way.tells (put o xs) image; left = way.leaves (put o xs) image } in
      (e ∷ [], way.next name fork o xs changed image [] b (first_fits name fork changed o xs [] w) (way.none e.left), (refl, inl tt))
  cut_runs (ys ∷ rest) image o xs b w =
      let tail = flat (ys ∷ rest) in
      let e : Event = record { call = put o xs; given = way.tells (put o xs) image; left = way.leaves (put o xs) image } in
      let fits = first_fits name fork changed o xs tail w in
      elim (ℕ_discrete (way.gives (put o xs) image) 0) [
        | yes z ↦
            let k = law.behind image o xs tail b w z in
            let i = cut_runs rest e.left (o + length xs) ys k.0 k.1 in
            (e ∷ i.0, way.next name fork o xs changed image i.0 b fits i.1, (refl, inl i.2))
        | no z ↦ (
          e ∷ [],
          way.next name fork o xs changed image [] b fits (way.none e.left),
          (refl, inr ((λ n. z (sym (way.number (put o xs) image) ∙ n)), refl)),
        )
      ]

-- ---- on images

on_images : Way
unfolding Run
on_images = record {
  gives = refusal;
  tells = answer;
  leaves = after;
  Runs = Run;
  first = λ e events image r. (ap (λ (k : Answer). k.number) r.0.answers ∙ number_is e.call image, r.0.leaves, r.1);
  none = λ image. tt;
  next = λ name fork o xs changed image events b w r. (record { bytes = b; fits = w; answers = refl; leaves = refl }, r);
  number = number_is;
  parts = image_parts;
}

pub in_parts : InParts
unfolding InParts on_images
in_parts image name fork o xs rest changed given left events d r h =
    as_one on_images name fork changed rest events image o xs given left d.bytes d.fits
    (ap (λ (k : Answer). k.number) d.answers ∙ number_is (write name fork o (flat (xs ∷ rest)) changed) image) d.leaves r h

pub every_cut : EveryCut
unfolding EveryCut on_images
every_cut image name fork o xs rest changed given left d = cut_runs on_images name fork changed rest image o xs d.bytes d.fits

-- ---- on wrapped files

file_number : (call : Call) (file : List ℕ) → (file_answer call file).number ≡ file_refusal call file
unfolding file_answer only
file_number call file = number_of call (inside file) (file_refusal call file) 0

on_files : Way
unfolding WrappedRun serves_wrapped
on_files = record {
  gives = file_refusal;
  tells = file_answer;
  leaves = file_after;
  Runs = WrappedRun;
  first = λ e events file r. (ap (λ (k : Answer). k.number) r.0.answers ∙ file_number e.call file, r.0.leaves, r.1);
  none = λ file. tt;
  next = λ name fork o xs changed file events b w r. (record { bytes = b; fits = w; serves = refl; answers = refl; leaves = refl }, r);
  number = file_number;
  parts = file_parts;
}

pub wrapped_in_parts : WrappedInParts
unfolding WrappedInParts on_files
wrapped_in_parts file name fork o xs rest changed given left events d r h =
    as_one on_files name fork changed rest events file o xs given left d.bytes d.fits
    (ap (λ (k : Answer). k.number) d.answers ∙ file_number (write name fork o (flat (xs ∷ rest)) changed) file) d.leaves r h

pub every_wrapped_cut : EveryWrappedCut
unfolding EveryWrappedCut on_files
every_wrapped_cut file name fork o xs rest changed given left d = cut_runs on_files name fork changed rest file o xs d.bytes d.fits
