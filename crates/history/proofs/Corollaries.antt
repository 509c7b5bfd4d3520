-- What the auditor asks, from the claim on every run: a file that no call names stays, a delete touches no other file, a rename
-- changes a name and a date alone, no date is made up, "disk full" means no room, a read gives what was written, and no list of calls falls out of the claim.
use Prim.Native.Nat.{ℕ, ◌+◌, ◌≤◌, ◌<◌}
use mathlib.Core.Path.{◌≡◌, refl, sym, ap, subst, ◌∙◌}
use mathlib.Core.Bool.{Bool, true, false, not, ◌&&◌, cond}
use mathlib.Core.List.{List, [], ◌∷◌, ◌++◌, map, append_assoc, append-nil}
use mathlib.Core.Logic.{◌↔◌, ⊎_elim}
use native.Mathlib.Omega.{arith}
use lib.ListN.{length, drop, length-append}
use lib.Seq.{drop-length}
use lib.Dec.{eqb, ltb}
use borrow.Author.Tests.{not-false, eqb-true, eq-eqb, ltb-false, le-ltb}
use Rattle.model.specs.Lists.{any, flat, Reordered}
use Rattle.model.specs.Bytes.{Bytes, part}
use Rattle.model.specs.Facts.{facts_of, N, A, clump, free_count}
use Rattle.model.specs.Map.{map_entry}
use Rattle.model.specs.Directory.{directory, fork_of, forks_in, block_count, same_name}
use Rattle.model.specs.Check.{Accepted}
use Rattle.model.specs.Calls.{Call, Answer, name_of, fork_given, Known, bad_name, refuses, entry_named, known_in, read_count, copied}
use Rattle.model.specs.Calls.{needed_blocks, answer, after, lent, Does}
use Rattle.model.specs.Calls.Call.{read, write, delete, rename}
use Rattle.history.specs.History.{Held, File, History, blocks_of, free_of, no_file, held_of, called, file_called, known_to, declines, writes}
use Rattle.model.specs.Bytes.{overwritten}
use Rattle.history.specs.History.{changed_fork, retitled_file, on_called, moves, step, touches, dates_given, Told, told_by, told_only, says, tells, files_in}
use Rattle.history.specs.History.{reading, Agrees, Event, Run, is18, asked, compared, RoomRule, InStep, Holds, EveryRun}
use Rattle.history.specs.Among.{HasFile, last_image}
use Rattle.history.specs.Untouched.{NoneNames, Untouched}
use Rattle.history.specs.Deleting.{Deleting}
use Rattle.history.specs.Renaming.{Renaming}
use Rattle.history.specs.Dates.{touched, Dates}
use Rattle.history.specs.Room.{Room}
use Rattle.history.specs.InPieces.{Writes, InPieces}
use Rattle.history.specs.ReadBack.{ReadBack}
use Rattle.history.specs.EveryList.{made, AllFit, EveryList}
use Rattle.model.specs.declared.Fork.{Fork}
use Rattle.model.specs.declared.Fork.TheVariants.{Data, Resource}
use Rattle.model.proofs.Lists.{back, so_not}
use Rattle.model.proofs.Check.{else_zero}
use Rattle.laws.proofs.Reorder.{any_map, passes_still, first_changed, In, in_reordered, in_changed, from_map}
use Rattle.laws.proofs.Content.{length_overwritten, more_bytes, length_on}
use Rattle.laws.proofs.MapChecks.{all_blocks}
use Rattle.laws.proofs.Refusals.{with_full}
use Rattle.laws.proofs.Acceptance.{map_passes}
use Rattle.history.proofs.Answers.{rise_needed, same_free, known_same}
use Rattle.history.proofs.Reading.{blocks_of_lem}
use Rattle.history.proofs.Lawful.{Dated, Compared, Aside, lawful}
use Rattle.history.proofs.Run.{every_run}

-- the claim on a list of one event
one_step : (e : Event) (image : List ℕ) → Accepted image → Does e.call image e.given e.left → InStep e image (reading image)
unfolding EveryRun Run Holds
one_step e image acc m = let h : Holds image (reading image) (e ∷ []) = (every_run image (e ∷ []) acc (m, tt)).1 in h.0

-- ---- Untouched and Deleting

-- a file that the call does not touch stays in the history
step_keeps : (h : History) (full : Bool) (call : Call) (x : File) → touches call x.name ≡ false → In no_file x h.files
    → In no_file x (step h full call).files
unfolding step
step_keeps h full call x n i = go (eqb (declines h full call) 0)
  where
    go : (b : Bool) → In no_file x (cond b (moves h call) h).files
    go true = (lawful call).keeps h x n i
    go false = i

stays : (events : List Event) (image : List ℕ) (h : History) (x : File) → Agrees image h → Holds image h events → NoneNames x.name events
    → In no_file x h.files → HasFile (last_image image events) x
unfolding Holds NoneNames last_image called
stays [] image h x a s n i = in_reordered no_file x (back a.files) i
stays (e ∷ events) image h x a s n i =
    stays events e.left (step h (is18 e) e.call) x s.0.agrees s.1 n.1 (step_keeps h (is18 e) e.call x n.0 i)

pub untouched : Untouched
unfolding Untouched EveryRun reading
untouched image events x acc r i n =
    let c = every_run image events acc r in
    stays events image (reading image) x c.0 c.1 n i

pub deleting : Deleting
unfolding Deleting Untouched Run NoneNames last_image touches
deleting image name left given x acc m n i =
    let e : Event = record { call = delete name; given = given; left = left } in
    untouched image (e ∷ []) x acc (m, tt) i (n, tt)

-- ---- Room

only_full : (image name : List ℕ) (fork : Fork) (offset : ℕ) (bytes : List ℕ) (changed : ℕ) (given : Answer) (left : List ℕ)
    → Accepted image → Does (write name fork offset bytes changed) image given left → given.number ≡ 17
    → free_count (facts_of image) < needed_blocks (facts_of image) (fork_of fork (entry_named name image)) offset (length bytes)
unfolding needed_blocks RoomRule reading known_to known_in with_full EveryRun Run files_in
only_full image name fork offset bytes changed given left acc m n =
    let f = facts_of image in
    let e : Event = record { call = write name fork offset bytes changed; given = given; left = left } in
    let h = reading image in
    let a : Agrees image h = (every_run image [] acc tt).0 in
    let none = (one_step e image acc m).room.0 n in
    let k = known_same image h acc a false name fork in
    let held = held_of fork (file_called name h) in
    let logical : length held.bytes ≡ (fork_of fork (entry_named name image)).logical = ap (λ (k : Known). k.logical) k in
    let blocks : held.count ≡ block_count (A f) (fork_of fork (entry_named name image)) = ap (λ (k : Known). k.blocks) k in
    let need = rw (rise_needed (A f) offset bytes held none.within, logical, blocks) at none.exceeds in
    rw (same_free image h a) need

none_hidden : (image : List ℕ) → Accepted image → free_count (facts_of image) + blocks_of (files_in image) ≡ N (facts_of image)
unfolding files_in
none_hidden image acc =
    let f = facts_of image in
    rw (blocks_of_lem f image (directory image)) (all_blocks (map_entry image) (N f) (A f) (free_count f) (forks_in (directory image)) (map_passes image acc))

pub room : Room
unfolding Room
room = (only_full, none_hidden)

-- ---- numbers

-- a call's number is the history's
told_number_lem : (h : History) (full : Bool) (n : ℕ) (call : Call) → (tells h full n call).number ≡ declines h full call
unfolding tells told_only
told_number_lem h full n call = go (declines h full call) (eqb (declines h full call) 0) refl
  where
    go : (r : ℕ) (t : Bool) → eqb r 0 ≡ t → (cond t (says h n call) (told_only r (lent call))).number ≡ r
    go r true e = (lawful call).said h n ∙ sym (eqb-true r 0 e)
    go r false e = refl

declined : (e : Event) (image : List ℕ) (h : History) → InStep e image h → compared e.call ≡ true → e.given.number ≡ declines h (is18 e) e.call
unfolding told_by
declined e image h s k = ap (λ (t : Told). t.number) (s.told k) ∙ told_number_lem h (is18 e) (asked image e.call) e.call

-- ---- Renaming

pub renaming : Renaming
unfolding Renaming reading step moves compared
renaming image name new left changed given acc m z =
    let call = rename name new changed in
    let e : Event = record { call = call; given = given; left = left } in
    let h = reading image in
    let f = on_called name (retitled_file new changed) in
    let s = one_step e image acc m in
    let n : declines h (is18 e) call ≡ 0 = sym (declined e image h s refl) ∙ z in
    let r : Reordered (files_in left) (map f (files_in image)) = rw n at s.agrees.files in (
      λ x i. in_reordered no_file (f x) (back r) (in_changed no_file x f (files_in image) i),
      λ y i. from_map no_file y f (files_in image) (in_reordered no_file y r i),
    )

-- ---- Dates

-- a file of the history after a call that gives this number
step_dates : (h : History) (full : Bool) (call : Call) (x : File) (number : ℕ) → number ≡ declines h full call → In no_file x (step h full call).files
    → Dated call h x (eqb number 0 && touches call x.name)
unfolding step
step_dates h full call x number n i =
    go (eqb (declines h full call) 0) refl i
  where
    go : (b : Bool) → eqb (declines h full call) 0 ≡ b → In no_file x (cond b (moves h call) h).files
        → Dated call h x (eqb number 0 && touches call x.name)
    go true e j = rw (n, e) ((lawful call).dates h full x (eqb-true (declines h full call) 0 e) j)
    go false e j = rw (n, e) (λ f. j, λ t. absurd (so_not false refl t))

-- a file that a call of that number does not touch stays
step_stays : (h : History) (full : Bool) (call : Call) (x : File) (number : ℕ) → number ≡ declines h full call
    → (eqb number 0 && touches call x.name) ≡ false → In no_file x h.files → In no_file x (step h full call).files
unfolding step
step_stays h full call x number n t i = go (eqb (declines h full call) 0) (rw n at t)
  where
    go : (b : Bool) → (b && touches call x.name) ≡ false → In no_file x (cond b (moves h call) h).files
    go true u = (lawful call).keeps h x u i
    go false u = i

-- a call of one image: the dates of a file of it, and of what it left
module _ (image left : List ℕ) (call : Call) (given : Answer) (x : File) (s : InStep (record { call = call; given = given; left = left }) image (reading image))
  where
    abbrev Kept : Type 0
    Kept =
        (touched call given x ≡ false → (HasFile left x ↔ HasFile image x))
        × (touched call given x ≡ true → HasFile left x → dates_given call (HasFile image) x)

    -- its answer is compared
    compared_dates : Compared call → Kept
    unfolding touched reading
    compared_dates c =
        let e : Event = record { call = call; given = given; left = left } in
        let h = reading image in
        let n = declined e image h s c.asked in
        let from : HasFile left x → Dated call h x (eqb given.number 0 && touches call x.name) =
        λ i. step_dates h (is18 e) call x given.number n (in_reordered no_file x s.agrees.files i) in (
          λ t. (λ i. (from i).0 t, λ i. in_reordered no_file x (back s.agrees.files) (step_stays h (is18 e) call x given.number n t i)),
          λ t i. (from i).1 t,
        )

    -- it stands aside, and leaves the image
    aside_dates : Aside call → Kept
    unfolding touched
    aside_dates c =
        let same : left ≡ image = s.still (rw c.unchanging) in
        let not : (n : Bool) → (n && false) ≡ false = λ n. elim n as (λ m. (m && false) ≡ false) [ true ↦ refl | false ↦ refl ] in (
          λ t. (λ i. rw same at i, λ i. rw same i),
          λ t. absurd (so_not _ (not (eqb given.number 0)) (rw (c.untouching x.name) at t)),
        )

pub dates : Dates
unfolding Dates
dates image left call given x acc m =
    let s = one_step (record { call = call; given = given; left = left }) image acc m in
    ⊎_elim (compared_dates image left call given x s) (aside_dates image left call given x s) (lawful call).joins

-- ---- InPieces and ReadBack

-- one fork of one file
module _ (name : List ℕ) (fork : Fork) where
  bytes_in : History → List ℕ
  bytes_in h = (held_of fork (file_called name h)).bytes

  -- the fork has these bytes from o on
  record Holding (h : History) (o : ℕ) (sofar : List ℕ) : Type 0 where
    titled : bad_name name ≡ false
    there : any (called name) h.files ≡ true
    within : o + length sofar ≤ length (bytes_in h)
    same : part o (length sofar) (bytes_in h) ≡ sofar

  -- a write that is not refused names a file, and begins no further than its fork's end
  write_allowed : (h : History) (full : Bool) (o : ℕ) (xs : List ℕ) (changed : ℕ) → declines h full (write name fork o xs changed) ≡ 0 → Holding h o []
  unfolding declines refuses known_to name_of fork_given bytes_in
  write_allowed h full o xs changed z =
      let k = known_to h full name fork in
      let p₁ = else_zero k.locked 10 _ z in
      let p₂ = else_zero (bad_name name) 11 _ p₁.1 in
      let p₃ = else_zero (not k.exists) 12 _ p₂.1 in
      let p₄ = else_zero k.file_locked 14 _ p₃.1 in
      let p₅ = else_zero (ltb k.logical o) 15 _ p₄.1 in
      let l = ltb-false k.logical o p₅.0 in
      record { titled = p₂.0; there = not-false _ p₃.0; within = omega arith; same = refl }

  -- the named file after a write
  module _ (h : History) (o : ℕ) (xs : List ℕ) (changed : ℕ) where
    abbrev puts : Held → Held
    puts = writes (A h.facts) (clump h.facts) (free_of h) o xs

    rewrites : File → File
    rewrites x = changed_fork fork puts changed x

    same_title : (x : File) → called name (rewrites x) ≡ called name x
    unfolding called rewrites changed_fork
    same_title x = go fork
      where
        go : (which : Fork) → same_name name (changed_fork which puts changed x).name ≡ same_name name x.name
        go Data = refl
        go Resource = refl

    new_bytes : (x : File) → (held_of fork (rewrites x)).bytes ≡ overwritten (held_of fork x).bytes o xs
    unfolding rewrites changed_fork writes held_of
    new_bytes x = go fork
      where
        go : (which : Fork) → (held_of which (changed_fork which puts changed x)).bytes ≡ overwritten (held_of which x).bytes o xs
        go Data = refl
        go Resource = refl

    still_there : any (called name) (moves h (write name fork o xs changed)).files ≡ any (called name) h.files
    unfolding moves on_called rewrites
    still_there = any_map (called name) (called name) _ (passes_still (called name) rewrites same_title) h.files

    written_bytes : any (called name) h.files ≡ true → bytes_in (moves h (write name fork o xs changed)) ≡ overwritten (bytes_in h) o xs
    unfolding bytes_in moves file_called on_called rewrites
    written_bytes there =
        ap (λ (x : File). (held_of fork x).bytes) (first_changed (called name) rewrites same_title no_file h.files there)
        ∙ new_bytes (file_called name h)

  -- a write behind the bytes that are there
  write_holds : (h : History) (full : Bool) (o : ℕ) (sofar xs : List ℕ) (changed : ℕ) → Holding h o sofar
      → declines h full (write name fork (o + length sofar) xs changed) ≡ 0
      → Holding (step h full (write name fork (o + length sofar) xs changed)) o (sofar ++ xs)
  unfolding step
  write_holds h full o sofar xs changed s z =
      let q = o + length sofar in
      let b = written_bytes h q xs changed s.there in
      rw (eq-eqb (declines h full (write name fork q xs changed)) 0 z)
      (record {
        titled = s.titled;
        there = still_there h q xs changed ∙ s.there;
        within = rw (b, length_overwritten (bytes_in h) q xs s.within, length-append sofar xs) (omega arith);
        same = rw b (more_bytes (bytes_in h) o sofar xs s.within s.same);
      })

  -- the pieces, one after the other; then comes one event more
  pieces_hold : (pieces : List (List ℕ)) (events : List Event) (final : Event) (image : List ℕ) (h : History) (o q : ℕ) (sofar : List ℕ)
      → Holding h o sofar → o + length sofar ≡ q → Writes name fork q pieces events → Holds image h (events ++ (final ∷ []))
      → (h' : History) × Holding h' o (sofar ++ flat pieces) × InStep final (last_image image events) h'
  unfolding Writes Holds flat last_image compared
  pieces_hold [] [] final image h o q sofar s p w c = (h, subst (Holding h o) (sym (append-nil sofar)) s, c.0)
  pieces_hold [] (e ∷ events) final image h o q sofar s p w c = absurd w
  pieces_hold (xs ∷ pieces) [] final image h o q sofar s p w c = absurd w
  pieces_hold (xs ∷ pieces) (e ∷ events) final image h o q sofar s p w c =
      let full = is18 e in
      let call : e.call ≡ write name fork (o + length sofar) xs w.0.0 = w.0.1 ∙ ap (λ (i : ℕ). write name fork i xs w.0.0) (sym p) in
      let z = sym (declined e image h c.0 (ap compared call)) ∙ w.1 in
      let n : Holding (step h full e.call) o (sofar ++ xs) =
      subst (λ (k : Call). Holding (step h full k) o (sofar ++ xs)) (sym call)
      (write_holds h full o sofar xs w.0.0 s (subst (λ (k : Call). declines h full k ≡ 0) call z)) in
      let r = pieces_hold pieces events final e.left (step h full e.call) o (q + length xs) (sofar ++ xs) n
      (length_on o q sofar xs p) w.2 c.1 in
      (r.0, subst (Holding r.0 o) (append_assoc sofar xs (flat pieces)) r.1, r.2)

  -- the first of the pieces shows that the fork reaches to o
  first_allowed : (xs : List ℕ) (pieces : List (List ℕ)) (events : List Event) (final : Event) (image : List ℕ) (h : History) (o : ℕ)
      → Writes name fork o (xs ∷ pieces) events → Holds image h (events ++ (final ∷ [])) → Holding h o []
  unfolding Writes Holds compared
  first_allowed xs pieces [] final image h o w c = absurd w
  first_allowed xs pieces (e ∷ events) final image h o w c =
      let z = sym (declined e image h c.0 (ap compared w.0.1)) ∙ w.1 in
      write_allowed h (is18 e) o xs w.0.0 (subst (λ (k : Call). declines h (is18 e) k ≡ 0) w.0.1 z)

  -- a read of bytes that are there
  read_holds : (h : History) (o : ℕ) (all : List ℕ) (e : Event) (image buffer : List ℕ) → Holding h o all → e.call ≡ read name fork o buffer → InStep e image h
      → length buffer ≡ length all → (e.given.number ≡ 0) × (e.given.count ≡ length buffer) × (e.given.buffer ≡ all)
  unfolding told_by tells says declines refuses known_to name_of fork_given bytes_in read_count copied compared
  read_holds h o all e image buffer s call c l =
      let full = is18 e in
      let k = read name fork o buffer in
      let z : declines h full k ≡ 0 = rw (s.titled, s.there, le-ltb (length (bytes_in h)) o (omega (arith, s.within))) refl in
      let t : told_by e.given ≡ says h (asked image e.call) k = c.told (ap compared call) ∙ rw call (rw z) in
      let bytes = bytes_in h in
      let n : read_count (length buffer) (length bytes) o ≡ length buffer = omega (arith, s.within) in (
        ap (λ (t : Told). t.number) t,
        ap (λ (t : Told). t.count) t ∙ n,
        ap (λ (t : Told). t.buffer) t
            ∙ ap (λ (i : ℕ). part o i bytes ++ drop i buffer) n
            ∙ rw (drop-length buffer, append-nil, l) s.same,
      )

-- a run with one event more
run_then : (events : List Event) (image : List ℕ) (e : Event) → Run image events → Does e.call (last_image image events) e.given e.left
    → Run image (events ++ (e ∷ []))
unfolding Run last_image
run_then [] image e r m = (m, tt)
run_then (d ∷ events) image e r m = (r.0, run_then events d.left e r.1 m)

pub in_pieces : InPieces
unfolding InPieces EveryRun
in_pieces image name fork o xs pieces events acc r w buffer given left m l =
    let e : Event = record { call = read name fork o buffer; given = given; left = left } in
    let c = (every_run image (events ++ (e ∷ [])) acc (run_then events image e r m)).1 in
    let s = first_allowed name fork xs pieces events e image (reading image) o w c in
    let p = pieces_hold name fork (xs ∷ pieces) events e image (reading image) o o [] s (omega arith) w c in
    read_holds name fork p.0 o (flat (xs ∷ pieces)) e (last_image image events) buffer p.1 refl p.2 l

pub read_back : ReadBack
unfolding ReadBack InPieces Run Writes last_image flat
read_back image name fork o bytes changed written between acc m z buffer given left n l =
    let e : Event = record { call = write name fork o bytes changed; given = written; left = between } in
    let whole : flat (bytes ∷ []) ≡ bytes = append-nil bytes in
    let r = in_pieces image name fork o bytes [] (e ∷ []) acc (m, tt) ((changed, refl), z, tt) buffer given left n (rw whole l) in
    (r.0, r.1 ∙ l, r.2 ∙ whole)

-- ---- EveryList

made_run : (image : List ℕ) (calls : List Call) → Accepted image → Bytes image → AllFit calls → Run image (made image calls)
unfolding Run made AllFit
made_run image [] acc b w = tt
made_run image (c ∷ calls) acc b w =
    let m : Does c image (answer c image) (after c image) = record { bytes = b; fits = w.0; answers = refl; leaves = refl } in
    let s = one_step (record { call = c; given = answer c image; left = after c image }) image acc m in
    (m, made_run (after c image) calls s.accepted s.bytes w.1)

pub every_list : EveryList
unfolding EveryList EveryRun
every_list image calls acc b w =
    let r = made_run image calls acc b w in
    let c = every_run image (made image calls) acc r in
    (r, c.1)
