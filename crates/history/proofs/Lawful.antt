-- What is lawful for each call: every fact by which a call enters the claim on every run and what follows from it, in one record
-- with a clause for each call.
use Prim.Native.Nat.{ℕ}
use mathlib.Core.Path.{◌≡◌, refl, sym, ap, subst, ◌∙◌}
use mathlib.Core.Bool.{Bool, true, false, not, ◌&&◌, ◌||◌, cond, or-true}
use mathlib.Core.List.{List, [], map}
use mathlib.Core.Logic.{◌⊎◌, inl, inr}
use lib.ListN.{length}
use lib.Dec.{eqb, leb, ltb}
use borrow.Author.Tests.{not-true, not-false, ltb-true, ltb-false, lt-ltb, le-ltb}
use Rattle.model.specs.Bytes.{Bytes}
use Rattle.model.specs.Check.{or_else, verdict, Accepted}
use Rattle.model.specs.Container.{bad_lengths}
use Rattle.model.specs.Calls.{Call, name_of, fork_given, Known, grown, needed, bad_name, too_long, checks, refuses, refusal, change, only, reply, after, Fits}
use Rattle.model.specs.Calls.{Answer, carries, known_in, tells_facts, tells_entry, tells_block, tells_bytes, tells_quick}
use Rattle.model.specs.Calls.Call.{check, entry, find, block, read, create, write, cut, delete, wrap, rename, quick_find}
use Rattle.history.specs.History.{File, History, no_file, held_of, called, file_called, known_to, declines, on_called, Told, told_by, told_only}
use Rattle.history.specs.History.{Held, new_file, changed_fork, retitled_file, date_changed, touches, dates_given, says, moves, asked, compared}
use Rattle.history.specs.History.{changes, RoomRule, Agrees}
use Rattle.model.specs.Lists.{any, keep}
use Rattle.model.specs.Directory.{same_name}
use Rattle.model.specs.Facts.{next_file_number}
use Rattle.model.specs.declared.Fork.{Fork}
use Rattle.model.specs.declared.Fork.TheVariants.{Data}
use Rattle.model.proofs.Lists.{so_not, or-false, any_at}
use Rattle.model.proofs.Names.{same_name_refl}
use Rattle.model.proofs.Check.{else_zero, accepted_verdict}
use Rattle.laws.proofs.Calls.{first_alone, by_own}
use Rattle.laws.proofs.Quick.{four_pass}
use Rattle.laws.proofs.Reorder.{In, in_map, in_keep, in_append, from_last, from_map, from_keep}
use Rattle.laws.proofs.Refusals.{no_check, other, other_found, other_change, past, fires, with_full, create_fed, create_never, rename_fed, rename_never}
use Rattle.history.proofs.Answers.{rise_needed, only_told, check_says, entry_says, find_says, read_says}
use Rattle.history.proofs.Joined.{Done, stays}
use Rattle.history.proofs.Creates.{create_done}
use Rattle.history.proofs.Writes.{write_done}
use Rattle.history.proofs.Cuts.{cut_done}
use Rattle.history.proofs.Deletes.{delete_done}
use Rattle.history.proofs.Renames.{rename_done}

-- a file of the history after a call: it was there before where the call does not touch it, and has the call's dates where it does
abbrev pub Dated : Call → History → File → Bool → Type 0
Dated call h x touched = (touched ≡ false → In no_file x h.files) × (touched ≡ true → dates_given call (λ y. In no_file y h.files) x)

-- a call that stands aside: it changes nothing, its answer is not compared, and 17 is none of its numbers
pub record Aside (call : Call) : Type 0 where
  pub uncompared : compared call ≡ false
  pub unchanging : changes call ≡ false
  pub untouching : (name : List ℕ) → touches call name ≡ false
  pub stays : (h : History) → moves h call ≡ h
  pub room : (image : List ℕ) (h : History) → Accepted image → RoomRule h call (refusal call image)

-- a call whose answer is compared: it checks 1 to 10 first, and no refusal carries a count
pub record Compared (call : Call) : Type 0 where
  pub asked : compared call ≡ true
  pub first : (image : List ℕ) → checks call image ≡ verdict image
  pub bare : (n : ℕ) (image : List ℕ) → carries call n image ≡ 0

pub record Lawful (call : Call) : Type 0 where
  -- how it joins the list
  pub joins : Compared call ⊎ Aside call
  -- a success has the number 0, and the history says so
  pub answered : (image : List ℕ) → (reply call image).number ≡ 0
  pub said : (h : History) (n : ℕ) → (says h n call).number ≡ 0
  -- of the room for an entry the call needs to be told only whether it gives 18
  pub fed : (k : Known) → refuses call k ≡ refuses call (with_full k (eqb (refuses call k) 18))
  -- it gives 17 exactly where the claim asks for it
  pub room : (h : History) (full : Bool) → RoomRule h call (declines h full call)
  -- refused, or one that only reads, it changes nothing
  pub still : (image : List ℕ) → (changes call && eqb (refusal call image) 0) ≡ false → after call image ≡ image
  -- not refused, it tells what the history says, where its answer is compared
  pub told : compared call ≡ true → (image : List ℕ) (h : History) → Accepted image → Agrees image h → refusal call image ≡ 0
      → told_by (reply call image) ≡ says h (asked image call) call
  -- not refused, it leaves an accepted image that reads as the history says, and only the named bytes differ
  pub done : (image : List ℕ) (h : History) → Accepted image → Agrees image h → Bytes image → Fits call → refusal call image ≡ 0
      → Done call image h
  -- a file that it does not change by name stays in the history
  pub keeps : (h : History) (x : File) → touches call x.name ≡ false → In no_file x h.files
      → In no_file x (moves h call).files
  -- not refused, it leaves a file that it does not change by name as it was, and gives the other its dates
  pub dates : (h : History) (full : Bool) (x : File) → declines h full call ≡ 0 → In no_file x (moves h call).files
      → Dated call h x (touches call x.name)

-- ---- calls that change nothing

-- what the definitions say of every such call: image and history stay, a success has the number 0, and no refusal asks for room
abbrev Unmoved : Type 0
Unmoved = (List ℕ → List ℕ) × (History → History) × (List ℕ → ℕ) × (History → ℕ → ℕ) × (Known → Bool → ℕ) × (List ℕ → Bool)

abbrev Reads : Call → Type 0
Reads call =
    ◌≡◌ {A = Unmoved} (
      change call,
      λ h. moves h call,
      λ image. (reply call image).number,
      λ h n. (says h n call).number,
      λ k full. refuses call (with_full k full),
      touches call,
    )
    (λ image. image, λ h. h, λ image. 0, λ h n. 0, λ k full. refuses call k, λ name. false)

either_way : (t : Bool) (image : List ℕ) → cond t image image ≡ image
either_way true image = refl
either_way false image = refl

reads : (call : Call) → Reads call → Compared call ⊎ Aside call → ((h : History) (full : Bool) → RoomRule h call (declines h full call))
    → (compared call ≡ true → (image : List ℕ) (h : History) → Accepted image → Agrees image h → refusal call image ≡ 0
    → told_by (reply call image) ≡ says h (asked image call) call)
    → Lawful call
unfolding after
reads call d joins room told =
    let leaves : (image : List ℕ) → change call image ≡ image = λ image. ap (λ (t : Unmoved). t.0 image) d in
    let keeps : (h : History) → moves h call ≡ h = λ h. ap (λ (t : Unmoved). t.1 h) d in
    record {
      joins = joins;
      answered = λ image. ap (λ (t : Unmoved). t.2 image) d;
      said = λ h n. ap (λ (t : Unmoved). t.3 h n) d;
      fed = λ k. sym (ap (λ (t : Unmoved). t.4 k (eqb (refuses call k) 18)) d);
      room = room;
      still = λ image n.
          let t = eqb (refusal call image) 0 in
          ap (λ (l : List ℕ). cond t l image) (leaves image) ∙ either_way t image;
      told = told;
      done = λ image h acc a b w z.
          let l = leaves image in
          record { bytes = rw l b; accepted = rw l acc; agrees = rw (l, keeps h) a; kept = rw l (stays call image) };
      keeps = λ h x n i. subst (λ (g : History). In no_file x g.files) (sym (keeps h)) i;
      dates = λ h full x z i.
          let still : touches call x.name ≡ false = ap (λ (t : Unmoved). t.5 x.name) d in
          rw still (λ n. subst (λ (g : History). In no_file x g.files) (keeps h) i, λ t. absurd (so_not false refl t));
    }

-- ---- calls that change the image

-- what the definitions say of every such call: it changes, and it tells its number alone
abbrev Moved : Type 0
Moved = Bool × (List ℕ → Answer) × (History → ℕ → Told)

abbrev Alters : Call → Type 0
Alters call = ◌≡◌ {A = Moved} (changes call, reply call, λ h n. says h n call) (true, λ image. only 0 [], λ h n. told_only 0 [])

alters : (call : Call) → Alters call → Compared call
    → ((k : Known) → refuses call k ≡ refuses call (with_full k (eqb (refuses call k) 18)))
    → ((h : History) (full : Bool) → RoomRule h call (declines h full call))
    → ((image : List ℕ) (h : History) → Accepted image → Agrees image h → Bytes image → Fits call → refusal call image ≡ 0 → Done call image h)
    → ((h : History) (x : File) → touches call x.name ≡ false → In no_file x h.files → In no_file x (moves h call).files)
    → ((h : History) (full : Bool) (x : File) → declines h full call ≡ 0 → In no_file x (moves h call).files → Dated call h x (touches call x.name))
    → Lawful call
unfolding after only told_only
alters call d first fed room done keeps dates =
    let changing : changes call ≡ true = ap (λ (t : Moved). t.0) d in
    let number : (image : List ℕ) → reply call image ≡ only 0 [] = λ image. ap (λ (t : Moved). t.1 image) d in
    let say : (h : History) (n : ℕ) → says h n call ≡ told_only 0 [] = λ h n. ap (λ (t : Moved). t.2 h n) d in
    record {
      joins = inl first;
      answered = λ image. ap (λ (r : Answer). r.number) (number image);
      said = λ h n. ap (λ (t : Told). t.number) (say h n);
      fed = fed;
      room = room;
      still = λ image n.
          let refused : eqb (refusal call image) 0 ≡ false = rw changing at n in
          rw refused;
      told = λ c image h acc a z. ap told_by (number image) ∙ only_told 0 [] ∙ sym (say h (asked image call));
      done = done;
      keeps = keeps;
      dates = dates;
    }

-- a write gives 17 exactly where it needs more new blocks than are free
write_room : (name : List ℕ) (fork : Fork) (offset : ℕ) (bytes : List ℕ) (changed : ℕ) (h : History) (full : Bool)
    → RoomRule h (write name fork offset bytes changed) (declines h full (write name fork offset bytes changed))
unfolding RoomRule declines refuses known_to name_of fork_given
write_room name fork offset bytes changed h full =
    let k = known_to h full name fork in
    let held = held_of fork (file_called name h) in
    let need = needed k.size (grown k.logical offset (length bytes)) k.blocks in (
      λ e.
          let p₁ = past k.locked 11 _ refl e in
          let p₂ = past (bad_name name) 12 _ refl p₁.1 in
          let p₃ = past (not k.exists) 13 _ refl p₂.1 in
          let p₄ = past k.file_locked 15 _ refl p₃.1 in
          let p₅ = past (ltb k.logical offset) 16 _ refl p₄.1 in
          let within = ltb-false k.logical offset p₅.0 in
          record {
            unlocked = p₁.0;
            titled = p₂.0;
            there = not-false k.exists p₃.0;
            writable = p₄.0;
            within = within;
            exceeds = rw (rise_needed k.size offset bytes held within) (ltb-true k.free need (fires _ p₅.1));
          },
      λ r.
          let within = le-ltb k.logical offset r.within in
          let exceeds : ltb k.free need ≡ true =
          lt-ltb k.free need (rw (rise_needed k.size offset bytes held r.within) at r.exceeds) in
          rw (r.unlocked, r.titled, r.there, r.writable, within, exceeds) refl,
    )

-- a file that the name does not call stays in the history
not_called : (name : List ℕ) (f : File → File) (x : File) → called name x ≡ false → on_called name f x ≡ x
unfolding on_called
not_called name f x n = rw n

-- the file that a create adds is the only one of its name, and has the dates given
module _ (name finder : List ℕ) (made changed : ℕ) (h : History) (x : File) where
  abbrev added : File
  added = new_file (next_file_number h.facts) name finder made changed

  fresh : (full : Bool) → declines h full (create name finder made changed) ≡ 0 → any (called name) h.files ≡ false
  unfolding declines refuses known_to name_of fork_given
  fresh full z =
      let k = known_to h full name Data in
      (else_zero k.exists 13 _ (else_zero (too_long name) 20 _ (else_zero (bad_name name) 11 _ (else_zero k.locked 10 _ z).1).1).1).0

  added_dates : added ≡ x → Dated (create name finder made changed) h x (called name x)
  unfolding dates_given called new_file
  added_dates e =
      let its : called name x ≡ true = subst (λ (y : File). called name y ≡ true) e (same_name_refl name) in
      (λ n. absurd (so_not (called name x) n its), λ t. (sym (ap (λ (y : File). y.created) e), sym (ap (λ (y : File). y.changed) e)))

  created_dates : (full : Bool) → declines h full (create name finder made changed) ≡ 0
      → In no_file x (moves h (create name finder made changed)).files → Dated (create name finder made changed) h x (called name x)
  unfolding moves
  created_dates full z i = go (from_last no_file x h.files added i)
    where
      go : In no_file x h.files ⊎ (added ≡ x) → Dated (create name finder made changed) h x (called name x)
      go (inl j) =
          let there = any_at (called name) no_file h.files (fresh full z) j.0 j.1 in
          let other : called name x ≡ false = subst (λ (y : File). called name y ≡ false) j.2 there in
          (λ n. j, λ t. absurd (so_not (called name x) other t))
      go (inr e) = added_dates e

-- the file whose fork a write or a cut changes has the date of change given, and its own date of creation
changed_dates : (name : List ℕ) (fork : Fork) (f : Held → Held) (changed : ℕ) (fs : List File) (x : File)
    → In no_file x (map (on_called name (changed_fork fork f changed)) fs)
    → (called name x ≡ false → In no_file x fs) × (called name x ≡ true → date_changed changed (λ y. In no_file y fs) x)
unfolding on_called changed_fork called
changed_dates name fork f changed fs x i =
    let s = from_map no_file x (on_called name (changed_fork fork f changed)) fs i in
    go s.0 s.1 (called name s.0) refl s.2
  where
    go : (y : File) → In no_file y fs → (b : Bool) → called name y ≡ b → cond b (changed_fork fork f changed y) y ≡ x
        → (called name x ≡ false → In no_file x fs) × (called name x ≡ true → date_changed changed (λ y. In no_file y fs) x)
    go y j true c e =
        let its : called name x ≡ true = subst (λ (z : File). called name z ≡ true) e c in (
          λ n. absurd (so_not (called name x) n its),
          λ t. (
            sym (ap (λ (z : File). z.changed) e),
            (y, j, ap (λ (z : File). z.number) e, ap (λ (z : File). z.name) e, ap (λ (z : File). z.created) e),
          ),
        )
    go y j false c e =
        let other : called name x ≡ false = subst (λ (z : File). called name z ≡ false) e c in
        (λ n. subst (λ (z : File). In no_file z fs) e j, λ t. absurd (so_not (called name x) other t))

-- no file of the name is left after a delete
deleted_dates : (name : List ℕ) (h : History) (x : File) → In no_file x (moves h (delete name)).files → Dated (delete name) h x (called name x)
unfolding moves
deleted_dates name h x i =
    let s = from_keep no_file x (λ y. not (called name y)) h.files i in
    (λ n. s.0, λ t. absurd (so_not (called name x) (not-true _ s.1) t))

-- the file that a rename gives a name and a date, its number and its date of creation being those that it had
module _ (name new : List ℕ) (changed : ℕ) (h : History) (x : File) where
  abbrev call : Call
  call = rename name new changed

  -- no other file has the new name
  unshared : (full : Bool) → declines h full call ≡ 0 → any (called new) (keep (λ y. not (called name y)) h.files) ≡ false
  unfolding declines refuses known_to name_of fork_given
  unshared full z =
      let k = known_to h full name Data in
      let p = (else_zero (too_long new) 20 _ (else_zero (bad_name new) 11 _ (else_zero (bad_name name) 11 _ (else_zero k.locked 10 _ z).1).1).1).1 in
      (else_zero (k.another new) 13 _ (else_zero k.file_locked 14 _ (else_zero (not k.exists) 12 _ p).1).1).0

  renamed_dates : (full : Bool) → declines h full call ≡ 0 → In no_file x (moves h call).files → Dated call h x (touches call x.name)
  unfolding moves touches dates_given on_called called retitled_file
  renamed_dates full z i =
      let s = from_map no_file x (on_called name (retitled_file new changed)) h.files i in
      go s.0 s.1 (called name s.0) refl s.2
    where
      go : (y : File) → In no_file y h.files → (b : Bool) → called name y ≡ b → cond b (retitled_file new changed y) y ≡ x
          → Dated call h x (same_name name x.name || same_name new x.name)
      go y j true c e =
          let title : x.name ≡ new = sym (ap (λ (v : File). v.name) e) in
          let its : (same_name name x.name || same_name new x.name) ≡ true =
          rw (title, same_name_refl new) (or-true (same_name name new)) in (
            λ n. absurd (so_not _ n its),
            λ t. (
              title,
              sym (ap (λ (v : File). v.changed) e),
              (y, j, c, ap (λ (v : File). v.number) e, ap (λ (v : File). v.created) e),
            ),
          )
      go y j false c e =
          let k : In no_file x h.files = subst (λ (v : File). In no_file v h.files) e j in
          let out : called name x ≡ false = subst (λ (v : File). called name v ≡ false) e c in
          let u = in_keep no_file x (λ v. not (called name v)) (rw out) h.files k in
          let there = any_at (called new) no_file (keep (λ v. not (called name v)) h.files) (unshared full z) u.0 u.1 in
          let other : called new x ≡ false = subst (λ (v : File). called new v ≡ false) u.2 there in
          (λ n. k, λ t. absurd (so_not (same_name name x.name || same_name new x.name) (rw (out, other)) t))

-- ---- the calls

-- a call none of whose tests gives 17
never : (call : Call) → ((k : Known) → refuses call k ≡ 17 → ⊥) → (h : History) (full : Bool) → declines h full call ≡ 17 → ⊥
unfolding declines
never call n h full = n (known_to h full (name_of call) (fork_given call))

-- wrap gives 22 or 0 on an accepted image
wrap_aside : (name : List ℕ) (format : ℕ) (buffer : List ℕ) → Aside (wrap name format buffer)
unfolding compared changes touches moves RoomRule refusal checks refuses
wrap_aside name format buffer = record {
  uncompared = refl;
  unchanging = refl;
  untouching = λ n. refl;
  stays = λ h. refl;
  room = λ image h acc e.
      let t = bad_lengths (length image) (length buffer) (length name) in
      let n : or_else t 22 0 ≡ 17 =
      sym (first_alone (or_else t 22 (verdict image)) ∙ ap (or_else t 22) (accepted_verdict image acc)) ∙ e in
      other t 22 refl no_check n;
}

-- no number of quick find's own is 17
quick_never : (name : List ℕ) (k : Known) → refuses (quick_find name) k ≡ 17 → ⊥
unfolding refuses
quick_never name k = other (bad_name name) 12 refl (other (not k.quick) 13 refl no_check)

-- quick find gives 12, 13 or 0 on an accepted image
quick_aside : (name : List ℕ) → Aside (quick_find name)
unfolding compared changes touches moves RoomRule checks
quick_aside name = record {
  uncompared = refl;
  unchanging = refl;
  untouching = λ n. refl;
  stays = λ h. refl;
  room = λ image h acc e.
      let k = known_in image (name_of (quick_find name)) (fork_given (quick_find name)) in
      quick_never name k (by_own (quick_find name) image (refuses (quick_find name) k) (four_pass image acc.facts) refl ∙ e);
}

pub lawful : (call : Call) → Lawful call
unfolding checks change moves reply says compared changes touches called dates_given refuses carries with_full RoomRule told_by only told_only
    tells_facts tells_entry tells_block tells_bytes tells_quick
lawful check = reads check refl (inl (record { asked = refl; first = λ i. refl; bare = λ n i. refl })) (never check (λ k. no_check)) (λ c. check_says)
lawful (entry place) =
    reads (entry place) refl (inl (record { asked = refl; first = λ i. refl; bare = λ n i. refl }))
    (never (entry place) (λ k. other (leb k.files place) 13 refl no_check))
    (λ c. entry_says place)
lawful (find name) =
    reads (find name) refl (inl (record { asked = refl; first = λ i. refl; bare = λ n i. refl }))
    (never (find name) (λ k. other_found name k no_check))
    (λ c. find_says name)
lawful (block name fork place) =
    reads (block name fork place) refl (inl (record { asked = refl; first = λ i. refl; bare = λ n i. refl }))
    (never (block name fork place) (λ k. other_found name k (other (leb k.blocks place) 16 refl no_check)))
    (λ c image h acc a z. only_told 0 [])
lawful (read name fork offset buffer) =
    reads (read name fork offset buffer) refl (inl (record { asked = refl; first = λ i. refl; bare = λ n i. refl }))
    (never (read name fork offset buffer) (λ k. other_found name k (other (ltb k.logical offset) 16 refl no_check)))
    (λ c. read_says name fork offset buffer)
lawful (create name finder made changed) =
    alters (create name finder made changed) refl (record { asked = refl; first = λ i. refl; bare = λ n i. refl }) (create_fed name finder made changed)
    (never (create name finder made changed) (create_never name finder made changed))
    (create_done name finder made changed)
    (λ h x n i. in_append no_file x h.files _ i)
    (λ h full x. created_dates name finder made changed h x full)
lawful (write name fork offset bytes changed) =
    alters (write name fork offset bytes changed) refl (record { asked = refl; first = λ i. refl; bare = λ n i. refl }) (λ k. refl)
    (write_room name fork offset bytes changed)
    (write_done name fork offset bytes changed)
    (λ h x n i. in_map no_file x _ (not_called name _ x n) h.files i)
    (λ h full x z. changed_dates name fork _ changed h.files x)
lawful (cut name fork size changed) =
    alters (cut name fork size changed) refl (record { asked = refl; first = λ i. refl; bare = λ n i. refl }) (λ k. refl)
    (never (cut name fork size changed) (λ k. other_change name k (other (ltb k.logical size) 16 refl no_check)))
    (cut_done name fork size changed)
    (λ h x n i. in_map no_file x _ (not_called name _ x n) h.files i)
    (λ h full x z. changed_dates name fork _ changed h.files x)
lawful (delete name) =
    alters (delete name) refl (record { asked = refl; first = λ i. refl; bare = λ n i. refl }) (λ k. refl)
    (never (delete name) (λ k. other_change name k no_check))
    (delete_done name)
    (λ h x n i. in_keep no_file x (λ y. not (called name y)) (rw n) h.files i)
    (λ h full x z. deleted_dates name h x)
lawful (wrap name format buffer) =
    reads (wrap name format buffer) refl (inr (wrap_aside name format buffer))
    (never (wrap name format buffer) (λ k. no_check))
    (λ c. absurd (so_not false refl c))
lawful (rename name new changed) =
    alters (rename name new changed) refl (record { asked = refl; first = λ i. refl; bare = λ n i. refl }) (rename_fed name new changed)
    (never (rename name new changed) (rename_never name new changed))
    (rename_done name new changed)
    (λ h x n i. in_map no_file x _ (not_called name _ x (or-false (same_name name x.name) (same_name new x.name) n).0) h.files i)
    (λ h full x. renamed_dates name new changed h x full)
lawful (quick_find name) =
    reads (quick_find name) refl (inr (quick_aside name)) (never (quick_find name) (quick_never name)) (λ c. absurd (so_not false refl c))
