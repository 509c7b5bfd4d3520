-- The returns of the calls that change the file of a name, write, cut and delete: the refusals that they begin with, their own
-- behind those, and the change.
use Prim.Native.Nat.{ℕ, ◌<◌}
use mathlib.Core.Path.{◌≡◌, refl, sym, ap, subst, ◌∙◌}
use mathlib.Core.Bool.{Bool, true, false, not}
use mathlib.Core.List.{List, []}
use native.Mathlib.Omega.{arith}
use lib.ListN.{length}
use lib.Dec.{ltb}
use borrow.Author.Tests.{lt-ltb, le-ltb}
use Rattle.model.specs.Lists.{any}
use Rattle.model.specs.Bytes.{byte, Bytes}
use Rattle.model.specs.Facts.{facts_of, A, free_count, is_locked}
use Rattle.model.specs.Directory.{directory, fork_of, flags_lock, block_count, named}
use Rattle.model.specs.Check.{or_else, verdict}
use Rattle.model.specs.Calls.{Call, Does, Fits, name_of, fork_given, bad_name, grown, needed, checks, refuses, carries, entry_named, known_in, change}
use Rattle.model.specs.Calls.{only, reply, lent}
use Rattle.model.specs.Calls.Call.{write, cut, delete}
use Rattle.directory.specs.Cursor.{bytes_at}
use Rattle.model.specs.declared.VolumeFacts.{VolumeFacts}
use Rattle.model.specs.declared.Fork.{Fork}
use Rattle.model.specs.declared.ForkFacts.{ForkFacts}
use Rattle.directory.specs.declared.EntryAt.{EntryAt}
use Rattle.files.specs.Lookup.{Readable, NamedEntry, Missed, ForkAt}
use Rattle.files.specs.Lookup.{barred, Barred, Changeable, beyond_end, ChangeableFork}
use Rattle.files.proofs.Forks.{named_bytes, named_fork}
use Rattle.files.proofs.Replies.{fires_before, refuse, serve}

-- the call checks 1 to 10 first, its own refusals begin so, and it tells nothing but its number
pub record Changing (call : Call) (image name : List ℕ) (beyond : Bool) (rest : ℕ) : Type 0 where
  pub first : checks call image ≡ verdict image
  pub own : refuses call (known_in image (name_of call) (fork_given call)) ≡ barred image name beyond rest
  pub lends : lent call ≡ []
  pub bare : (n : ℕ) → carries call n image ≡ 0
  pub tells : reply call image ≡ only 0 []

-- 17 or 0
abbrev pub behind_offset : List ℕ → List ℕ → Fork → ℕ → List ℕ → ℕ
behind_offset image name fork offset bytes =
    let f = facts_of image in
    let g = fork_of fork (entry_named name image) in
    or_else (ltb (free_count f) (needed (A f) (grown g.logical offset (length bytes)) (block_count (A f) g))) 17 0

module _ {image name : List ℕ} where
  pub write_changing : {fork : Fork} {offset : ℕ} {bytes : List ℕ} {changed : ℕ}
      → Changing (write name fork offset bytes changed) image name (beyond_end image name fork offset) (behind_offset image name fork offset bytes)
  unfolding checks refuses carries known_in name_of fork_given lent reply
  write_changing = record { first = refl; own = refl; lends = refl; bare = λ n. refl; tells = refl }

  pub cut_changing : {fork : Fork} {size changed : ℕ} → Changing (cut name fork size changed) image name (beyond_end image name fork size) 0
  unfolding checks refuses carries known_in name_of fork_given lent reply
  cut_changing = record { first = refl; own = refl; lends = refl; bare = λ n. refl; tells = refl }

  pub delete_changing : Changing (delete name) image name false 0
  unfolding checks refuses carries known_in name_of fork_given lent reply
  delete_changing = record { first = refl; own = refl; lends = refl; bare = λ n. refl; tells = refl }

-- ---- the file that may be changed

-- what is behind 11, 12, 13, 15 and 16 changes nothing where one of them fires
before_rest : (a b c d e : Bool) (rest : ℕ) → (or_else a 11 (or_else b 12 (or_else c 13 (or_else d 15 (or_else e 16 0)))) ≡ 0 → ⊥)
    → or_else a 11 (or_else b 12 (or_else c 13 (or_else d 15 (or_else e 16 0)))) ≡ or_else a 11 (or_else b 12 (or_else c 13 (or_else d 15 (or_else e 16 rest))))
before_rest true b c d e rest z = refl
before_rest false true c d e rest z = refl
before_rest false false true d e rest z = refl
before_rest false false false true e rest z = refl
before_rest false false false false true rest z = refl
before_rest false false false false false rest z = absurd (z refl)

barred_before : (image name : List ℕ) (beyond : Bool) (rest number : ℕ) → Barred image name beyond number → number ≡ barred image name beyond rest
barred_before image name beyond rest number h =
    h.fires ∙ before_rest (is_locked (facts_of image)) (bad_name name) (not (any (named name) (directory image)))
    (flags_lock (byte (entry_named name image) 0)) beyond rest (λ e. h.some (h.fires ∙ e))

module _ {f : VolumeFacts} {image : List ℕ} (r : Readable f image) (name : List ℕ) where
  locked_in : (b : Bool) → is_locked f ≡ b → is_locked (facts_of image) ≡ b
  locked_in b h = ap is_locked (sym r.facts) ∙ h

  pub barred_11 : is_locked f ≡ true → Barred image name false 11
  barred_11 h = record { fires = rw (locked_in true h); some = λ z. omega arith }

  module _ (unlocked : is_locked f ≡ false) where
    -- 12 or 13
    pub barred_name : (number : ℕ) → Missed image name number → Barred image name false number
    barred_name number h =
        let none = not (any (named name) (directory image)) in
        let rest = or_else (flags_lock (byte (entry_named name image) 0)) 15 0 in
        let later : number ≡ or_else (bad_name name) 12 (or_else none 13 rest) =
        h.fires ∙ fires_before (bad_name name) none rest (λ e. h.some (h.fires ∙ e)) in
        record { fires = rw (locked_in false unlocked) later; some = h.some }

    module _ (place : ℕ) (e : EntryAt) (h : NamedEntry image name place e) where
      pub barred_15 : flags_lock (byte (bytes_at image e) 0) ≡ true → Barred image name false 15
      barred_15 l =
          let l' = rw (named_bytes r h) at l in
          record { fires = rw (locked_in false unlocked, h.title, h.there.exists, l'); some = λ z. omega arith }

      pub unbarred : flags_lock (byte (bytes_at image e) 0) ≡ false → Changeable image name place e
      unbarred l = record { writable = locked_in false unlocked; found = h; unlocked = l }

-- past 11, 12, 13 and 15
past_15 : {f : VolumeFacts} {image name : List ℕ} {place : ℕ} {e : EntryAt} → Readable f image → Changeable image name place e
    → (beyond : Bool) (rest : ℕ) → barred image name beyond rest ≡ or_else beyond 16 rest
past_15 r h beyond rest =
    let l = rw (named_bytes r h.found) at h.unlocked in
    rw (h.writable, h.found.title, h.found.there.exists, l)

-- ---- the fork that may be changed

-- 11, 12, 13 or 15
pub barred_file : {image name : List ℕ} (fork : Fork) (offset : ℕ) {number : ℕ} → Barred image name false number
    → Barred image name (beyond_end image name fork offset) number
barred_file {image} {name} fork offset {number} h =
    record { fires = barred_before image name false (or_else (beyond_end image name fork offset) 16 0) number h; some = h.some }

pub barred_16 : {f : VolumeFacts} {image name : List ℕ} {place : ℕ} {e : EntryAt} → Readable f image → Changeable image name place e
    → (fork : Fork) (offset : ℕ) {g : ForkFacts} → g ≡ fork_of fork (bytes_at image e) → g.logical < offset
    → Barred image name (beyond_end image name fork offset) 16
barred_16 {f} {image} {name} r h fork offset q l =
    let l' = rw (named_fork r h.found fork q) at l in
    record { fires = sym (past_15 r h (beyond_end image name fork offset) 0 ∙ rw (lt-ltb _ offset l')); some = λ z. omega arith }

module _ {f : VolumeFacts} {image name : List ℕ} {fork : Fork} {offset : ℕ} {e : EntryAt} {g : ForkFacts}
    (r : Readable f image) (h : ChangeableFork image name fork offset e g) where
  abbrev pub changed_fork_at : ForkAt f image e fork g
  changed_fork_at = record { held = record { readable = r; name = name; place = h.place; found = h.file.found }; is = h.is }

  pub changed_fork_is : g ≡ fork_of fork (entry_named name image)
  changed_fork_is = named_fork r h.file.found fork h.is

  pub not_beyond : beyond_end image name fork offset ≡ false
  not_beyond =
      let l = rw changed_fork_is at h.within in
      le-ltb _ offset l

-- ---- the returns

module _ {f : VolumeFacts} {image : List ℕ} (r : Readable f image) (octets : Bytes image)
    {call : Call} {name : List ℕ} {beyond : Bool} {rest : ℕ} (c : Changing call image name beyond rest) (fits : Fits call) where
  -- refused by n
  stops : (n : ℕ) → n ≡ barred image name beyond rest → (n ≡ 0 → ⊥) → Does call image (only n []) image
  stops n h z = subst (λ (l : List ℕ). Does call image (only n l) image) c.lends (refuse r octets call n fits c.first (h ∙ sym c.own) z (c.bare n))

  -- 11, 12, 13, 15 or 16
  pub refused : {n : ℕ} → Barred image name beyond n → Does call image (only n []) image
  refused {n} h = stops n (barred_before image name beyond rest n h) h.some

  module _ {place : ℕ} {e : EntryAt} (h : Changeable image name place e) (within : beyond ≡ false) where
    past_16 : barred image name beyond rest ≡ rest
    past_16 = past_15 r h beyond rest ∙ rw within

    -- 17
    pub refused_own : {n : ℕ} → rest ≡ n → (n ≡ 0 → ⊥) → Does call image (only n []) image
    refused_own {n} q z = stops n (sym (past_16 ∙ q)) z

    pub done : rest ≡ 0 → {left : List ℕ} → left ≡ change call image → Does call image (only 0 []) left
    done q l =
        subst (λ (x : List ℕ). Does call image (only 0 []) x) (sym l)
        (subst (λ x. Does call image x (change call image)) c.tells (serve r octets call fits c.first (c.own ∙ past_16 ∙ q)))
