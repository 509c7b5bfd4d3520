-- The returns of the calls that change nothing, on an accepted image.
use Rattle.std.proofs.Common.{Ok, Err}
use Prim.Native.Nat.{ℕ, ◌/◌, ◌^◌, ◌≤◌, ◌<◌}
use mathlib.Core.Path.{◌≡◌, refl, ◌∙◌}
use mathlib.Core.Bool.{Bool, true, false, not}
use mathlib.Core.List.{List}
use native.Mathlib.Omega.{arith}
use lib.ListN.{length}
use borrow.Author.Tests.{le-leb, lt-leb, le-ltb, lt-ltb}
use Rattle.model.specs.Lists.{any}
use Rattle.model.specs.Bytes.{Bytes}
use Rattle.model.specs.Facts.{A, S}
use Rattle.model.specs.Map.{map_entry}
use Rattle.model.specs.Directory.{directory, entry_in, fork_of, block_count, fork_blocks, named}
use Rattle.model.specs.Check.{or_else, verdict}
use Rattle.model.specs.Calls.{Call, Does, Fits, name_of, fork_given, bad_name, checks, refuses, carries, known_in}
use Rattle.model.specs.Calls.{fork_bytes, read_count, copied, change, only, lent, reply, tells_entry, tells_block, tells_bytes}
use Rattle.model.specs.Calls.Call.{entry, find, block, read}
use Rattle.model.proofs.Check.{accepted_verdict}
use Rattle.laws.proofs.Calls.{by_own, does_refuse, does_serve}
use Rattle.laws.proofs.Refusals.{own_is}
use Rattle.laws.proofs.Acceptance.{named_length, lengths}
use Rattle.blockmap.specs.Places.{IsPlace}
use Rattle.directory.specs.Cursor.{bytes_at}
use Rattle.directory.specs.Search.{Placed}
use Rattle.model.specs.Refusals.{number_of}
use Rattle.model.specs.declared.VolumeFacts.{VolumeFacts}
use Rattle.model.specs.declared.refusal.Refusal.{Refusal}
use Rattle.model.specs.declared.refusal.Refusal.TheVariants.{NotFound, BeyondEnd}
use Rattle.model.specs.declared.DirectoryEntry.{DirectoryEntry}
use Rattle.model.specs.declared.Fork.{Fork}
use Rattle.model.specs.declared.ForkFacts.{ForkFacts}
use Rattle.directory.specs.declared.EntryAt.{EntryAt}
use Rattle.files.specs.Told.{told_entry, told_find, told_block, told_read}
use Rattle.files.specs.Lookup.{Readable, NamedEntry, Missed}
use Rattle.files.proofs.Forks.{named_bytes, named_fork}

-- a test behind 12 and 13 changes nothing where one of them fires
pub fires_before : (t u : Bool) (rest : ℕ) → (or_else t 12 (or_else u 13 0) ≡ 0 → ⊥) → or_else t 12 (or_else u 13 0) ≡ or_else t 12 (or_else u 13 rest)
fires_before true u rest z = refl
fires_before false true rest z = refl
fires_before false false rest z = absurd (z refl)

module _ {f : VolumeFacts} {image : List ℕ} (r : Readable f image) (octets : Bytes image) where
  pub refuse : (call : Call) (n : ℕ) → Fits call → checks call image ≡ verdict image → n ≡ refuses call (known_in image (name_of call) (fork_given call))
      → (n ≡ 0 → ⊥) → carries call n image ≡ 0 → Does call image (only n (lent call)) image
  refuse call n fits c h z k = does_refuse call image n octets fits (by_own call image n (c ∙ accepted_verdict image r.accepted) h) z k

  pub serve : (call : Call) → Fits call → checks call image ≡ verdict image → refuses call (known_in image (name_of call) (fork_given call)) ≡ 0
      → Does call image (reply call image) (change call image)
  serve call fits c h = does_serve call image octets fits (own_is image r.accepted call c ∙ h)

  -- ---- entry

  module _ {place : ℕ} (fits : place < 2 ^ 64) where
    pub entry_refused : length (directory image) ≤ place → Does (entry place) image (told_entry (Err NotFound)) image
    unfolding Fits checks refuses carries known_in only lent
    entry_refused h = refuse (entry place) 13 fits refl (rw (le-leb (length (directory image)) place h)) (λ e. omega arith) refl

    pub entry_served : {at : ℕ} {e : EntryAt} {n : DirectoryEntry} → n ≡ entry_in (bytes_at image e) → Placed image (directory image) place at e
        → Does (entry place) image (told_entry (Ok n)) image
    unfolding Fits checks refuses known_in reply change tells_entry
    entry_served q h = rw (q, h.bytes) (serve (entry place) fits refl (rw (lt-leb (length (directory image)) place h.below)))

  -- ---- find

  module _ {name : List ℕ} (fits : Bytes name) where
    pub find_refused : (refusal : Refusal) → Missed image name (number_of refusal) → Does (find name) image (told_find (Err refusal)) image
    unfolding Fits checks refuses carries known_in name_of fork_given only lent
    find_refused refusal h = refuse (find name) (number_of refusal) fits refl h.fires h.some refl

    pub find_served : {place : ℕ} {e : EntryAt} {n : DirectoryEntry} → n ≡ entry_in (bytes_at image e) → NamedEntry image name place e
        → Does (find name) image (told_find (Ok (record { place = place; entry = n }))) image
    unfolding Fits checks refuses known_in name_of fork_given reply change tells_entry
    find_served q h = rw (q, named_bytes r h, h.there.there) (serve (find name) fits refl (rw (h.title, h.there.exists)))

  -- ---- block

  module _ {name : List ℕ} {fork : Fork} {place : ℕ} (letters : Bytes name) (fits : place < 2 ^ 64) where
    pub block_refused : (refusal : Refusal) → Missed image name (number_of refusal) → Does (block name fork place) image (told_block (Err refusal)) image
    unfolding Fits checks refuses carries known_in name_of fork_given only lent
    block_refused refusal h =
        refuse (block name fork place) (number_of refusal) (letters, fits) refl
        (h.fires ∙ fires_before (bad_name name) (not (any (named name) (directory image))) _ (λ e. h.some (h.fires ∙ e)))
        h.some refl

    module _ {at : ℕ} {e : EntryAt} (h : NamedEntry image name at e) {g : ForkFacts} (q : g ≡ fork_of fork (bytes_at image e)) where
      pub block_beyond : g.physical / A f ≤ place → Does (block name fork place) image (told_block (Err BeyondEnd)) image
      unfolding Fits checks refuses carries known_in name_of fork_given only lent block_count
      block_beyond l =
          let l' = rw (r.facts, named_fork r h fork q) at l in
          refuse (block name fork place) 16 (letters, fits) refl (rw (h.title, h.there.exists, le-leb _ place l')) (λ z. omega arith) refl

      pub block_served : {b : ℕ} → place < g.physical / A f → IsPlace (map_entry image) g.start.0 place b
          → Does (block name fork place) image (told_block (Ok (record { 0 = b }))) image
      unfolding Fits checks refuses known_in name_of fork_given reply change tells_block fork_blocks block_count
      block_served l p =
          let l' = rw (r.facts, named_fork r h fork q) at l in
          let s = rw (r.facts, named_fork r h fork q) at (p.stands (g.physical / A f) l) in
          rw s (serve (block name fork place) (letters, fits) refl (rw (h.title, h.there.exists, lt-leb _ place l')))

  -- ---- read

  module _ {name : List ℕ} {fork : Fork} {offset : ℕ} {buffer : List ℕ} (letters : Bytes name) (fits : offset < 2 ^ 64) (room : Bytes buffer) where
    pub read_refused : (refusal : Refusal) → Missed image name (number_of refusal)
        → Does (read name fork offset buffer) image (told_read (Err refusal) buffer) image
    unfolding Fits checks refuses carries known_in name_of fork_given only lent
    read_refused refusal h =
        refuse (read name fork offset buffer) (number_of refusal) (letters, fits, room) refl
        (h.fires ∙ fires_before (bad_name name) (not (any (named name) (directory image))) _ (λ e. h.some (h.fires ∙ e)))
        h.some refl

    module _ {at : ℕ} {e : EntryAt} (h : NamedEntry image name at e) {g : ForkFacts} (q : g ≡ fork_of fork (bytes_at image e)) where
      pub read_beyond : g.logical < offset → Does (read name fork offset buffer) image (told_read (Err BeyondEnd) buffer) image
      unfolding Fits checks refuses carries known_in name_of fork_given only lent
      read_beyond l =
          let l' = rw (named_fork r h fork q) at l in
          refuse (read name fork offset buffer) 16 (letters, fits, room) refl (rw (h.title, h.there.exists, lt-ltb _ offset l')) (λ z. omega arith) refl

      pub read_served : {count : ℕ} {after : List ℕ} → offset ≤ g.logical → count ≡ read_count (length buffer) g.logical offset
          → after ≡ copied (fork_bytes (S f) (A f) image g) offset buffer
          → Does (read name fork offset buffer) image (told_read (Ok count) after) image
      unfolding Fits checks refuses known_in name_of fork_given reply change tells_bytes
      read_served l p b =
          let l' = rw (named_fork r h fork q) at l in
          let p' = rw (named_fork r h fork q, ← named_length image (lengths image r.accepted) name fork) at p in
          let b' = rw (r.facts, named_fork r h fork q) at b in
          rw (p', b') (serve (read name fork offset buffer) (letters, fits, room) refl (rw (h.title, h.there.exists, le-ltb _ offset l')))
