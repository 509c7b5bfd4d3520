-- The returns of create: its refusals in their order, and the change.
use Rattle.std.proofs.Common.{Result, Ok, Err}
use Rattle.std.specs.Result.{is_ok}
use Prim.Native.Nat.{ℕ, ◌+◌, ◌*◌, ◌≤◌, ◌<◌}
use mathlib.Core.Path.{◌≡◌, refl, subst}
use mathlib.Core.Bool.{true, false}
use mathlib.Core.List.{List, []}
use native.Mathlib.Omega.{arith}
use lib.ListN.{length, drop}
use borrow.Author.Tests.{eq-eqb, ne_eqb}
use Rattle.model.specs.Lists.{any}
use Rattle.model.specs.Bytes.{Bytes}
use Rattle.model.specs.Facts.{facts_of, dir_start, dir_length, next_file_number, is_locked}
use Rattle.model.specs.Directory.{padded, cut_blocks, directory_blocks, directory, named}
use Rattle.model.specs.Calls.{only, Does, Fits, name_of, fork_given, bad_name, too_long, checks, refuses, carries, known_in, has_room, change, lent, reply}
use Rattle.model.specs.Calls.Call.{create}
use Rattle.laws.proofs.Refusals.{GoodName, good_name}
use Rattle.directory.specs.Cursor.{Begins}
use Rattle.entries.specs.Rooms.{HasRoom}
use Rattle.entries.proofs.Rooming.{no_room}
use Rattle.model.specs.declared.VolumeFacts.{VolumeFacts}
use Rattle.directory.specs.declared.Cursor.{Cursor}
use Rattle.call_create.specs.Adding.{Adds, with_file}
use Rattle.files.specs.Lookup.{Readable, Names}
use Rattle.directory.specs.declared.Found.{Found}
use Rattle.model.specs.declared.refusal.Refusal.{Refusal}
use Rattle.call_create.proofs.Added.{adds_some}
use Rattle.files.proofs.Lookups.{missed_none}
use Rattle.files.proofs.Replies.{refuse, serve}

-- ---- the search for room from the directory's first block on

module _ (f : VolumeFacts) (image : List ℕ) (c : Cursor) (b : Begins (dir_start f) (dir_length f) c) (title size : ℕ) (q : size ≡ padded (51 + title)) where
  pub adds : (base end : ℕ) → HasRoom image c.base c.left size base end → 1 ≤ title → title ≤ 255 → next_file_number f < 4294967295
      → Adds f image title base end
  adds base end h s m n = record {
    left = c.left;
    count = b.left;
    some = s;
    most = m;
    room =
        subst (λ (k : ℕ). HasRoom image (512 * (dir_start f).0) c.left k base end) q (subst (λ (k : ℕ). HasRoom image k c.left size base end) b.base h);
    next = n;
  }

  none_there : any (has_room size) (cut_blocks (c.left + 1) (drop c.base image)) ≡ false
      → any (has_room (padded (51 + title))) (directory_blocks f image) ≡ false
  none_there h =
      let from = subst (λ (k : ℕ). any (has_room size) (cut_blocks (c.left + 1) (drop k image)) ≡ false) b.base h in
      subst (λ (k : ℕ). any (has_room k) (directory_blocks f image) ≡ false) q (no_room f image c.left size b.left from)

-- ---- the returns

-- a name that a new file may have
pub record Short (name : List ℕ) : Type 0 where
  pub good : bad_name name ≡ false
  pub short : too_long name ≡ false

-- and that no file has
pub record Fresh (image name : List ℕ) : Type 0 where
  pub title : Short name
  pub none : any (named name) (directory image) ≡ false

pub fresh : {image name : List ℕ} → Short name → (r : Result Found Refusal) → Names image name r → is_ok r ≡ false → Fresh image name
fresh s (Ok named) m z = absurd (cc)
fresh s (Err refusal) m z = record { title = s; none = missed_none s.good m }

pub fresh_title : {image name : List ℕ} → Fresh image name → GoodName name
fresh_title {name = name} h = good_name name h.title.good

module _ {f : VolumeFacts} {image : List ℕ} (r : Readable f image) (octets : Bytes image)
    {name finder : List ℕ} {made changed : ℕ} (fits : Fits (create name finder made changed)) where
  pub create_locked : is_locked f ≡ true → Does (create name finder made changed) image (only 11 []) image
  unfolding checks refuses carries known_in name_of fork_given lent
  create_locked h = let h' = rw r.facts at h in refuse r octets (create name finder made changed) 11 fits refl (rw h') (λ z. omega arith) refl

  module _ (l : is_locked f ≡ false) where
    pub create_untitled : bad_name name ≡ true → Does (create name finder made changed) image (only 12 []) image
    unfolding checks refuses carries known_in name_of fork_given lent
    create_untitled t = let l' = rw r.facts at l in refuse r octets (create name finder made changed) 12 fits refl (rw (l', t)) (λ z. omega arith) refl

    pub create_long : bad_name name ≡ false → too_long name ≡ true → Does (create name finder made changed) image (only 21 []) image
    unfolding checks refuses carries known_in name_of fork_given lent
    create_long g t = let l' = rw r.facts at l in refuse r octets (create name finder made changed) 21 fits refl (rw (l', g, t)) (λ z. omega arith) refl

    pub create_exists : Short name → (n : Result Found Refusal) → Names image name n → is_ok n ≡ true
        → Does (create name finder made changed) image (only 14 []) image
    unfolding checks refuses carries known_in name_of fork_given lent
    create_exists s (Err refusal) h z = absurd (cc)
    create_exists s (Ok named) h z =
        let l' = rw r.facts at l in
        refuse r octets (create name finder made changed) 14 fits refl (rw (l', s.good, s.short, h.there.exists)) (λ z. omega arith) refl

    module _ (new : Fresh image name) where
      pub create_last : next_file_number f ≡ 4294967295 → Does (create name finder made changed) image (only 19 []) image
      unfolding checks refuses carries known_in name_of fork_given lent
      create_last n =
          let l' = rw r.facts at l in
          let n' = rw r.facts at n in
          refuse r octets (create name finder made changed) 19 fits refl
          (rw (l', new.title.good, new.title.short, new.none, eq-eqb (next_file_number (facts_of image)) 4294967295 n')) (λ z. omega arith) refl

      module _ (n : next_file_number f ≡ 4294967295 → ⊥) where
        pub create_full : {c : Cursor} → Begins (dir_start f) (dir_length f) c → {size : ℕ} → size ≡ padded (51 + length name)
            → any (has_room size) (cut_blocks (c.left + 1) (drop c.base image)) ≡ false → Does (create name finder made changed) image (only 18 []) image
        unfolding checks refuses carries known_in name_of fork_given lent
        create_full {c} b {size} q h =
            let l' = rw r.facts at l in
            let n' = rw r.facts at n in
            let h' = rw r.facts at (none_there f image c b (length name) size q h) in
            refuse r octets (create name finder made changed) 18 fits refl
            (rw (l', new.title.good, new.title.short, new.none, ne_eqb (next_file_number (facts_of image)) 4294967295 n', h')) (λ z. omega arith) refl

        pub create_served : {base end : ℕ} → Adds f image (length name) base end → {after : List ℕ} → after ≡ with_file f image name finder made changed
            → Does (create name finder made changed) image (only 0 []) after
        unfolding checks refuses known_in name_of fork_given reply change
        create_served {base} {end} a p =
            let l' = rw r.facts at l in
            let n' = rw r.facts at n in
            let h' = rw r.facts at (adds_some r (length name) base end a) in
            let p' = rw r.facts at p in
            rw p' (serve r octets (create name finder made changed) fits refl
            (rw (l', new.title.good, new.title.short, new.none, ne_eqb (next_file_number (facts_of image)) 4294967295 n', h')))
