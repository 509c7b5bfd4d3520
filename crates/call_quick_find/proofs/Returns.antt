-- The returns of quick find on an image that passes checks 1 to 4.
use Rattle.std.proofs.Common.{Ok}
use Prim.Native.Nat.{ℕ, ◌+◌, ◌*◌, ◌≤◌}
use mathlib.Core.Path.{◌≡◌, refl, sym, ◌∙◌}
use mathlib.Core.Bool.{true, false}
use mathlib.Core.List.{List, []}
use native.Mathlib.Omega.{arith}
use lib.ListN.{length, drop}
use Rattle.model.specs.Bytes.{Bytes}
use Rattle.model.specs.Facts.{facts_of, dir_start, dir_length}
use Rattle.model.specs.Lists.{any}
use Rattle.model.specs.Directory.{cut_blocks, directory_blocks, entry_in, named}
use Rattle.model.specs.Check.{first_four}
use Rattle.model.specs.Quick.{quick_listing, quick_directory, looked_at, blocks_looked}
use Rattle.model.specs.Calls.{Answer, counted}
use Rattle.model.specs.Calls.{Does, Fits, name_of, fork_given, bad_name, checks, refuses, carries, known_in, change, lent, reply, tells_quick}
use Rattle.model.specs.Calls.Call.{quick_find}
use Rattle.model.specs.declared.VolumeFacts.{VolumeFacts}
use Rattle.model.specs.declared.DirectoryEntry.{DirectoryEntry}
use Rattle.laws.proofs.Calls.{by_own, does_count, does_serve}
use Rattle.laws.proofs.Blocks.{cut_count}
use Rattle.laws.proofs.Quick.{looked_all, looked_most, four_pass}
use Rattle.directory.specs.Cursor.{CursorFits, Begins, bytes_at}
use Rattle.directory.specs.Search.{FirstNamed}
use Rattle.directory.specs.declared.Cursor.{Cursor}
use Rattle.directory.specs.declared.EntryAt.{EntryAt}
use Rattle.directory.proofs.Whole.{sound_fits}
use Rattle.files.specs.Told.{told_quick_find}
use Rattle.call_quick_find.specs.Opened.{Opened}

module _ {f : VolumeFacts} {image : List ℕ} (o : Opened f image) where
  -- the cursor at the directory's first entry
  module _ {c : Cursor} (b : Begins (dir_start f) (dir_length f) c) where
    pub blocks_are : cut_blocks (c.left + 1) (drop c.base image) ≡ directory_blocks (facts_of image) image
    unfolding directory_blocks
    blocks_are = rw (b.left, b.base, o.facts)

    pub fits : CursorFits image c
    fits = sound_fits image c (rw o.facts at b) (rw o.facts at o.sound)

  pub some_block : 1 ≤ dir_length f
  some_block = o.sound.layout.dir_some

  -- there are as many blocks as the facts say, and no more are looked at
  all_blocks : length (directory_blocks (facts_of image) image) ≡ dir_length f
  unfolding directory_blocks
  all_blocks = rw (← o.facts) (cut_count (dir_length f) (drop (512 * (dir_start f).0) image))

  pub few_looked : (name : List ℕ) → looked_at name (directory_blocks (facts_of image) image) ≤ 256
  few_looked name = omega (arith, all_blocks, looked_most name (directory_blocks (facts_of image) image), o.sound.layout)

  -- checks 1 to 4 pass
  passes : first_four image ≡ 0
  passes = four_pass image (rw o.facts at o.sound)

  module _ (octets : Bytes image) {name : List ℕ} (letters : Bytes name) where
    -- 12
    pub untitled : {a : Answer} → a ≡ counted 12 0 [] → bad_name name ≡ true → Does (quick_find name) image a image
    unfolding Fits checks refuses carries name_of fork_given lent
    untitled q h = rw q (does_count (quick_find name) image 12 0 octets letters (by_own (quick_find name) image 12 passes (rw h)) (λ z. omega arith) refl)

    module _ (t : bad_name name ≡ false) where
      -- 13
      pub missed : {a : Answer} → a ≡ counted 13 (dir_length f) [] → any (named name) (quick_listing (directory_blocks (facts_of image) image)) ≡ false
          → Does (quick_find name) image a image
      unfolding Fits checks refuses carries known_in name_of fork_given lent quick_directory blocks_looked
      missed q h =
          let bs = directory_blocks (facts_of image) image in
          rw q
          (does_count (quick_find name) image 13 (dir_length f) octets letters (by_own (quick_find name) image 13 passes (rw (t, h))) (λ z. omega arith)
          (looked_all name bs h ∙ all_blocks))

      -- the entry
      pub served : {place : ℕ} {e : EntryAt} {looked : ℕ} {n : DirectoryEntry}
          → FirstNamed image name (quick_listing (directory_blocks (facts_of image) image)) place e
          × (looked ≡ looked_at name (directory_blocks (facts_of image) image))
          → n ≡ entry_in (bytes_at image e)
          → Does (quick_find name) image (told_quick_find (Ok (record { place = place; entry = n; looked = looked }))) image
      unfolding Fits checks refuses known_in name_of fork_given reply change tells_quick quick_directory blocks_looked
      served h q =
          rw (q, h.0.bytes, h.0.there, h.1)
          (does_serve (quick_find name) image octets letters (sym (by_own (quick_find name) image 0 passes (rw (t, h.0.exists)))))
