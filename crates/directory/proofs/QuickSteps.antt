-- Laws of the quick search: what a search of one block found, and where the search of all blocks has come to.
use Prim.Native.Nat.{ℕ, suc, ◌+◌, ◌-◌, ◌*◌, ◌≤◌, ◌<◌}
use mathlib.Core.Path.{◌≡◌, sym, ap, ◌∙◌}
use mathlib.Core.Bool.{Bool, true, false, cond}
use mathlib.Core.List.{List, [], ◌∷◌, append-nil}
use native.Mathlib.Omega.{arith}
use lib.ListN.{length, drop}
use lib.Seq.{drop-drop}
use Rattle.model.specs.Lists.{any, leading, first, place_of, flat}
use Rattle.model.specs.Bytes.{part}
use Rattle.model.specs.Directory.{read_at, entries, cut_blocks, listing, named}
use Rattle.model.specs.Check.{good_entry}
use Rattle.model.specs.Quick.{quick_entries, quick_listing, shows, looked_at}
use Rattle.laws.proofs.BytesKept.{read_few}
use Rattle.laws.proofs.Reorder.{first_found}
use Rattle.laws.proofs.Quick.{leading_none, looked_here, shown_any, shown_first, shown_place, looked_past, past_any, past_first, past_place}
use Rattle.directory.specs.declared.EntryAt.{EntryAt}
use Rattle.directory.specs.declared.BadEntry.{BadEntry}
use Rattle.directory.specs.declared.Cursor.{Cursor}
use Rattle.directory.specs.Cursor.{rest_of, Moves, Stepped}
use Rattle.std.specs.Prelude.{Option, Some, None, Result, Ok, Err}
use Rattle.std.specs.Result.{result_unwrap_or}
use Rattle.directory.specs.Search.{FirstNamed}

-- ---- one block

-- what a step found, where an entry that fails check 6 counts as none
pub moved : {image : List ℕ} {c : Cursor} (s : Result (Option (EntryAt × Cursor)) BadEntry) {e : EntryAt} {d : Cursor} → Stepped image c s
    → result_unwrap_or s None ≡ Some (e, d) → Moves image c e d
moved (Ok m) h p = rw p at h
moved (Err x) h p = absurd (cc)

pub ended : (image : List ℕ) (c : Cursor) (s : Result (Option (EntryAt × Cursor)) BadEntry) → Stepped image c s → result_unwrap_or s None ≡ None
    → leading good_entry (rest_of image c) ≡ []
unfolding leading
ended image c (Ok m) h p = ap (leading good_entry) (rw p at h)
ended image c (Err x) h p = leading_none good_entry h.rest h.bad

-- a cursor over one block reads that block's entries
pub one_block : (image : List ℕ) (p : ℕ) → leading good_entry (rest_of image (record { base = p; at = 0; left = 0 })) ≡ quick_entries (part p 512 image)
unfolding rest_of cut_blocks listing flat entries quick_entries
one_block image p = ap (leading good_entry) (append-nil (read_at 10 (part p 512 image) 0))

-- no more than ten
few_leading : {A : Type 0} (p : A → Bool) (xs : List A) → length (leading p xs) ≤ length xs
unfolding leading
few_leading p [] = omega arith
few_leading p (x ∷ xs) = go (p x) (few_leading p xs)
  where
    go : (t : Bool) → length (leading p xs) ≤ length xs → length (cond t (x ∷ leading p xs) []) ≤ suc (length xs)
    go true r = omega arith
    go false r = omega arith

pub few : (b : List ℕ) → length (quick_entries b) ≤ 10
unfolding quick_entries entries
few b = omega (arith, few_leading good_entry (read_at 10 b 0), read_few 10 b 0)

-- ---- all blocks

-- those from the block at place `index` on, of so many from byte base on
abbrev pub blocks_from : List ℕ → ℕ → ℕ → ℕ → List (List ℕ)
blocks_from image base blocks index = cut_blocks (blocks - index) (drop (base + index * 512) image)

pub from_next : (image : List ℕ) (base blocks index : ℕ) → index < blocks
    → blocks_from image base blocks index ≡ part (base + index * 512) 512 image ∷ blocks_from image base blocks (index + 1)
unfolding cut_blocks
from_next image base blocks index l =
    let k : blocks - index ≡ suc (blocks - (index + 1)) = omega arith in
    let p : base + index * 512 + 512 ≡ base + (index + 1) * 512 = omega arith in
    rw (k, drop-drop 512 (base + index * 512) image, p)

-- the search of the blocks bs has passed so many, with so many entries and none of the name; the blocks `rest` are left
pub record Past (name : List ℕ) (bs rest : List (List ℕ)) (looked place : ℕ) : Type 0 where
  pub exists : any (named name) (quick_listing bs) ≡ any (named name) (quick_listing rest)
  pub it : first (named name) [] (quick_listing bs) ≡ first (named name) [] (quick_listing rest)
  pub there : place_of (named name) (quick_listing bs) ≡ place + place_of (named name) (quick_listing rest)
  pub count : looked_at name bs ≡ looked + looked_at name rest

-- past the last
pub all_past : (image : List ℕ) (base blocks looked : ℕ) {name : List ℕ} {place : ℕ} {bs : List (List ℕ)}
    → Past name bs (blocks_from image base blocks looked) looked place → blocks ≤ looked → any (named name) (quick_listing bs) ≡ false
unfolding cut_blocks quick_listing flat any
all_past image base blocks looked w l =
    let none : blocks - looked ≡ 0 = omega arith in
    w.exists ∙ rw none

module _ {name : List ℕ} {bs : List (List ℕ)} {b : List ℕ} {rest : List (List ℕ)} {looked place : ℕ} (w : Past name bs (b ∷ rest) looked place) where
  -- one block more
  pub past_more : any (named name) (quick_entries b) ≡ false → Past name bs rest (looked + 1) (place + length (quick_entries b))
  unfolding shows
  past_more h = record {
    exists = w.exists ∙ past_any name b rest h;
    it = w.it ∙ past_first name b rest h;
    there = omega (arith, w.there, past_place name b rest h);
    count = omega (arith, w.count, looked_past name b rest h);
  }

  -- the block that has it
  module _ {image : List ℕ} {before : ℕ} {e : EntryAt} (h : FirstNamed image name (quick_entries b) before e) where
    pub found_few : before < 10
    found_few = omega (arith, h.there, (first_found (named name) [] (quick_entries b) h.exists).0, few b)

    pub found_there : FirstNamed image name (quick_listing bs) (place + before) e
    unfolding shows
    found_there =
        let s = h.exists in
        record {
          exists = w.exists ∙ shown_any name b rest s;
          there = omega (arith, w.there, shown_place name b rest s, h.there);
          bytes = h.bytes ∙ sym (w.it ∙ shown_first name b rest s);
          stands = h.stands;
        }

    pub found_looked : looked + 1 ≡ looked_at name bs
    unfolding shows
    found_looked = omega (arith, w.count, looked_here name b rest h.exists)
