-- Laws of a renamed file: the entry rewritten where it stands, or taken out and put in elsewhere, and the room for it.
use Prim.Native.Nat.{ℕ, ◌+◌, ◌-◌, ◌*◌, ◌%◌, ◌≤◌}
use mathlib.Core.Path.{◌≡◌, refl, sym, ap, subst, ◌∙◌}
use mathlib.Core.Bool.{true, false}
use mathlib.Core.List.{List, [], ◌∷◌, ◌++◌}
use native.Mathlib.Omega.{arith}
use lib.ListN.{length, drop, length-drop}
use lib.Seq.{paste, take-take, length-take-le}
use borrow.Author.Tests.{eq-eqb, ne_eqb}
use Rattle.model.specs.Lists.{every, any, distinct}
use Rattle.model.specs.Bytes.{part}
use Rattle.model.specs.Facts.{dir_start, dir_length}
use Rattle.model.specs.Directory.{padded, size_for, entries, read_end, directory_blocks, listing, directory, name_in, named}
use Rattle.model.specs.Check.{same_names}
use Rattle.model.specs.Calls.{bad_name, date_and_name, filled, has_room, removed, retitled, rewritten, placed, renamed_in, renamed, same_size, with_directory}
use Rattle.model.specs.declared.VolumeFacts.{VolumeFacts}
use Rattle.model.proofs.Lists.{and-true, middle, reordered_every}
use Rattle.laws.proofs.Refusals.{GoodName, good_name}
use Rattle.laws.proofs.Acceptance.{readable_of}
use Rattle.laws.proofs.Kept.{named_first}
use Rattle.laws.proofs.Block.{sound, split}
use Rattle.laws.proofs.Titles.{same_length, sound_long, retitled_length, retitled_sound}
use Rattle.laws.proofs.Blocks.{Whole, Cleans, clean_whole, Stays, removed_stays}
use Rattle.laws.proofs.Image.{blocks_count, with_blocks, with_length, with_twice}
use Rattle.std.specs.Prelude.{Option, Some, None}
use Rattle.laws.proofs.DirectorySteps.{ReadableDirectory, clean_now, names_now, named_now, based_self}
use Rattle.directory.specs.declared.Cursor.{Cursor}
use Rattle.directory.specs.declared.EntryAt.{EntryAt}
use Rattle.directory.specs.Cursor.{bytes_at, Begins, Lies}
use Rattle.directory.proofs.Parts.{name_of}
use Rattle.entries.specs.Blocks.{Block, Removes}
use Rattle.entries.specs.Rooms.{HasRoom, Roomy, RoomyWithout}
use Rattle.entries.specs.declared.Room.{Room}
use Rattle.entries.proofs.Blocks.{size_here}
use Rattle.entries.proofs.Located.{own_clean, own_block, lies_block, entry_within, entry_rewritten}
use Rattle.entries.proofs.Rooming.{no_room, some_room, room_within, room_block, room_placed}
use Rattle.entries.proofs.OnceOut.{room_removed}
use Rattle.files.specs.Lookup.{FileAt}
use Rattle.files.proofs.Elsewhere.{held_removed}
use Rattle.call_rename.specs.Renaming.{Retitles}

module _ {f : VolumeFacts} {image : List ℕ} {e : EntryAt} (h : FileAt f image e) where
  r : ReadableDirectory image
  r = readable_of image h.readable.accepted

  within : 512 * (dir_start f).0 + 512 * dir_length f ≤ length image
  within = rw h.readable.facts r.within

  clean : Cleans (directory_blocks f image)
  clean = rw h.readable.facts (clean_now image r)

  differ : distinct same_names (listing (directory_blocks f image)) ≡ true
  unfolding directory
  differ = rw h.readable.facts (names_now image r)

  has : named h.name (bytes_at image e) ≡ true
  has =
      let alone = named_now image r h.name h.found.there.exists in
      ap (named h.name) (h.found.there.bytes ∙ named_first h.name (directory image) alone) ∙ alone.passes

  lies : Lies image (512 * (dir_start f).0) (dir_length f) e
  lies = rw h.readable.facts h.found.lies

  block : Block image (512 * (dir_start f).0 + 512 * lies.index)
  block = own_block f image e lies h.name has differ clean within

  size : length (bytes_at image e) ≡ size_for e.name_length
  size = size_here image (512 * (dir_start f).0 + 512 * lies.index) e block h.found.there.stands (lies_block f image e lies)

  sounds : sound (bytes_at image e) ≡ true
  unfolding every
  sounds =
      let own = part (512 * (dir_start f).0 + 512 * lies.index) 512 image in
      let all : every sound (lies.before ++ (bytes_at image e ∷ lies.behind)) ≡ true
      = ap (every sound) (sym lies.split) ∙ (split own (own_clean f image e lies h.name has differ clean)).sounds in
      (and-true (sound (bytes_at image e)) (every sound (lies.before ++ lies.behind))
      (sym (reordered_every sound (middle (bytes_at image e) lies.before lies.behind)) ∙ all)).0

  long : 46 ≤ length (bytes_at image e)
  long = sound_long (bytes_at image e) sounds

  title_long : length h.name ≡ e.name_length
  unfolding named
  title_long =
      let s = h.found.there.stands in
      same_length h.name (name_in (bytes_at image e)) has ∙ ap length (name_of image e s)
      ∙ length-take-le e.name_length (drop (e.start + 51) image) (omega (arith, length-drop (e.start + 51) image, s.inside))

  -- for the code
  pub entry_inside : e.start + size_for e.name_length ≤ length image
  entry_inside =
      omega (arith, lies.place, lies.within, size, within, entry_within f image e lies h.name has differ clean)

  pub lies_from : {c : Cursor} → Begins (dir_start f) (dir_length f) c → Lies image c.base (c.left + 1) e
  lies_from {c} b = record {
    index = lies.index;
    before = lies.before;
    behind = lies.behind;
    within = omega (arith, lies.within, b.left);
    split = ap (λ (p : ℕ). entries (part (p + 512 * lies.index) 512 image)) b.base ∙ lies.split;
    place = omega (arith, lies.place, b.base);
  }

  -- ---- the image without the entry

  abbrev others : List (List ℕ)
  others = removed h.name (directory_blocks f image)

  abbrev pub out : List ℕ
  out = with_directory f image others

  others_stay : Stays (directory_blocks f image) others
  others_stay = removed_stays h.name (directory_blocks f image) clean

  others_whole : Whole others
  others_whole = clean_whole others others_stay.clean

  others_count : length others ≡ dir_length f
  others_count = others_stay.count ∙ blocks_count f image within

  out_blocks : directory_blocks f out ≡ others
  out_blocks = with_blocks f image within others others_whole others_count

  out_within : 512 * (dir_start f).0 + 512 * dir_length f ≤ length out
  out_within = omega (arith, within, with_length f image within others others_whole others_count)

  out_clean : Cleans (directory_blocks f out)
  out_clean = subst Cleans (sym out_blocks) others_stay.clean

  -- what the code leaves when it has taken the entry out
  pub taken_out : (x : List ℕ) → Removes image (e.start - e.start % 512) e x → x ≡ out
  taken_out x t = held_removed h image (based_self image) x t

  -- ---- another name

  module _ (new : List ℕ) (good : bad_name new ≡ false) (changed : ℕ) where
    abbrev it : List ℕ
    it = retitled new changed (bytes_at image e)

    title : GoodName new
    title = good_name new good

    -- the sizes compared
    same_size_lem : size_for (length new) ≡ size_for e.name_length → same_size h.name new ≡ true
    unfolding same_size
    same_size_lem q = eq-eqb (size_for (length h.name)) (size_for (length new)) (ap size_for title_long ∙ sym q)

    other_size : (size_for (length new) ≡ size_for e.name_length → ⊥) → same_size h.name new ≡ false
    unfolding same_size
    other_size q = ne_eqb (size_for (length h.name)) (size_for (length new)) (λ p. q (sym p ∙ ap size_for title_long))

    -- ---- where it stands

    renamed_here : same_size h.name new ≡ true
        → renamed f image h.name new changed (bytes_at image e) ≡ with_directory f image (rewritten h.name (retitled new changed) (directory_blocks f image))
    unfolding renamed renamed_in
    renamed_here q = rw (q, renamed_in) refl

    pub stays : size_for (length new) ≡ size_for e.name_length → (after : List ℕ) → after ≡ paste image e.start it (size_for (length new))
        → Retitles f image h.name (bytes_at image e) new changed 0 after
    stays q after p =
        let same = same_size_lem q in
        let put = entry_rewritten f image e lies h.name has differ clean within (retitled new changed) (size_for (length new)) (size ∙ sym q)
        (retitled_length new changed (bytes_at image e) long) in
        record { number = rw same; leaves = p ∙ sym put ∙ sym (renamed_here same) }

    -- ---- elsewhere

    module _ (q : size_for (length new) ≡ size_for e.name_length → ⊥) where
      renamed_there : renamed f image h.name new changed (bytes_at image e) ≡ with_directory f image (placed it others)
      unfolding renamed renamed_in
      renamed_there = rw (other_size q, renamed_in) refl

      module _ {c : Cursor} (b : Begins (dir_start f) (dir_length f) c) (room : ℕ) (asked : room ≡ size_for (length new)) where
        searched : (s : Option Room) → RoomyWithout image c.base c.left room e s → Roomy out (512 * (dir_start f).0) c.left (size_for (length new)) s
        searched s w =
            let from = subst (λ (k : ℕ). RoomyWithout image k c.left room e s) b.base w in
            subst (λ (k : ℕ). Roomy out (512 * (dir_start f).0) c.left k s) asked
            (room_removed f image e lies h.name has differ clean within c.left room s b.left from)

        pub stuck : RoomyWithout image c.base c.left room e None → Retitles f image h.name (bytes_at image e) new changed 18 image
        stuck w =
            let none = no_room f out c.left (size_for (length new)) b.left (searched None w) in
            let full : any (has_room (size_for (length new))) others ≡ false = ap (any (has_room (size_for (length new)))) (sym out_blocks) ∙ none in
            record { number = rw (other_size q, full); leaves = refl }

        module _ (found : Room) (w : RoomyWithout image c.base c.left room e (Some found)) where
          there : HasRoom out (512 * (dir_start f).0) c.left (size_for (length new)) found.base found.end
          there = searched (Some found) w

          -- for the code
          pub kept_block : (x : List ℕ) → x ≡ out → Block x found.base
          kept_block x t =
              subst (λ (l : List ℕ). Block l found.base) (sym t)
              (room_block f out c.left (size_for (length new)) found.base found.end b.left there out_within out_clean)

          pub kept_behind : (x : List ℕ) → x ≡ out → (found.end ≡ read_end (part found.base 512 x)) × (found.end + size_for (length new) ≤ 512) × (length new ≤ 255)
          kept_behind x t = (
            there.ends ∙ ap (λ (l : List ℕ). read_end (part found.base 512 l)) (sym t),
            room_within f out c.left (size_for (length new)) found.base found.end b.left there,
            title.short,
          )

          renewed : (head : List ℕ) → head ≡ part e.start 46 image → head ++ date_and_name changed new ≡ it
          unfolding retitled padded
          renewed head t =
              ap (λ (l : List ℕ). l ++ date_and_name changed new)
              (t ∙ sym (take-take 46 (size_for e.name_length) (drop e.start image) (omega arith)))

          put_in : paste out found.base (filled (entries (part found.base 512 out) ++ (it ∷ []))) 512 ≡ renamed f image h.name new changed (bytes_at image e)
          put_in =
              let big = retitled_length new changed (bytes_at image e) long in
              let room = subst (λ (k : ℕ). HasRoom out (512 * (dir_start f).0) c.left k found.base found.end) (sym big) there in
              let ok = retitled_sound new changed (bytes_at image e) sounds title.some in
              sym (room_placed f out out_within out_clean it ok c.left found.base found.end b.left room)
              ∙ ap (λ (bs : List (List ℕ)). with_directory f out (placed it bs)) out_blocks
              ∙ with_twice f image within others others_whole others_count (placed it others)
              ∙ sym renamed_there

          pub moves : (x head after : List ℕ) → x ≡ out → head ≡ part e.start 46 image
              → after ≡ paste x found.base (filled (entries (part found.base 512 x) ++ ((head ++ date_and_name changed new) ∷ []))) 512
              → Retitles f image h.name (bytes_at image e) new changed 0 after
          moves x head after t k p =
              let some : any (has_room (size_for (length new))) others ≡ true
              = ap (any (has_room (size_for (length new)))) (sym out_blocks)
              ∙ some_room f out c.left (size_for (length new)) found.base found.end b.left there in
              record {
                number = rw (other_size q, some);
                leaves = p ∙ (λ i. paste (t i) found.base (filled (entries (part found.base 512 (t i)) ++ (renewed head k i ∷ []))) 512) ∙ put_in;
              }
