-- Each change leaves all directory blocks but one as they were, and that one's bytes at their places: b is a clean block whose
-- entries are p, e and q, so that e is at place `length (flat p)`.
use Prim.Native.Nat.{ℕ, suc, ◌+◌, ◌-◌, ◌≤◌}
use mathlib.Core.Path.{◌≡◌, refl, sym, ap, ◌∙◌}
use mathlib.Core.Bool.{Bool, true, false, ◌||◌}
use mathlib.Core.List.{List, [], ◌∷◌, ◌++◌, map, append_assoc, append-nil, map-append}
use native.Mathlib.Omega.{arith}
use native.Mathlib.Nat.{zero-add, suc-add, add-suc}
use lib.ListN.{length, take, drop, set, length-append, length-set}
use lib.Seq.{sets, length-sets, set-append_left, take-append_seam, drop-append_seam, drop-append-add}
use Rattle.model.specs.Lists.{any, distinct, flat}
use Rattle.model.specs.Bytes.{zeros, part}
use Rattle.model.specs.Directory.{entries, read_end, listing, named}
use Rattle.model.specs.Check.{same_names}
use Rattle.model.specs.Calls.{filled, has_room, placed, removed_in, removed, on_named, rewritten_in, rewritten}
use Rattle.model.proofs.Lists.{or-false, any_append, flat_append}
use Rattle.laws.proofs.Reorder.{any_split, map_none, none_behind_lem}
use Rattle.laws.proofs.Block.{sound, Clean, rest, split, used_within, added_reads, removed_reads, Sized, rewritten_reads}
use Rattle.laws.proofs.Blocks.{Cleans, clean_parts, listing_append}
use Rattle.laws.proofs.Kept.{both_named, on_other}

-- ---- one block differs

-- cs is bs with one block changed
pub record OneBlock (bs cs : List (List ℕ)) : Type 0 where
  pub before : List (List ℕ)
  pub was : List ℕ
  pub now : List ℕ
  pub behind : List (List ℕ)
  pub old : bs ≡ before ++ (was ∷ behind)
  pub new : cs ≡ before ++ (now ∷ behind)
  pub long : length now ≡ 512

any_listing : (p : List ℕ → Bool) (bs : List (List ℕ)) → any p (listing bs) ≡ any (λ b. any p (entries b)) bs
unfolding listing flat any
any_listing p [] = refl
any_listing p (b ∷ bs) = any_append p (entries b) (listing bs) ∙ ap (λ (r : Bool). any p (entries b) || r) (any_listing p bs)

-- create
pub placed_at : (e : List ℕ) (x : List (List ℕ)) (b : List ℕ) (y : List (List ℕ)) → any (has_room (length e)) x ≡ false → has_room (length e) b ≡ true
    → placed e (x ++ (b ∷ y)) ≡ x ++ (filled (entries b ++ (e ∷ [])) ∷ y)
unfolding any placed
placed_at e [] b y u v = rw (v, placed) refl
placed_at e (c ∷ x) b y u v =
    let s = or-false (has_room (length e) c) (any (has_room (length e)) x) u in
    rw (s.0, placed) (ap (λ (r : List (List ℕ)). c ∷ r) (placed_at e x b y s.1 v))

pub placed_one : (e : List ℕ) (bs : List (List ℕ)) → sound e ≡ true → Cleans bs → any (has_room (length e)) bs ≡ true → OneBlock bs (placed e bs)
unfolding Cleans
placed_one e bs s c h =
    let a = any_split (has_room (length e)) bs h in
    let d : Cleans (a.0 ++ (a.1 ∷ a.2)) = rw a.3 at c in
    record {
      before = a.0;
      was = a.1;
      now = filled (entries a.1 ++ (e ∷ []));
      behind = a.2;
      old = a.3;
      new = ap (placed e) a.3 ∙ placed_at e a.0 a.1 a.2 a.4 a.5;
      long = (added_reads e a.1 (clean_parts a.0 (a.1 ∷ a.2) d).1.0 s a.5).clean.long;
    }

-- delete: a block that has not the name stays
removed_still : (name b : List ℕ) → any (named name) (entries b) ≡ false → removed_in name b ≡ b
unfolding removed_in
removed_still name b h = rw (h, removed_in) refl

-- write and cut: and so here
pub map_unnamed : (name : List ℕ) (g : List ℕ → List ℕ) (es : List (List ℕ)) → any (named name) es ≡ false → map (on_named name g) es ≡ es
map_unnamed name g es h = map_none (named name) (on_named name g) (on_other name g) es h

rewritten_still : (name : List ℕ) (g : List ℕ → List ℕ) (b : List ℕ) → Clean b → any (named name) (entries b) ≡ false → rewritten_in name g b ≡ b
unfolding rewritten_in
rewritten_still name g b c h = ap (λ (es : List (List ℕ)). flat es ++ rest b) (map_unnamed name g (entries b) h) ∙ sym (split b c).whole

rewritten_stills : (name : List ℕ) (g : List ℕ → List ℕ) (x : List (List ℕ)) → Cleans x → any (λ b. any (named name) (entries b)) x ≡ false
    → map (rewritten_in name g) x ≡ x
unfolding Cleans any
rewritten_stills name g [] c h = refl
rewritten_stills name g (b ∷ x) c h =
    let s = or-false (any (named name) (entries b)) (any (λ b. any (named name) (entries b)) x) h in
    rw (rewritten_still name g b c.0 s.0, rewritten_stills name g x c.1 s.1)

-- the block with the name
record NamedBlock (name : List ℕ) (bs : List (List ℕ)) : Type 0 where
  pub before : List (List ℕ)
  pub it : List ℕ
  pub behind : List (List ℕ)
  pub whole : bs ≡ before ++ (it ∷ behind)
  pub none_before : any (λ b. any (named name) (entries b)) before ≡ false
  pub none_behind : any (λ b. any (named name) (entries b)) behind ≡ false

found : (name : List ℕ) (bs : List (List ℕ)) → distinct same_names (listing bs) ≡ true → any (named name) (listing bs) ≡ true → NamedBlock name bs
unfolding listing flat
found name bs d h =
    let a = any_split (λ b. any (named name) (entries b)) bs (sym (any_listing (named name) bs) ∙ h) in
    let x = a.0 in
    let b = a.1 in
    let y = a.2 in
    let n : listing bs ≡ (listing x ++ entries b) ++ listing y =
    ap listing a.3 ∙ listing_append x (b ∷ y) ∙ sym (append_assoc (listing x) (entries b) (listing y)) in
    let s : any (named name) (listing x ++ entries b) ≡ true = any_append (named name) (listing x) (entries b) ∙ rw (any_listing (named name) x ∙ a.4, a.5) in
    record {
      before = x;
      it = b;
      behind = y;
      whole = a.3;
      none_before = a.4;
      none_behind = sym (any_listing (named name) y) ∙ none_behind_lem same_names (named name) (both_named name) (listing x ++ entries b) (listing y) (rw n at d) s;
    }

module _ (name : List ℕ) (bs : List (List ℕ)) (c : Cleans bs) (d : distinct same_names (listing bs) ≡ true) (h : any (named name) (listing bs) ≡ true) where
  pub removed_one : OneBlock bs (removed name bs)
  unfolding Cleans removed
  removed_one =
      let f = found name bs d h in
      let k : Cleans (f.before ++ (f.it ∷ f.behind)) = rw f.whole at c in
      let still : (x : List (List ℕ)) → any (λ b. any (named name) (entries b)) x ≡ false → map (removed_in name) x ≡ x
      = map_none (λ b. any (named name) (entries b)) (removed_in name) (removed_still name) in
      record {
        before = f.before;
        was = f.it;
        now = removed_in name f.it;
        behind = f.behind;
        old = f.whole;
        new = ap (map (removed_in name)) f.whole
            ∙ rw (map-append (removed_in name) f.before (f.it ∷ f.behind), still f.before f.none_before, still f.behind f.none_behind);
        long = (removed_reads name f.it (clean_parts f.before (f.it ∷ f.behind) k).1.0).clean.long;
      }

  pub rewritten_one : (g : List ℕ → List ℕ) → Sized name g → OneBlock bs (rewritten name g bs)
  unfolding Cleans rewritten
  rewritten_one g k =
      let f = found name bs d h in
      let l : Cleans (f.before ++ (f.it ∷ f.behind)) = rw f.whole at c in
      let p = clean_parts f.before (f.it ∷ f.behind) l in
      record {
        before = f.before;
        was = f.it;
        now = rewritten_in name g f.it;
        behind = f.behind;
        old = f.whole;
        new = ap (map (rewritten_in name g)) f.whole
            ∙ rw (
              map-append (rewritten_in name g) f.before (f.it ∷ f.behind),
              rewritten_stills name g f.before p.0 f.none_before,
              rewritten_stills name g f.behind p.1.1 f.none_behind,
            );
        long = (rewritten_reads name g f.it k p.1.0).clean.long;
      }

-- ---- that block's bytes

-- create
pub added_bytes : (e b : List ℕ) → Clean b → filled (entries b ++ (e ∷ [])) ≡ take (read_end b) b ++ (e ++ zeros (512 - (read_end b + length e)))
unfolding filled flat read_end
added_bytes e b c =
    let front : take (read_end b) b ≡ flat (entries b) = ap (take (read_end b)) (split b c).whole ∙ take-append_seam (flat (entries b)) (rest b) in
    rw (front, flat_append (entries b) (e ∷ []), append-nil e, length-append (flat (entries b)) e, append_assoc)

set_right : (x r : List ℕ) (j v : ℕ) → set (x ++ r) (length x + j) v ≡ x ++ set r j v
set_right [] r j v = rw zero-add
set_right (y ∷ x) r j v = rw (suc-add, set_right x r j v)

-- stores in a part are stores in the whole
pub sets_inside : (vs x e y : List ℕ) (j : ℕ) → j + length vs ≤ length e → sets (x ++ (e ++ y)) (length x + j) vs ≡ x ++ (sets e j vs ++ y)
sets_inside [] x e y j h = refl
sets_inside (v ∷ vs) x e y j h =
    rw (set_right x (e ++ y) j v, set-append_left e y j v (omega arith), ← add-suc)
    (sets_inside vs x (set e j v) y (suc j) (rw length-set (omega arith)))

module _ (b : List ℕ) (c : Clean b) (p : List (List ℕ)) (e : List ℕ) (q : List (List ℕ)) (h : entries b ≡ p ++ (e ∷ q)) where
  pub whole_bytes : b ≡ flat p ++ (e ++ (flat q ++ rest b))
  unfolding flat
  whole_bytes = (split b c).whole ∙ rw (h, flat_append, append_assoc, append_assoc)

  pub fills : read_end b ≡ length (flat p) + (length e + length (flat q))
  unfolding flat read_end
  fills = rw (h, flat_append, length-append, length-append)

  before_bytes : take (length (flat p)) b ≡ flat p
  before_bytes = ap (take (length (flat p))) whole_bytes ∙ take-append_seam (flat p) _

  behind_bytes : drop (length (flat p) + length e) b ≡ flat q ++ rest b
  behind_bytes = ap (drop (length (flat p) + length e)) whole_bytes ∙ drop-append-add (flat p) _ (length e) ∙ drop-append_seam e _

  -- the entry at its place
  pub entry_bytes_lem : part (length (flat p)) (length e) b ≡ e
  entry_bytes_lem =
      ap (λ (r : List ℕ). part (length (flat p)) (length e) r) whole_bytes
      ∙ rw (drop-append_seam (flat p) (e ++ (flat q ++ rest b))) (take-append_seam e _)

  -- delete: the later entries move up
  pub removed_bytes : filled (p ++ q) ≡ take (length (flat p)) b ++
      (part (length (flat p) + length e) (read_end b - (length (flat p) + length e)) b ++ zeros (512 - read_end b + length e))
  unfolding filled
  removed_bytes =
      let n : read_end b - (length (flat p) + length e) ≡ length (flat q) = omega (arith, fills) in
      let z : 512 - (length (flat p) + length (flat q)) ≡ 512 - read_end b + length e = omega (arith, fills, used_within b c) in
      rw (before_bytes, behind_bytes, n, take-append_seam (flat q) (rest b), flat_append p q, length-append (flat p) (flat q), z, append_assoc)

  -- write and cut: the entry changes where it is
  pub rewritten_bytes : (name : List ℕ) (g : List ℕ → List ℕ) → map (on_named name g) p ≡ p → map (on_named name g) q ≡ q
      → rewritten_in name g b ≡ take (length (flat p)) b ++ (on_named name g e ++ drop (length (flat p) + length e) b)
  unfolding rewritten_in flat
  rewritten_bytes name g u v =
      ap (λ (es : List (List ℕ)). flat (map (on_named name g) es) ++ rest b) h
      ∙ rw (
        map-append (on_named name g) p (e ∷ q),
        u,
        v,
        flat_append p (on_named name g e ∷ q),
        append_assoc (flat p),
        append_assoc (on_named name g e),
        before_bytes,
        behind_bytes,
      )

  -- two stores in the entry are stores in the block
  pub rewritten_stores : (name : List ℕ) (g : List ℕ → List ℕ) → map (on_named name g) p ≡ p → map (on_named name g) q ≡ q
      → (i j : ℕ) (vs ws : List ℕ) → i + length vs ≤ length e → j + length ws ≤ length e → on_named name g e ≡ sets (sets e i vs) j ws
      → rewritten_in name g b ≡ sets (sets b (length (flat p) + i) vs) (length (flat p) + j) ws
  rewritten_stores name g u v i j vs ws l k r =
      rewritten_bytes name g u v ∙ rw (before_bytes, behind_bytes, r)
      (sym (sets_inside ws (flat p) (sets e i vs) (flat q ++ rest b) j (omega (arith, length-sets e i vs)))
      ∙ ap (λ (t : List ℕ). sets t (length (flat p) + j) ws)
      (sym (sets_inside vs (flat p) e (flat q ++ rest b) i l) ∙ ap (λ (t : List ℕ). sets t (length (flat p) + i) vs) (sym whole_bytes)))
