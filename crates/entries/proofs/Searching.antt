-- Laws of the search for room by the places where the readings of the blocks end.
use Rattle.std.proofs.Common.{ℕ, zero, suc, ◌+◌, ◌-◌, ◌*◌, ◌<◌, ◌≤◌, ◌≡◌, false, List, drop, Option, Some, None, MatchOption, refl, sym, ap, subst, ◌∙◌, below_more, add-one, arith}
use Rattle.model.specs.Lists.{any}
use Rattle.model.specs.Bytes.{part}
use Rattle.model.specs.Directory.{read_end, cut_blocks}
use Rattle.model.specs.Calls.{has_room}
use Rattle.entries.specs.declared.Room.{Room}
use Rattle.entries.specs.Rooms.{HasRoom, Full, Fitting, Searched, Roomy}
use Rattle.entries.proofs.Rooming.{room_is, room_not, none_more}

-- one block more without room
pub full_more : (Ends : ℕ → ℕ → Type 0) (first size i end : ℕ) → Full Ends first size i → Ends (first + 512 * i) end → 512 - size < end
    → Full Ends first size (i + 1)
full_more Ends first size i end full here h = below_more _ _ full (end, here, omega arith)

-- what is found, where the places are those of the image
module _ (Ends : ℕ → ℕ → Type 0) (image : List ℕ) (first left size : ℕ)
    (same : (i end : ℕ) → i ≤ left → Ends (first + 512 * i) end → end ≡ read_end (part (first + 512 * i) 512 image)) where
  none_below : (n : ℕ) → n ≤ left + 1 → Full Ends first size n → any (has_room size) (cut_blocks n (drop first image)) ≡ false
  unfolding any cut_blocks
  none_below zero h f = refl
  none_below (suc n) h f =
      let before = none_below n (omega arith) (λ i k. f i (omega arith)) in
      let last = f n (omega arith) in
      let ends = same n last.0 (omega arith) last.1 in
      subst (λ (k : ℕ). any (has_room size) (cut_blocks k (drop first image)) ≡ false) (add-one n)
      (none_more size image first n before (room_not size _ (omega (arith, last.2, ends))))

  room_found : (r : Room) → Fitting Ends first left size r → HasRoom image first left size r.base r.end
  room_found r f =
      let ends : r.end ≡ read_end (part r.base 512 image)
      = same f.index r.end f.within (subst (λ (b : ℕ). Ends b r.end) f.block f.ends) ∙ ap (λ (b : ℕ). read_end (part b 512 image)) (sym f.block) in
      record {
        index = f.index;
        within = f.within;
        block = f.block;
        ends = ends;
        none = none_below f.index (omega (arith, f.within)) f.none;
        room = room_is size _ (omega (arith, f.room, ends));
      }

  by_case : (found : Option Room) → MatchOption found (Full Ends first size (left + 1)) (Fitting Ends first left size) → Roomy image first left size found
  by_case None f = none_below (left + 1) (omega arith) f
  by_case (Some r) f = room_found r f

pub room_searched : {Ends : ℕ → ℕ → Type 0} {first left size : ℕ} {found : Option Room} → Searched Ends first left size found → (image : List ℕ)
    → ((i end : ℕ) → i ≤ left → Ends (first + 512 * i) end → end ≡ read_end (part (first + 512 * i) 512 image)) → Roomy image first left size found
room_searched {Ends} {first} {left} {size} {found} s image same = by_case Ends image first left size same found s.is
