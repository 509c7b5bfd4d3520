-- Images with the same map and the same blocks: stores in the counts and in the directory leave both.
use mathlib.Core.Path.{◌≡◌, refl, sym, ap, ◌∙◌}
use mathlib.Core.List.{List, [], ◌∷◌}
use mathlib.Core.Logic.{◌⊎◌, inl, inr}
use Prim.Native.Nat.{ℕ, suc, ◌+◌, ◌*◌, ◌≤◌, ◌<◌}
use native.Mathlib.Omega.{arith}
use lib.ListN.{length, take, drop, set}
use lib.Seq.{sets, paste, drop-set-lt, take-set-le}
use Rattle.model.specs.Bytes.{byte, part}
use Rattle.model.specs.Map.{entry_byte, map_entry}
use Rattle.model.specs.Calls.{bytes_of}
use Rattle.model.specs.declared.LogicalBlock.{LogicalBlock}
use Rattle.laws.proofs.Sound.{held, Each, Sound, changed}
use Rattle.laws.proofs.Entries.{map_entry_ext}
use Rattle.laws.proofs.Content.{same_byte_lem, same_part, part_clear, drop_behind, bytes_drop}

-- the same map and the same blocks
pub record Alike (s : LogicalBlock) (l m : List ℕ) : Type 0 where
  pub entries : part 1088 960 l ≡ part 1088 960 m
  pub blocks : drop (512 * s.0) l ≡ drop (512 * s.0) m

pub alike_refl : (s : LogicalBlock) (l : List ℕ) → Alike s l l
alike_refl s l = record { entries = refl; blocks = refl }

pub alike_sym : (s : LogicalBlock) (l m : List ℕ) → Alike s l m → Alike s m l
alike_sym s l m h = record { entries = sym h.entries; blocks = sym h.blocks }

pub alike_trans : (s : LogicalBlock) (l m o : List ℕ) → Alike s l m → Alike s m o → Alike s l o
alike_trans s l m o h k = record { entries = h.entries ∙ k.entries; blocks = h.blocks ∙ k.blocks }

-- ---- stores elsewhere

-- before the map, or from its end up to 512·S
abbrev pub Outside : LogicalBlock → ℕ → ℕ → Type 0
Outside s q k = (q + k ≤ 1088) ⊎ ((2048 ≤ q) × (q + k ≤ 512 * s.0))

pub alike_set : (s : LogicalBlock) (l : List ℕ) (i v : ℕ) → 2048 ≤ 512 * s.0 → Outside s i 1 → Alike s (set l i v) l
alike_set s l i v h (inl k) = record { entries = ap (take 960) (drop-set-lt 1088 l i v (omega arith)); blocks = drop-set-lt (512 * s.0) l i v (omega arith) }
alike_set s l i v h (inr k) =
    record {
      entries = same_part 2048 1088 960 (set l i v) l (omega arith) (take-set-le 2048 l i v k.0);
      blocks = drop-set-lt (512 * s.0) l i v (omega arith);
    }

outside_tail : (s : LogicalBlock) (q k : ℕ) → Outside s q (suc k) → Outside s (suc q) k
outside_tail s q k (inl h) = inl (omega arith)
outside_tail s q k (inr h) = inr (omega arith, omega arith)

outside_head : (s : LogicalBlock) (q k : ℕ) → Outside s q (suc k) → Outside s q 1
outside_head s q k (inl h) = inl (omega arith)
outside_head s q k (inr h) = inr (h.0, omega arith)

pub alike_sets : (s : LogicalBlock) (l : List ℕ) (i : ℕ) (vs : List ℕ) → 2048 ≤ 512 * s.0 → Outside s i (length vs) → Alike s (sets l i vs) l
alike_sets s l i [] h k = alike_refl s l
alike_sets s l i (v ∷ vs) h k =
    alike_trans s (sets (set l i v) (suc i) vs) (set l i v) l (alike_sets s (set l i v) (suc i) vs h (outside_tail s i (length vs) k))
    (alike_set s l i v h (outside_head s i (length vs) k))

-- directory blocks rewritten
pub alike_paste : (s : LogicalBlock) (l : List ℕ) (q : ℕ) (c : List ℕ) (k : ℕ) → q + k ≤ length l → k ≤ length c → 2048 ≤ 512 * s.0 → Outside s q k
    → Alike s (paste l q c k) l
alike_paste s l q c k f e h o = record { entries = part_clear l q c k f e 1088 960 (side o); blocks = drop_behind l q c k f e (512 * s.0) (low o) }
  where
    side : Outside s q k → (1088 + 960 ≤ q) ⊎ (q + k ≤ 1088)
    side (inl x) = inr x
    side (inr x) = inl x.0

    low : Outside s q k → q + k ≤ 512 * s.0
    low (inl x) = omega arith
    low (inr x) = x.1

-- ---- what they have in common

-- the map's entries lie in the 960 bytes from 1088 on
pub entries_frame : (l m : List ℕ) (b : ℕ) → b ≤ 641 → part 1088 960 l ≡ part 1088 960 m → map_entry l b ≡ map_entry m b
entries_frame l m b h e = map_entry_ext l m b (at (entry_byte b) (omega arith) (omega arith)) (at (entry_byte b + 1) (omega arith) (omega arith))
  where
    at : (j : ℕ) → 1088 ≤ j → j < 2048 → byte l j ≡ byte m j
    at j low high = same_byte_lem 1088 960 j l m e low high

-- entries that agree keep a map sound
pub sound_frame : (e e' : ℕ → ℕ) (n : ℕ) (bss : List (List ℕ)) → Sound e n bss → ((b : ℕ) → 2 ≤ b → b ≤ n + 1 → e' b ≡ e b) → Sound e' n bss
unfolding Each held
sound_frame e e' n bss s h = changed e e' n [] [] [] bss s record {
  links = tt;
  single = λ b. omega arith;
  fresh = λ b z q. absurd (omega arith);
  freed = λ b low high q z. absurd (omega arith);
  others = λ b low high z q. h b low high;
}

pub alike_sound : (s : LogicalBlock) (n : ℕ) (l m : List ℕ) (bss : List (List ℕ)) → n ≤ 640 → Alike s l m → Sound (map_entry m) n bss → Sound (map_entry l) n bss
alike_sound s n l m bss small h k = sound_frame (map_entry m) (map_entry l) n bss k λ b low high. entries_frame l m b (omega arith) h.entries

pub alike_bytes : (s : LogicalBlock) (a : ℕ) (l m bs : List ℕ) → Alike s l m → bytes_of s a l bs ≡ bytes_of s a m bs
alike_bytes s a l m bs h = bytes_drop s a (512 * s.0) l m bs (omega arith) h.blocks
