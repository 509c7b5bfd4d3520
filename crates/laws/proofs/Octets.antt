-- The image stays bytes.
use mathlib.Core.List.{List, [], ◌∷◌, ◌++◌}
use Prim.Native.Nat.{ℕ, zero, suc, ◌+◌, ◌≤◌, ◌<◌}
use native.Mathlib.Omega.{arith}
use lib.ListN.{length, take, drop, set, take-append-drop}
use lib.Seq.{sets, paste}
use Rattle.model.specs.Bytes.{be16, be32, bytes16, bytes32, zeros, part, Bytes}
use Rattle.model.specs.Map.{set_entry, behind, put_chain, put_free}
use Rattle.model.specs.Calls.{bytes_of, put_blocks, put_content}
use Rattle.model.specs.declared.LogicalBlock.{LogicalBlock}
use Rattle.laws.proofs.Content.{byte_of}
use Rattle.laws.proofs.Entries.{bytes_set, bytes_set_entry}
use Rattle.laws.proofs.Sound.{Each, each_append, each_left, each_right}
use Rattle.laws.proofs.Joins.{InMap, in_map_tail, behind_ok}

-- every element is a byte: over a list, as `Bytes` is over places
abbrev pub Octets : List ℕ → Type 0
Octets l = Each (λ x. x < 256) l

pub octets : (l : List ℕ) → Bytes l → Octets l
unfolding Each Bytes
octets [] h = tt
octets (x ∷ l) h = (h 0, octets l (λ i. h (suc i)))

pub bytes : (l : List ℕ) → Octets l → Bytes l
unfolding Each Bytes
bytes [] h i = omega arith
bytes (x ∷ l) h zero = h.0
bytes (x ∷ l) h (suc i) = bytes l h.1 i

pub octets_take : (k : ℕ) (l : List ℕ) → Octets l → Octets (take k l)
octets_take k l h = each_left (λ x. x < 256) (take k l) (drop k l) (rw (take-append-drop k l) h)

pub octets_drop : (k : ℕ) (l : List ℕ) → Octets l → Octets (drop k l)
octets_drop k l h = each_right (λ x. x < 256) (take k l) (drop k l) (rw (take-append-drop k l) h)

pub octets_cons : (x : ℕ) (l : List ℕ) → x < 256 → Octets l → Octets (x ∷ l)
unfolding Each
octets_cons x l h k = (h, k)

pub octets_append : (l m : List ℕ) → Octets l → Octets m → Octets (l ++ m)
octets_append l m h k = each_append (λ x. x < 256) l m h k

pub octets_zeros : (n : ℕ) → Octets (zeros n)
unfolding Each
octets_zeros zero = tt
octets_zeros (suc n) = (omega arith, octets_zeros n)

-- a number that fits is stored as bytes
pub octets_u16 : (v : ℕ) → v < 65536 → Octets (bytes16 v)
unfolding Each
octets_u16 v h = (omega arith, (omega arith, tt))

pub octets_u32 : (v : ℕ) → v < 4294967296 → Octets (bytes32 v)
unfolding Each
octets_u32 v h = (omega arith, (omega arith, (omega arith, (omega arith, tt))))

-- and bytes read as one
pub bytes_be32 : (l : List ℕ) (i : ℕ) → Bytes l → be32 l i < 4294967296
unfolding be32 be16 Bytes
bytes_be32 l i h = omega (arith, h i, h (i + 1), h (i + 2), h (i + 2 + 1))

pub octets_paste : (l : List ℕ) (q : ℕ) (c : List ℕ) (k : ℕ) → Octets l → Octets c → Octets (paste l q c k)
octets_paste l q c k h d =
    each_append (λ x. x < 256) (take q l ++ take k c) (drop (q + k) l)
    (each_append (λ x. x < 256) (take q l) (take k c) (octets_take q l h) (octets_take k c d)) (octets_drop (q + k) l h)

octets_blocks : (s : LogicalBlock) (a : ℕ) (l bs : List ℕ) → Octets l → Octets (bytes_of s a l bs)
unfolding bytes_of Each
octets_blocks s a l [] h = tt
octets_blocks s a l (b ∷ bs) h =
    each_append (λ x. x < 256) (part (byte_of s a b) a l) (bytes_of s a l bs) (octets_take a (drop (byte_of s a b) l) (octets_drop (byte_of s a b) l h))
    (octets_blocks s a l bs h)

octets_put : (s : LogicalBlock) (a : ℕ) (l bs c : List ℕ) → Octets l → Octets c → Octets (put_blocks s a l bs c)
unfolding put_blocks
octets_put s a l [] c h d = h
octets_put s a l (b ∷ bs) c h d = octets_put s a (paste l (byte_of s a b) c a) bs (drop a c) (octets_paste l (byte_of s a b) c a h d) (octets_drop a c d)

octets_put_chain : (n : ℕ) → n ≤ 640 → (l bs : List ℕ) → InMap n bs → Octets l → Octets (put_chain l bs)
unfolding put_chain
octets_put_chain n small l [] w h = h
octets_put_chain n small l (b ∷ bs) w h =
    octets_put_chain n small (set_entry l b (behind bs)) bs (in_map_tail n small b bs w)
    (octets (set_entry l b (behind bs)) (bytes_set_entry l b (behind bs) (bytes l h) (omega (arith, behind_ok n small bs (in_map_tail n small b bs w)))))

octets_put_free : (l bs : List ℕ) → Octets l → Octets (put_free l bs)
unfolding put_free
octets_put_free l [] h = h
octets_put_free l (b ∷ bs) h = octets_put_free (set_entry l b 0) bs (octets (set_entry l b 0) (bytes_set_entry l b 0 (bytes l h) (omega arith)))

pub bytes_put_chain : (n : ℕ) → n ≤ 640 → (l bs : List ℕ) → InMap n bs → Bytes l → Bytes (put_chain l bs)
bytes_put_chain n small l bs w h = bytes (put_chain l bs) (octets_put_chain n small l bs w (octets l h))

pub bytes_put_free : (l bs : List ℕ) → Bytes l → Bytes (put_free l bs)
bytes_put_free l bs h = bytes (put_free l bs) (octets_put_free l bs (octets l h))

pub bytes_put_content : (s : LogicalBlock) (a : ℕ) (l bs : List ℕ) (o : ℕ) (xs : List ℕ) → Bytes l → Bytes xs → Bytes (put_content s a l bs o xs)
unfolding put_content
bytes_put_content s a l bs o xs h d =
    let i = octets l h in
    let c = octets_paste (bytes_of s a l bs) o xs (length xs) (octets_blocks s a l bs i) (octets xs d) in
    bytes _ (octets_put s a l bs (paste (bytes_of s a l bs) o xs (length xs)) i c)

pub bytes_paste : (l : List ℕ) (q : ℕ) (c : List ℕ) (k : ℕ) → Bytes l → Bytes c → Bytes (paste l q c k)
bytes_paste l q c k h d = bytes (paste l q c k) (octets_paste l q c k (octets l h) (octets c d))

pub bytes_sets : (l : List ℕ) (i : ℕ) (vs : List ℕ) → Bytes l → Bytes vs → Bytes (sets l i vs)
unfolding Bytes
bytes_sets l i [] h d = h
bytes_sets l i (v ∷ vs) h d = bytes_sets (set l i v) (suc i) vs (bytes_set l i v h (d 0)) (λ j. d (suc j))

pub octets_sets : (l : List ℕ) (i : ℕ) (vs : List ℕ) → Octets l → Octets vs → Octets (sets l i vs)
octets_sets l i vs h d = octets (sets l i vs) (bytes_sets l i vs (bytes l h) (bytes vs d))
