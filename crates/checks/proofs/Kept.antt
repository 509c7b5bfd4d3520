-- Laws of the table: what stands in it while the entries are put there, one after the other.
use Rattle.checks.specs.Table.{ComparesBoth}
use Rattle.std.proofs.Common.{Result, Ok, Err}
use Rattle.checks.specs.declared.Field.TheVariants.{Number, Name}
use Prim.Native.Nat.{ℕ, ◌+◌, ◌-◌, ◌≤◌, ◌<◌}
use mathlib.Core.Path.{◌≡◌, refl, sym, ap, ◌∙◌, subst⁻¹}
use mathlib.Core.Bool.{Bool, true, false}
use mathlib.Core.List.{List, [], ◌∷◌, ◌++◌, append_assoc}
use native.Mathlib.Omega.{arith}
use native.Mathlib.Decide.{ℕ_discrete, dec_lt}
use lib.ListN.{length, get_or, set, replicate, length-set, length-replicate, get_or-replicate, get_or-eq_default}
use lib.Seq.{get_or-set_same, get_or-set_other}
use Rattle.model.specs.Lists.{any, distinct}
use Rattle.model.proofs.Lists.{so_not, not_so}
use Rattle.model.specs.Bytes.{byte}
use Rattle.directory.specs.declared.EntryAt.{EntryAt}
use Rattle.directory.specs.Cursor.{bytes_at, Stands}
use Rattle.checks.specs.declared.Field.{Field}
use Rattle.checks.specs.declared.table.NoSlot.{NoSlot}
use Rattle.checks.specs.declared.table.NoSlot.TheVariants.{Repeated, Full}
use Rattle.checks.specs.Same.{same_by}
use Rattle.checks.specs.Table.{home_by, entry_from, Occupied, occupant, AllFree, Filled, Passed, FreeAt, Met, Probed, Compares}
use Rattle.checks.proofs.Distinct.{Each, none, each_map, each_snoc, each_fails, any_last, any_before, distinct_not, distinct_more}
use Rattle.checks.proofs.Homes.{same_home}

-- a list of zeros is zero at every slot, also behind its end
pub zeros_at : (n i : ℕ) → ◌≡◌ {A = ℕ} (get_or (replicate n 0) i 0) 0
zeros_at n i = go (dec_lt i n)
  where
    go : Dec (i < n) → ◌≡◌ {A = ℕ} (get_or (replicate n 0) i 0) 0
    go (yes l) = get_or-replicate n i 0 0 l
    go (no l) = let long = length-replicate {A = ℕ} n 0 in get_or-eq_default (replicate n 0) 0 (omega arith)

-- ---- the way to a free slot

module _ (field : Field) (image table e : List ℕ) where
  -- the search begins at e's home slot
  pub passed_none : (i : ℕ) → i ≡ home_by field e → Passed field image table e i
  passed_none i h = record { behind = omega arith; held = λ j p q. absurd (omega arith); differ = λ j p q. absurd (omega arith) }

  -- and goes on behind an entry that differs from e
  pub passed_more : (i : ℕ) → Passed field image table e i → Occupied table i → same_by field (occupant image table i) e ≡ false
      → Passed field image table e (i + 1)
  passed_more i w h d = record { behind = omega arith; held = λ j p q. (at j p q (ℕ_discrete j i)).0; differ = λ j p q. (at j p q (ℕ_discrete j i)).1 }
    where
      at : (j : ℕ) → home_by field e ≤ j → j < i + 1 → Dec (j ≡ i) → Occupied table j × (same_by field (occupant image table j) e ≡ false)
      at j p q (yes r) = subst⁻¹ (λ (k : ℕ). Occupied table k × (same_by field (occupant image table k) e ≡ false)) r (h, d)
      at j p q (no n) = (w.held j p (omega arith), w.differ j p (omega arith))

-- what hindered a probe hinders the comparison
pub hindered : (field : Field) (image table : List ℕ) (e : EntryAt) (es : List (List ℕ)) (why : NoSlot) → Probed field image table e (Err why)
    → (Met field image table (bytes_at image e) → distinct (same_by field) es ≡ false) → Compares field es (Err why)
hindered field image table e es Repeated h k = k h
hindered field image table e es Full h k = tt

-- ---- the table

-- the entry d stands in the table, at its home slot or behind it with no free slot between
pub record Stored (field : Field) (image table d : List ℕ) : Type 0 where
  pub slot : ℕ
  pub bytes : occupant image table slot ≡ d
  pub behind : home_by field d ≤ slot
  pub held : (i : ℕ) → home_by field d ≤ i → i ≤ slot → Occupied table i

-- the entries done, which stand before those that are left: each differs from the others and is stored, and whatever the table
-- holds is one of them
pub record Kept (field : Field) (image : List ℕ) (all left : List (List ℕ)) (table : List ℕ) : Type 0 where
  pub done : List (List ℕ)
  pub whole : all ≡ done ++ left
  pub apart : distinct (same_by field) done ≡ true
  pub stored : Each (Stored field image table) done
  pub long : length table ≡ 6400
  pub filled : Filled image table
  pub known : (i : ℕ) → Occupied table i → (p : List ℕ → Bool) → p (occupant image table i) ≡ true → any p done ≡ true

module _ {field : Field} {image : List ℕ} {all : List (List ℕ)} {table : List ℕ} where
  -- at first
  pub kept_none : AllFree table → Kept field image all all table
  unfolding distinct
  kept_none c = record {
    done = [];
    whole = refl;
    apart = refl;
    stored = none;
    long = c.long;
    filled = λ i h. absurd (omega (arith, c.free i));
    known = λ i h p q. absurd (omega (arith, c.free i));
  }

  -- the same entries left
  pub kept_same : {left rest : List (List ℕ)} → Kept field image all left table → left ≡ rest → Kept field image all rest table
  kept_same k r = rw r at k

  -- where the next is the same as an earlier one, they do not
  pub kept_met : {e : List ℕ} {left : List (List ℕ)} → Kept field image all (e ∷ left) table → Met field image table e
      → distinct (same_by field) all ≡ false
  kept_met {e} {left} k m =
      ap (distinct (same_by field)) k.whole
      ∙ distinct_not (same_by field) e k.done left (k.known m.slot m.held (λ d. same_by field d e) m.same)

-- the next entry e is put at its free slot i
module _ {field : Field} {image table : List ℕ} (long : length table ≡ 6400) {e : EntryAt} (stands : Stands image e)
    {i : ℕ} (free : FreeAt field image table e i) where
  -- the table then
  after : List ℕ
  after = set table i (e.start + 1)

  -- there it stands
  kept_here : get_or after i 0 ≡ e.start + 1
  unfolding after
  kept_here = let l = free.within in get_or-set_same table i (e.start + 1) 0 (omega arith)

  entry_here : entry_from image (get_or after i 0 - 1) ≡ e
  entry_here =
      let h = kept_here in
      let at : get_or after i 0 - 1 ≡ e.start = omega arith in
      let name : byte image (get_or after i 0 - 1 + 50) ≡ e.name_length = ap (λ (n : ℕ). byte image (n + 50)) at ∙ sym stands.titled in
      λ j. record { start = at j; name_length = name j }

  -- every other slot is as it was
  kept_other : (k : ℕ) → (k ≡ i → ⊥) → get_or after k 0 ≡ get_or table k 0
  unfolding after
  kept_other k n = get_or-set_other table i k (e.start + 1) 0 n

  -- what stood there before stands elsewhere, and still does
  elsewhere : (k : ℕ) → Occupied table k → k ≡ i → ⊥
  elsewhere k h q = let z : get_or table k 0 ≡ get_or table i 0 = ap (λ (n : ℕ). get_or table n 0) q in omega (arith, free.free)

  still_held : (k : ℕ) → Occupied table k → Occupied after k
  still_held k h = omega (arith, kept_other k (elsewhere k h))

  -- what was stored is stored still
  grow : (d : List ℕ) → Stored field image table d → Stored field image after d
  grow d s =
      let n = elsewhere s.slot (s.held s.slot s.behind (omega arith)) in
      record {
        slot = s.slot;
        bytes = ap (λ (m : ℕ). bytes_at image (entry_from image (m - 1))) (kept_other s.slot n) ∙ s.bytes;
        held = λ k p q. still_held k (s.held k p q);
        behind = s.behind;
      }

  -- and so is e
  new : Stored field image after (bytes_at image e)
  new = record { slot = i; bytes = ap (bytes_at image) entry_here; held = λ k p q. at k p q (ℕ_discrete k i); behind = free.passed.behind }
    where
      at : (k : ℕ) → home_by field (bytes_at image e) ≤ k → k ≤ i → Dec (k ≡ i) → Occupied after k
      at k p q (yes r) = subst⁻¹ (Occupied after) r (omega (arith, kept_here))
      at k p q (no n) = still_held k (free.passed.held k p (omega arith))

  -- what is stored differs from e: it stands before the free slot, or its home slot is another
  fresh : (d : List ℕ) → Stored field image table d → same_by field d (bytes_at image e) ≡ false
  fresh d s = not_so (same_by field d (bytes_at image e)) (λ h. at h (dec_lt s.slot i))
    where
      at : same_by field d (bytes_at image e) ≡ true → Dec (s.slot < i) → ⊥
      at h (yes l) =
          let home = same_home field d (bytes_at image e) h in
          let other = free.passed.differ s.slot (omega (arith, s.behind)) l in
          so_not (same_by field d (bytes_at image e)) (ap (λ (x : List ℕ). same_by field x (bytes_at image e)) (sym s.bytes) ∙ other) h
      at h (no l) =
          let home = same_home field d (bytes_at image e) h in
          let there = s.held i (omega (arith, free.passed.behind)) (omega arith) in
          omega (arith, free.free)

  -- e is one of those done
  pub kept_more : {all left : List (List ℕ)} → Kept field image all (bytes_at image e ∷ left) table
      → Kept field image all left (set table i (e.start + 1))
  unfolding after
  kept_more {all} {left} k = record {
    done = k.done ++ (bytes_at image e ∷ []);
    whole = k.whole ∙ sym (append_assoc k.done (bytes_at image e ∷ []) left);
    apart =
        distinct_more (same_by field) (bytes_at image e) k.done k.apart (each_fails (λ d. same_by field d (bytes_at image e)) (each_map fresh k.stored));
    stored = each_snoc (each_map grow k.stored) new;
    long = length-set table i (e.start + 1) ∙ long;
    filled = λ j h. filled j h (ℕ_discrete j i);
    known = λ j h p q. known j h p q (ℕ_discrete j i);
  }
    where
      filled : (j : ℕ) → Occupied after j → Dec (j ≡ i) → Stands image (entry_from image (get_or after j 0 - 1))
      filled j h (yes r) = subst⁻¹ (λ (n : ℕ). Stands image (entry_from image (get_or after n 0 - 1))) r (subst⁻¹ (Stands image) entry_here stands)
      filled j h (no n) =
          let o = kept_other j n in
          subst⁻¹ (λ (m : ℕ). Stands image (entry_from image (m - 1))) o (k.filled j (omega arith))

      known : (j : ℕ) → Occupied after j → (p : List ℕ → Bool) → p (occupant image after j) ≡ true → Dec (j ≡ i)
          → any p (k.done ++ (bytes_at image e ∷ [])) ≡ true
      known j h p q (yes r) =
          let bytes = ap (λ (n : ℕ). occupant image after n) r ∙ ap (bytes_at image) entry_here in
          any_last p k.done (bytes_at image e) (ap p (sym bytes) ∙ q)
      known j h p q (no n) =
          let o = kept_other j n in
          let bytes = ap (λ (m : ℕ). bytes_at image (entry_from image (m - 1))) o in
          any_before p k.done (bytes_at image e ∷ []) (k.known j (omega arith) p (ap p (sym bytes) ∙ q))

-- ---- numbers, and then names

pub both_hindered : (es : List (List ℕ)) (why : NoSlot) → Compares Number es (Err why) → ComparesBoth es (Err why)
both_hindered es Repeated h = rw h
both_hindered es Full h = tt

pub both_compared : (es : List (List ℕ)) (r : Result Unit NoSlot) → distinct (same_by Number) es ≡ true → Compares Name es r → ComparesBoth es r
both_compared es (Ok _) n h = rw (n, h)
both_compared es (Err Repeated) n h = rw (n, h)
both_compared es (Err Full) n h = tt
