-- The law for two parts over the calls: where the write of both succeeds, so do the writes of the one and of the other behind it, and they
-- leave what it leaves; where it gets 17, one of them does; where it is refused otherwise, the first is refused so.
use Prim.Native.Nat.{ℕ, ◌+◌, ◌^◌, ◌≤◌, ◌<◌}
use mathlib.Core.Path.{◌≡◌, refl, sym, ap, subst, ◌∙◌}
use mathlib.Core.List.{List, ◌++◌}
use mathlib.Core.Logic.{◌⊎◌, inl, inr}
use native.Mathlib.Omega.{arith}
use native.Mathlib.Decide.{ℕ_discrete, dec_le}
use lib.ListN.{length, length-append}
use lib.Seq.{take-append_seam, drop-append_seam}
use Rattle.model.specs.Bytes.{Bytes}
use Rattle.model.specs.Facts.{facts_of, free_count}
use Rattle.model.specs.Check.{Accepted}
use Rattle.model.specs.Directory.{fork_of}
use Rattle.model.specs.Calls.{Call, entry_named, checks, refusal, after, Fits}
use Rattle.model.specs.Calls.Call.{write, cut}
use Rattle.model.specs.declared.Fork.{Fork}
use Rattle.laws.proofs.Octets.{Octets, octets, bytes, octets_take, octets_drop}
use Rattle.laws.proofs.Counts.{grown_end}
use Rattle.laws.proofs.Refusals.{MayChangeFork, MayWrite, needs, refused, done, served_accepted, may_write, may_cut}
use Rattle.laws.proofs.Writes.{left, is_left, enough, write_rewrites, write_accepted}
use Rattle.laws.proofs.BytesKept.{written_low, written_bytes}
use Rattle.laws.proofs.WriteRefusals.{cut_passes, write_served, write_full, full_shows, other_same}
use Rattle.laws.proofs.NextWrite.{left_file, left_within, left_count, left_needs}
use Rattle.laws.proofs.TwoParts.{first_may, mid_accepted, second_may, two_parts}

-- What holds of the writes to a fork with one date, where a call gives the number `gives` and leaves `leaves`: those on images, and those
-- on wrapped files. The parts are xs at o, and ys behind it.
pub record Parts (gives : Call → List ℕ → ℕ) (leaves : Call → List ℕ → List ℕ) (name : List ℕ) (fork : Fork) (changed : ℕ) : Type 0 where
  -- what a first part leaves, and the second part's arguments, serve a call again
  pub behind : (image : List ℕ) (o : ℕ) (xs ys : List ℕ) → Bytes image → Fits (write name fork o (xs ++ ys) changed)
      → gives (write name fork o xs changed) image ≡ 0
      → Bytes (leaves (write name fork o xs changed) image) × Fits (write name fork (o + length xs) ys changed)
  -- where the write of both is not refused, neither is refused, and they leave what it leaves
  pub same : (image : List ℕ) (o : ℕ) (xs ys : List ℕ) → Bytes image → Fits (write name fork o (xs ++ ys) changed)
      → gives (write name fork o (xs ++ ys) changed) image ≡ 0
      → let mid = leaves (write name fork o xs changed) image in
      (gives (write name fork o xs changed) image ≡ 0) × (gives (write name fork (o + length xs) ys changed) mid ≡ 0)
      × (leaves (write name fork (o + length xs) ys changed) mid ≡ leaves (write name fork o (xs ++ ys) changed) image)
  -- where it gets 17, the first part gets it, or it is written and the second gets it
  pub full : (image : List ℕ) (o : ℕ) (xs ys : List ℕ) → Bytes image → Fits (write name fork o (xs ++ ys) changed)
      → gives (write name fork o (xs ++ ys) changed) image ≡ 17
      → let mid = leaves (write name fork o xs changed) image in
      (gives (write name fork o xs changed) image ≡ 17)
      ⊎ ((gives (write name fork o xs changed) image ≡ 0) × (gives (write name fork (o + length xs) ys changed) mid ≡ 17))
  -- where it is refused, and not for room, so is every write at that offset
  pub other : (image : List ℕ) (o : ℕ) (xs ys : List ℕ) → (gives (write name fork o xs changed) image ≡ 0 → ⊥)
      → (gives (write name fork o xs changed) image ≡ 17 → ⊥) → gives (write name fork o ys changed) image ≡ gives (write name fork o xs changed) image

-- a write leaves as many bytes
pub write_size : (name : List ℕ) (fork : Fork) (o : ℕ) (xs : List ℕ) (changed : ℕ) (image : List ℕ)
    → length (after (write name fork o xs changed) image) ≡ length image
unfolding checks
write_size name fork o xs changed image =
    let call = write name fork o xs changed in
    elim (ℕ_discrete (refusal call image) 0) [
      | yes z ↦
          let acc = served_accepted image call refl z in
          let m = may_write image name fork o xs changed z in
          ap length (done call image z ∙ is_left image acc name fork o xs changed m) ∙ (write_rewrites image acc name fork o xs changed m).step.long
      | no z ↦ ap length (refused call image z)
    ]

module _ (name : List ℕ) (fork : Fork) (changed : ℕ) where
  -- ---- arguments

  -- each part's bytes are some of the whole's
  pub first_fits : (o : ℕ) (xs ys : List ℕ) → Fits (write name fork o (xs ++ ys) changed) → Fits (write name fork o xs changed)
  unfolding Fits
  first_fits o xs ys w =
      (w.0, w.1, bytes xs (subst Octets (take-append_seam xs ys) (octets_take (length xs) (xs ++ ys) (octets (xs ++ ys) w.2))), w.3)

  second_fits : (o : ℕ) (xs ys : List ℕ) → o + length xs < 2 ^ 64 → Fits (write name fork o (xs ++ ys) changed)
      → Fits (write name fork (o + length xs) ys changed)
  unfolding Fits
  second_fits o xs ys h w =
      (w.0, h, bytes ys (subst Octets (drop-append_seam xs ys) (octets_drop (length xs) (xs ++ ys) (octets (xs ++ ys) w.2))), w.3)

  -- ---- room

  -- a write that passes the tests before 17 and has room is not refused
  serves : (image : List ℕ) (o : ℕ) (xs : List ℕ) → Accepted image → MayWrite image name fork o (length xs)
      → refusal (write name fork o xs changed) image ≡ 0
  serves image o xs acc m =
      let r : MayChangeFork image name fork o = record { file = m.file; within = m.within } in
      write_served image name fork o changed xs (cut_passes image name fork o changed acc r) m.room

  module _ (image : List ℕ) (o : ℕ) (xs ys : List ℕ) (b : Bytes image) (w : Fits (write name fork o (xs ++ ys) changed)) where
    abbrev q : ℕ
    q = o + length xs

    -- the image that the first part leaves
    abbrev mid : List ℕ
    mid = after (write name fork o xs changed) image

    -- ---- a first part that is not refused

    -- it ends below 2^64
    behind_first : refusal (write name fork o xs changed) image ≡ 0 → Bytes mid × Fits (write name fork q ys changed)
    unfolding checks
    behind_first z =
        let acc = served_accepted image (write name fork o xs changed) refl z in
        let m = may_write image name fork o xs changed z in
        let low : q < 2 ^ 64 =
        omega (arith, written_low image acc name fork o (length xs) m, grown_end (fork_of fork (entry_named name image)).logical o (length xs)) in (
          subst Bytes (sym (done (write name fork o xs changed) image z)) (written_bytes image acc b name fork o xs changed (first_fits o xs ys w) m),
          second_fits o xs ys low w,
        )

    -- ---- two parts

    both_same : refusal (write name fork o (xs ++ ys) changed) image ≡ 0
        → (refusal (write name fork o xs changed) image ≡ 0) × (refusal (write name fork q ys changed) mid ≡ 0)
        × (after (write name fork q ys changed) mid ≡ after (write name fork o (xs ++ ys) changed) image)
    unfolding checks
    both_same z =
        let acc = served_accepted image (write name fork o (xs ++ ys) changed) refl z in
        let m = may_write image name fork o (xs ++ ys) changed z in
        let m₁ = first_may image acc name fork o xs ys changed m in
        let m₂ = second_may image acc name fork o xs ys changed m in
        let acc₁ = mid_accepted image acc name fork o xs ys changed m in
        let left₁ = left image acc name fork o xs changed m₁ in
        let z₁ = serves image o xs acc m₁ in
        let z₂ = serves left₁ q ys acc₁ m₂ in
        let e : mid ≡ left₁ = done (write name fork o xs changed) image z₁ ∙ is_left image acc name fork o xs changed m₁ in
        let l₂ = is_left left₁ acc₁ name fork q ys changed m₂ in
        let l = is_left image acc name fork o (xs ++ ys) changed m in
        let h = behind_first z₁ in
        let b₂ = subst Bytes l₂ (written_bytes left₁ acc₁ (subst Bytes e h.0) name fork q ys changed h.1 m₂) in
        let b₀ = subst Bytes l (written_bytes image acc b name fork o (xs ++ ys) changed w m) in (
          z₁,
          subst (λ (i : List ℕ). refusal (write name fork q ys changed) i ≡ 0) (sym e) z₂,
          ap (after (write name fork q ys changed)) e
              ∙ done (write name fork q ys changed) left₁ z₂ ∙ l₂
              ∙ two_parts image acc name fork o xs ys changed m b₂ b₀
              ∙ sym l ∙ sym (done (write name fork o (xs ++ ys) changed) image z),
        )

    abbrev Full : Type 0
    Full = (refusal (write name fork o xs changed) image ≡ 17)
        ⊎ ((refusal (write name fork o xs changed) image ≡ 0) × (refusal (write name fork q ys changed) mid ≡ 17))

    both_full : refusal (write name fork o (xs ++ ys) changed) image ≡ 17 → Full
    unfolding checks
    both_full e =
        let r = full_shows image name fork o changed (xs ++ ys) e in
        let acc = served_accepted image (cut name fork o changed) refl r.0 in
        go acc (may_cut image name fork o changed r.0)
        (subst (λ (k : ℕ). free_count (facts_of image) < needs image name fork o k) (length-append xs ys) r.1)
        (dec_le (needs image name fork o (length xs)) (free_count (facts_of image)))
      where
        go : Accepted image → MayChangeFork image name fork o → free_count (facts_of image) < needs image name fork o (length xs + length ys)
            → Dec (needs image name fork o (length xs) ≤ free_count (facts_of image)) → Full
        go acc r n (no k) = inl (write_full image name fork o changed xs (cut_passes image name fork o changed acc r) (omega arith))
        go acc r n (yes k) =
            let m : MayWrite image name fork o (length xs) = record { file = r.file; within = r.within; room = k } in
            let z = serves image o xs acc m in
            let left₁ = left image acc name fork o xs changed m in
            let i : mid ≡ left₁ = done (write name fork o xs changed) image z ∙ is_left image acc name fork o xs changed m in
            let r₂ : MayChangeFork left₁ name fork q = record {
              file = left_file image acc name fork o xs changed m;
              within = left_within image acc name fork o xs changed m;
            } in
            let full = write_full left₁ name fork q changed ys (cut_passes left₁ name fork q changed (write_accepted image acc name fork o xs changed m) r₂)
            (omega (
              arith,
              n,
              enough image acc name fork o xs changed m,
              left_needs image acc name fork o xs changed m (length ys),
              left_count image acc name fork o xs changed m,
            )) in
            inr (z, subst (λ (l : List ℕ). refusal (write name fork q ys changed) l ≡ 17) (sym i) full)

  -- the writes on images
  pub image_parts : Parts refusal after name fork changed
  image_parts = record {
    behind = behind_first;
    same = both_same;
    full = both_full;
    other = λ image o xs ys. other_same image name fork o changed xs ys;
  }
