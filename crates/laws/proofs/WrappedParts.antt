-- The law for two parts over the calls on wrapped files: the data inside keep it, and around them the last data checksum stands over the one
-- before.
use Prim.Native.Nat.{ℕ, ◌+◌}
use mathlib.Core.Path.{◌≡◌, refl, sym, ap, ◌∙◌}
use mathlib.Core.List.{List, ◌++◌}
use mathlib.Core.Logic.{◌⊎◌, inl, inr}
use native.Mathlib.Decide.{ℕ_discrete}
use lib.ListN.{length}
use Rattle.model.specs.Bytes.{Bytes}
use Rattle.model.specs.Container.{inside, fires22, fires23, fires24, container_verdict, renewed, SoundContainer}
use Rattle.model.specs.Calls.{Call, refusal, after, Fits}
use Rattle.model.specs.Calls.Call.{write}
use Rattle.model.specs.Wrapped.{file_refusal, file_after}
use Rattle.model.specs.declared.Fork.{Fork}
use Rattle.model.proofs.Container.{room, passes_sound, sound_passes}
use Rattle.laws.proofs.Containers.{inside_length, inside_bytes, renewed_inside, renewed_twice, renewed_sound, renewed_bytes}
use Rattle.laws.proofs.Wrapped.{outer_refusal, inner_refusal, left_is}
use Rattle.laws.proofs.Refusals.{no_check, other}
use Rattle.laws.proofs.Parts.{Parts, write_size, image_parts}

-- 22 to 24 are not 17
container_never : (file : List ℕ) → container_verdict file ≡ 17 → ⊥
unfolding container_verdict
container_never file = other (fires22 file) 22 refl (other (fires23 file) 23 refl (other (fires24 file) 24 refl no_check))

-- where the container can't have given the number, it is sound
passes : (call : Call) (file : List ℕ) (n : ℕ) → (container_verdict file ≡ n → container_verdict file ≡ 0) → file_refusal call file ≡ n
    → container_verdict file ≡ 0
passes call file n h e =
    elim (ℕ_discrete (container_verdict file) 0) [ yes v ↦ v | no v ↦ h (sym (outer_refusal call file v) ∙ e) ]

passes_0 : (call : Call) (file : List ℕ) → file_refusal call file ≡ 0 → container_verdict file ≡ 0
passes_0 call file = passes call file 0 (λ v. v)

passes_17 : (call : Call) (file : List ℕ) → file_refusal call file ≡ 17 → container_verdict file ≡ 0
passes_17 call file = passes call file 17 (λ v. absurd (container_never file v))

module _ (name : List ℕ) (fork : Fork) (changed : ℕ) where
  inner : Parts refusal after name fork changed
  inner = image_parts name fork changed

  module _ (file : List ℕ) (o : ℕ) (xs ys : List ℕ) (b : Bytes file) (w : Fits (write name fork o (xs ++ ys) changed)) where
    abbrev first : Call
    first = write name fork o xs changed

    abbrev second : Call
    second = write name fork (o + length xs) ys changed

    abbrev both : Call
    both = write name fork o (xs ++ ys) changed

    -- the data inside, what the first part leaves of them, and the file that it leaves
    abbrev data₀ : List ℕ
    data₀ = inside file

    abbrev data₁ : List ℕ
    data₁ = after first data₀

    abbrev mid : List ℕ
    mid = file_after first file

    -- a sound container is one again after the first part
    module _ (v : container_verdict file ≡ 0) where
      abbrev s : SoundContainer file
      s = passes_sound file v

      long : (zs : List ℕ) → length (after (write name fork o zs changed) data₀) ≡ 409600
      long zs = write_size name fork o zs changed data₀ ∙ inside_length file (room file v)

      mid_is : mid ≡ renewed file data₁
      mid_is = left_is first file s b

      mid_inside : inside mid ≡ data₁
      mid_inside = ap inside mid_is ∙ renewed_inside file data₁ (room file v) (long xs)

      mid_sound : SoundContainer mid
      mid_sound = rw mid_is (renewed_sound file data₁ (room file v) (long xs) s)

      mid_bytes : Bytes data₁ → Bytes mid
      mid_bytes d = rw mid_is (renewed_bytes file data₁ (room file v) (long xs) b d)

      -- the second part gives what it gives on the data
      mid_refusal : file_refusal second mid ≡ refusal second data₁
      mid_refusal = inner_refusal second mid (sound_passes mid mid_sound) ∙ ap (refusal second) mid_inside

    behind_first : file_refusal first file ≡ 0 → Bytes mid × Fits second
    behind_first z =
        let v = passes_0 first file z in
        let r = inner.behind data₀ o xs ys (inside_bytes file b) w (sym (inner_refusal first file v) ∙ z) in
        (mid_bytes v r.0, r.1)

    both_same : file_refusal both file ≡ 0 → (file_refusal first file ≡ 0) × (file_refusal second mid ≡ 0) × (file_after second mid ≡ file_after both file)
    both_same z =
        let v = passes_0 both file z in
        let t = inner.same data₀ o xs ys (inside_bytes file b) w (sym (inner_refusal both file v) ∙ z) in
        let d = inner.behind data₀ o xs ys (inside_bytes file b) w t.0 in
        let whole = after both data₀ in (
          inner_refusal first file v ∙ t.0,
          mid_refusal v ∙ t.1,
          left_is second mid (mid_sound v) (mid_bytes v d.0)
              ∙ ap (renewed mid) (ap (after second) (mid_inside v) ∙ t.2)
              ∙ ap (λ (l : List ℕ). renewed l whole) (mid_is v)
              ∙ renewed_twice file data₁ whole (room file v) (long v xs) (long v (xs ++ ys))
              ∙ sym (left_is both file (s v) b),
        )

    both_full : file_refusal both file ≡ 17 → (file_refusal first file ≡ 17) ⊎ ((file_refusal first file ≡ 0) × (file_refusal second mid ≡ 17))
    both_full z =
        let v = passes_17 both file z in
        let p = inner_refusal first file v in
        elim (inner.full data₀ o xs ys (inside_bytes file b) w (sym (inner_refusal both file v) ∙ z)) [
          | inl e ↦ inl (p ∙ e)
          | inr e ↦ inr (p ∙ e.0, mid_refusal v ∙ e.1)
        ]

  -- a refusal other than 17
  other_same : (file : List ℕ) (o : ℕ) (xs ys : List ℕ) → (file_refusal (write name fork o xs changed) file ≡ 0 → ⊥)
      → (file_refusal (write name fork o xs changed) file ≡ 17 → ⊥)
      → file_refusal (write name fork o ys changed) file ≡ file_refusal (write name fork o xs changed) file
  other_same file o xs ys z f =
      let x = write name fork o xs changed in
      let y = write name fork o ys changed in
      elim (ℕ_discrete (container_verdict file) 0) [
        | yes v ↦
            let e = inner_refusal x file v in
            inner_refusal y file v ∙ inner.other (inside file) o xs ys (λ k. z (e ∙ k)) (λ k. f (e ∙ k)) ∙ sym e
        | no v ↦ outer_refusal y file v ∙ sym (outer_refusal x file v)
      ]

  -- the writes on wrapped files
  pub file_parts : Parts file_refusal file_after name fork changed
  file_parts = record { behind = behind_first; same = both_same; full = both_full; other = other_same }
