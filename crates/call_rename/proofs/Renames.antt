-- The returns of rename: its refusals in their order, and the change.
use Prim.Native.Nat.{ℕ, ◌^◌, ◌<◌}
use mathlib.Core.Path.{◌≡◌, refl, sym, ap, subst, ◌∙◌}
use mathlib.Core.Bool.{Bool, true, false, not, cond}
use mathlib.Core.List.{List, []}
use native.Mathlib.Omega.{arith}
use lib.Dec.{eqb}
use Rattle.model.specs.Lists.{any, keep}
use Rattle.model.specs.Bytes.{byte, Bytes}
use Rattle.model.specs.Facts.{facts_of, is_locked}
use Rattle.model.specs.Directory.{directory, flags_lock, named}
use Rattle.model.specs.Check.{or_else}
use Rattle.model.specs.Calls.{only, Does, Fits, name_of, fork_given, bad_name, too_long, checks, refuses, carries, known_in, entry_named, renamed, change, lent, reply}
use Rattle.model.specs.Calls.Call.{rename}
use Rattle.directory.specs.Cursor.{bytes_at}
use Rattle.model.specs.declared.VolumeFacts.{VolumeFacts}
use Rattle.directory.specs.declared.EntryAt.{EntryAt}
use Rattle.files.specs.Lookup.{Readable, Barred, Changeable}
use Rattle.files.proofs.Forks.{named_bytes}
use Rattle.files.proofs.Replies.{refuse, serve}
use Rattle.call_rename.specs.Renaming.{roomless, Retitles}

pub rename_fits : (name new : List ℕ) (changed : ℕ) → Bytes name → Bytes new → changed < 2 ^ 32 → Fits (rename name new changed)
unfolding Fits
rename_fits name new changed n m c = (n, m, c)

-- 13 or 15 fires before what is behind them
fires_early : (t u : Bool) (rest : ℕ) → (or_else t 13 (or_else u 15 0) ≡ 0 → ⊥) → or_else t 13 (or_else u 15 0) ≡ or_else t 13 (or_else u 15 rest)
fires_early true u rest z = refl
fires_early false true rest z = refl
fires_early false false rest z = absurd (z refl)

module _ {f : VolumeFacts} {image : List ℕ} (r : Readable f image) (octets : Bytes image)
    {name new : List ℕ} {changed : ℕ} (fits : Fits (rename name new changed)) where
  pub rename_locked : is_locked f ≡ true → Does (rename name new changed) image (only 11 []) image
  unfolding checks refuses carries known_in name_of fork_given lent
  rename_locked h = let h' = rw r.facts at h in refuse r octets (rename name new changed) 11 fits refl (rw h') (λ z. omega arith) refl

  module _ (l : is_locked f ≡ false) where
    pub rename_untitled : bad_name name ≡ true → Does (rename name new changed) image (only 12 []) image
    unfolding checks refuses carries known_in name_of fork_given lent
    rename_untitled t = let l' = rw r.facts at l in refuse r octets (rename name new changed) 12 fits refl (rw (l', t)) (λ z. omega arith) refl

    module _ (old : bad_name name ≡ false) where
      -- the new name
      pub rename_unnamed : bad_name new ≡ true → Does (rename name new changed) image (only 12 []) image
      unfolding checks refuses carries known_in name_of fork_given lent
      rename_unnamed t = let l' = rw r.facts at l in refuse r octets (rename name new changed) 12 fits refl (rw (l', old, t)) (λ z. omega arith) refl

      pub rename_long : bad_name new ≡ false → too_long new ≡ true → Does (rename name new changed) image (only 21 []) image
      unfolding checks refuses carries known_in name_of fork_given lent
      rename_long g t = let l' = rw r.facts at l in refuse r octets (rename name new changed) 21 fits refl (rw (l', old, g, t)) (λ z. omega arith) refl

-- ---- past 11, 12 and 21

pub record Passed (f : VolumeFacts) (name new : List ℕ) : Type 0 where
  pub unlocked : is_locked f ≡ false
  pub old : bad_name name ≡ false
  pub good : bad_name new ≡ false
  pub short : too_long new ≡ false

-- another file has the new name
abbrev taken : List ℕ → List ℕ → List ℕ → Bool
taken image name new = any (named new) (keep (λ x. not (named name x)) (directory image))

module _ {f : VolumeFacts} {image : List ℕ} (r : Readable f image) {name new : List ℕ} (p : Passed f name new) (changed : ℕ) where
  behind_21 : refuses (rename name new changed) (known_in image (name_of (rename name new changed)) (fork_given (rename name new changed)))
      ≡ or_else (not (any (named name) (directory image))) 13 (or_else (flags_lock (byte (entry_named name image) 0)) 15
      (or_else (taken image name new) 14 (or_else (roomless (facts_of image) image name new) 18 0)))
  unfolding refuses known_in name_of fork_given
  behind_21 = let l = rw r.facts at p.unlocked in rw (l, p.old, p.good, p.short)

  behind_15 : {place : ℕ} {e : EntryAt} → Changeable image name place e
      → refuses (rename name new changed) (known_in image (name_of (rename name new changed)) (fork_given (rename name new changed)))
      ≡ or_else (taken image name new) 14 (or_else (roomless (facts_of image) image name new) 18 0)
  behind_15 h = let l = rw (named_bytes r h.found) at h.unlocked in behind_21 ∙ rw (h.found.there.exists, l)

module _ {f : VolumeFacts} {image : List ℕ} (r : Readable f image) (octets : Bytes image) {name new : List ℕ} (p : Passed f name new)
    {changed : ℕ} (fits : Fits (rename name new changed)) where
  -- 13 or 15
  pub rename_barred : {n : ℕ} → Barred image name false n → Does (rename name new changed) image (only n []) image
  unfolding checks carries lent
  rename_barred {n} h =
      let none = not (any (named name) (directory image)) in
      let lock = flags_lock (byte (entry_named name image) 0) in
      let l = rw r.facts at p.unlocked in
      let is : n ≡ or_else none 13 (or_else lock 15 0) = rw (l, p.old) at h.fires in
      refuse r octets (rename name new changed) n fits refl
      (is ∙ fires_early none lock _ (λ z. h.some (is ∙ z)) ∙ sym (behind_21 r p changed)) h.some refl

  module _ {place : ℕ} {e : EntryAt} (h : Changeable image name place e) where
    pub rename_another : true ≡ taken image name new → Does (rename name new changed) image (only 14 []) image
    unfolding checks carries lent
    rename_another a =
        refuse r octets (rename name new changed) 14 fits refl
        (ap (λ (t : Bool). or_else t 14 (or_else (roomless (facts_of image) image name new) 18 0)) a ∙ sym (behind_15 r p changed h)) (λ z. omega arith) refl

    -- 18, or the change
    pub rename_told : false ≡ taken image name new → {n : ℕ} {after : List ℕ} → Retitles f image name (bytes_at image e) new changed n after
        → Does (rename name new changed) image (only n []) after
    unfolding checks carries lent reply change
    rename_told a {n} {after} t = go (roomless (facts_of image) image name new) refl
      where
        own : (b : Bool) → roomless (facts_of image) image name new ≡ b
            → refuses (rename name new changed) (known_in image (name_of (rename name new changed)) (fork_given (rename name new changed))) ≡ or_else b 18 0
        own b q = behind_15 r p changed h ∙ (λ i. or_else (sym a i) 14 (or_else (q i) 18 0))

        number : (b : Bool) → roomless (facts_of image) image name new ≡ b → n ≡ or_else b 18 0
        number b q = t.number ∙ ap (λ (v : VolumeFacts). or_else (roomless v image name new) 18 0) r.facts ∙ ap (λ (c : Bool). or_else c 18 0) q

        left : (b : Bool) → roomless (facts_of image) image name new ≡ b
            → after ≡ cond (eqb (or_else b 18 0) 0) (renamed (facts_of image) image name new changed (entry_named name image)) image
        left b q = t.leaves ∙ (λ i. cond (eqb (number b q i) 0) (renamed (r.facts i) image name new changed (named_bytes r h.found i)) image)

        go : (b : Bool) → roomless (facts_of image) image name new ≡ b → Does (rename name new changed) image (only n []) after
        go true q =
            subst (λ (x : List ℕ). Does (rename name new changed) image (only n []) x) (sym (left true q))
            (subst (λ (m : ℕ). Does (rename name new changed) image (only m []) image) (sym (number true q))
            (refuse r octets (rename name new changed) 18 fits refl (sym (own true q)) (λ z. omega arith) refl))
        go false q =
            subst (λ (x : List ℕ). Does (rename name new changed) image (only n []) x) (sym (left false q))
            (subst (λ (m : ℕ). Does (rename name new changed) image (only m []) (renamed (facts_of image) image name new changed (entry_named name image)))
            (sym (number false q)) (serve r octets (rename name new changed) fits refl (own false q)))
