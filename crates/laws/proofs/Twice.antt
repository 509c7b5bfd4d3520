-- The directory rewritten twice: the second fields of a fork stand over the first.
use Prim.Native.Nat.{ℕ, ◌*◌}
use mathlib.Core.Path.{◌≡◌, refl, ap, ap₂, ◌∙◌}
use mathlib.Core.Bool.{Bool, true, false, cond}
use mathlib.Core.List.{List, [], ◌∷◌, ◌++◌, map}
use native.Mathlib.Omega.{arith}
use lib.ListN.{length, drop}
use lib.Seq.{sets, drop-append_seam}
use Rattle.model.specs.Bytes.{bytes16, bytes32}
use Rattle.model.specs.Lists.{flat, first_or0}
use Rattle.model.specs.Directory.{entries, read_end, fork_place, named}
use Rattle.model.specs.Calls.{on_named, rewritten_in, rewritten, with_fork}
use Rattle.model.specs.declared.Fork.{Fork}
use Rattle.laws.proofs.Stores.{sets_comm, sets_sets}
use Rattle.laws.proofs.Entry.{place_high}
use Rattle.laws.proofs.Block.{Clean, Keeps, keeps_sized, rewritten_reads}
use Rattle.laws.proofs.Blocks.{Cleans}

-- ---- an entry

-- a fork's fields stored twice
pub fork_twice : (fork : Fork) (a m₁ m : ℕ) (bs₁ bs : List ℕ) (changed₁ changed : ℕ) (e : List ℕ)
    → with_fork fork a m bs changed (with_fork fork a m₁ bs₁ changed₁ e) ≡ with_fork fork a m bs changed e
unfolding with_fork
fork_twice fork a m₁ m bs₁ bs changed₁ changed e =
    let p = fork_place fork in
    let x = bytes16 (first_or0 bs₁) ++ (bytes32 m₁ ++ bytes32 (length bs₁ * a)) in
    let y = bytes16 (first_or0 bs) ++ (bytes32 m ++ bytes32 (length bs * a)) in
    let date₁ = bytes32 changed₁ in
    let date = bytes32 changed in
    ap (λ (l : List ℕ). sets l 46 date) (sets_comm y date₁ (sets e p x) 46 p (omega (arith, place_high fork)))
    ∙ sets_sets date₁ date (sets (sets e p x) p y) 46 refl
    ∙ ap (λ (l : List ℕ). sets l 46 date) (sets_sets x y e p refl)

-- ---- entries and blocks rewritten twice

module _ (name : List ℕ) (g h : List ℕ → List ℕ) (k : Keeps g) (over : (e : List ℕ) → h (g e) ≡ h e) where
  on_twice : (e : List ℕ) → on_named name h (on_named name g e) ≡ on_named name h e
  unfolding on_named named
  on_twice e = go (named name e) refl
    where
      go : (t : Bool) → named name e ≡ t → cond (named name (cond t (g e) e)) (h (cond t (g e) e)) (cond t (g e) e) ≡ cond t (h e) e
      go true q = rw (k.name e, q, over e)
      go false q = rw q

  map_twice : (es : List (List ℕ)) → map (on_named name h) (map (on_named name g) es) ≡ map (on_named name h) es
  map_twice [] = refl
  map_twice (e ∷ es) = ap₂ (λ (x : List ℕ) (r : List (List ℕ)). x ∷ r) (on_twice e) (map_twice es)

  in_twice : (b : List ℕ) → Clean b → rewritten_in name h (rewritten_in name g b) ≡ rewritten_in name h b
  unfolding rewritten_in read_end
  in_twice b c =
      let es = map (on_named name g) (entries b) in
      let rest = drop (length (flat (entries b))) b in
      let r : entries (flat es ++ rest) ≡ es = (rewritten_reads name g b (keeps_sized name g k) c).reads in
      ap (λ (x : List (List ℕ)). flat (map (on_named name h) x) ++ drop (length (flat x)) (flat es ++ rest)) r
      ∙ ap₂ (λ (x : List (List ℕ)) (y : List ℕ). flat x ++ y) (map_twice (entries b)) (drop-append_seam (flat es) rest)

  pub rewritten_twice : (bs : List (List ℕ)) → Cleans bs → rewritten name h (rewritten name g bs) ≡ rewritten name h bs
  unfolding rewritten Cleans
  rewritten_twice [] c = refl
  rewritten_twice (b ∷ bs) c = ap₂ (λ (x : List ℕ) (r : List (List ℕ)). x ∷ r) (in_twice b c.0) (rewritten_twice bs c.1)
