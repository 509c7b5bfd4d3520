-- Laws of the claims: forks claimed one after the other, and the numbers of checks 8 to 10 from the marks that they leave.
use Prim.Native.Nat.{ℕ, ◌≤◌}
use mathlib.Core.Path.{◌≡◌, refl, sym, ap, ◌∙◌}
use mathlib.Core.Bool.{Bool, true, false, not, false≢true}
use mathlib.Core.List.{List, [], ◌∷◌}
use lib.ListN.{length, replicate}
use borrow.Author.Tests.{eq-eqb, ne_eqb}
use Rattle.model.specs.Facts.{N, A, free_count}
use Rattle.model.specs.Map.{blocks_free}
use Rattle.model.specs.Directory.{fork_blocks, owned_blocks, fork_of, forks_in}
use Rattle.model.specs.Check.{fires8, fires9, fires10, from8, from9}
use Rattle.model.specs.declared.VolumeFacts.{VolumeFacts}
use Rattle.model.specs.declared.ForkFacts.{ForkFacts}
use Rattle.model.specs.declared.Fork.TheVariants.{Data, Resource}
use Rattle.blockmap.specs.Marks.{marked, claims, claim_all, unowned}
use Rattle.blockmap.proofs.Marks.{claim_on, claim_not, claim_none, marked_none, marked_more, fires8_claim, fires9_unowned}
use Rattle.checks.specs.Numbers.{Claims}
use Rattle.checks.proofs.Firing.{fires_here, passes_here}

module _ (e : ℕ → ℕ) (n a : ℕ) where
  -- to claim the forks gs from the marks t is to claim hs from u
  pub record Onward (t : List ℕ) (gs : List ForkFacts) (u : List ℕ) (hs : List ForkFacts) : Type 0 where
    pub claimed : claim_all e n a t gs ≡ claim_all e n a u hs
    pub marks : marked t (owned_blocks e a gs) ≡ marked u (owned_blocks e a hs)

module _ {e : ℕ → ℕ} {n a : ℕ} {t : List ℕ} {gs : List ForkFacts} where
  pub onward_none : Onward e n a t gs t gs
  onward_none = record { claimed = refl; marks = refl }

  module _ {u : List ℕ} where
    -- the same forks
    pub onward_same : {hs ks : List ForkFacts} → Onward e n a t gs u hs → hs ≡ ks → Onward e n a t gs u ks
    onward_same o h = rw h at o

    -- no fork is left
    pub onward_end : Onward e n a t gs u [] → Claims e n a t gs true u
    onward_end o = record {
      claimed = sym (o.claimed ∙ claim_none e n a u);
      marks = λ _. marked_none e a u ∙ sym o.marks;
    }

    -- the next fork is g: what its claim gave, and the marks that it left
    module _ {g h : ForkFacts} {hs : List ForkFacts} (o : Onward e n a t gs u (g ∷ hs)) (q : h ≡ g) {r : Bool} (c : r ≡ claims e n a u h) {v : List ℕ} where
      pub onward_claim : r ≡ true → (r ≡ true → v ≡ marked u (fork_blocks e a h)) → Onward e n a t gs v hs
      onward_claim y m =
          let w : v ≡ marked u (fork_blocks e a g) = m y ∙ ap (λ (k : ForkFacts). marked u (fork_blocks e a k)) q in
          record {
            claimed = o.claimed ∙ claim_on e n a u g hs (ap (claims e n a u) (sym q) ∙ sym c ∙ y) ∙ ap (λ (x : List ℕ). claim_all e n a x hs) (sym w);
            marks = o.marks ∙ marked_more e a u g hs ∙ ap (λ (x : List ℕ). marked x (owned_blocks e a hs)) (sym w);
          }

      pub onward_not : r ≡ false → Claims e n a t gs false v
      onward_not y = record {
        claimed = sym (o.claimed ∙ claim_not e n a u g hs (ap (claims e n a u) (sym q) ∙ sym c ∙ y));
        marks = λ f. absurd (false≢true f);
      }

-- the forks of an entry more
pub forks_more : {es ds : List (List ℕ)} {b : List ℕ} → es ≡ b ∷ ds → forks_in es ≡ fork_of Data b ∷ fork_of Resource b ∷ forks_in ds
unfolding forks_in
forks_more h = ap forks_in h

pub forks_none : {es : List (List ℕ)} → es ≡ [] → forks_in es ≡ []
unfolding forks_in
forks_none h = ap forks_in h

-- ---- checks 8 to 10

module _ (f : VolumeFacts) (small : N f ≤ 640) (e : ℕ
    → ℕ) (gs : List ForkFacts) (r : Bool) (u : List ℕ) (c : Claims e (N f) (A f) (replicate 642 0) gs r u) where
  eight : fires8 e (N f) (A f) gs ≡ not r
  eight = fires8_claim (N f) small e (A f) gs ∙ ap not (sym c.claimed)

  pub number_8 : r ≡ false → 8 ≡ from8 f e gs
  unfolding from8
  number_8 y = sym (fires_here (fires8 e (N f) (A f) gs) 8 _ (eight ∙ ap not y))

  module _ (y : r ≡ true) where
    past8 : from8 f e gs ≡ from9 f e gs
    unfolding from8
    past8 = passes_here (fires8 e (N f) (A f) gs) 8 _ (eight ∙ ap not y)

    nine : fires9 e (N f) (A f) gs ≡ unowned e (N f) u
    nine = fires9_unowned (N f) small e (A f) gs (sym c.claimed ∙ y) ∙ ap (unowned e (N f)) (sym (c.marks y))

    pub number_9 : unowned e (N f) u ≡ true → 9 ≡ from8 f e gs
    unfolding from9
    number_9 h = sym (past8 ∙ fires_here (fires9 e (N f) (A f) gs) 9 _ (nine ∙ h))

    module _ (h : unowned e (N f) u ≡ false) (k : ℕ) (d : k ≡ length (blocks_free e (N f))) where
      pub number_10 : (k ≡ free_count f → ⊥) → 10 ≡ from8 f e gs
      unfolding from9 fires10
      number_10 z =
          sym (past8 ∙ passes_here (fires9 e (N f) (A f) gs) 9 _ (nine ∙ h)
          ∙ fires_here _ 10 0 (ap not (ne_eqb (free_count f) (length (blocks_free e (N f))) (λ q. z (d ∙ sym q)))))

      pub number_0 : k ≡ free_count f → 0 ≡ from8 f e gs
      unfolding from9 fires10
      number_0 z =
          sym (past8 ∙ passes_here (fires9 e (N f) (A f) gs) 9 _ (nine ∙ h)
          ∙ passes_here _ 10 0 (ap not (eq-eqb (free_count f) (length (blocks_free e (N f))) (sym z ∙ d))))
