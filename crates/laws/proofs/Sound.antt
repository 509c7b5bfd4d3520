-- The map as lists of blocks: what checks 8 and 9 say of an entry function, and one law by which every change keeps it.
use mathlib.Core.Path.{◌≡◌, ◌∙◌}
use mathlib.Core.List.{List, [], ◌∷◌, ◌++◌, map}
use Prim.Native.Nat.{ℕ, ◌+◌, ◌≤◌}
use native.Mathlib.Omega.{arith}
use native.Mathlib.Decide.{ℕ_discrete}
use Rattle.model.specs.Lists.{times}
use Rattle.model.specs.Map.{behind}
use Rattle.model.proofs.Times.{times_head, times_skip, times_tail}

-- ---- lists of lists

-- how often b stands in them
unfoldable pub held : ℕ → List (List ℕ) → ℕ
held b [] = 0
held b (bs ∷ bss) = times b bs + held b bss

pub held_append : (b : ℕ) (l m : List (List ℕ)) → held b (l ++ m) ≡ held b l + held b m
unfolding held
held_append b [] m = omega arith
held_append b (x ∷ xs) m = omega (arith, held_append b xs m)

-- ---- linked blocks

-- the entries of these blocks lead from each to the next
unfoldable pub Linked : (ℕ → ℕ) → ℕ → List ℕ → Type 0
Linked e n [] = Unit {0}
Linked e n (b ∷ bs) = (2 ≤ b) × (b ≤ n + 1) × (e b ≡ behind bs) × Linked e n bs

unfoldable pub Each : {A : Type 0} → (A → Type 0) → List A → Type 0
Each P [] = Unit {0}
Each P (x ∷ xs) = P x × Each P xs

pub each_append : {A : Type 0} (P : A → Type 0) (l m : List A) → Each P l → Each P m → Each P (l ++ m)
unfolding Each
each_append P [] m h k = k
each_append P (x ∷ xs) m h k = (h.0, each_append P xs m h.1 k)

pub each_left : {A : Type 0} (P : A → Type 0) (l m : List A) → Each P (l ++ m) → Each P l
unfolding Each
each_left P [] m h = tt
each_left P (x ∷ xs) m h = (h.0, each_left P xs m h.1)

pub each_right : {A : Type 0} (P : A → Type 0) (l m : List A) → Each P (l ++ m) → Each P m
unfolding Each
each_right P [] m h = h
each_right P (x ∷ xs) m h = each_right P xs m h.1

-- two functions that give the same list agree on each element
pub each_same : {A B : Type 0} (f g : A → B) (xs : List A) → map f xs ≡ map g xs → Each (λ x. f x ≡ g x) xs
unfolding Each
each_same f g [] h = tt
each_same f g (x ∷ xs) h =
    let p : f x ≡ g x = cc in
    let q : map f xs ≡ map g xs = cc in
    (p, each_same f g xs q)

-- an entry of a linked block is 1 or a block
behind_good : (e : ℕ → ℕ) (n : ℕ) (bs : List ℕ) → Linked e n bs → (1 ≤ behind bs) × (behind bs ≤ n + 1)
unfolding Linked behind
behind_good e n [] h = omega arith
behind_good e n (b ∷ bs) h = omega arith

-- entries that agree on the blocks link them too
pub linked_keep : (e e' : ℕ → ℕ) (n : ℕ) (bs : List ℕ) → Linked e n bs → ((b : ℕ) → 1 ≤ times b bs → e' b ≡ e b) → Linked e' n bs
unfolding Linked
linked_keep e e' n [] h k = tt
linked_keep e e' n (b ∷ bs) h k =
    (h.0, h.1, k b (omega (arith, times_head b bs)) ∙ h.2, linked_keep e e' n bs h.3 (λ x p. k x (omega (arith, times_tail x b bs))))

keep : (e e' : ℕ → ℕ) (n : ℕ) (bss : List (List ℕ)) → Each (Linked e n) bss → ((b : ℕ) → 1 ≤ held b bss → e' b ≡ e b) → Each (Linked e' n) bss
unfolding Each held
keep e e' n [] h k = tt
keep e e' n (bs ∷ bss) h k =
    (linked_keep e e' n bs h.0 (λ b p. k b (omega arith)), keep e e' n bss h.1 (λ b p. k b (omega arith)))

-- a block whose entry is 1 or a block
pub record Used (e : ℕ → ℕ) (n b : ℕ) : Type 0 where
  pub low : 2 ≤ b
  pub high : b ≤ n + 1
  pub some : 1 ≤ e b
  pub good : e b ≤ n + 1

pub linked_used : (e : ℕ → ℕ) (n : ℕ) (bs : List ℕ) (b : ℕ) → Linked e n bs → 1 ≤ times b bs → Used e n b
unfolding Linked times
linked_used e n [] b h p = absurd (omega arith)
linked_used e n (x ∷ bs) b h p =
    elim (ℕ_discrete b x) [
      | yes q ↦ let g = behind_good e n bs h.3 in rw q (omega arith)
      | no q ↦ linked_used e n bs b h.3 (omega (arith, times_skip b x bs q))
    ]

pub used : (e : ℕ → ℕ) (n : ℕ) (bss : List (List ℕ)) (b : ℕ) → Each (Linked e n) bss → 1 ≤ held b bss → Used e n b
unfolding Each held
used e n [] b h p = absurd (omega arith)
used e n (bs ∷ bss) b h p =
    elim (ℕ_discrete (times b bs) 0) [ yes q ↦ used e n bss b h.1 (omega arith) | no q ↦ linked_used e n bs b h.0 (omega arith) ]

-- ---- a sound map

-- the map e links each of the lists, no block stands twice in them, and every other entry is 0
pub record Sound (e : ℕ → ℕ) (n : ℕ) (bss : List (List ℕ)) : Type 0 where
  pub linked : Each (Linked e n) bss
  pub once : (b : ℕ) → held b bss ≤ 1
  pub rest : (b : ℕ) → 2 ≤ b → b ≤ n + 1 → held b bss ≡ 0 → e b ≡ 0

-- what a change from the lists old to the lists new asks of the entries
pub record Change (e e' : ℕ → ℕ) (n : ℕ) (old new : List (List ℕ)) : Type 0 where
  pub links : Each (Linked e' n) new
  pub single : (b : ℕ) → held b new ≤ 1
  pub fresh : (b : ℕ) → held b old ≡ 0 → 1 ≤ held b new → e b ≡ 0
  pub freed : (b : ℕ) → 2 ≤ b → b ≤ n + 1 → 1 ≤ held b old → held b new ≡ 0 → e' b ≡ 0
  pub others : (b : ℕ) → 2 ≤ b → b ≤ n + 1 → held b old ≡ 0 → held b new ≡ 0 → e' b ≡ e b

held_three : (b : ℕ) (p m s : List (List ℕ)) → held b (p ++ (m ++ s)) ≡ held b p + held b m + held b s
held_three b p m s = simp held_append (omega arith)

module _ (e e' : ℕ → ℕ) (n : ℕ) (p old new s : List (List ℕ)) (h : Sound e n (p ++ (old ++ s))) (c : Change e e' n old new) where
  -- a block that another list holds is neither in the old nor in the new
  apart : (l : List (List ℕ)) → Each (Linked e n) l → (b : ℕ) → 1 ≤ held b l → held b l + held b old ≤ 1 → held b new ≡ 0
  apart l k b q r =
      elim (ℕ_discrete (held b new) 0)
      [ yes z ↦ z | no z ↦ let z₀ = c.fresh b (omega arith) (omega arith) in let u = used e n l b k q in absurd (omega arith) ]

  stays : (l : List (List ℕ)) → Each (Linked e n) l → ((b : ℕ) → held b l + held b old ≤ 1) → Each (Linked e' n) l
  stays l k r =
      keep e e' n l k (λ b q. let u = used e n l b k q in c.others b u.low u.high (omega (arith, r b)) (apart l k b q (r b)))

  kept : (b : ℕ) → held b p + held b old + held b s ≤ 1
  kept b = omega (arith, held_three b p old s, h.once b)

  before : Each (Linked e n) p
  before = each_left (Linked e n) p (old ++ s) h.linked

  following : Each (Linked e n) s
  following = each_right (Linked e n) old s (each_right (Linked e n) p (old ++ s) h.linked)

  single : (b : ℕ) → held b p + held b new + held b s ≤ 1
  single b =
      elim (ℕ_discrete (held b p) 0) [
        | yes x ↦ elim (ℕ_discrete (held b s) 0) [
          | yes y ↦ omega (arith, c.single b)
          | no y ↦ omega (arith, kept b, apart s following b (omega arith) (omega (arith, kept b)))
        ]
        | no x ↦ omega (arith, kept b, apart p before b (omega arith) (omega (arith, kept b)))
      ]

  pub changed : Sound e' n (p ++ (new ++ s))
  changed = record {
    linked = each_append (Linked e' n) p (new ++ s) (stays p before (λ b. omega (arith, kept b)))
        (each_append (Linked e' n) new s c.links (stays s following (λ b. omega (arith, kept b))));
    once = λ b. omega (arith, held_three b p new s, single b);
    rest = λ b low high z. let t = held_three b p new s in let o = held_three b p old s in
        elim (ℕ_discrete (held b old) 0) [
          | yes q ↦ c.others b low high q (omega arith) ∙ h.rest b low high (omega arith)
          | no q ↦ c.freed b low high (omega arith) (omega arith)
        ];
  }
