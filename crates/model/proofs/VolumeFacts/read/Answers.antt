-- `VolumeFacts::read` meets its contract: each field is what its reader gives, and the part from byte 1024 on is the image without its first 1024 bytes.
-- Assumes nothing.
use Prim.Native.Nat.{ℕ, ◌-◌, ◌≤◌, ◌<◌}
use mathlib.Core.Path.{refl, ap, ◌∙◌}
use mathlib.Core.List.{List}
use native.Mathlib.Nat.{le_refl, le_trans}
use native.Mathlib.Omega.{arith}
use lib.Dec.{T, ltb, lit<, lit≤}
use lib.ListN.{length, take, drop, length-drop}
use Rattle.model.specs.Facts.{facts_in, facts_of}
use Rattle.model.proofs.Bytes.{part_to_end}
use Rattle.model.proofs.Facts.{facts_are}
use Rattle.model.proofs.VolumeFacts.read.Goals as goal

reaches : (image : List ℕ) (k : ℕ) → 1088 ≤ length image → k < 64 → k < length (take (length image - 1024) (drop 1024 image))
reaches image k h l = rw part_to_end (omega (arith, length-drop 1024 image))

pub slice_bounds-v-count : goal.slice_bounds-v-count
slice_bounds-v-count c =
    let from_1024 : 1024 ≤ length c.args.image.now = le_trans (lit≤ tt) c.requires in
    from_1024

pub slice_bounds-v-start : goal.slice_bounds-v-start
slice_bounds-v-start c =
    let from_1024 : 1024 ≤ length c.args.image.now = le_trans (lit≤ tt) c.requires in
    from_1024

pub slice_bounds-v-end : goal.slice_bounds-v-end
slice_bounds-v-end c = le_refl _

pub be16_at-requires : goal.be16_at-requires
be16_at-requires c =
    let within : (k : ℕ) → T (ltb k 64) → k < length (take (length c.args.image.now - 1024) (drop 1024 c.args.image.now)) = λ k t. reaches c.args.image.now k c.requires (lit< t) in
    within _ tt

pub be32_at-requires : goal.be32_at-requires
be32_at-requires c =
    let within : (k : ℕ) → T (ltb k 64) → k < length (take (length c.args.image.now - 1024) (drop 1024 c.args.image.now)) = λ k t. reaches c.args.image.now k c.requires (lit< t) in
    within _ tt

pub be32_at-requires-2 : goal.be32_at-requires-2
be32_at-requires-2 c =
    let within : (k : ℕ) → T (ltb k 64) → k < length (take (length c.args.image.now - 1024) (drop 1024 c.args.image.now)) = λ k t. reaches c.args.image.now k c.requires (lit< t) in
    within _ tt

pub be16_at-requires-2 : goal.be16_at-requires-2
be16_at-requires-2 c =
    let within : (k : ℕ) → T (ltb k 64) → k < length (take (length c.args.image.now - 1024) (drop 1024 c.args.image.now)) = λ k t. reaches c.args.image.now k c.requires (lit< t) in
    within _ tt

pub be16_at-requires-3 : goal.be16_at-requires-3
be16_at-requires-3 c =
    let within : (k : ℕ) → T (ltb k 64) → k < length (take (length c.args.image.now - 1024) (drop 1024 c.args.image.now)) = λ k t. reaches c.args.image.now k c.requires (lit< t) in
    within _ tt

pub be16_at-requires-4 : goal.be16_at-requires-4
be16_at-requires-4 c =
    let within : (k : ℕ) → T (ltb k 64) → k < length (take (length c.args.image.now - 1024) (drop 1024 c.args.image.now)) = λ k t. reaches c.args.image.now k c.requires (lit< t) in
    within _ tt

pub be16_at-requires-5 : goal.be16_at-requires-5
be16_at-requires-5 c =
    let within : (k : ℕ) → T (ltb k 64) → k < length (take (length c.args.image.now - 1024) (drop 1024 c.args.image.now)) = λ k t. reaches c.args.image.now k c.requires (lit< t) in
    within _ tt

pub be16_at-requires-6 : goal.be16_at-requires-6
be16_at-requires-6 c =
    let within : (k : ℕ) → T (ltb k 64) → k < length (take (length c.args.image.now - 1024) (drop 1024 c.args.image.now)) = λ k t. reaches c.args.image.now k c.requires (lit< t) in
    within _ tt

pub be32_at-requires-3 : goal.be32_at-requires-3
be32_at-requires-3 c =
    let within : (k : ℕ) → T (ltb k 64) → k < length (take (length c.args.image.now - 1024) (drop 1024 c.args.image.now)) = λ k t. reaches c.args.image.now k c.requires (lit< t) in
    within _ tt

pub be32_at-requires-4 : goal.be32_at-requires-4
be32_at-requires-4 c =
    let within : (k : ℕ) → T (ltb k 64) → k < length (take (length c.args.image.now - 1024) (drop 1024 c.args.image.now)) = λ k t. reaches c.args.image.now k c.requires (lit< t) in
    within _ tt

pub be16_at-requires-7 : goal.be16_at-requires-7
be16_at-requires-7 c =
    let within : (k : ℕ) → T (ltb k 64) → k < length (take (length c.args.image.now - 1024) (drop 1024 c.args.image.now)) = λ k t. reaches c.args.image.now k c.requires (lit< t) in
    within _ tt

pub be32_at-requires-5 : goal.be32_at-requires-5
be32_at-requires-5 c =
    let within : (k : ℕ) → T (ltb k 64) → k < length (take (length c.args.image.now - 1024) (drop 1024 c.args.image.now)) = λ k t. reaches c.args.image.now k c.requires (lit< t) in
    within _ tt

pub be16_at-requires-8 : goal.be16_at-requires-8
be16_at-requires-8 c =
    let within : (k : ℕ) → T (ltb k 64) → k < length (take (length c.args.image.now - 1024) (drop 1024 c.args.image.now)) = λ k t. reaches c.args.image.now k c.requires (lit< t) in
    within _ tt

pub bounds-v-36 : goal.bounds-v-36
bounds-v-36 c =
    let within : (k : ℕ) → T (ltb k 64) → k < length (take (length c.args.image.now - 1024) (drop 1024 c.args.image.now)) = λ k t. reaches c.args.image.now k c.requires (lit< t) in
    within _ tt

pub array_at-requires : goal.array_at-requires
array_at-requires c =
    let within : (k : ℕ) → T (ltb k 64) → k < length (take (length c.args.image.now - 1024) (drop 1024 c.args.image.now)) = λ k t. reaches c.args.image.now k c.requires (lit< t) in
    (lit< tt, within _ tt)

pub returns : goal.returns
unfolding facts_of
returns c =
    facts_are _ _
    c.be16_at.ensures
    c.be32_at.ensures
    c.be32_at-2.ensures
    c.be16_at-2.ensures
    c.be16_at-3.ensures
    c.be16_at-4.ensures
    c.be16_at-5.ensures
    c.be16_at-6.ensures
    c.be32_at-3.ensures
    c.be32_at-4.ensures
    c.be16_at-7.ensures
    c.be32_at-5.ensures
    c.be16_at-8.ensures
    refl
    c.array_at.ensures
    ∙ ap facts_in (part_to_end 1024 c.args.image.now)
