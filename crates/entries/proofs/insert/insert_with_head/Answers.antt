-- `insert_with_head` meets its contract. Assumes nothing.
use Prim.Native.Nat.{ℕ, ◌+◌, ◌-◌, ◌≤◌}
use mathlib.Core.Path.{◌≡◌, refl, ◌∙◌}
use native.Mathlib.Omega.{arith}
use lib.ListN.{length}
use Rattle.model.specs.Directory.{padded}
use Rattle.entries.proofs.Blocks.{zeros_put}
use Rattle.entries.proofs.Inserting.{kept_stores}
use Rattle.entries.proofs.insert.insert_with_head.Goals as goal

-- the entry's places are in its block: l is its name's length, m the image's, k the image's by now
module _ (base end l m k : ℕ) (room : end + (51 + l) ≤ 512) (within : base + 512 ≤ m) (kept : k ≡ m) where
  head_within : (h : ℕ) → h ≡ 46 → base + end + h ≤ k
  head_within h e = omega arith

  title_within : base + end + (51 + l) ≤ k
  title_within = omega arith

  zeros_within : base + end + 51 + l + (base + 512 - (base + end + 51 + l)) ≤ k
  zeros_within = omega arith

end_within : (base end l : ℕ) → end + (51 + l) ≤ 512 → base + end + 51 + l ≤ base + 512
end_within base end l h = omega arith

joined : (s l : ℕ) → s + 51 + l ≡ s + (51 + l)
joined s l = omega arith

pub put_bytes-requires : goal.put_bytes-requires
unfolding padded
put_bytes-requires c =
    let room : c.args.room.end + (51 + length c.args.name.now) ≤ 512 = let h = c.requires.end_value.1 in omega arith in
    head_within _ _ _ _ _ room c.requires.block.within refl _ c.told-head

pub put_date_and_name-requires : goal.put_date_and_name-requires
unfolding padded
put_date_and_name-requires c =
    let room : c.args.room.end + (51 + length c.args.name.now) ≤ 512 = let h = c.requires.end_value.1 in omega arith in
    (title_within _ _ _ _ _ room c.requires.block.within c.put_bytes.auto.image, c.requires.end_value.2)

pub slice_bounds-fill-count : goal.slice_bounds-fill-count
unfolding padded
slice_bounds-fill-count c = end_within _ _ _ (let h = c.requires.end_value.1 in omega arith)

pub slice_bounds-fill-start : goal.slice_bounds-fill-start
unfolding padded
slice_bounds-fill-start c = end_within _ _ _ (let h = c.requires.end_value.1 in omega arith)

pub returns : goal.returns
returns c =
    let a = c.args in
    let behind = a.room.base + a.room.end + 51 + length a.name.now in
    let kept : length c.put_date_and_name.new.image ≡ length a.image.now = c.put_date_and_name.auto.image ∙ c.put_bytes.auto.image in
    let cleared = zeros_put behind (a.room.base + 512) _ _ (omega (arith, c.requires.block.within)) (c.fill.ensures.after (λ y e. e)) in
    kept_stores a.head.now a.name.now a.changed c.told-head a.image.now a.room.base a.room.end
    c.requires.block c.requires.end_value.0 c.requires.end_value.1 _ _ _ c.put_bytes.ensures c.put_date_and_name.ensures
    behind _ (joined _ _) refl cleared
