-- `rename_entry` meets its contract. Assumes nothing.
use Prim.Native.Nat.{ℕ, ◌+◌, ◌-◌, ◌≤◌}
use mathlib.Core.Path.{◌≡◌, ap}
use native.Mathlib.Omega.{arith}
use lib.ListN.{length}
use Rattle.model.specs.Directory.{padded, size_for}
use Rattle.entries.proofs.Blocks.{zeros_put}
use Rattle.entries.proofs.Titles.{retitled_stores}
use Rattle.entries.proofs.title.rename_entry.Goals as goal

-- the entry's places are in the image: l is its new name's length, o its old one's, r the size that the code has, m the image's length
title_within : (s l o m : ℕ) → size_for l ≡ size_for o → s + size_for o ≤ m → s + (51 + l) ≤ m
unfolding padded
title_within s l o m same w = omega arith

end_within : (s l r : ℕ) → r ≡ size_for l → s + 51 + l ≤ s + r
unfolding padded
end_within s l r h = omega arith

zeros_within : (s l o r m k : ℕ) → size_for l ≡ size_for o → s + size_for o ≤ m → r ≡ size_for l → k ≡ m → s + 51 + l + (s + r - (s + 51 + l)) ≤ k
unfolding padded
zeros_within s l o r m k same w h e = omega arith

joined : (s l : ℕ) → s + 51 + l ≡ s + (51 + l)
joined s l = omega arith

pub put_date_and_name-requires : goal.put_date_and_name-requires
put_date_and_name-requires c = (title_within _ _ _ _ c.requires.name_value.0 c.requires.name_length_in_bounds, c.requires.name_value.1)

pub slice_bounds-fill-count : goal.slice_bounds-fill-count
slice_bounds-fill-count c = end_within _ _ _ c.entry_size.ensures

pub slice_bounds-fill-start : goal.slice_bounds-fill-start
slice_bounds-fill-start c = end_within _ _ _ c.entry_size.ensures

pub returns : goal.returns
returns c =
    let a = c.args in
    let at = a.e.start + 51 + length a.name.now in
    let kept = c.put_date_and_name.auto.image in
    let end = a.e.start + c.entry_size.result in
    let cleared = zeros_put at end _ _ (omega (arith, kept, c.entry_size.ensures, c.requires.name_value.0, c.requires.name_length_in_bounds))
    (c.fill.ensures.after (λ y e. e)) in
    retitled_stores a.name.now a.changed a.image.now a.e c.requires.name_value.0 c.requires.name_length_in_bounds _ _ c.put_date_and_name.ensures
    at _ (joined _ _) (ap (λ (r : ℕ). a.e.start + r - at) c.entry_size.ensures) cleared
