-- Laws of an image that has another's directory blocks: an entry stands in it where it stands in the other.
use Prim.Native.Nat.{ℕ, zero, suc, ◌+◌, ◌*◌, ◌≤◌, ◌<◌}
use mathlib.Core.Path.{◌≡◌, refl, sym, ap, ◌∙◌}
use mathlib.Core.List.{List, [], ◌∷◌, ◌++◌}
use native.Mathlib.Omega.{arith}
use lib.ListN.{length, take, drop, get_or}
use lib.Seq.{drop-drop}
use Rattle.model.specs.Lists.{flat}
use Rattle.model.specs.Bytes.{byte, part}
use Rattle.model.specs.Facts.{dir_start, dir_length}
use Rattle.model.specs.Directory.{padded, entries, cut_blocks, directory_blocks}
use Rattle.model.specs.declared.VolumeFacts.{VolumeFacts}
use Rattle.directory.specs.declared.EntryAt.{EntryAt}
use Rattle.directory.specs.Cursor.{bytes_at, Stands, Lies}
use Rattle.directory.proofs.Parts.{part_part, part_byte}

block_at : (i k : ℕ) (c : List ℕ) → i < k → get_or (cut_blocks k c) i [] ≡ part (512 * i) 512 c
unfolding cut_blocks
block_at i zero c h = absurd (omega arith)
block_at zero (suc k) c h = refl
block_at (suc i) (suc k) c h =
    let a : 512 + 512 * i ≡ 512 * suc i = omega arith in
    block_at i k (drop 512 c) (omega arith) ∙ ap (take 512) (drop-drop (512 * i) 512 c ∙ ap (λ (j : ℕ). drop j c) a)

module _ (f : VolumeFacts) (image base : List ℕ) (same : directory_blocks f base ≡ directory_blocks f image) (e : EntryAt)
    (l : Lies image (512 * (dir_start f).0) (dir_length f) e) (within : length (flat l.before) + padded (51 + e.name_length) ≤ 512) where
  -- its block
  block_is : (x : List ℕ) → get_or (directory_blocks f x) l.index [] ≡ part (512 * (dir_start f).0 + 512 * l.index) 512 x
  unfolding directory_blocks
  block_is x =
      block_at l.index (dir_length f) (drop (512 * (dir_start f).0) x) l.within
      ∙ ap (take 512) (drop-drop (512 * l.index) (512 * (dir_start f).0) x)

  own_same : part (512 * (dir_start f).0 + 512 * l.index) 512 base ≡ part (512 * (dir_start f).0 + 512 * l.index) 512 image
  own_same = sym (block_is base) ∙ ap (λ (bs : List (List ℕ)). get_or bs l.index []) same ∙ block_is image

  bytes_in_lem : (x : List ℕ)
      → part (length (flat l.before)) (padded (51 + e.name_length)) (part (512 * (dir_start f).0 + 512 * l.index) 512 x) ≡ bytes_at x e
  bytes_in_lem x =
      let n = padded (51 + e.name_length) in
      part_part x (512 * (dir_start f).0 + 512 * l.index) 512 (length (flat l.before)) n within
      ∙ ap (λ (s : ℕ). part s n x) (sym l.place)

  pub bytes_elsewhere : bytes_at base e ≡ bytes_at image e
  bytes_elsewhere =
      sym (bytes_in_lem base) ∙ ap (part (length (flat l.before)) (padded (51 + e.name_length))) own_same ∙ bytes_in_lem image

  pub lies_elsewhere : Lies base (512 * (dir_start f).0) (dir_length f) e
  lies_elsewhere = record {
    index = l.index;
    before = l.before;
    behind = l.behind;
    within = l.within;
    split = ap entries own_same ∙ l.split ∙ ap (λ (b : List ℕ). l.before ++ (b ∷ l.behind)) (sym bytes_elsewhere);
    place = l.place;
  }

  pub stands_elsewhere : length base ≡ length image → Stands image e → Stands base e
  unfolding padded
  stands_elsewhere long s =
      let n = padded (51 + e.name_length) in
      let title : byte base (e.start + 50) ≡ byte image (e.start + 50)
      = sym (part_byte base e.start n 50 (omega arith)) ∙ ap (λ (b : List ℕ). byte b 50) bytes_elsewhere ∙ part_byte image e.start n 50 (omega arith) in
      record {
        inside = omega (arith, long, s.inside);
        titled = s.titled ∙ sym title;
        some = s.some;
        most = s.most;
      }
