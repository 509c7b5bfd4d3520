-- The row of a whole wrapped file holds: antt computes its checksums, the call's number on the image inside and the image after it;
-- laws put these together.
use Prim.Native.Nat.{ℕ, ◌+◌}
use mathlib.Core.Path.{◌≡◌, refl, ap, ◌∙◌}
use mathlib.Core.Bool.{cond}
use mathlib.Core.List.{List, ◌++◌}
use lib.ListN.{length, length-append, length-replicate}
use lib.Seq.{sets}
use lib.Dec.{eqb}
use Rattle.model.specs.Lists.{flat}
use Rattle.model.specs.Bytes.{be16, be32, bytes32, zeros}
use Rattle.model.specs.Check.{first_refusal}
use Rattle.model.specs.Container.{inside, checksum, tag_checksum, bad_size, container_verdict, renewed}
use Rattle.model.specs.Calls.{refusal, change}
use Rattle.model.specs.Calls.Call.{create}
use Rattle.model.specs.Wrapped.{file_refusal, file_after}
use Rattle.model.specs.Cases.{NEWS, info800, head_of, sample}
use Rattle.model.proofs.Cases.{everything, the_data, judged, with_new}
use Rattle.cases.specs.WholeFile.{empty800, news800, head_for, tagged, WholeFile}

empty_sum : checksum empty800 ≡ 0x0336eed7
unfolding everything empty800
empty_sum = refl

news_sum : checksum news800 ≡ 0x04f876cd
unfolding everything empty800 news800
news_sum = refl

tag_sum_lem : tag_checksum (sample 0 9600) ≡ 0x7bdca764
unfolding everything
tag_sum_lem = refl

tags_long : length (sample 0 9600) ≡ 9600
unfolding everything
tags_long = refl

whole : length empty800 ≡ 409600
unfolding everything empty800
whole =
    length-append (zeros 1024) (info800 391 ++ zeros 408512)
    ∙ ap (λ (n : ℕ). length (zeros 1024) + n) (length-append (info800 391) (zeros 408512) ∙ ap (λ (n : ℕ). 64 + n) (length-replicate {A = ℕ} 408512 0))

-- the create on the image inside
passes : refusal (create NEWS (zeros 16) 7 8) empty800 ≡ 0
unfolding everything empty800
passes = refl

made : change (create NEWS (zeros 16) 7 8) empty800 ≡ news800
unfolding everything empty800 news800
made = refl

abbrev file : List ℕ
file = head_for 0x0336eed7 ++ (empty800 ++ sample 0 9600)

sound : container_verdict file ≡ 0
unfolding head_of flat bad_size head_for be32 be16
sound = judged (head_for 0x0336eed7) empty800 (sample 0 9600) refl whole 0x0336eed7 9600 0x7bdca764 empty_sum tags_long tag_sum_lem

content : inside file ≡ empty800
unfolding head_of flat head_for
content = the_data (head_for 0x0336eed7) empty800 (sample 0 9600) refl whole

new_header : (rest : List ℕ) → sets (head_for 0x0336eed7 ++ rest) 72 (bytes32 0x04f876cd) ≡ head_for 0x04f876cd ++ rest
unfolding head_of flat head_for
new_header rest = refl

renewed_file : renewed file news800 ≡ head_for 0x04f876cd ++ (news800 ++ sample 0 9600)
unfolding head_of flat head_for
renewed_file = with_new (head_for 0x0336eed7) empty800 (sample 0 9600) refl whole news800 0x04f876cd news_sum ∙ new_header (news800 ++ sample 0 9600)

pub whole_file : WholeFile
unfolding WholeFile tagged file_after file_refusal first_refusal
whole_file =
    let call = create NEWS (zeros 16) 7 8 in
    let number : first_refusal (container_verdict file) (refusal call (inside file)) ≡ 0 =
    ap (λ (n : ℕ). first_refusal n (refusal call (inside file))) sound ∙ ap (refusal call) content ∙ passes in
    ap (λ (n : ℕ). cond (eqb n 0) (renewed file (change call (inside file))) file) number
    ∙ ap (λ (l : List ℕ). renewed file (change call l)) content
    ∙ ap (renewed file) made
    ∙ renewed_file
