-- `checksum` meets its contract. Assumes nothing.
use Rattle.std.proofs.Common.{ℕ, List, ◌≡◌, refl, ap, ◌∙◌, rules}
use Rattle.std.specs.List.{fold}
use Rattle.std.specs.Int.{w16, from_be_bytes}
use Rattle.model.specs.Container.{added, checksum}
use Rattle.container.proofs.Summing.{all_words}
use Rattle.container.proofs.sum.checksum.Goals as goal

pub returns : goal.returns
unfolding checksum
returns c =
    let step : ℕ → List ℕ → ℕ = λ sum word. added sum (from_be_bytes w16 word) in
    let all : c.fold.result ≡ fold step 0 c.as_chunks.result.0.now = search rules in
    all ∙ ap (fold step 0) c.as_chunks.ensures.front ∙ all_words c.args.bytes.now 0 _ refl
