-- Sizes above the number of items: no blocks are made up to them.
use Rattle.ls_codecs.proofs.Vocabulary.{◌<◌, ◌∙◌, ◌≡◌, ◌≤◌, Data, None, Some, ℕ, ap, are_made, arith, block_codec, cond, false, false_from_ne_true, kept_if, most_items, numbers}
use Rattle.ls_codecs.proofs.WrittenAnswers.{block-most}

pub block-none : (n k : ℕ) (d : Data) → numbers.read d ≡ Some k → n ≤ most_items → most_items < k → (block_codec n).read d ≡ None
block-none n k d e few large =
    let none : are_made n k ≡ false = false_from_ne_true (are_made n k) (λ h. let most = block-most n k h in omega arith) in
    ap (kept_if (are_made n)) e ∙ ap (λ b. cond b (Some k) None) none
