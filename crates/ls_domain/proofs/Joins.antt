-- Joining one more word.
use Rattle.ls_domain.proofs.Vocabulary.{◌++◌, ◌∙◌, ◌∷◌, ◌≡◌, List, ℕ, [], ap, append_assoc, ap₂, gap, join_more, join_with_byte, map}

-- what was there, then the gap, then the word
pub word_joined : {X : Type 0} (f : X → List ℕ) (xs : List X) (y : X) (before old parted new between word : List ℕ) → old ≡ before ++ join_with_byte 32 (map f xs)
    → between ≡ gap xs → parted ≡ old ++ between → word ≡ f y → new ≡ parted ++ word → new ≡ before ++ join_with_byte 32 (map f (xs ++ y ∷ []))
word_joined f xs y before old parted new between word so_far is_gap first is_word second =
    let joined = join_with_byte 32 (map f xs) in
    second ∙ ap₂ (λ l m. l ++ m) (first ∙ ap₂ (λ l m. l ++ m) so_far is_gap) is_word
    ∙ ap (λ l. l ++ f y) (append_assoc before joined (gap xs)) ∙ append_assoc before (joined ++ gap xs) (f y)
    ∙ ap (λ l. before ++ l) (append_assoc joined (gap xs) (f y) ∙ join_more f xs y)
