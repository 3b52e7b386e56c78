-- Words joined with a bar between them.
use Rattle.ls_fringe.proofs.Vocabulary.{◌++◌, ◌∙◌, ◌∷◌, ◌≡◌, IsWithin, Items, List, Text, ℕ, [], ap, append_assoc, ap₂, fringe_words, full, gap, items, join_with_byte, joined_names, length, name_of, names_of_set, refl, sym}
use Rattle.ls_lists.proofs.Joins.{gap-map}
use Rattle.ls_domain.proofs.NamedSets.{names_of_set-within}

pub join-bar : (ws vs : List (List ℕ)) → join_with_byte 32 (ws ++ (124 ∷ []) ∷ vs) ≡ join_with_byte 32 ws ++ (gap ws ++ (124 ∷ (gap vs ++ join_with_byte 32 vs)))
join-bar [] [] = refl
join-bar [] (v ∷ vs) = refl
join-bar (w ∷ []) vs = ap (λ l. w ++ (32 ∷ l)) (join-bar [] vs)
join-bar (w ∷ u ∷ ws) vs = ap (λ l. w ++ (32 ∷ l)) (join-bar (u ∷ ws) vs) ∙ sym (append_assoc w (32 ∷ join_with_byte 32 (u ∷ ws)) _)

-- a word before them
pub join-first : (w : List ℕ) (ws vs : List (List ℕ)) → join_with_byte 32 (w ∷ (ws ++ (124 ∷ []) ∷ vs)) ≡ w ++ (32 ∷ join_with_byte 32 (ws ++ (124 ∷ []) ∷ vs))
join-first w [] vs = refl
join-first w (u ∷ ws) vs = refl

-- what parts a bar from the names of a set of the domain's items
pub gap-named : (names : List Text) (s : Items) → IsWithin s (full (length names))
    → gap (items s) ≡ gap (names_of_set names s)
gap-named names s within =
    gap-map (name_of names) (items s) ∙ ap gap (sym (names_of_set-within names s within))

-- what was there, the names of one set, a gap, the bar, a gap and the names of the other
pub fringes_joined : (names : List Text) (inner outer : Items) (before first parted barred again last gap_before gap_behind : List ℕ)
    → first ≡ before ++ joined_names names inner → gap_before ≡ gap (names_of_set names inner) → parted ≡ first ++ gap_before → barred ≡ parted ++ 124 ∷ []
    → gap_behind ≡ gap (names_of_set names outer) → again ≡ barred ++ gap_behind → last ≡ again ++ joined_names names outer
    → last ≡ before ++ join_with_byte 32 (fringe_words names inner outer)
fringes_joined names inner outer before first parted barred again last gap_before gap_behind a b c d e f g =
    let ws = names_of_set names inner in
    let vs = names_of_set names outer in
    let begun : first ++ gap_before ≡ before ++ (join_with_byte 32 ws ++ gap ws) = ap₂ (λ l m. l ++ m) a b ∙ append_assoc before (join_with_byte 32 ws) (gap ws) in
    g ∙ ap (λ l. l ++ join_with_byte 32 vs) (f ∙ ap₂ (λ l m. l ++ m) (d ∙ ap (λ l. l ++ 124 ∷ []) (c ∙ begun)) e)
    ∙ regrouped before (join_with_byte 32 ws) (gap ws) (gap vs) (join_with_byte 32 vs)
    ∙ ap (λ l. before ++ l) (sym (join-bar ws vs))
  where
    regrouped : (b w x y v : List ℕ) → (((b ++ (w ++ x)) ++ 124 ∷ []) ++ y) ++ v ≡ b ++ (w ++ (x ++ (124 ∷ (y ++ v))))
    regrouped b w x y v =
        append_assoc ((b ++ (w ++ x)) ++ 124 ∷ []) y v ∙ append_assoc (b ++ (w ++ x)) (124 ∷ []) (y ++ v) ∙ append_assoc b (w ++ x) (124 ∷ (y ++ v)) ∙ ap (λ l. b ++ l) (append_assoc w x (124 ∷ (y ++ v)))
