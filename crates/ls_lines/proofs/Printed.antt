-- The line of a command: its words, joined by single spaces.
use Rattle.ls_lines.proofs.Vocabulary.{◌++◌, ◌+◌, ◌-◌, ◌<◌, ◌∙◌, ◌∷◌, ◌≡◌, ◌≤◌, Fixed, Keyword, List, Part, Text, ℕ, [], ap, append-nil, append_assoc, arith, drop, drop_all, drop_more, filling, flat_map, get_or, laid_out, length, map, refl, shown, spelling, sym, take, take-nil, with_spaces, words_joined, words_of}
use Rattle.std.proofs.lemmas.List.Concat.{flat_map-append}
use Rattle.ls_lists.proofs.Places.{without_last}
use Rattle.ls_lines.specs.declared.operand.Operand.{Operand}

-- the words, each with a space behind it, are their line with a space behind it
spaced : (w : Text) (ws : List Text) → with_spaces (w ∷ ws) ≡ words_joined (w ∷ ws) ++ 32 ∷ []
spaced w [] = append-nil (w ++ 32 ∷ [])
spaced w (v ∷ ws) = ap (λ t. (w ++ 32 ∷ []) ++ t) (spaced v ws) ∙ simp append_assoc

pub trimmed : (ws : List Text) (n : ℕ) → n ≡ length (with_spaces ws) → take (n - 1) (with_spaces ws) ≡ words_joined ws
trimmed [] n e = take-nil (n - 1)
trimmed (w ∷ ws) n e = rw e (rw (spaced w ws) (without_last (words_joined (w ∷ ws)) 32))

-- the text of the words at parts
abbrev pub text_of : List (List Text) → List ℕ
text_of given = with_spaces (flat_map (λ ws. ws) given)

-- one part more: a fixed word, a part with an operand, and one without
pub own_word : (ps : List Part) (i : ℕ) (d : Part) (v : Keyword) (given : List (List Text)) (seen all : List ℕ) → i < length ps → get_or ps i d ≡ Fixed v → seen ++ text_of (laid_out (drop i ps) given) ≡ all →
    (seen ++ (spelling v ++ 32 ∷ [])) ++ text_of (laid_out (drop (i + 1) ps) given) ≡ all
unfolding laid_out
own_word ps i d v given seen all lt is h = append_assoc seen (spelling v ++ 32 ∷ []) _ ∙ sym (ap (λ l. seen ++ text_of (laid_out l given)) (drop_more ps i d lt ∙ ap (λ p. p ∷ drop (i + 1) ps) is)) ∙ h

laid_out_other : (part : Part) (ps : List Part) (ws : List Text) (given : List (List Text)) → ((v : Keyword) → part ≡ Fixed v → ⊥) → laid_out (part ∷ ps) (ws ∷ given) ≡ ws ∷ laid_out ps given
unfolding laid_out
laid_out_other (Fixed v) ps ws given not_own = absurd (not_own v refl)
laid_out_other part ps ws given not_own = refl

laid_out_none : (part : Part) (ps : List Part) → ((v : Keyword) → part ≡ Fixed v → ⊥) → laid_out (part ∷ ps) [] ≡ [] ∷ laid_out ps []
unfolding laid_out
laid_out_none (Fixed v) ps not_own = absurd (not_own v refl)
laid_out_none part ps not_own = refl

pub operand : (ps : List Part) (i : ℕ) (d : Part) (ws : List Text) (given : List (List Text)) (seen all : List ℕ) → i < length ps → ((v : Keyword) → get_or ps i d ≡ Fixed v → ⊥) → seen ++ text_of (laid_out (drop i ps) (ws ∷ given)) ≡ all →
    (seen ++ with_spaces ws) ++ text_of (laid_out (drop (i + 1) ps) given) ≡ all
operand ps i d ws given seen all lt not_own h =
    let here : laid_out (drop i ps) (ws ∷ given) ≡ ws ∷ laid_out (drop (i + 1) ps) given = rw (drop_more ps i d lt) (laid_out_other (get_or ps i d) (drop (i + 1) ps) ws given not_own) in
    append_assoc seen (with_spaces ws) _ ∙ sym (ap (λ t. seen ++ t) (ap text_of here ∙ flat_map-append (λ w. w ++ 32 ∷ []) ws _)) ∙ h

pub no_operand : (ps : List Part) (i : ℕ) (d : Part) (seen all : List ℕ) → i < length ps → ((v : Keyword) → get_or ps i d ≡ Fixed v → ⊥) → seen ++ text_of (laid_out (drop i ps) []) ≡ all →
    seen ++ text_of (laid_out (drop (i + 1) ps) []) ≡ all
no_operand ps i d seen all lt not_own h =
    let here : laid_out (drop i ps) [] ≡ [] ∷ laid_out (drop (i + 1) ps) [] = rw (drop_more ps i d lt) (laid_out_none (get_or ps i d) (drop (i + 1) ps) not_own) in
    sym (ap (λ gs. seen ++ text_of gs) here) ∙ h

pub no_part : (ps : List Part) (i : ℕ) (given : List (List Text)) (seen all : List ℕ) → length ps ≤ i → seen ++ text_of (laid_out (drop i ps) given) ≡ all → seen ≡ all
unfolding laid_out
no_part ps i given seen all le h = sym (append-nil seen) ∙ sym (ap (λ l. seen ++ text_of (laid_out l given)) (drop_all i ps le)) ∙ h

-- the words of what the code holds
pub shown-filling : (os : List Operand) → map shown os ≡ map words_of (map filling os)
shown-filling [] = refl
shown-filling (o ∷ os) = ap (λ ws. shown o ∷ ws) (shown-filling os)

-- the operands that are left: none, or one and more
pub none_left : (left : List Operand) → length left < 1 → map shown left ≡ []
none_left [] short = refl
none_left (o ∷ left) short = absurd (omega arith)

pub one_left : (left : List Operand) (o : Operand) → 1 ≤ length left → o ≡ get_or left 0 o → map shown left ≡ shown o ∷ map shown (drop 1 left)
one_left [] o long is = absurd (omega arith)
one_left (p ∷ left) o long is = ap (λ q. shown q ∷ map shown left) (sym is)
