-- The words that stand at each part, found part by part.
use Rattle.ls_lines.proofs.Vocabulary.{◌++◌, ◌+◌, ◌<◌, ◌∷◌, ◌≡◌, ◌≤◌, List, None, Option, Part, Some, Text, ℕ, [], ap, append-nil, append_assoc, begun_length, cut, drop, drop-drop, drop_all, drop_more, front, get_or, length, option_map, refl, sym, take}

abbrev onto : List (List Text) → Option (List (List Text)) → Option (List (List Text))
onto given more = option_map (λ lists. given ++ lists) more

onto-front : (given : List (List Text)) (here : List Text) (more : Option (List (List Text))) → onto given (option_map (λ lists. here ∷ lists) more) ≡ onto (given ++ here ∷ []) more
onto-front given here None = refl
onto-front given here (Some lists) = ap Some (sym (append_assoc given (here ∷ []) lists))

-- the loop of `cut`: a part more, a part that cannot stand there, and the end with words left or none
pub cut_more : (ps : List Part) (i : ℕ) (d : Part) (ws : List Text) (start m : ℕ) (given : List (List Text)) → i < length ps → front (get_or ps i d) (drop start ws) ≡ Some m →
    onto (given ++ take m (drop start ws) ∷ []) (cut (drop (i + 1) ps) (drop (start + m) ws)) ≡ onto given (cut (drop i ps) (drop start ws))
unfolding cut
cut_more ps i d ws start m given lt h =
    sym (rw (drop_more ps i d lt, h, drop-drop) (onto-front given (take m (drop start ws)) (cut (drop (i + 1) ps) (drop (start + m) ws))))

pub cut_stuck : (ps : List Part) (i : ℕ) (d : Part) (rest : List Text) (given : List (List Text)) → i < length ps → front (get_or ps i d) rest ≡ None →
    onto given (cut (drop i ps) rest) ≡ None
unfolding cut
cut_stuck ps i d rest given lt h = rw (drop_more ps i d lt, h) refl

pub cut_left : (ps : List Part) (i : ℕ) (ws : List Text) (start : ℕ) (given : List (List Text)) → length ps ≤ i → start < length ws → onto given (cut (drop i ps) (drop start ws)) ≡ None
unfolding cut
cut_left ps i ws start given le lt = rw (drop_all i ps le, drop_more ws start [] lt) refl

pub cut_done : (ps : List Part) (i : ℕ) (ws : List Text) (start : ℕ) (given : List (List Text)) → length ps ≤ i → length ws ≤ start → onto given (cut (drop i ps) (drop start ws)) ≡ Some given
unfolding cut
cut_done ps i ws start given le ge = rw (drop_all i ps le, drop_all start ws ge) (ap Some (append-nil given))

-- the loop of `begun_length`
pub begun_more : (ps : List Part) (i : ℕ) (d : Part) (ws : List Text) (start m : ℕ) → i < length ps → front (get_or ps i d) (drop start ws) ≡ Some m →
    begun_length (drop i ps) (drop start ws) ≡ m + begun_length (drop (i + 1) ps) (drop (start + m) ws)
unfolding begun_length
begun_more ps i d ws start m lt h = rw (drop_more ps i d lt, h, drop-drop) refl

pub begun_stuck : (ps : List Part) (i : ℕ) (d : Part) (rest : List Text) → i < length ps → front (get_or ps i d) rest ≡ None → begun_length (drop i ps) rest ≡ 0
unfolding begun_length
begun_stuck ps i d rest lt h = rw (drop_more ps i d lt, h) refl

pub begun_end : (ps : List Part) (i : ℕ) (rest : List Text) → length ps ≤ i → begun_length (drop i ps) rest ≡ 0
unfolding begun_length
begun_end ps i rest le = rw drop_all refl
