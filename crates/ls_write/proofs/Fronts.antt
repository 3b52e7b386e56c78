-- Fronts of paths and their texts.
use Rattle.ls_write.proofs.Vocabulary.{◌++◌, ◌+◌, ◌<◌, ◌∙◌, ◌∷◌, ◌≡◌, All, Bor, Decides-eqb, IfSome, IsTextOf, List, MatchOption, None, Option, PathFront, Some, Text, ℕ, [], ap, append_assoc, arith, codes, drop, eqb, false, flat_map-append, get_or, get_or-append-add, length, length-append, line_bytes, name_of, path_line, pointwise, spaced, strip_prefix_is, subst, sym, take, true}
use Rattle.ls_room.proofs.LineBytes.{line-images}

-- what stands behind a front
pub behind : (s p q : List ℕ) (r : Option (Bor (List ℕ))) → q ≡ p
    → MatchOption r (pointwise eqb (take (length p) s) p ≡ false) (λ x. (pointwise eqb (take (length p) s) p ≡ true) × (x.now ≡ drop (length p) s) × (length x.now + length p ≡ length s))
    → IfSome r (λ x. q ++ x.now ≡ s)
behind s p q None e m = tt
behind s p q (Some x) e m = ap (λ l. l ++ x.now) e ∙ sym (strip_prefix_is Decides-eqb s p (Some x) m)

-- what holds of each item of an order holds of each behind a front
pub All-behind : (P : ℕ → Type 0) (front rest order : List ℕ) (k d : ℕ) → front ++ rest ≡ order → All P order → k < length rest → P (get_or rest k d)
All-behind P front rest order k d parts all h =
    subst P (ap (λ l. get_or l (length front + k) d) (sym parts) ∙ get_or-append-add front rest k d)
    (all (length front + k) d (omega (arith, length-append front rest, ap length parts)))

-- the line of a path, from the text of a front and the names behind it
pub line-path : (names : List Text) (p : PathFront) (rest order : List ℕ) → IsTextOf names p → p.front ++ rest ≡ order
    → ((codes "path" ++ p.text) ++ spaced (name_of names) rest) ++ 10 ∷ [] ≡ line_bytes (path_line names order)
line-path names p rest order is parts =
    let f = name_of names in
    ap (λ l. l ++ 10 ∷ [])
    (append_assoc (codes "path") p.text (spaced f rest)
    ∙ ap (λ l. codes "path" ++ l) (ap (λ l. l ++ spaced f rest) is ∙ sym (flat_map-append (λ x. 32 ∷ f x) p.front rest) ∙ ap (spaced f) parts))
    ∙ line-images (codes "path") f order
