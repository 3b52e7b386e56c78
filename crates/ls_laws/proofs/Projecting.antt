-- A projection of a space is a space.
use Rattle.ls_laws.proofs.Vocabulary.{◌&&◌, ◌∙◌, ◌≡◌, Bool, Decides-is_same, IsWithin, IsWithin-from, Items, List, ℕ, among-filter, among-subsets, and_from, and_parts, ap, ap₂, arith, empty, full, is_among, is_same, is_space, is_within, is_within-from, list_any, meet, members, projection, refl, same_set, same_within, subsets, sym, true, union}
use Rattle.ls_laws.proofs.Lists.{some-among, some-from}
use Rattle.ls_laws.proofs.Interiors.{space-from, space-to}

-- ---- projections

-- some member of f has s as its meet with p
abbrev is_meet : Items → List Items → Items → Bool
is_meet p f s = list_any (λ k. is_same s (meet p k)) f

among-projection : (n : ℕ) (p : Items) (f : List Items) (s : Items) → is_among (projection n p f) s ≡ (is_within s (full n) && is_meet p f s)
among-projection n p f s = among-filter (is_meet p f) (subsets n) s ∙ ap (λ b. b && is_meet p f s) (among-subsets n s)

-- the meet of a member with p is in the projection
pub projection-has : (n : ℕ) (p : Items) (f : List Items) (k : Items) → is_within p (full n) ≡ true → is_among f k ≡ true → is_among (projection n p f) (meet p k) ≡ true
projection-has n p f k small c =
    among-projection n p f (meet p k)
    ∙ and_from (is_within (meet p k) (full n)) (is_meet p f (meet p k))
    (is_within-from (meet p k) (full n) (λ i h. IsWithin-from p (full n) small i (within-left p k i h)))
    (some-among (λ l. is_same (meet p k) (meet p l)) f k c ((Decides-is_same (meet p k) (meet p k)).1 refl))
  where
    within-left : (p k : Items) → IsWithin (meet p k) p
    within-left p k i h = grind (arith, members)

pub projection-from : (n : ℕ) (p : Items) (f : List Items) (s : Items) → is_among (projection n p f) s ≡ true → (k : Items) × (is_among f k ≡ true) × (s ≡ meet p k)
projection-from n p f s c =
    let r = some-from (λ k. is_same s (meet p k)) f (and_parts (is_within s (full n)) (is_meet p f s) (sym (among-projection n p f s) ∙ c)).1 in
    (r.0, r.1, (Decides-is_same s (meet p r.0)).0 r.2)

pub projection-space : (n : ℕ) (p : Items) (f : List Items) → is_within p (full n) ≡ true → is_space (full n) f ≡ true → is_space p (projection n p f) ≡ true
projection-space n p f small h =
    let s = space-from (full n) f h in
    let g = projection n p f in
    space-to p g
    (ap (is_among g) (sym (meet-empty p)) ∙ projection-has n p f empty small s.holds_empty)
    (ap (is_among g) (sym (meet-whole p (full n) (IsWithin-from p (full n) small))) ∙ projection-has n p f (full n) small s.holds_whole)
    (λ t u a b.
    let x = projection-from n p f t a in
    let y = projection-from n p f u b in
    let e : union t u ≡ meet p (union x.0 y.0) = ap₂ union x.2 y.2 ∙ sym (meet-union p x.0 y.0) in
    ap (is_among g) e ∙ projection-has n p f (union x.0 y.0) small (s.holds_unions x.0 y.0 x.1 y.1))
  where
    meet-empty : (p : Items) → meet p empty ≡ empty
    meet-empty p = same_set (meet p empty) empty (λ i. grind (arith, members))

    meet-whole : (p w : Items) → IsWithin p w → meet p w ≡ p
    meet-whole p w h = same_within (meet p w) p (λ i a. grind (arith, members)) (λ i a. let b = h i a in grind (arith, members))

    meet-union : (p k l : Items) → meet p (union k l) ≡ union (meet p k) (meet p l)
    meet-union p k l = same_set (meet p (union k l)) (union (meet p k) (meet p l)) (λ i. grind (arith, members))
