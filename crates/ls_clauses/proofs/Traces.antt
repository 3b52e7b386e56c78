-- Projections: the meets of the sets that span a family span its projection, and its interiors are meets of interiors.
use Rattle.ls_clauses.proofs.Vocabulary.{◌∙◌, ◌∷◌, ◌≡◌, Decides-is_same, IsInOrder, IsInOrder-filter, AreOn, IsPart, IsWithin, Items, List, Spans, ℕ, [], among-cases, among-filter, among-here, among-subsets, among-there, and_from, and_parts, ap, ap₂, arith, base, base-needed, base-of, cases_Bool, empty, from-interior, full, has, has-meet, inl, inr, interior, interior-whole, is_among, is_same, is_within-from, list_any, meet, members, minus, needed, projection, projection-from, refl, same_members, same_set, same_within, some-among, spanned, spanned-has, spanned-in_order, spanned-same, spanned-whole, subsets, subsets_from-in_order, subst, sym, to-interior, true, true≢false, union}
use Rattle.ls_laws.specs.Families.{IsFamily}
use Rattle.ls_laws.proofs.Families.{family_sets, spanned-IsFamily}
use Rattle.ls_clauses.proofs.Spanning.{spans-same, part-same}
use Rattle.ls_clauses.specs.Traces.{meets_with}

-- ---- meets with a part

pub among-meets : (p : Items) (g : List Items) (k : Items) → is_among g k ≡ true → is_among (meets_with p g) (meet p k) ≡ true
among-meets p [] k c = absurd (true≢false (sym c))
among-meets p (t ∷ g) k c = elim (among-cases k t g c) [
  | inl e ↦ among-here (meet p k) (meet p t) (meets_with p g) (ap (meet p) e)
  | inr a ↦ among-there (meet p k) (meet p t) (meets_with p g) (among-meets p g k a)
]

pub from-meets : (p : Items) (g : List Items) (s : Items) → is_among (meets_with p g) s ≡ true → (k : Items) × (is_among g k ≡ true) × (s ≡ meet p k)
from-meets p [] s c = absurd (true≢false (sym c))
from-meets p (t ∷ g) s c = elim (among-cases s (meet p t) (meets_with p g) c) [
  | inl e ↦ (t, among-here t t g refl, e)
  | inr a ↦ let r = from-meets p g s a in (r.0, among-there r.0 t g r.1, r.2)
]

meet-grows : (p s t : Items) → IsWithin s t → IsWithin (meet p s) (meet p t)
meet-grows p s t w i h = let x = and_parts (has p i) (has s i) (sym (has-meet p s i) ∙ h) in has-meet p t i ∙ and_from (has p i) (has t i) x.0 (w i x.1)

-- the meet with a member, whose items are below n, is in the projection
pub among-trace : (n : ℕ) (p : Items) (f : List Items) (k : Items) → AreOn n f → is_among f k ≡ true → is_among (projection n p f) (meet p k) ≡ true
among-trace n p f k on c =
    among-filter (λ s. list_any (λ k. is_same s (meet p k)) f) (subsets n) (meet p k)
    ∙ and_from (is_among (subsets n) (meet p k)) (list_any (λ l. is_same (meet p k) (meet p l)) f)
    (among-subsets n (meet p k) ∙ is_within-from (meet p k) (full n) (λ i h. on k c i (and_parts (has p i) (has k i) (sym (has-meet p k i) ∙ h)).1))
    (some-among (λ l. is_same (meet p k) (meet p l)) f k c ((Decides-is_same (meet p k) (meet p k)).1 refl))

-- ---- what spans a projection

pub projection-spans : (n : ℕ) (p : Items) (f g : List Items) → Spans g f → Spans (meets_with p g) (projection n p f)
projection-spans n p f g span k c =
    let r = projection-from n p f k c in
    interior-whole (meets_with p g) k (λ q a.
    let b = and_parts (has p q) (has r.0 q) (sym (has-meet p r.0 q) ∙ ap (λ t. has t q) (sym r.2) ∙ a) in
    let x = from-interior g r.0 q (ap (λ t. has t q) (span r.0 r.1) ∙ b.1) in (
      meet p x.0,
      among-meets p g x.0 x.1,
      subst (λ t. IsWithin (meet p x.0) t) (sym r.2) (meet-grows p x.0 r.0 x.2),
      has-meet p x.0 q ∙ and_from (has p q) (has x.0 q) b.0 x.3,
    ))

pub projection-part : (n : ℕ) (p : Items) (f g : List Items) → AreOn n f → IsPart g f → IsPart (meets_with p g) (projection n p f)
projection-part n p f g on part s c =
    let r = from-meets p g s c in
    ap (is_among (projection n p f)) r.2 ∙ among-trace n p f r.0 on (part r.0 r.1)

-- ---- interiors

pub projection-interior : (n : ℕ) (p : Items) (f : List Items) (s : Items) → AreOn n f
    → interior (projection n p f) s ≡ meet p (interior f (union s (minus (full n) p)))
projection-interior n p f s on = same_within (interior (projection n p f) s) (meet p (interior f wide))
    (λ i h.
    let r = from-interior (projection n p f) s i h in
    let x = projection-from n p f r.0 r.1 in
    let b = and_parts (has p i) (has x.0 i) (sym (has-meet p x.0 i) ∙ ap (λ t. has t i) (sym x.2) ∙ r.3) in
    has-meet p (interior f wide) i ∙ and_from (has p i) (has (interior f wide) i) b.0
    (to-interior f wide x.0 i x.1 (λ j a. widened x.0 j (on x.0 x.1 j a) a (λ c. r.2 j (ap (λ t. has t j) x.2 ∙ c))) b.1))
    (λ i h.
    let b = and_parts (has p i) (has (interior f wide) i) (sym (has-meet p (interior f wide) i) ∙ h) in
    let r = from-interior f wide i b.1 in
    to-interior (projection n p f) s (meet p r.0) i (among-trace n p f r.0 on r.1)
    (λ j a. let c = and_parts (has p j) (has r.0 j) (sym (has-meet p r.0 j) ∙ a) in narrowed j c.0 (r.2 j c.1))
    (has-meet p r.0 i ∙ and_from (has p i) (has r.0 i) b.0 r.3))
  where
    wide : Items
    wide = union s (minus (full n) p)

    widened : (k : Items) (j : ℕ) → has (full n) j ≡ true → has k j ≡ true → (has (meet p k) j ≡ true → has s j ≡ true) → has (union s (minus (full n) p)) j ≡ true
    widened k j a b h = elim (cases_Bool (has p j)) [
      | inl c ↦ let d = h (has-meet p k j ∙ and_from (has p j) (has k j) c b) in grind (arith, members)
      | inr c ↦ grind (arith, members)
    ]

    narrowed : (j : ℕ) → has p j ≡ true → has (union s (minus (full n) p)) j ≡ true → has s j ≡ true
    narrowed j a b = grind (arith, members)

-- ---- the projection as a family

pub projection-IsFamily : (n : ℕ) (p : Items) (f : List Items) → IsFamily n f → IsFamily n (projection n p f)
projection-IsFamily n p f family = record {
  in_order = IsInOrder-filter (λ s. list_any (λ k. is_same s (meet p k)) f) (subsets n) (subsets_from-in_order 0 n);
  small = λ s c. let r = projection-from n p f s c in subst (λ t. IsWithin t (full n)) (sym r.2) (λ i h. family.small r.0 r.1 i (and_parts (has p i) (has r.0 i) (sym (has-meet p r.0 i) ∙ h)).1);
  holds_empty = ap (is_among (projection n p f)) (sym meet-empty) ∙ among-trace n p f empty family.small family.holds_empty;
  holds_unions = λ s t a b.
      let x = projection-from n p f s a in
      let y = projection-from n p f t b in
      ap (is_among (projection n p f)) (ap₂ union x.2 y.2 ∙ sym (meet-union x.0 y.0)) ∙ among-trace n p f (union x.0 y.0) family.small (family.holds_unions x.0 y.0 x.1 y.1);
}
  where
    meet-empty : meet p empty ≡ empty
    meet-empty = same_set (meet p empty) empty (λ i. grind (arith, members))

    meet-union : (k l : Items) → meet p (union k l) ≡ union (meet p k) (meet p l)
    meet-union k l = same_set (meet p (union k l)) (union (meet p k) (meet p l)) (λ i. grind (arith, members))

pub projection-spanned : (n : ℕ) (p : Items) (f g : List Items) → IsFamily n f → IsPart g f → Spans g f → projection n p f ≡ spanned n (meets_with p g)
projection-spanned n p f g family part span =
    let traced = projection-IsFamily n p f family in
    let same = spanned-same n (projection n p f) (meets_with p g) (family_sets n (projection n p f) traced) (projection-part n p f g family.small part) (projection-spans n p f g span) in
    same_members (projection n p f) (spanned n (meets_with p g)) traced.in_order (spanned-in_order n (meets_with p g)) (λ k c. same k ∙ c) (λ k c. sym (same k) ∙ c)

pub projection-base_of : (n : ℕ) (p : Items) (f g : List Items) → AreOn n f → IsPart g f → Spans g f
    → (k : Items) → is_among (base (projection n p f)) k ≡ is_among (needed (meets_with p g)) k
projection-base_of n p f g on part span = base-of (projection n p f) (meets_with p g) (projection-part n p f g on part) (projection-spans n p f g span)

pub projection-base : (n : ℕ) (p : Items) (f g sorted : List Items) → AreOn n f → IsPart g f → Spans g f → IsInOrder sorted
    → ((k : Items) → is_among sorted k ≡ is_among (meets_with p g) k) → base (projection n p f) ≡ needed sorted
projection-base n p f g sorted on part span order same =
    base-needed (projection n p f) sorted (IsInOrder-filter (λ s. list_any (λ k. is_same s (meet p k)) f) (subsets n) (subsets_from-in_order 0 n)) order
    (part-same (projection n p f) (meets_with p g) sorted same (projection-part n p f g on part))
    (spans-same (projection n p f) (meets_with p g) sorted same (projection-spans n p f g span))

-- of the unions of a list
pub projection-of_spanned : (n : ℕ) (p : Items) (g : List Items) → AreOn n g → projection n p (spanned n g) ≡ spanned n (meets_with p g)
projection-of_spanned n p g on = projection-spanned n p (spanned n g) g (spanned-IsFamily n g) (spanned-has n g on) (spanned-whole n g)
