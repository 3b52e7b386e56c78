-- Clauses of which none lies within another, found by their order.
use Rattle.ls_surmise.proofs.Vocabulary.{◌+◌, ◌-◌, ◌<◌, ◌∙◌, ◌∷◌, ◌≡◌, AllByRecursion, AreApart, Decides-is_same, IsDistinct, IsInOrder, IsPutInOrder, IsWithin-from, Items, List, None, ℕ, [], among-at, ap, ap₂, are_comparable, arith, cases_eq, cases_order, clauses_of, comes_before, comes_before-irreflexive, comparable_in, differs_first, drop, empty, false, false_from_ne_true, get_or, get_or-drop, in_order-at, inl, inr, is_among, is_same, is_within, length, length-drop, list_any, none-comparable, place-of, refl, same_truth, some-among, sym, true, true≢false}
use Rattle.std.specs.Cmp.{IsEquivalence}
use Rattle.std.proofs.lemmas.Map.Made.{length-from_keys, IsDistinct-from_count}
use Rattle.std.proofs.lemmas.Map.Keys.{apart_from_distinct}

-- a set does not lie within one that it comes before
pub earlier-apart : (s t : Items) → comes_before s t ≡ true → is_within s t ≡ false
earlier-apart s t before = false_from_ne_true (is_within s t) (λ w.
    let at = (differs_first s t before).1 in
    true≢false (sym (IsWithin-from s t w _ at.in_first) ∙ at.not_in_second))

-- nor do sets in order of which none lies within an earlier one
pub apart-pair : (sets : List Items) (i j : ℕ) → IsInOrder sets → i < j → j < length sets → is_within (get_or sets j empty) (get_or sets i empty) ≡ false → are_comparable (get_or sets i empty) (get_or sets j empty) ≡ false
apart-pair sets i j order a b none = rw (earlier-apart (get_or sets i empty) (get_or sets j empty) (in_order-at sets i j order a b), none) refl

-- what is found of the sets before a place, and of the set at it
pub apart-next : (sets : List Items) (i : ℕ) → IsInOrder sets → list_any (λ c. is_within c (get_or sets i empty)) (drop (i + 1) sets) ≡ false
    → ((k j : ℕ) → k < j → j < length sets → k < i → are_comparable (get_or sets k empty) (get_or sets j empty) ≡ false)
    → (k j : ℕ) → k < j → j < length sets → k < i + 1 → are_comparable (get_or sets k empty) (get_or sets j empty) ≡ false
apart-next sets i order none before k j a b l = elim (cases_eq k i) [
  | inr n ↦ before k j a b (omega arith)
  | inl e ↦
      let later = drop (i + 1) sets in
      let m = j - (i + 1) in
      let inside : m < length later = omega (arith, length-drop (i + 1) sets) in
      let at : get_or later m empty ≡ get_or sets j empty = get_or-drop (i + 1) sets m empty ∙ ap (λ p. get_or sets p empty) (let q : (i + 1) + m ≡ j = omega arith in q) in
      let first : get_or sets i empty ≡ get_or sets k empty = ap (λ p. get_or sets p empty) (sym e) in
      let out : is_within (get_or later m empty) (get_or sets i empty) ≡ false = false_from_ne_true _ (λ w. true≢false (sym (some-among (λ c. is_within c (get_or sets i empty)) later (get_or later m empty) (among-at later m inside) w) ∙ none)) in
      apart-pair sets k j order a b (sym (ap₂ is_within at first) ∙ out)
]

-- ---- clauses as many as those that are put in order

same-sets : IsEquivalence is_same
same-sets = record {
  refl = λ s. (Decides-is_same s s).1 refl;
  symm = λ s t. same_truth (is_same s t) (is_same t s) (λ h. (Decides-is_same t s).1 (sym ((Decides-is_same s t).0 h))) (λ h. (Decides-is_same s t).1 (sym ((Decides-is_same t s).0 h)));
  congr = λ s t u h. ap (λ k. is_same k u) ((Decides-is_same s t).0 h);
}

different : (s : Items) (sets : List Items) → AllByRecursion (λ t. comes_before s t ≡ true) sets → AllByRecursion (λ t. is_same s t ≡ false) sets
different s [] h = tt
different s (t ∷ sets) h = (false_from_ne_true (is_same s t) (λ e. true≢false (sym h.0 ∙ ap (comes_before s) (sym ((Decides-is_same s t).0 e)) ∙ comes_before-irreflexive s)), different s sets h.1)

before-distinct : (sets : List Items) → IsInOrder sets → IsDistinct is_same sets
unfolding IsDistinct
before-distinct [] order = tt
before-distinct (s ∷ sets) order = (different s sets order.0, before-distinct sets order.1)

apart-sets : (sets : List Items) (c d : Items) → AreApart sets → is_among sets c ≡ true → is_among sets d ≡ true → is_same c d ≡ false → are_comparable c d ≡ false
apart-sets sets c d apart hc hd differ =
    let i = place-of sets c hc in
    let j = place-of sets d hd in
    elim (cases_order i.0 j.0) [
      | inl e ↦ absurd (true≢false (sym ((Decides-is_same c d).1 (sym i.2 ∙ ap (λ k. get_or sets k empty) e ∙ j.2)) ∙ differ))
      | inr s ↦ elim s [
        | inl a ↦ sym (ap₂ are_comparable i.2 j.2) ∙ apart i.0 j.0 a j.1
        | inr a ↦ turned c d ∙ sym (ap₂ are_comparable j.2 i.2) ∙ apart j.0 i.0 a i.1
      ]
    ]
  where
    turned : (c d : Items) → are_comparable c d ≡ are_comparable d c
    turned c d = grind arith

pub apart-clauses : (clauses ordered : List (List Items)) (q : ℕ) → IsPutInOrder clauses ordered → length (clauses_of ordered q) ≡ length (clauses_of clauses q) → AreApart (clauses_of ordered q) → comparable_in clauses q ≡ None
apart-clauses clauses ordered q put as_many apart =
    let own = clauses_of clauses q in
    let sets = clauses_of ordered q in
    let distinct = IsDistinct-from_count same-sets own (sym (length-from_keys same-sets sets own (before-distinct sets (put.in_order q)) (put.same q)) ∙ as_many) in
    none-comparable clauses q (λ i j a b.
    let here = λ (k : ℕ) (l : k < length own). put.same q (get_or own k empty) ∙ among-at own k l in
    apart-sets sets (get_or own i empty) (get_or own j empty) apart (here i (omega arith)) (here j b) (apart_from_distinct is_same own i j empty distinct a b))
