-- How many sets a list has.
use Rattle.std.proofs.Common.{◌<◌, ◌≤◌, ◌≡◌, inl, inr, Bool, true, false, cond, not, List, [], ◌∷◌}
use Rattle.std.proofs.Common.{filter, length, refl, sym, ap, ◌∙◌, arith, true≢false}
use Rattle.std.proofs.lemmas.Bool.{cases_Bool, and_from}
use Rattle.ls_set.specs.ItemSet.{Items, is_same, is_among, comes_before, IsInOrder}
use Rattle.ls_set.proofs.Sets.{Decides-is_same}
use Rattle.ls_set.proofs.Members.{among-here, among-there, among-cases, among-filter, Each-among}
use Rattle.ls_set.proofs.Order.{comes_before-irreflexive}

drop-one : (t : Items) (m : List Items) → is_among m t ≡ true
    → length (filter (λ s. not (is_same s t)) m) < length m
drop-one t [] c = absurd (true≢false (sym c))
drop-one t (s ∷ m) c = elim (cases_Bool (is_same s t)) [
  | inl a ↦ rw a (let l = filter-length (λ s. not (is_same s t)) m in omega arith)
  | inr a ↦ elim (among-cases t s m c) [
    | inl e ↦ absurd (true≢false (sym ((Decides-is_same s t).1 (sym e)) ∙ a))
    | inr b ↦ rw a (let l = drop-one t m b in omega arith)
  ]
]
  where
    filter-length : (p : Items → Bool) (m : List Items) → length (filter p m) ≤ length m
    filter-length p [] = omega arith
    filter-length p (s ∷ m) =
        elim (p s) as (λ b. length (cond b (s ∷ filter p m) (filter p m)) ≤ length (s ∷ m)) [
          | true ↦ let l = filter-length p m in omega arith
          | false ↦ let l = filter-length p m in omega arith
        ]

-- no set of the list stands twice
abbrev pub AreDistinct : List Items → Type 0
AreDistinct [] = Unit {0}
AreDistinct (t ∷ b) = (is_among b t ≡ true → ⊥) × AreDistinct b

pub in_order-distinct : (b : List Items) → IsInOrder b → AreDistinct b
in_order-distinct [] order = tt
in_order-distinct (t ∷ b) order = (
  λ c.
      true≢false
      (sym (Each-among (λ s. comes_before t s ≡ true) b t order.0 c) ∙ comes_before-irreflexive t),
  in_order-distinct b order.1,
)

-- such a list is no longer than one that has its sets
pub distinct-no_longer : (b m : List Items) → AreDistinct b
    → ((s : Items) → is_among b s ≡ true → is_among m s ≡ true) → length b ≤ length m
distinct-no_longer [] m apart part = omega arith
distinct-no_longer (t ∷ b) m apart part =
    let rest = filter (λ s. not (is_same s t)) m in
    let l : length rest < length m = drop-one t m (part t (among-here t t b refl)) in
    let k : length b ≤ length rest = distinct-no_longer b rest apart.1 (λ s c.
    among-filter (λ s. not (is_same s t)) m s ∙ and_from (is_among m s) (not (is_same s t))
    (part s (among-there s t b c))
    (elim (cases_Bool (is_same s t)) [
      | inl a ↦ absurd (apart.0 (ap (is_among b) (sym ((Decides-is_same s t).0 a)) ∙ c))
      | inr a ↦ ap not a
    ])) in
    omega arith

pub no_longer : (b m : List Items) → IsInOrder b
    → ((s : Items) → is_among b s ≡ true → is_among m s ≡ true) → length b ≤ length m
no_longer b m order part = distinct-no_longer b m (in_order-distinct b order) part
