-- The verdict on a space, by atoms.
use Rattle.ls_laws.proofs.Vocabulary.{◌&&◌, ◌||◌, ◌↔◌, ◌∙◌, ◌∷◌, ◌≡◌, Bool, IsPart, IsUnionClosed, Items, List, None, Some, ℕ, [], among-cases, among-here, among-there, and_from, and_parts, ap, arith, atom_items, base, cases_Bool, cond, double_atom, empty, false, false_from_ne_true, find, find-nothing, find-some, graded_verdict, inl, inr, is_among, is_double, is_learning_space, is_space, is_union_closed, is_well_graded, list_any, list_any-append, map, members, not, not-false, not-true, or_from, or_parts, pairs, refl, same_set, slice_index, sym, true, true≢false, unclosed_pair, union, unwrap_or, verdict, with_base}
use Rattle.ls_theory.specs.declared.verdict.Verdict.{Verdict}
use Rattle.ls_theory.specs.declared.verdict.Verdict.TheVariants.{NoEmpty, NoFull, NotClosed, NotGraded, Learning}
use Rattle.ls_theory.specs.declared.verdict.BaseVerdict.TheVariants as base_verdict_of
use Rattle.ls_laws.proofs.Lists.{some-among, some-from}
use Rattle.ls_laws.proofs.Interiors.{closed-from, closed-to, space-from}
use Rattle.ls_laws.proofs.WellGraded.{is_well_graded-atoms}

-- ---- unions

-- the union of the two is missing
abbrev is_unclosed : List Items → Items × Items → Bool
is_unclosed f p = not (is_among f (union p.0 p.1))

union_comm : (s t : Items) → union s t ≡ union t s
union_comm s t = same_set (union s t) (union t s) (λ i. grind (arith, members))

union-self : (s : Items) → union s s ≡ s
union-self s = same_set (union s s) s (λ i. grind (arith, members))

any-paired : (p : Items × Items → Bool) (x : Items) (xs : List Items) → list_any p (map (λ y. (x, y)) xs) ≡ list_any (λ y. p (x, y)) xs
any-paired p x [] = refl
any-paired p x (y ∷ xs) = ap (λ b. p (x, y) || b) (any-paired p x xs)

any-pairs : (p : Items × Items → Bool) (x : Items) (xs : List Items) → list_any p (pairs (x ∷ xs)) ≡ (list_any (λ y. p (x, y)) xs || list_any p (pairs xs))
any-pairs p x xs = list_any-append p (map (λ y. (x, y)) xs) (pairs xs) ∙ ap (λ b. b || list_any p (pairs xs)) (any-paired p x xs)

closed_pairs : (f xs : List Items) → IsPart xs f → list_any (is_unclosed f) (pairs xs) ≡ false → (s t : Items) → is_among xs s ≡ true → is_among xs t ≡ true → is_among f (union s t) ≡ true
closed_pairs f [] part e s t a b = absurd (true≢false (sym a))
closed_pairs f (x ∷ xs) part e s t a b =
    let halves = or_parts (list_any (λ y. is_unclosed f (x, y)) xs) (list_any (is_unclosed f) (pairs xs)) (sym (any-pairs (is_unclosed f) x xs) ∙ e) in
    let later = λ (u : Items) (c : is_among xs u ≡ true). not-false (is_among f (union x u)) (false_from_ne_true (not (is_among f (union x u))) (λ h. true≢false (sym (some-among (λ y. is_unclosed f (x, y)) xs u c h) ∙ halves.0))) in
    let rest = closed_pairs f xs (λ s c. part s (among-there s x xs c)) halves.1 in
    elim (among-cases s x xs a) [
      | inl g ↦ elim (among-cases t x xs b) [
        | inl h ↦ ap (is_among f) (ap (λ u. union u t) (g ∙ sym h) ∙ union-self t) ∙ part t b
        | inr h ↦ ap (λ u. is_among f (union u t)) g ∙ later t h
      ]
      | inr g ↦ elim (among-cases t x xs b) [
        | inl h ↦ ap (is_among f) (union_comm s t ∙ ap (λ u. union u s) h) ∙ later s g
        | inr h ↦ rest s t g h
      ]
    ]

none_unclosed : (f xs : List Items) → IsPart xs f → IsUnionClosed f → list_any (is_unclosed f) (pairs xs) ≡ false
none_unclosed f [] part u = refl
none_unclosed f (x ∷ xs) part u =
    any-pairs (is_unclosed f) x xs
    ∙ or_from (list_any (λ y. is_unclosed f (x, y)) xs) (list_any (is_unclosed f) (pairs xs))
    (false_from_ne_true (list_any (λ y. is_unclosed f (x, y)) xs) (λ h.
    let r = some-from (λ y. is_unclosed f (x, y)) xs h in
    true≢false (sym (u x r.0 (part x (among-here x x xs refl)) (part r.0 (among-there r.0 x xs r.1))) ∙ not-true (is_among f (union x r.0)) r.2)))
    (none_unclosed f xs (λ s c. part s (among-there s x xs c)) u)

closed-none : (f : List Items) → is_union_closed f ≡ true → unclosed_pair f ≡ None
closed-none f h = find-nothing (is_unclosed f) (pairs f) (none_unclosed f f (λ s c. c) (closed-from f h))

open-some : (f : List Items) → is_union_closed f ≡ false → (p : Items × Items) × (unclosed_pair f ≡ Some p)
open-some f h = elim (cases_Bool (list_any (is_unclosed f) (pairs f))) [
  | inl a ↦ find-some (is_unclosed f) (pairs f) a
  | inr a ↦ absurd (true≢false (sym (closed-to f (closed_pairs f f (λ s c. c) a)) ∙ h))
]

pub closed-pair : (f : List Items) → (is_union_closed f ≡ true) ↔ (unclosed_pair f ≡ None)
closed-pair f = (closed-none f, λ e. elim (cases_Bool (is_union_closed f)) [ inl a ↦ a | inr a ↦ let p = open-some f a in absurd (let z : None ≡ Some p.0 = sym e ∙ p.1 in cc) ])

-- ---- the verdict

pub verdict-space : (whole : Items) (f : List Items) → is_space whole f ≡ true → verdict whole f ≡ graded_verdict f
unfolding verdict
verdict-space whole f h =
    let s = space-from whole f h in
    rw (s.holds_empty, s.holds_whole, closed-none f (closed-to f s.holds_unions)) refl

pub graded-space : (whole : Items) (f : List Items) → is_space whole f ≡ true → is_well_graded f ≡ not (list_any (is_double f) (base f))
graded-space whole f h = let s = space-from whole f h in is_well_graded-atoms f s.holds_empty s.holds_unions

pub verdict-atoms : (whole : Items) (f : List Items) → is_space whole f ≡ true
    → verdict whole f ≡ (let k = double_atom f in cond (list_any (is_double f) (base f)) (NotGraded k (slice_index (atom_items f k) 0) (slice_index (atom_items f k) 1)) (Learning (base f)))
verdict-atoms whole f h =
    let k = double_atom f in
    verdict-space whole f h ∙ based (base f) k (slice_index (atom_items f k) 0) (slice_index (atom_items f k) 1) (is_well_graded f)
    ∙ ap (λ b. cond b (Learning (base f)) (NotGraded k (slice_index (atom_items f k) 0) (slice_index (atom_items f k) 1))) (graded-space whole f h)
    ∙ swapped (list_any (is_double f) (base f)) (Learning (base f)) (NotGraded k (slice_index (atom_items f k) 0) (slice_index (atom_items f k) 1))
  where
    based : (b : List Items) (k : Items) (i j : ℕ) (g : Bool) → with_base b (cond g base_verdict_of.Learning (base_verdict_of.NotGraded k i j)) ≡ cond g (Learning b) (NotGraded k i j)
    based b k i j true = refl
    based b k i j false = refl

    swapped : (b : Bool) (v w : Verdict) → cond (not b) v w ≡ cond b w v
    swapped true v w = refl
    swapped false v w = refl

-- where the verdict is that it is a learning space, it is one, and the base is told
pub learning-is : (whole : Items) (f b : List Items) → (verdict whole f ≡ Learning b) ↔ ((is_learning_space whole f ≡ true) × (b ≡ base f))
unfolding verdict
learning-is whole f b = (
  λ e. elim (cases_Bool (is_among f empty)) [
    | inr h ↦ absurd (let z : NoEmpty ≡ Learning b = rw h at e in cc)
    | inl h ↦ elim (cases_Bool (is_among f whole)) [
      | inr g ↦ absurd (let z : NoFull ≡ Learning b = rw (h, g) at e in cc)
      | inl g ↦ elim (cases_Bool (is_union_closed f)) [
        | inr u ↦ let p = open-some f u in absurd (let z : NotClosed p.0.0 p.0.1 ≡ Learning b = rw (h, g, p.1) at e in cc)
        | inl u ↦ elim (cases_Bool (is_well_graded f)) [
          | inr w ↦ let k = double_atom f in absurd (let z : NotGraded k (slice_index (atom_items f k) 0) (slice_index (atom_items f k) 1) ≡ Learning b = rw (h, g, closed-none f u, w) at e in cc)
          | inl w ↦ (
            and_from (is_space whole f) (is_well_graded f) (and_from (is_among f empty && is_among f whole) (is_union_closed f) (and_from (is_among f empty) (is_among f whole) h g) u) w,
            (let z : Learning (base f) ≡ Learning b = rw (h, g, closed-none f u, w) at e in cc),
          )
        ]
      ]
    ]
  ],
  λ h. let a = and_parts (is_space whole f) (is_well_graded f) h.0 in verdict-space whole f a.0 ∙ rw a.1 (ap Learning (sym h.1)),
)

-- the set that is told is a base set, and an atom at two items
pub double-found : (f : List Items) → list_any (is_double f) (base f) ≡ true → (is_among (base f) (double_atom f) ≡ true) × (is_double f (double_atom f) ≡ true)
double-found f h = go (is_double f) (base f) h
  where
    go : (p : Items → Bool) (ks : List Items) → list_any p ks ≡ true → (is_among ks (unwrap_or (find p ks) empty) ≡ true) × (p (unwrap_or (find p ks) empty) ≡ true)
    go p [] h = absurd (true≢false (sym h))
    go p (k ∷ ks) h = elim (p k) as (λ b. p k ≡ b → (b || list_any p ks) ≡ true → (is_among (k ∷ ks) (unwrap_or (cond b (Some k) (find p ks)) empty) ≡ true) × (p (unwrap_or (cond b (Some k) (find p ks)) empty) ≡ true)) [
      | true ↦ λ a _. (among-here k k ks refl, a)
      | false ↦ λ _ h. let r = go p ks h in (among-there (unwrap_or (find p ks) empty) k ks r.0, r.1)
    ] refl h
