-- Which sets and items a verdict speaks of.
use Rattle.ls_clauses.proofs.Vocabulary.{◌&&◌, ◌++◌, ◌<◌, ◌∙◌, ◌∷◌, ◌≡◌, BaseVerdict, Bool, AreOn, IsPart, IsWithin, Items, List, None, Option, Some, ℕ, [], among-here, among-there, and_from, and_parts, ap, arith, atom_items, base, base-member, base_verdict, bound, cases_Bool, closed-pair, cond, double-found, double_atom, empty, false, filter, find, full, graded-space, has, inl, inr, is_among, is_atom_at, is_double, is_space, is_union_closed, is_well_graded, items, items-below, length, list_all, list_any, map, members, not, numbers_from, pairs, refl, subst, suc, sym, true, true≢false, unclosed_pair, union, verdict, verdict_from, with, with_base, zero}
use Rattle.std.specs.Prelude.{slice_index}
use Rattle.ls_theory.specs.declared.verdict.BaseVerdict.TheVariants as of_base
use Rattle.ls_theory.specs.declared.verdict.Verdict.TheVariants.{NoEmpty, NoFull}
use Rattle.ls_clauses.specs.Speaking.{IsDoubleOn, IsBaseVerdictOn, IsVerdictOn}

-- ---- the items at which a set is an atom

passed : (q : ℕ → Bool) (xs : List ℕ) → list_all q (filter q xs) ≡ true
passed q [] = refl
passed q (x ∷ xs) = elim (q x) as (λ b. q x ≡ b → list_all q (cond b (x ∷ filter q xs) (filter q xs)) ≡ true) [
  | true ↦ λ e. and_from (q x) (list_all q (filter q xs)) e (passed q xs)
  | false ↦ λ e. passed q xs
] refl

kept : (q p : ℕ → Bool) (xs : List ℕ) → list_all q xs ≡ true → list_all q (filter p xs) ≡ true
kept q p [] h = refl
kept q p (x ∷ xs) h =
    let parts = and_parts (q x) (list_all q xs) h in
    elim (p x) as (λ b. list_all q (cond b (x ∷ filter p xs) (filter p xs)) ≡ true) [
      | true ↦ and_from (q x) (list_all q (filter p xs)) parts.0 (kept q p xs parts.1)
      | false ↦ kept q p xs parts.1
    ]

at-index : (q : ℕ → Bool) (xs : List ℕ) → list_all q xs ≡ true → (i : ℕ) → i < length xs → q (slice_index xs i) ≡ true
at-index q [] h i l = absurd (omega arith)
at-index q (x ∷ xs) h zero l = (and_parts (q x) (list_all q xs) h).0
at-index q (x ∷ xs) h (suc i) l = at-index q xs (and_parts (q x) (list_all q xs) h).1 i (omega arith)

module _ (n : ℕ) (f : List Items) where
  atom-item : (k : Items) → IsWithin k (full n) → (i : ℕ) → i < length (atom_items f k) → slice_index (atom_items f k) i < n
  atom-item k w i l =
      let all : list_all (has k) (items k) ≡ true = ap (list_all (has k)) (items-below k (bound k) (omega arith)) ∙ passed (has k) (numbers_from 0 (bound k)) in
      let here = at-index (has k) (atom_items f k) (kept (has k) (λ q. is_atom_at f q k) (items k) all) i l in
      grind (arith, members, w, here)

  double-on : AreOn n f → list_any (is_double f) (base f) ≡ true → let k = double_atom f in IsDoubleOn n k (slice_index (atom_items f k) 0) (slice_index (atom_items f k) 1)
  double-on on h =
      let k = double_atom f in
      let found = double-found f h in
      let w = on k (base-member f k found.0) in
      let two : 1 < length (atom_items f k) = grind (arith, found.1) in
      record {
        set = w;
        first_item = atom-item k w 0 (omega (arith, two));
        second_item = atom-item k w 1 two;
      }

  pub base_verdict-on : (whole : Items) → AreOn n f → is_space whole f ≡ true → IsBaseVerdictOn n (base_verdict f)
  base_verdict-on whole on space =
      let k = double_atom f in
      elim (cases_Bool (is_well_graded f)) [
        | inl h ↦ subst (λ b. IsBaseVerdictOn n (cond b of_base.Learning (of_base.NotGraded k (slice_index (atom_items f k) 0) (slice_index (atom_items f k) 1)))) (sym h) tt
        | inr h ↦ subst (λ b. IsBaseVerdictOn n (cond b of_base.Learning (of_base.NotGraded k (slice_index (atom_items f k) 0) (slice_index (atom_items f k) 1)))) (sym h)
            (double-on on (not_not (sym (graded-space whole f space) ∙ h)))
      ]
    where
      not_not : not (list_any (is_double f) (base f)) ≡ false → list_any (is_double f) (base f) ≡ true
      not_not e = elim (cases_Bool (list_any (is_double f) (base f))) [ inl a ↦ a | inr a ↦ absurd (true≢false (sym (ap not a) ∙ e)) ]

-- ---- the members whose union is missing

abbrev are_among : List Items → Items × Items → Bool
are_among f p = is_among f p.0 && is_among f p.1

all-both : {X : Type 0} (q : X → Bool) (xs ys : List X) → list_all q xs ≡ true → list_all q ys ≡ true → list_all q (xs ++ ys) ≡ true
all-both q [] ys a b = b
all-both q (x ∷ xs) ys a b = let parts = and_parts (q x) (list_all q xs) a in and_from (q x) (list_all q (xs ++ ys)) parts.0 (all-both q xs ys parts.1 b)

paired-among : (f : List Items) (x : Items) → is_among f x ≡ true → (xs : List Items) → IsPart xs f → list_all (are_among f) (map (λ y. (x, y)) xs) ≡ true
paired-among f x a [] part = refl
paired-among f x a (y ∷ ys) part =
    and_from (are_among f (x, y)) (list_all (are_among f) (map (λ y. (x, y)) ys)) (and_from (is_among f x) (is_among f y) a (part y (among-here y y ys refl)))
    (paired-among f x a ys (λ k m. part k (among-there k y ys m)))

pairs-among : (f xs : List Items) → IsPart xs f → list_all (are_among f) (pairs xs) ≡ true
pairs-among f [] part = refl
pairs-among f (x ∷ xs) part =
    let rest = λ (k : Items) (m : is_among xs k ≡ true). part k (among-there k x xs m) in
    all-both (are_among f) (map (λ y. (x, y)) xs) (pairs xs) (paired-among f x (part x (among-here x x xs refl)) xs rest) (pairs-among f xs rest)

found-passes : {X : Type 0} (p q : X → Bool) (xs : List X) → list_all q xs ≡ true → (y : X) → find p xs ≡ Some y → q y ≡ true
found-passes p q [] all y e = absurd (cc e)
found-passes p q (x ∷ xs) all y e =
    let parts = and_parts (q x) (list_all q xs) all in
    elim (p x) as (λ b. cond b (Some x) (find p xs) ≡ Some y → q y ≡ true) [
      | true ↦ λ h. let same : x ≡ y = cc h in subst (λ z. q z ≡ true) same parts.0
      | false ↦ λ h. found-passes p q xs parts.1 y h
    ] e

module _ (n : ℕ) (f : List Items) (on : AreOn n f) where
  unclosed-on : (o : Option (Items × Items)) → unclosed_pair f ≡ o → is_among f empty ≡ true → is_among f (full n) ≡ true → IsVerdictOn n (verdict_from f o)
  unclosed-on (Some p) e a b =
      let both = and_parts (is_among f p.0) (is_among f p.1) (found-passes (λ p. not (is_among f (union p.0 p.1))) (are_among f) (pairs f) (pairs-among f f (λ k m. m)) p e) in
      (on p.0 both.0, on p.1 both.1)
  unclosed-on None e a b =
      let closed = (closed-pair f).1 e in
      let space = and_from (is_among f empty && is_among f (full n)) (is_union_closed f) (and_from (is_among f empty) (is_among f (full n)) a b) closed in
      graded (base_verdict f) (base_verdict-on n f (full n) on space)
    where
      graded : (v : BaseVerdict) → IsBaseVerdictOn n v → IsVerdictOn n (with_base (base f) v)
      graded of_base.Learning h = tt
      graded (of_base.NotGraded k i j) h = h

  pub verdict-on : IsVerdictOn n (verdict (full n) f)
  unfolding verdict
  verdict-on = elim (cases_Bool (is_among f empty)) [
    | inr a ↦ subst (λ b. IsVerdictOn n (cond (not b) NoEmpty (cond (not (is_among f (full n))) NoFull (verdict_from f (unclosed_pair f))))) (sym a) tt
    | inl a ↦ subst (λ b. IsVerdictOn n (cond (not b) NoEmpty (cond (not (is_among f (full n))) NoFull (verdict_from f (unclosed_pair f))))) (sym a)
        (elim (cases_Bool (is_among f (full n))) [
          | inr b ↦ subst (λ c. IsVerdictOn n (cond (not c) NoFull (verdict_from f (unclosed_pair f)))) (sym b) tt
          | inl b ↦ subst (λ c. IsVerdictOn n (cond (not c) NoFull (verdict_from f (unclosed_pair f)))) (sym b) (unclosed-on (unclosed_pair f) refl a b)
        ])
  ]
