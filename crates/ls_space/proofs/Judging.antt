-- The verdict on a space, by a walk over its base.
use Rattle.ls_space.proofs.Vocabulary.{◌+◌, ◌-◌, ◌<◌, ◌∙◌, ◌≡◌, ◌≤◌, IsInOrder, Items, Learning, List, None, NotGraded, Some, ℕ, [], ap, base, base-below, base-in_order, base-needed, drop, drop-next, false, first_double, get_or, graded_by, is_same, is_space, items, le-ltb, least, len, length, lt-ltb, minus, nat_lt, needed, no_first, not_graded, option_map_or, own_by, refl, slice_index, spanned, spanned-IsUnionFamily, spanned-has, subst, sym, take, true, union_below, unions, unwrap_or, without}
use Rattle.std.proofs.lemmas.Option.{unwrap_or-slice_get}
use Rattle.ls_set.proofs.Firsts.{items-least}
use Rattle.ls_theory.specs.declared.verdict.BaseVerdict.{BaseVerdict}
use Rattle.ls_laws.proofs.Interiors.{space-to, unions-member}
use Rattle.ls_laws.proofs.Atoms.{base-member, base-spans}
use Rattle.ls_base.proofs.Spanned.{base-on}
use Rattle.ls_base.proofs.OwnItems.{AreSingles, IsTold, own-less, own-place, singles-told}
use Rattle.std.proofs.Common.{◌≢◌}
use Rattle.ls_set.specs.{IsWithin, meet}

-- ---- the two least items

pub two-least : (own : Items) (i : ℕ) → least own ≡ Some i → (slice_index (items own) 0 ≡ i) × (slice_index (items own) 1 ≡ unwrap_or (least (without own i)) 0)
unfolding least
two-least own i e =
    let first = items-least own i e in
    (ap (λ l. get_or l 0 0) first, ap (λ l. get_or l 1 0) first ∙ sym (unwrap_or-slice_get (items (without own i)) 0 0))

pub none-least : (own : Items) → least own ≡ None → items own ≡ []
unfolding least
none-least own e = no_first (items own) e

-- ---- the walk

module _ (b : List Items) (order : IsInOrder b) (whole : needed b ≡ b) where
  itself : base b ≡ b
  itself = base-below b order ∙ whole

  module _ (after : List Items) (i : ℕ) (k : Items) (l : i < length b) (e : k ≡ get_or b i k) (rest : after ≡ take (length b - (i + 1)) (drop (i + 1) b)) where
    pub judged-less : is_same (union_below after k) k ≡ false
    judged-less = own-less b b after i k order itself l e rest

    -- what is known of single items lies below the set
    pub judged-told : (singles : Items) → AreSingles singles b → len k ≢ 1 → IsTold k singles after
    judged-told singles told many =
        let same = own-place b b after i k order itself l e rest
        ∙ ap (λ g. union_below g k) itself in
        subst (λ u. IsWithin (meet k singles) u) (sym same) (singles-told singles k b told many)

    judged-own : (own : Items) → own ≡ minus k (union_below after k) → own ≡ own_by b k
    judged-own own is = is ∙ ap (minus k) (own-place b b after i k order itself l e rest ∙ ap (λ g. union_below g k) itself)

    pub judged-double : (own : Items) → own ≡ minus k (union_below after k) → 1 < len own → first_double b b ≡ first_double b (drop i b) → (v : BaseVerdict) → v ≡ NotGraded k (slice_index (items own) 0) (slice_index (items own) 1) → v ≡ graded_by b b
    judged-double own is many had v told =
        let same = judged-own own is in
        let here : nat_lt 1 (len (own_by b k)) ≡ true = ap (λ s. nat_lt 1 (len s)) (sym same) ∙ lt-ltb 1 (len own) many in
        let found : first_double b b ≡ Some k = had ∙ ap (first_double b) (drop-next b i k l e) ∙ rw here refl in
        told ∙ ap (λ s. NotGraded k (slice_index (items s) 0) (slice_index (items s) 1)) same ∙ sym (ap (λ o. option_map_or (not_graded b) o Learning) found)

    pub judged-passed : (own : Items) → own ≡ minus k (union_below after k) → len own ≤ 1 → first_double b b ≡ first_double b (drop i b) → first_double b b ≡ first_double b (drop (i + 1) b)
    judged-passed own is few had =
        let here : nat_lt 1 (len (own_by b k)) ≡ false = ap (λ s. nat_lt 1 (len s)) (sym (judged-own own is)) ∙ le-ltb 1 (len own) few in
        had ∙ ap (first_double b) (drop-next b i k l e) ∙ rw here refl

-- ---- the base of a family

pub needed-base : (f : List Items) → IsInOrder f → needed (base f) ≡ base f
needed-base f order = sym (base-needed f (base f) order (base-in_order f order) (base-member f) (base-spans f))

-- what a base spans is a space on the items of its sets
pub spanned-space : (n : ℕ) (b : List Items) → base (spanned n b) ≡ b → is_space (unions b) (spanned n b) ≡ true
spanned-space n b e =
    let family = spanned-IsUnionFamily n b in
    space-to (unions b) (spanned n b) family.holds_empty (unions-member (spanned n b) family.holds_empty family.holds_unions b (spanned-has n b (base-on n b e))) family.holds_unions
