-- The verdict by the unions of what lies below the members.
use Rattle.ls_clauses.proofs.Vocabulary.{◌||◌, ◌∙◌, ◌∷◌, ◌≡◌, BaseVerdict, Bool, IsInOrder, IsPart, Items, List, None, Option, Some, Spans, ℕ, [], ap, ap₂, atom_items, base, base-member, base-spans, base_verdict, cases_Bool, closed-from, closed-pair, cond, empty, false, find, graded-space, inl, inr, is_among, is_double, is_space, items, len, length, list_any, nat_lt, needed, not, option_map_or, refl, same_set, slice_index, space-to, spanned, sym, true, unclosed_pair, unclosed_pair_by, unwrap_or, verdict, verdict-space, with_base}
use Rattle.ls_theory.specs.declared.verdict.BaseVerdict.TheVariants.{NotGraded, Learning}
use Rattle.ls_clauses.specs.Verdicts.{own_by, first_double, not_graded, graded_by, verdict_by_unions}
use Rattle.ls_clauses.proofs.SpanningLists.{is_atom_at-spanning}
use Rattle.ls_clauses.proofs.Below.{atom-below, atom_items-below, base-below}
use Rattle.ls_clauses.proofs.Unclosed.{pair-spanning}

-- ---- searches

find-same : (p q : Items → Bool) (xs : List Items) → ((x : Items) → p x ≡ q x) → find p xs ≡ find q xs
find-same p q [] h = refl
find-same p q (x ∷ xs) h = ap₂ (λ b o. cond b (Some x) o) (h x) (find-same p q xs h)

-- a search that is told by a test first
found : (p : Items → Bool) (h : Items → BaseVerdict) (v : BaseVerdict) (xs : List Items) → cond (list_any p xs) (h (unwrap_or (find p xs) empty)) v ≡ option_map_or h (find p xs) v
found p h v [] = refl
found p h v (x ∷ xs) = elim (p x) as (λ b. cond (b || list_any p xs) (h (unwrap_or (cond b (Some x) (find p xs)) empty)) v ≡ option_map_or h (cond b (Some x) (find p xs)) v) [
  | true ↦ refl
  | false ↦ found p h v xs
]

mapped-same : (g h : Items → BaseVerdict) (v : BaseVerdict) → ((k : Items) → g k ≡ h k) → (o : Option Items) → option_map_or g o v ≡ option_map_or h o v
mapped-same g h v e None = refl
mapped-same g h v e (Some k) = e k

-- ---- gradation

double-is : (f : List Items) (k : Items) → is_double f k ≡ nat_lt 1 (len (own_by f k))
unfolding len
double-is f k = ap (λ l. nat_lt 1 (length l)) (atom_items-below f k)

swapped : (b : Bool) (v w : BaseVerdict) → cond (not b) v w ≡ cond b w v
swapped true v w = refl
swapped false v w = refl

pub graded-is-by : (whole : Items) (f : List Items) → is_space whole f ≡ true → base_verdict f ≡ graded_by f (base f)
graded-is-by whole f h =
    let named = λ (k : Items). NotGraded k (slice_index (atom_items f k) 0) (slice_index (atom_items f k) 1) in
    let k = unwrap_or (find (is_double f) (base f)) empty in
    ap (λ b. cond b Learning (named k)) (graded-space whole f h) ∙ swapped (list_any (is_double f) (base f)) Learning (named k)
    ∙ found (is_double f) named Learning (base f)
    ∙ mapped-same named (not_graded f) Learning (λ k. ap (λ l. NotGraded k (slice_index l 0) (slice_index l 1)) (atom_items-below f k)) (find (is_double f) (base f))
    ∙ ap (λ o. option_map_or (not_graded f) o Learning) (find-same (is_double f) (λ k. nat_lt 1 (len (own_by f k))) (base f) (double-is f))

-- the same by members that span
pub own_by-spanning : (f g : List Items) → IsPart g f → Spans g f → (k : Items) → own_by g k ≡ own_by f k
own_by-spanning f g part span k = same_set (own_by g k) (own_by f k) (λ q. sym (atom-below g q k) ∙ is_atom_at-spanning f g part span q k ∙ atom-below f q k)

pub graded_by-spanning : (f g b : List Items) → IsPart g f → Spans g f → graded_by g b ≡ graded_by f b
graded_by-spanning f g b part span =
    let own = own_by-spanning f g part span in
    mapped-same (not_graded g) (not_graded f) Learning (λ k. ap (λ s. NotGraded k (slice_index (items s) 0) (slice_index (items s) 1)) (own k)) (first_double g b)
    ∙ ap (λ o. option_map_or (not_graded f) o Learning) (find-same (λ k. nat_lt 1 (len (own_by g k))) (λ k. nat_lt 1 (len (own_by f k))) b (λ k. ap (λ s. nat_lt 1 (len s)) (own k)))

pub graded-by-base : (whole : Items) (f : List Items) → is_space whole f ≡ true → base_verdict f ≡ graded_by (base f) (base f)
graded-by-base whole f h = graded-is-by whole f h ∙ sym (graded_by-spanning f (base f) (base f) (base-member f) (base-spans f))

-- of a space that is told by its base
pub graded-of_base : (whole : Items) (n : ℕ) (b : List Items) → base (spanned n b) ≡ b → is_space whole (spanned n b) ≡ true → base_verdict (spanned n b) ≡ graded_by b b
graded-of_base whole n b e h = graded-by-base whole (spanned n b) h ∙ ap₂ graded_by e e

-- ---- the whole verdict

pub verdict-by-unions : (whole : Items) (f : List Items) → IsInOrder f → verdict whole f ≡ verdict_by_unions whole f
unfolding verdict
verdict-by-unions whole f order =
    elim (cases_Bool (is_among f empty)) [
      | inr h ↦ rw h refl
      | inl h ↦ elim (cases_Bool (is_among f whole)) [
        | inr g ↦ rw (h, g) refl
        | inl g ↦ go h g (unclosed_pair f) refl
      ]
    ]
  where
    by-needed : unclosed_pair f ≡ unclosed_pair_by (needed f) f
    by-needed = pair-spanning f (base f) order (base-member f) (base-spans f) ∙ ap (λ g. unclosed_pair_by g f) (base-below f order)

    go : is_among f empty ≡ true → is_among f whole ≡ true → (o : Option (Items × Items)) → unclosed_pair f ≡ o → verdict whole f ≡ verdict_by_unions whole f
    go h g (Some p) e = rw (h, g, e, sym by-needed ∙ e) refl
    go h g None e =
        let space = space-to whole f h g (closed-from f ((closed-pair f).1 e)) in
        let is = base-below f order in
        verdict-space whole f space ∙ ap (with_base (base f)) (graded-by-base whole f space)
        ∙ ap (λ b. with_base b (graded_by b b)) is ∙ rw (h, g, sym by-needed ∙ e) refl
