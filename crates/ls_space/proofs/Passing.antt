-- The sets of a list that are not the union of sets soon after them: the others are unions of
-- these.
use Rattle.ls_space.proofs.Vocabulary.{Bool, Decides-is_same, Each-among, Each-from, IsInOrder}
use Rattle.ls_space.proofs.Vocabulary.{IsPart, Items, List, Spans, [], among-append, among-cases}
use Rattle.ls_space.proofs.Vocabulary.{among-here, among-there, ap, append-nil, append_assoc, arith}
use Rattle.ls_space.proofs.Vocabulary.{base-needed, comes_before, cond, drop, drop-next, drop_all}
use Rattle.ls_space.proofs.Vocabulary.{empty, false, get_or, get_or-map-range_with_len}
use Rattle.ls_space.proofs.Vocabulary.{get_or_read_under, inl, inr, interior, interior-member}
use Rattle.ls_space.proofs.Vocabulary.{interior-through, is_among, is_same, is_union_of_next}
use Rattle.ls_space.proofs.Vocabulary.{length, length-drop, min, needed, next_sets, or_left, refl}
use Rattle.ls_space.proofs.Vocabulary.{subst, sym, take, take-append-drop, take_all, take_min, true}
use Rattle.ls_space.proofs.Vocabulary.{true≢false, unions_of_next, ℕ, ◌++◌, ◌+◌, ◌-◌, ◌<◌, ◌∙◌, ◌∷◌}
use Rattle.ls_space.proofs.Vocabulary.{◌≡◌, ◌≤◌, ◌⊎◌}

among-take : (n : ℕ) (f : List Items) (l : Items) → is_among (take n f) l ≡ true → is_among f l ≡
    true
among-take n f l h =
    ap (λ g. is_among g l) (sym (take-append-drop n f)) ∙ among-append (take n f) (drop n f) l ∙
    or_left (is_among (take n f) l) (is_among (drop n f) l) h

pub next-told : (f after part : List Items) (i m : ℕ) (k : Items) (b : Bool) → i < length f → k ≡
    get_or f i k → after ≡ take (length f - (i + 1)) (drop (i + 1) f)
    → m ≡ min 32 (length after) → part ≡ take m after → b ≡ is_same (interior part k) k → b ≡
    is_union_of_next f i
next-told f after part i m k b l e is-after is-m is-part told =
    let whole : after ≡ drop (i + 1) f = is-after ∙ take_all (length f - (i + 1)) (drop (i + 1) f)
    (omega (arith, length-drop (i + 1) f)) in
    let next : part ≡ next_sets f i = is-part ∙ ap (λ n. take n after) is-m ∙ take_min 32 after ∙ ap
    (take 32) whole in
    told ∙ ap (λ g. is_same (interior g k) k) next ∙ ap (λ s. is_same (interior (next_sets f i) s)
    s) (get_or_read_under f i (length f) k empty e l refl)

-- what is told of a place of all
pub told-at : (f : List Items) (us : List Bool) (i : ℕ) (d : Bool) → i < length f → us ≡
    unions_of_next f → get_or us i d ≡ is_union_of_next f i
told-at f us i d l e = let at : 0 + i ≡ i = omega arith in ap (λ bs. get_or bs i d) e ∙
    get_or-map-range_with_len (is_union_of_next f) 0 (length f) i i d l at

-- ---- the sets that are not

abbrev pub kept : List Items → List Items
kept [] = []
kept (k ∷ rest) = cond (is_same (interior (take 32 rest) k) k) (kept rest) (k ∷ kept rest)

kept-cases : (k : Items) (rest : List Items) → ((interior (take 32 rest) k ≡ k) × (kept (k ∷ rest) ≡
    kept rest)) ⊎ (kept (k ∷ rest) ≡ k ∷ kept rest)
kept-cases k rest = elim (is_same (interior (take 32 rest) k) k) as (λ b. is_same (interior (take 32
    rest) k) k ≡ b → ((interior (take 32 rest) k ≡ k) × (cond b (kept rest) (k ∷ kept rest) ≡ kept
    rest)) ⊎ (cond b (kept rest) (k ∷ kept rest) ≡ k ∷ kept rest)) [
      | true ↦ λ e. inl ((Decides-is_same (interior (take 32 rest) k) k).0 e, refl)
      | false ↦ λ e. inr refl
    ] refl

kept-part : (f : List Items) → IsPart (kept f) f
kept-part [] l c = c
kept-part (k ∷ rest) l c = elim (kept-cases k rest) [
  | inl h ↦ among-there l k rest (kept-part rest l (ap (λ g. is_among g l) (sym h.1) ∙ c))
  | inr h ↦ elim (among-cases l k (kept rest) (ap (λ g. is_among g l) (sym h) ∙ c)) [
    | inl e ↦
        among-here l k rest e
    | inr d ↦ among-there l k rest (kept-part rest l d)
  ]
]

pub kept-in_order : (f : List Items) → IsInOrder f → IsInOrder (kept f)
kept-in_order [] order = order
kept-in_order (k ∷ rest) order = elim (kept-cases k rest) [
  | inl h ↦ subst IsInOrder (sym h.1) (kept-in_order rest order.1)
  | inr h ↦ subst IsInOrder (sym h) (
    Each-from (λ t. comes_before k t ≡ true) (kept rest) (λ t c. Each-among (λ t. comes_before k t ≡
        true) rest t order.0 (kept-part rest t c)),
    kept-in_order rest order.1,
  )
]

kept-spans : (f : List Items) → Spans (kept f) f
kept-spans [] l c = absurd (true≢false (sym c))
kept-spans (k ∷ rest) l c = elim (kept-cases k rest) [
  | inl h ↦ ap (λ g. interior g l) h.1 ∙ elim (among-cases l k rest c) [
    | inl e ↦ subst (λ s. interior (kept rest) s ≡ s) (sym e) (interior-through (take 32 rest) (kept
        rest) k (λ s d. kept-spans rest s (among-take 32 rest s d)) h.0)
    | inr d ↦ kept-spans rest l d
  ]
  | inr h ↦ ap (λ g. interior g l) h ∙ elim (among-cases l k rest c) [
    | inl e ↦ interior-member (k ∷ kept rest) l (among-here l k (kept rest) e)
    | inr d ↦ interior-through (kept rest) (k ∷ kept rest) l (λ s a. interior-member (k ∷ kept rest)
        s (among-there s k (kept rest) a)) (kept-spans rest l d)
  ]
]

pub needed-kept : (f : List Items) → IsInOrder f → needed (kept f) ≡ needed f
needed-kept f order =
    sym (base-needed f (kept f) order (kept-in_order f order) (kept-part f) (kept-spans f)) ∙
    base-needed f f order order (λ l h. h) (λ l h. interior-member f l h)

-- ---- a walk over the list

-- what was kept so far, and what is kept of the rest, is what is kept of all
abbrev pub IsKept : List Items → List Items → ℕ → Type 0
IsKept left f i = left ++ kept (drop i f) ≡ kept f

pub kept-all : (left f : List Items) (i : ℕ) → length f ≤ i → IsKept left f i → left ≡ kept f
kept-all left f i l had = sym (append-nil left) ∙ ap (λ g. left ++ kept g) (sym (drop_all i f l)) ∙
    had

module _ (left f : List Items) (i : ℕ) (k : Items) (l : i < length f) (e : k ≡ get_or f i k) (had :
    IsKept left f i) where
  next : is_union_of_next f i ≡ is_same (interior (take 32 (drop (i + 1) f)) k) k
  next = ap (λ s. is_same (interior (next_sets f i) s) s) (sym (get_or_read_under f i (length f) k
      empty e l refl))

  pub kept-passed : is_union_of_next f i ≡ true → IsKept left f (i + 1)
  kept-passed told = sym (ap (λ g. left ++ g) (ap kept (drop-next f i k l e) ∙ rw (sym next ∙ told)
      refl)) ∙ had

  pub kept-taken : (new : List Items) → new ≡ left ++ k ∷ [] → is_union_of_next f i ≡ false → IsKept
      new f (i + 1)
  kept-taken new is told =
      ap (λ g. g ++ kept (drop (i + 1) f)) is ∙ append_assoc left (k ∷ []) (kept (drop (i + 1) f))
      ∙ sym (ap (λ g. left ++ g) (ap kept (drop-next f i k l e) ∙ rw (sym next ∙ told) refl)) ∙ had
