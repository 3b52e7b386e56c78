-- Lists of sets: all and some of them, filters, and lists in order.
use Rattle.ls_laws.proofs.Vocabulary.{◌&&◌, ◌||◌, ◌∙◌, ◌∷◌, ◌≡◌, All-filter, AllByRecursion, Bool, Each-among, IsInOrder, IsPart, Items, List, None, Some, [], among-cases, among-here, among-there, and_from, and_parts, ap, ap₂, cases_Bool, comes_before, comes_before-asymmetric, comes_before-irreflexive, cond, false, filter, find, inl, inr, is_among, list_all, list_any, or_cases, or_left, or_right, refl, subst, sym, true, true≢false}

-- ---- all and some of a list

pub every-among : (p : Items → Bool) (f : List Items) (l : Items) → list_all p f ≡ true → is_among f l ≡ true → p l ≡ true
every-among p [] l h c = absurd (true≢false (sym c))
every-among p (t ∷ f) l h c =
    let b = and_parts (p t) (list_all p f) h in
    elim (among-cases l t f c) [ inl e ↦ ap p e ∙ b.0 | inr a ↦ every-among p f l b.1 a ]

pub every-from : (p : Items → Bool) (f : List Items) → ((l : Items) → is_among f l ≡ true → p l ≡ true) → list_all p f ≡ true
every-from p [] h = refl
every-from p (t ∷ f) h = and_from (p t) (list_all p f) (h t (among-here t t f refl)) (every-from p f (λ l c. h l (among-there l t f c)))

pub some-among : (p : Items → Bool) (f : List Items) (k : Items) → is_among f k ≡ true → p k ≡ true → list_any p f ≡ true
some-among p [] k c h = c
some-among p (t ∷ f) k c h =
    elim (among-cases k t f c) [ inl e ↦ or_left (p t) (list_any p f) (sym (ap p e) ∙ h) | inr a ↦ or_right (p t) (list_any p f) (some-among p f k a h) ]

pub some-from : (p : Items → Bool) (f : List Items) → list_any p f ≡ true → (k : Items) × (is_among f k ≡ true) × (p k ≡ true)
some-from p [] h = absurd (true≢false (sym h))
some-from p (t ∷ f) h =
    elim (or_cases (p t) (list_any p f) h) [
      | inl a ↦ (t, among-here t t f refl, a)
      | inr a ↦ let r = some-from p f a in (r.0, among-there r.0 t f r.1, r.2)
    ]

pub some-filter : {X : Type 0} (p q : X → Bool) (xs : List X) → list_any q (filter p xs) ≡ list_any (λ x. p x && q x) xs
some-filter p q [] = refl
some-filter p q (x ∷ xs) = elim (p x) as (λ b. list_any q (cond b (x ∷ filter p xs) (filter p xs)) ≡ (b && q x || list_any (λ x. p x && q x) xs)) [
  | true ↦ ap (λ b. q x || b) (some-filter p q xs)
  | false ↦ some-filter p q xs
]

pub some-same : {X : Type 0} (p q : X → Bool) (xs : List X) → ((x : X) → p x ≡ q x) → list_any p xs ≡ list_any q xs
some-same p q [] h = refl
some-same p q (x ∷ xs) h = ap₂ (λ a b. a || b) (h x) (some-same p q xs h)

-- ---- filters and searches

pub find-none : (p : Items → Bool) (f : List Items) → ((l : Items) → is_among f l ≡ true → p l ≡ false) → find p f ≡ None
find-none p [] h = refl
find-none p (t ∷ f) h = rw (h t (among-here t t f refl)) (find-none p f (λ l c. h l (among-there l t f c)))

-- the one that passes
pub find-one : (p : Items → Bool) (f : List Items) (k : Items) → is_among f k ≡ true → p k ≡ true → ((l : Items) → is_among f l ≡ true → p l ≡ true → l ≡ k) → find p f ≡ Some k
find-one p [] k c h u = absurd (true≢false (sym c))
find-one p (t ∷ f) k c h u =
    elim (cases_Bool (p t)) [
      | inl a ↦ rw a (ap Some (u t (among-here t t f refl) a))
      | inr a ↦ elim (among-cases k t f c) [
        | inl e ↦ absurd (true≢false (sym h ∙ ap p e ∙ a))
        | inr b ↦ rw a (find-one p f k b h (λ l cl hl. u l (among-there l t f cl) hl))
      ]
    ]

-- ---- lists in order

pub IsInOrder-filter : (p : Items → Bool) (xs : List Items) → IsInOrder xs → IsInOrder (filter p xs)
IsInOrder-filter p [] h = tt
IsInOrder-filter p (x ∷ xs) h = elim (p x) as (λ b. IsInOrder (cond b (x ∷ filter p xs) (filter p xs))) [ true ↦ (All-filter (λ y. comes_before x y ≡ true) p xs h.0, IsInOrder-filter p xs h.1) | false ↦ IsInOrder-filter p xs h.1 ]

-- a set that each of the list comes after is not in it
pub not_among : (s : Items) (ss : List Items) → AllByRecursion (λ t. comes_before s t ≡ true) ss → is_among ss s ≡ true → ⊥
not_among s ss h c = true≢false (sym (Each-among (λ t. comes_before s t ≡ true) ss s h c) ∙ comes_before-irreflexive s)

-- the heads of two lists in order, each of which is in the other
same_head : (s t : Items) (ss ts : List Items) → IsInOrder (s ∷ ss) → IsInOrder (t ∷ ts) → is_among (t ∷ ts) s ≡ true → is_among (s ∷ ss) t ≡ true → s ≡ t
same_head s t ss ts h k c d =
    elim (among-cases s t ts c) [
      | inl e ↦ e
      | inr a ↦ elim (among-cases t s ss d) [
        | inl e ↦ sym e
        | inr b ↦ absurd (true≢false (sym (Each-among (λ x. comes_before s x ≡ true) ss t h.0 b) ∙ comes_before-asymmetric t s (Each-among (λ x. comes_before t x ≡ true) ts s k.0 a)))
      ]
    ]

-- the members of the tail
pub tail_part : (s : Items) (ss ts : List Items) → IsInOrder (s ∷ ss) → IsPart (s ∷ ss) (s ∷ ts) → IsPart ss ts
tail_part s ss ts h part x c =
    elim (among-cases x s ts (part x (among-there x s ss c))) [
      | inl e ↦ absurd (not_among s ss h.0 (subst (λ y. is_among ss y ≡ true) e c))
      | inr a ↦ a
    ]

-- two lists in order with the same sets are one
pub same_members : (f g : List Items) → IsInOrder f → IsInOrder g → IsPart f g → IsPart g f → f ≡ g
same_members [] [] h k p q = refl
same_members [] (t ∷ ts) h k p q = absurd (true≢false (sym (q t (among-here t t ts refl))))
same_members (s ∷ ss) [] h k p q = absurd (true≢false (sym (p s (among-here s s ss refl))))
same_members (s ∷ ss) (t ∷ ts) h k p q =
    let e : s ≡ t = same_head s t ss ts h k (p s (among-here s s ss refl)) (q t (among-here t t ts refl)) in
    ap₂ (λ x xs. x ∷ xs) e (same_members ss ts h.1 k.1
    (tail_part s ss ts h (λ x c. subst (λ y. is_among (y ∷ ts) x ≡ true) (sym e) (p x c)))
    (tail_part t ts ss k (λ x c. subst (λ y. is_among (y ∷ ss) x ≡ true) e (q x c))))
