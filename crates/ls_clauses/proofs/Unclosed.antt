-- Whether a list is closed under union, and the pair that is named where it is not, by any of its sets that span it.
use Rattle.ls_clauses.proofs.Vocabulary.{◌++◌, ◌||◌, ◌∙◌, ◌∷◌, ◌≡◌, ◌⊎◌, Bool, Each-among, IsInOrder, IsPart, IsWithin, Items, List, None, Option, Some, Spans, ℕ, [], among-append, among-cases, among-filter, among-here, among-there, and_parts, ap, append_assoc, arith, both_ways, cases_Bool, closed-from, closed-to, comes_before, comes_before-asymmetric, comes_before-at, comes_before-irreflexive, cond, empty, every-among, every-from, false, filter, find, find-none, first_partner, has, has-empty, inl, inr, interior, is_among, is_closed_with, is_missing, is_union_closed, is_within, least, len, len-zero, length, list_all, list_any, map, members, minus, not, not_from_false, not_from_true, option_map, option_or, or_cases, or_right, pairs, refl, same_set, same_within, some-among, some-from, subst, sym, true, true≢false, unclosed_pair, unclosed_pair_by, union, union-empty_right, union-left, union_assoc, unions}
use Rattle.std.proofs.lemmas.List.Folds.{find-append}
use Rattle.ls_set.proofs.Ascending.{least-cases}
use Rattle.ls_set.proofs.Firsts.{items-none}

-- ---- unions, set by set

pub union_comm : (s t : Items) → union s t ≡ union t s
union_comm s t = same_set (union s t) (union t s) (λ i. grind (arith, members))

union-self : (s : Items) → union s s ≡ s
union-self s = same_set (union s s) s (λ i. grind (arith, members))

-- what each union with one set keeps, the union with all of a list keeps
joins-all : (P : Items → Type 0) (g : List Items) → ((u b : Items) → P u → is_among g b ≡ true → P (union u b))
    → (parts : List Items) → ((b : Items) → is_among parts b ≡ true → is_among g b ≡ true) → (u : Items) → P u → P (union u (unions parts))
joins-all P g step [] part u h = subst P (sym (union-empty_right u)) h
joins-all P g step (b ∷ bs) part u h =
    subst P (union_assoc u b (unions bs))
    (joins-all P g step bs (λ x a. part x (among-there x b bs a)) (union u b) (step u b h (part b (among-here b b bs refl))))

joins-interior : (P : Items → Type 0) (g : List Items) → ((u b : Items) → P u → is_among g b ≡ true → P (union u b)) → (l u : Items) → P u → P (union u (interior g l))
unfolding interior
joins-interior P g step l u h = joins-all P g step (filter (λ k. is_within k l) g) (λ b a. (and_parts (is_among g b) (is_within b l) (sym (among-filter (λ k. is_within k l) g b) ∙ a)).0) u h

-- ---- the test

closed-with : (f g : List Items) → ((k b : Items) → is_among f k ≡ true → is_among g b ≡ true → is_among f (union k b) ≡ true) → is_closed_with g f ≡ true
closed-with f g h = every-from (λ k. list_all (λ b. is_among f (union k b)) g) f (λ k c. every-from (λ b. is_among f (union k b)) g (λ b d. h k b c d))

with-closed : (f g : List Items) → is_closed_with g f ≡ true → (k b : Items) → is_among f k ≡ true → is_among g b ≡ true → is_among f (union k b) ≡ true
with-closed f g h k b c d = every-among (λ b. is_among f (union k b)) g b (every-among (λ k. list_all (λ b. is_among f (union k b)) g) f k h c) d

pub closed-spanning : (f g : List Items) → IsPart g f → Spans g f → is_union_closed f ≡ is_closed_with g f
closed-spanning f g part span = both_ways (is_union_closed f) (is_closed_with g f)
    (λ h. closed-with f g (λ k b c d. closed-from f h k b c (part b d)))
    (λ h. closed-to f (λ k l c d. subst (λ t. is_among f (union k t) ≡ true) (span l d)
    (joins-interior (λ u. is_among f u ≡ true) g (with-closed f g h) l k c)))

-- ---- the pair

none_left : (s : Items) → least s ≡ None → s ≡ empty
unfolding len
none_left s e = len-zero s (ap length (items-none s e))

-- a set that has another is the same or comes before it
pub before-part : (x u : Items) → IsWithin x u → (u ≡ x) ⊎ (comes_before u x ≡ true)
before-part x u w = go (least (minus u x)) refl
  where
    go : (o : Option ℕ) → least (minus u x) ≡ o → (u ≡ x) ⊎ (comes_before u x ≡ true)
    go None e = inl (same_within u x (λ i h.
        let none : has (minus u x) i ≡ false = ap (λ s. has s i) (none_left (minus u x) e) ∙ has-empty i in
        grind (arith, members)) w)
    go (Some i) e =
        let at = least-cases (minus u x) i e in
        inr (comes_before-at u x i (record {
          in_first = let h : has (minus u x) i ≡ true = at.0 in grind (arith, members);
          not_in_second = let h : has (minus u x) i ≡ true = at.0 in grind (arith, members);
          same_below = λ j l. both_ways (has u j) (has x j) (λ a. let h : has (minus u x) j ≡ false = at.1 j l in grind (arith, members)) (w j);
        }))

abbrev is_unclosed : List Items → Items × Items → Bool
is_unclosed f p = not (is_among f (union p.0 p.1))

find-paired : (p : Items × Items → Bool) (x : Items) (xs : List Items) → find p (map (λ y. (x, y)) xs) ≡ option_map (λ y. (x, y)) (find (λ y. p (x, y)) xs)
find-paired p x [] = refl
find-paired p x (y ∷ xs) = elim (p (x, y)) as (λ b. cond b (Some (x, y)) (find p (map (λ y. (x, y)) xs)) ≡ option_map (λ y. (x, y)) (cond b (Some y) (find (λ y. p (x, y)) xs))) [
  | true ↦ refl
  | false ↦ find-paired p x xs
]

find-pairs : (p : Items × Items → Bool) (x : Items) (xs : List Items) → find p (pairs (x ∷ xs)) ≡ option_or (option_map (λ y. (x, y)) (find (λ y. p (x, y)) xs)) (find p (pairs xs))
find-pairs p x xs = find-append p (map (λ y. (x, y)) xs) (pairs xs) ∙ ap (λ o. option_or o (find p (pairs xs))) (find-paired p x xs)

find-some : (p : Items → Bool) (xs : List Items) → list_any p xs ≡ true → (x : Items) × (find p xs ≡ Some x)
find-some p [] h = absurd (true≢false (sym h))
find-some p (x ∷ xs) h = elim (p x) as (λ b. (b || list_any p xs) ≡ true → (y : Items) × (cond b (Some x) (find p xs) ≡ Some y)) [
  | true ↦ λ _. (x, refl)
  | false ↦ λ h. find-some p xs h
] h

-- the union of y with each member is one
abbrev IsClean : List Items → Items → Type 0
IsClean f y = (l : Items) → is_among f l ≡ true → is_among f (union y l) ≡ true

-- those before x are clean, and so is x with the sets of g: then it is clean
clean-first : (f g before xs : List Items) (x : Items) → before ++ x ∷ xs ≡ f → IsInOrder (x ∷ xs) → IsPart g f → Spans g f
    → ((y : Items) → is_among before y ≡ true → IsClean f y) → list_any (is_missing f x) g ≡ false → IsClean f x
clean-first f g before xs x e order part span clean none l c =
    subst (λ t. is_among f (union x t) ≡ true) (span l c) (joins-interior (λ u. (is_among f u ≡ true) × IsWithin x u) g step l x (here, λ i h. h)).0
  where
    here : is_among f x ≡ true
    here = ap (λ ss. is_among ss x) (sym e) ∙ among-append before (x ∷ xs) x ∙ or_right (is_among before x) (is_among (x ∷ xs) x) (among-here x x xs refl)

    earlier : (y : Items) → is_among f y ≡ true → comes_before y x ≡ true → is_among before y ≡ true
    earlier y a b = elim (or_cases (is_among before y) (is_among (x ∷ xs) y) (sym (among-append before (x ∷ xs) y) ∙ ap (λ ss. is_among ss y) e ∙ a)) [
      | inl h ↦ h
      | inr h ↦ elim (among-cases y x xs h) [
        | inl s ↦ absurd (true≢false (sym b ∙ ap (λ t. comes_before t x) s ∙ comes_before-irreflexive x))
        | inr s ↦ absurd (true≢false (sym b ∙ comes_before-asymmetric x y (Each-among (λ t. comes_before x t ≡ true) xs y order.0 s)))
      ]
    ]

    with-x : (b : Items) → is_among g b ≡ true → is_among f (union x b) ≡ true
    with-x b d = elim (cases_Bool (is_among f (union x b))) [
      | inl a ↦ a
      | inr a ↦ absurd (true≢false (sym (some-among (is_missing f x) g b d (not_from_false (is_among f (union x b)) a)) ∙ none))
    ]

    step : (u b : Items) → (is_among f u ≡ true) × IsWithin x u → is_among g b ≡ true → (is_among f (union u b) ≡ true) × IsWithin x (union u b)
    step u b h d = (
      elim (before-part x u h.1) [
        | inl s ↦ subst (λ t. is_among f (union t b) ≡ true) (sym s) (with-x b d)
        | inr s ↦ clean u (earlier u h.0 s) b (part b d)
      ],
      λ i a. union-left u b i (h.1 i a),
    )

-- the search, from a place on before which all are clean
pair-from : (f g before xs : List Items) → before ++ xs ≡ f → IsInOrder xs → IsPart g f → Spans g f
    → ((y : Items) → is_among before y ≡ true → IsClean f y)
    → find (is_unclosed f) (pairs xs) ≡ option_map (λ k. (k, first_partner f k)) (find (λ k. list_any (is_missing f k) g) xs)
pair-from f g before [] e order part span clean = refl
pair-from f g before (x ∷ xs) e order part span clean =
    find-pairs (is_unclosed f) x xs ∙ elim (cases_Bool (list_any (is_missing f x) g)) [
      | inl a ↦
          let b = some-from (is_missing f x) g a in
          let r = find-some (is_missing f x) f (some-among (is_missing f x) f b.0 (part b.0 b.1) b.2) in
          rw (sym same ∙ r.1, a, r.1) refl
      | inr a ↦
          let whole = clean-first f g before xs x e order part span clean a in
          let none : find (is_missing f x) xs ≡ None = find-none (is_missing f x) xs (λ l c. not_from_true (is_among f (union x l)) (whole l (later l c))) in
          rw (none, a) (pair-from f g (before ++ x ∷ []) xs (append_assoc before (x ∷ []) xs ∙ e) order.1 part span (λ y c. elim (or_cases (is_among before y) (is_among (x ∷ []) y) (sym (among-append before (x ∷ []) y) ∙ c)) [
            | inl h ↦ clean y h
            | inr h ↦ elim (among-cases y x [] h) [ inl s ↦ subst (IsClean f) (sym s) whole | inr s ↦ absurd (true≢false (sym s)) ]
          ]))
    ]
  where
    later : (l : Items) → is_among xs l ≡ true → is_among f l ≡ true
    later l c = ap (λ ss. is_among ss l) (sym e) ∙ among-append before (x ∷ xs) l ∙ or_right (is_among before l) (is_among (x ∷ xs) l) (among-there l x xs c)

    member : is_among f x ≡ true
    member = ap (λ ss. is_among ss x) (sym e) ∙ among-append before (x ∷ xs) x ∙ or_right (is_among before x) (is_among (x ∷ xs) x) (among-here x x xs refl)

    -- no partner of x stands before it
    same : find (is_missing f x) f ≡ find (is_missing f x) xs
    same =
        ap (find (is_missing f x)) (sym e) ∙ find-append (is_missing f x) before (x ∷ xs)
        ∙ ap (λ o. option_or o (find (is_missing f x) (x ∷ xs))) (find-none (is_missing f x) before (λ y c. not_from_true (is_among f (union x y)) (ap (is_among f) (union_comm x y) ∙ clean y c x member)))
        ∙ rw (not_from_true (is_among f (union x x)) (ap (is_among f) (union-self x) ∙ member)) refl

pub pair-spanning : (f g : List Items) → IsInOrder f → IsPart g f → Spans g f → unclosed_pair f ≡ unclosed_pair_by g f
pair-spanning f g order part span = pair-from f g [] f refl order part span (λ y c. absurd (true≢false (sym c)))
