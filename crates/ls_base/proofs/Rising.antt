-- Lists of sets that rise by size: what lies within a set stands before it.
use Rattle.ls_base.proofs.Vocabulary.{◌&&◌, ◌++◌, ◌+◌, ◌<◌, ◌∙◌, ◌∷◌, ◌≡◌, ◌≤◌, Bool}
use Rattle.ls_base.proofs.Vocabulary.{Decides-is_same, Each-among, IsInOrder, IsInOrder-filter}
use Rattle.ls_base.proofs.Vocabulary.{IsPermutation, IsWithin, Items, List, ℕ, [], among-append}
use Rattle.ls_base.proofs.Vocabulary.{among-cases, among-filter, among-here, among-there, and_from}
use Rattle.ls_base.proofs.Vocabulary.{and_parts, ap, ap₂, append-nil, arith, cond, drop, drop-next}
use Rattle.ls_base.proofs.Vocabulary.{false, false_from_ne_true, filter, filter-append}
use Rattle.ls_base.proofs.Vocabulary.{from-interior, get_or, has, inl, inr, is_among, is_proper}
use Rattle.ls_base.proofs.Vocabulary.{is_same, is_within, is_within-from, len, len-within, length}
use Rattle.ls_base.proofs.Vocabulary.{list_any-IsPermutation, needed, not, not_from_false, or_cases}
use Rattle.ls_base.proofs.Vocabulary.{or_right, refl, same_members, same_within, subst, suc, sym}
use Rattle.ls_base.proofs.Vocabulary.{take, take-append-drop, take_all, take_more, to-interior}
use Rattle.ls_base.proofs.Vocabulary.{true, true≢false, union_below, zero}
use Rattle.std.specs.List.Sorted.{IsNonDecreasingBy}
use Rattle.ls_base.specs.Sizes.{Rises}
use Rattle.ls_base.proofs.Orders.{Each-from}
use Rattle.ls_base.proofs.Below.{interior-same}
use Rattle.ls_base.proofs.Joins.{less-proper}
use Rattle.ls_base.proofs.Reduced.{needed-spans}

pub Rises-from : (xs : List Items) → IsNonDecreasingBy len xs → Rises xs
Rises-from [] h = tt
Rises-from (s ∷ []) h = (tt, tt)
Rises-from (s ∷ t ∷ ts) h =
    let rest = Rises-from (t ∷ ts) (λ i j d a b. h (suc i) (suc j) d (omega arith) (omega arith)) in
    let first : len s ≤ len t = h 0 1 s (omega arith) (omega arith) in (
      (
        first,
        Each-from (λ u. len s ≤ len u) ts (λ u c. let more = Each-among (λ u. len t ≤ len u) ts
            u rest.0 c in omega arith),
      ),
      rest,
    )

pub Rises-filter : (p : Items → Bool) (xs : List Items) → Rises xs → Rises (filter p xs)
Rises-filter p [] h = tt
Rises-filter p (x ∷ xs) h =
    let rest = Rises-filter p xs h.1 in
    elim (p x) as (λ b. Rises (cond b (x ∷ filter p xs) (filter p xs))) [
      | true ↦ (
        Each-from (λ u. len x ≤ len u) (filter p xs) (λ u c. Each-among (λ u. len x ≤ len u)
            xs u h.0 (and_parts (is_among xs u) (p u) (sym (among-filter p xs u) ∙ c)).0),
        rest,
      )
      | false ↦ rest
    ]

pub among-take : (i : ℕ) (xs : List Items) (u : Items) → is_among (take i xs) u ≡ true → is_among xs
    u ≡ true
among-take zero xs u c = absurd (true≢false (sym c))
among-take (suc i) [] u c = c
among-take (suc i) (x ∷ xs) u c = elim (among-cases u x (take i xs) c) [
  | inl e ↦ among-here u x xs e
  | inr d ↦ among-there u x xs (among-take i xs u d)
]

pub Rises-take : (i : ℕ) (xs : List Items) → Rises xs → Rises (take i xs)
Rises-take zero xs h = tt
Rises-take (suc i) [] h = tt
Rises-take (suc i) (x ∷ xs) h = (
  Each-from (λ u. len x ≤ len u) (take i xs) (λ u c. Each-among (λ u.
      len x ≤ len u) xs u h.0 (among-take i xs u c)),
  Rises-take i xs h.1,
)

pub Rises-drop : (i : ℕ) (xs : List Items) → Rises xs → Rises (drop i xs)
Rises-drop zero xs h = h
Rises-drop (suc i) [] h = tt
Rises-drop (suc i) (x ∷ xs) h = Rises-drop i xs h.1

Rises-push : (xs : List Items) (k : Items) → Rises xs → ((l : Items) → is_among xs l ≡ true → len l
    ≤ len k) → Rises (xs ++ k ∷ [])
Rises-push [] k h few = (tt, tt)
Rises-push (x ∷ xs) k h few = (
  Each-from (λ u. len x ≤ len u) (xs ++ k ∷ []) (λ u c. elim (or_cases (is_among xs u) (is_among (k
      ∷ []) u) (sym (among-append xs (k ∷ []) u) ∙ c)) [
        | inl a ↦ Each-among (λ u. len x ≤ len u) xs u h.0 a
        | inr b ↦ elim (among-cases u k [] b) [
          | inl e ↦ subst (λ u. len x ≤ len u) (sym e) (few x
              (among-here x x xs refl))
          | inr none ↦ absurd (true≢false (sym none))
        ]
      ]),
  Rises-push xs k h.1 (λ l c. few l (among-there l x xs c)),
)

Rises-last : (xs : List Items) (k l : Items) → Rises (xs ++ k ∷ []) → is_among xs l ≡ true → len l ≤
    len k
Rises-last [] k l h c = absurd (true≢false (sym c))
Rises-last (x ∷ xs) k l h c = elim (among-cases l x xs c) [
  | inl e ↦ subst (λ u. len u ≤ len k) (sym e) (Each-among (λ u. len x ≤ len u) (xs ++ k ∷ []) k h.0
      (among-append xs (k ∷ []) k ∙ or_right (is_among xs k) (is_among (k ∷ []) k) (among-here k k
      [] refl)))
  | inr d ↦ Rises-last xs k l h.1 d
]

-- a set with fewer items stands before
among-smaller : (sets : List Items) (i : ℕ) (k l : Items) → Rises sets → i < length sets → k ≡
    get_or sets i k → is_among sets l ≡ true → len l < len k → is_among (take i sets) l ≡ true
among-smaller sets i k l rises bound at c less =
    let rest = drop (i + 1) sets in
    let split = drop-next sets i k bound at in
    let later = subst Rises split (Rises-drop i sets rises) in
    let parts = ap (λ f. is_among f l) (sym (ap (λ f. take i sets ++ f) (sym split) ∙
    take-append-drop i sets)) in
    elim (or_cases (is_among (take i sets) l) (is_among (k ∷ rest) l) (sym (among-append (take i
    sets) (k ∷ rest) l) ∙ sym parts ∙ c)) [
      | inl a ↦ a
      | inr b ↦ elim (among-cases l k rest b) [
        | inl e ↦ let same = ap len e in absurd (omega arith)
        | inr d ↦ let more = Each-among (λ u. len k ≤ len u) rest l later.0 d in absurd (omega
            arith)
      ]
    ]

-- ---- sets that lie within another

pub smaller-proper : (l k : Items) → IsWithin l k → len l < len k → is_proper l k ≡ true
smaller-proper l k w less =
    and_from (is_within l k) (not (is_same l k)) (is_within-from l k w)
    (not_from_false (is_same l k) (false_from_ne_true (is_same l k) (λ e. let same = ap len
    ((Decides-is_same l k).0 e) in absurd (omega arith))))

pub not_within-not_proper : (l k : Items) → is_within l k ≡ false → is_proper l k ≡ false
not_within-not_proper l k h = rw h refl

pub larger-not_proper : (l k : Items) → len k ≤ len l → is_proper l k ≡ false
larger-not_proper l k more = false_from_ne_true (is_proper l k) (λ p. let less = less-proper l k p
    in absurd (omega arith))

-- ---- what is needed, by a walk

needed-among : (f : List Items) (k : Items) → is_among (needed f) k ≡ (is_among f k && not (is_same
    (union_below f k) k))
unfolding needed
needed-among f k = among-filter (λ l. not (is_same (union_below f l) l)) f k

-- whether a set is no union of others of the list
abbrev pub is_needed : List Items → Items → Bool
is_needed sets k = not (is_same (union_below sets k) k)

abbrev pub IsWalked : List Items → List Items → ℕ → Type 0
IsWalked found sets i = found ≡ filter (is_needed sets) (take i sets)

module _ (sets found : List Items) (i : ℕ) (k : Items) (rises : Rises sets) (bound : i < length
    sets) (at : k ≡ get_or sets i k) (had : IsWalked found sets i) where
  proper : Items → Bool
  proper l = is_proper l k

  -- the sets that were found join to the same union below the next
  walked-below : union_below found k ≡ union_below sets k
  walked-below = same_within (union_below found k) (union_below sets k)
      (λ j h.
      let r = from-interior (filter (λ l. is_proper l k) found) k j h in
      let x = and_parts (is_among found r.0) (is_proper r.0 k) (sym (among-filter (λ l. is_proper l
      k) found r.0) ∙ r.1) in
      let y = and_parts (is_among (take i sets) r.0) (is_needed sets r.0) (sym (among-filter
      (is_needed sets) (take i sets) r.0) ∙ ap (λ f. is_among f r.0) (sym had) ∙ x.0) in
      to-interior (filter (λ l. is_proper l k) sets) k r.0 j (among-filter (λ l. is_proper l k) sets
      r.0 ∙ and_from (is_among sets r.0) (is_proper r.0 k) (among-take i sets r.0 y.0) x.1) r.2
      r.3)
      (λ j h.
      let r = from-interior (filter (λ l. is_proper l k) sets) k j h in
      let x = and_parts (is_among sets r.0) (is_proper r.0 k) (sym (among-filter (λ l. is_proper l
      k) sets r.0) ∙ r.1) in
      let less = less-proper r.0 k x.1 in
      let m = from-interior (needed sets) r.0 j (ap (λ s. has s j) (needed-spans sets r.0 x.0) ∙
      r.3) in
      let y = and_parts (is_among sets m.0) (is_needed sets m.0) (sym (needed-among sets m.0) ∙ m.1)
      in
      let few = len-within m.0 r.0 m.2 in
      let within : IsWithin m.0 k = λ q a. r.2 q (m.2 q a) in
      let before = among-smaller sets i k m.0 rises bound at y.0 (omega arith) in
      to-interior (filter (λ l. is_proper l k) found) k m.0 j
      (among-filter (λ l. is_proper l k) found m.0
      ∙ and_from (is_among found m.0) (is_proper m.0 k)
      (ap (λ f. is_among f m.0) had ∙ among-filter (is_needed sets) (take i sets) m.0 ∙ and_from
      (is_among (take i sets) m.0) (is_needed sets m.0) before y.1)
      (smaller-proper m.0 k within (omega arith)))
      within m.3)

  more : filter (is_needed sets) (take (i + 1) sets) ≡ found ++ filter (is_needed sets) (k ∷ [])
  more =
      ap (filter (is_needed sets)) (take_more sets i k bound ∙ ap (λ s. take i sets ++ s ∷ []) (sym
      at))
      ∙ filter-append (is_needed sets) (take i sets) (k ∷ []) ∙ ap (λ f. f ++ filter (is_needed
      sets) (k ∷ [])) (sym had)

  pub walked-taken : (new : List Items) → new ≡ found ++ k ∷ [] → is_same (union_below found k) k ≡
      false → IsWalked new sets (i + 1)
  walked-taken new is h = is ∙ sym (more ∙ rw (ap (λ u. is_same u k) (sym walked-below) ∙ h) refl)

  pub walked-passed : is_same (union_below found k) k ≡ true → IsWalked found sets (i + 1)
  walked-passed h = sym (more ∙ rw (ap (λ u. is_same u k) (sym walked-below) ∙ h) (append-nil
      found))

  pub walked-rises : Rises (found ++ k ∷ [])
  walked-rises =
      let whole = subst Rises (take_more sets i k bound ∙ ap (λ s. take i sets ++ s ∷ []) (sym at))
      (Rises-take (i + 1) sets rises) in
      Rises-push found k (subst Rises (sym had) (Rises-filter (is_needed sets) (take i sets)
      (Rises-take i sets rises)))
      (λ l c. Rises-last (take i sets) k l whole
      (and_parts (is_among (take i sets) l) (is_needed sets l) (sym (among-filter (is_needed sets)
      (take i sets) l) ∙ ap (λ f. is_among f l) (sym had) ∙ c)).0)

pub walked-all : (sets found : List Items) (i : ℕ) → length sets ≤ i → IsWalked found sets i → found
    ≡ needed sets
unfolding needed
walked-all sets found i all had = had ∙ ap (filter (is_needed sets)) (take_all i sets all)

-- ---- put in order again

below-moved : (f g : List Items) (k : Items) → ((l : Items) → is_among f l ≡ is_among g l) →
    union_below f k ≡ union_below g k
below-moved f g k same =
    let p = λ (l : Items). is_proper l k in
    interior-same (filter p f) (filter p g) k (λ l. among-filter p f l ∙ ap (λ b. b && p l) (same l)
    ∙ sym (among-filter p g l))

needed-moved : (f g : List Items) (k : Items) → ((l : Items) → is_among f l ≡ is_among g l) →
    is_among (needed f) k ≡ is_among (needed g) k
needed-moved f g k same =
    needed-among f k ∙ ap₂ (λ b u. b && not (is_same u k)) (same k) (below-moved f g k same) ∙ sym
    (needed-among g k)

needed-order : (f : List Items) → IsInOrder f → IsInOrder (needed f)
unfolding needed
needed-order f order = IsInOrder-filter (λ k. not (is_same (union_below f k) k)) f order

pub needed-sorted : (sets by_size found v : List Items) → IsInOrder sets → IsPermutation sets
    by_size → found ≡ needed by_size → IsInOrder v → ((k : Items) → is_among v k ≡ is_among found k)
    → v ≡ needed sets
needed-sorted sets by_size found v order moved is v_order same =
    let all = λ (k : Items). same k ∙ ap (λ f. is_among f k) is ∙ needed-moved by_size sets k (λ l.
    sym (list_any-IsPermutation (is_same l) sets by_size moved)) in
    same_members v (needed sets) v_order (needed-order sets order) (λ k c. sym (all k) ∙ c) (λ k c.
    all k ∙ c)
