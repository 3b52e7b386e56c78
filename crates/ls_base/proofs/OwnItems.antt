-- The items of a base set that no base set below it has: those at which it is an atom.
use Rattle.ls_base.proofs.Vocabulary.{Bool, Decides-is_same, IsInOrder, IsWithin, IsWithin-from, Items, List, Some, [], add-one, among-filter, among-here, among-there, and_from, and_parts, ap, arith, as_many, atom_items, base, base-in_order, base-member, base-needed, base-spans, bound, bound-has, cases_eq, drop, drop-next, drop_all, empty, eq-eqb, eqb-true, false, false_from_ne_true, filter, filter-both, from-interior, get_or, has, has-empty, has-interior, has-meet, has-minus, has-single, has-union, inl, inr, interior-within, is_among, is_atom_at, is_proper, is_same, is_within, is_within-from, items, leb, len, len-one, len-single, len-zero, length, length-drop, list_any, ltb, meet, members, minus, needed, not, not-true, not_from_false, numbers_from, or_cases, or_right, refl, same_set, same_within, set_of, single, slice_get, slice_get_read, some-filter, some-same, subst, suc, sym, take, take_all, to-interior, true, true_from_ne_false, true≢false, union, union-empty_right, union_below, zero, ℕ, ◌&&◌, ◌+◌, ◌-◌, ◌<◌, ◌∙◌, ◌∷◌, ◌≡◌, ◌≢◌, ◌≤◌}
use Rattle.std.proofs.lemmas.Bool.Decides.{nat_tests}
use Rattle.ls_set.proofs.Cursors.{has-set_of-filter}
use Rattle.ls_base.proofs.Below.{below-unites}
use Rattle.ls_base.proofs.Spanned.{is_atom_at-base}
use Rattle.ls_base.proofs.Reduced.{below-first, below-later}

-- ---- a walk from the end

-- what is left of s when what is known, and the sets from a place on, are taken away
abbrev pub IsOwn : Items → Items → Items → List Items → ℕ → Type 0
IsOwn own s known sets i = own ≡ minus s (union known (union_below (drop i sets) s))

-- of what is known all that is in s is in a set below it
abbrev pub IsTold : Items → Items → List Items → Type 0
IsTold s known sets = IsWithin (meet s known) (union_below sets s)

pub minus-none : (s : Items) → s ≡ minus s empty
minus-none s = same_set s (minus s empty) (λ i. grind (arith, members))

pub told-none : (s : Items) (sets : List Items) → IsTold s empty sets
told-none s sets j h = absurd (true≢false (sym (and_parts (has s j) (has empty j)
    (sym (has-meet s empty j) ∙ h)).1 ∙ has-empty j))

-- one more set that lies below it is told of
pub told-more : (s known next more : Items) (sets : List Items) → more ≡ union known next
    → is_proper next s ≡ true → is_among sets next ≡ true → IsTold s known sets
    → IsTold s more sets
told-more s known next more sets is proper there told j h =
    let both = and_parts (has s j) (has more j) (sym (has-meet s more j) ∙ h) in
    let either = sym (has-union known next j) ∙ ap (λ u. has u j) (sym is) ∙ both.1 in
    elim (or_cases (has known j) (has next j) either) [
      | inl a ↦ told j (has-meet s known j ∙ and_from (has s j) (has known j) both.0 a)
      | inr b ↦ to-interior (filter (λ l. is_proper l s) sets) s next j
          (among-filter (λ l. is_proper l s) sets next
          ∙ and_from (is_among sets next) (is_proper next s) there proper)
          (IsWithin-from next s (and_parts (is_within next s) (not (is_same next s)) proper).0) b
    ]

minus-more : (s u v k : Items) → minus (minus s (union v u)) k ≡ minus s (union v (union k u))
minus-more s u v k =
    same_set (minus (minus s (union v u)) k) (minus s (union v (union k u)))
    (λ i. grind (arith, members))

pub own-none : (s known own : Items) (sets : List Items) → own ≡ minus s known
    → IsOwn own s known sets (length sets)
own-none s known own sets is =
    is ∙ ap (minus s) (sym (union-empty_right known))
    ∙ ap (λ u. minus s (union known u)) (sym (below-unites s).none)
    ∙ ap (λ f. minus s (union known (union_below f s))) (sym (drop_all (length sets) sets
    (omega arith)))

module _ (s known own next k : Items) (sets : List Items) (i : ℕ) (l : i < length sets)
    (e : k ≡ get_or sets i k) (had : IsOwn own s known sets (i + 1)) where
  pub own-taken : is_proper k s ≡ true → next ≡ minus own k → IsOwn next s known sets i
  own-taken t is =
      is ∙ ap (λ u. minus u k) had ∙ minus-more s (union_below (drop (i + 1) sets) s) known k
      ∙ ap (λ u. minus s (union known u)) (sym ((below-unites s).taken k t (drop (i + 1) sets)))
      ∙ ap (λ f. minus s (union known (union_below f s))) (sym (drop-next sets i k l e))

among-drop : (i : ℕ) (f : List Items) (k : Items) → is_among (drop i f) k ≡ true → is_among f k ≡ true
among-drop zero f k c = c
among-drop (suc i) [] k c = c
among-drop (suc i) (t ∷ f) k c = among-there k t f (among-drop i f k c)

below-drop : (i : ℕ) (f : List Items) (s : Items) → IsWithin (union_below (drop i f) s) (union_below f s)
below-drop i f s j h =
    let p = λ (l : Items). is_proper l s in
    let r = from-interior (filter p (drop i f)) s j h in
    let x = and_parts (is_among (drop i f) r.0) (p r.0) (sym (among-filter p (drop i f) r.0) ∙ r.1) in
    to-interior (filter p f) s r.0 j (among-filter p f r.0 ∙ and_from (is_among f r.0) (p r.0) (among-drop i f r.0 x.0) x.1) r.2 r.3

-- nothing that is no set's below s is taken away
module _ (s known own : Items) (sets : List Items) (i : ℕ) (had : IsOwn own s known sets i)
    (told : IsTold s known sets) where
  own-keeps : IsWithin (minus s (union_below sets s)) own
  own-keeps j h =
      let all = union_below sets s in
      let part = union_below (drop i sets) s in
      let x = and_parts (has s j) (not (has all j)) (sym (has-minus s all j) ∙ h) in
      ap (λ u. has u j) had ∙ has-minus s (union known part) j
      ∙ and_from (has s j) (not (has (union known part) j)) x.0
      (not_from_false _ (false_from_ne_true _ (λ y. elim (or_cases (has known j) (has part j)
      (sym (has-union known part j) ∙ y)) [
        | inl a ↦ true≢false (sym (told j (has-meet s known j ∙ and_from (has s j) (has known j)
            x.0 a)) ∙ not-true (has all j) x.1)
        | inr b ↦ true≢false (sym (below-drop i sets s j b) ∙ not-true (has all j) x.1)
      ])))

pub own-all : (s known own : Items) (sets : List Items) → IsOwn own s known sets 0
    → IsTold s known sets → own ≡ minus s (union_below sets s)
own-all s known own sets had told =
    let all = union_below sets s in
    same_within own (minus s all) (λ j h.
    let x = and_parts (has s j) (not (has (union known all) j))
    (sym (has-minus s (union known all) j) ∙ ap (λ u. has u j) (sym had) ∙ h) in
    has-minus s all j ∙ and_from (has s j) (not (has all j)) x.0
    (not_from_false (has all j) (false_from_ne_true (has all j) (λ y.
    true≢false (sym (has-union known all j ∙ or_right (has known j) (has all j) y)
    ∙ not-true (has (union known all) j) x.1)))))
    (own-keeps s known own sets 0 had told)

-- where one item is left, it stays
pub own-one : (s known own : Items) (sets : List Items) (i : ℕ) → IsOwn own s known sets i
    → IsTold s known sets → len own ≡ 1 → is_same (union_below sets s) s ≡ false
    → own ≡ minus s (union_below sets s)
own-one s known own sets i had told one less =
    let all = union_below sets s in
    sym (as_many (minus s all) own (own-keeps s known own sets i had told)
    (omega (arith, some_left s all (interior-within (filter (λ l. is_proper l s) sets) s) less)))
  where
    some_left : (s all : Items) → IsWithin all s → is_same all s ≡ false → 1 ≤ len (minus s all)
    some_left s all small less = elim (cases_eq (len (minus s all)) 0) [
      | inl e ↦ absurd (true≢false (sym ((Decides-is_same all s).1 (same_within all s small (λ j h.
          true_from_ne_false (has all j) (λ y. true≢false (sym (has-minus s all j ∙ and_from (has s j) (not (has all j)) h (not_from_false (has all j) y)) ∙ ap (λ u. has u j) (len-zero (minus s all) e) ∙ has-empty j))))) ∙ less))
      | inr n ↦ omega arith
    ]

-- ---- items that are sets alone

pub among-place : (f : List Items) (p : ℕ) (k : Items) → slice_get f p ≡ Some k → is_among f k ≡ true
among-place [] p k e = absurd (cc e)
among-place (t ∷ f) zero k e = among-here k t f (let q : k ≡ t = cc in q)
among-place (t ∷ f) (suc p) k e = among-there k t f (among-place f p k e)

-- each of the items is alone a set of the list
abbrev pub AreSingles : Items → List Items → Type 0
AreSingles singles sets = (i : ℕ) → has singles i ≡ true → is_among sets (single i) ≡ true

pub singles-more : (u v k : Items) (sets : List Items) (i : ℕ) → i < length sets
    → k ≡ get_or sets i k → len k ≡ 1 → AreSingles u sets → v ≡ union u k → AreSingles v sets
singles-more u v k sets i l e one had is j h =
    elim (or_cases (has u j) (has k j) (sym (has-union u k j) ∙ ap (λ s. has s j) (sym is) ∙ h)) [
      | inl a ↦ had j a
      | inr b ↦
          let x = len-one k one in
          let same : j ≡ x.0 = eqb-true j x.0 (sym (has-single x.0 j)
          ∙ ap (λ s. has s j) (sym x.1) ∙ b) in
          ap (is_among sets) (ap single same ∙ sym x.1)
          ∙ among-place sets i k (slice_get_read sets (length sets) i k refl l e)
    ]

-- a set of several items has none of these for its own
pub singles-told : (singles k : Items) (sets : List Items) → AreSingles singles sets → len k ≢ 1
    → IsTold k singles sets
singles-told singles k sets had many j h =
    let p = λ (l : Items). is_proper l k in
    let x = and_parts (has k j) (has singles j) (sym (has-meet k singles j) ∙ h) in
    let w : IsWithin (single j) k = λ i a.
    ap (has k) (eqb-true i j (sym (has-single j i) ∙ a)) ∙ x.0 in
    let other = not_from_false (is_same (single j) k) (false_from_ne_true (is_same (single j) k)
    (λ e. many (sym (ap len ((Decides-is_same (single j) k).0 e)) ∙ len-single j))) in
    to-interior (filter p sets) k (single j) j
    (among-filter p sets (single j) ∙ and_from (is_among sets (single j)) (p (single j)) (had j x.1)
    (and_from (is_within (single j) k) (not (is_same (single j) k))
    (is_within-from (single j) k w) other))
    w (has-single j j ∙ eq-eqb j j refl)

-- ---- the sets of a base

-- what lies below a set of a list in order lies after it
pub below-place : (f : List Items) (p : ℕ) (k : Items) → IsInOrder f → slice_get f p ≡ Some k → union_below f k ≡ union_below (drop (suc p) f) k
below-place [] p k order e = absurd (cc e)
below-place (t ∷ f) zero k order e = let q : t ≡ k = cc in subst (λ x. union_below (x ∷ f) k ≡ union_below f k) (sym q) (below-first k f)
below-place (t ∷ f) (suc p) k order e = below-later t f k order (among-place f p k e) ∙ below-place f p k order.1 e

-- no base set is the union of those below it
pub base-less : (f : List Items) (k : Items) → IsInOrder f → is_among (base f) k ≡ true → is_same (union_below (base f) k) k ≡ false
unfolding needed
base-less f k order c =
    let is = base-needed f (base f) order (base-in_order f order) (base-member f) (base-spans f) in
    let g = base f in
    not-true (is_same (union_below g k) k) (and_parts (is_among g k) (not (is_same (union_below g k) k)) (sym (among-filter (λ l. not (is_same (union_below g l) l)) g k) ∙ ap (λ h. is_among h k) (sym is) ∙ c)).1

-- so no set of a base is the union of those below it
pub base-needs : (f sets : List Items) → IsInOrder f → base f ≡ sets → (k : Items)
    → is_among sets k ≡ true → is_same (union_below sets k) k ≡ false
base-needs f sets order is k c =
    ap (λ g. is_same (union_below g k) k) (sym is)
    ∙ base-less f k order (ap (λ g. is_among g k) is ∙ c)

has-below : (g : List Items) (k : Items) (i : ℕ) → has (union_below g k) i ≡ list_any (λ l. has l i && is_within l k && not (is_same l k)) g
has-below g k i =
    has-interior (filter (λ l. is_proper l k) g) k i ∙ some-filter (λ l. is_proper l k) (λ l. is_within l k && has l i) g
    ∙ some-same (λ l. is_proper l k && (is_within l k && has l i)) (λ l. has l i && is_within l k && not (is_same l k)) g (λ l. turned (is_within l k) (not (is_same l k)) (has l i))
  where
    turned : (a b c : Bool) → ((a && b) && (a && c)) ≡ ((c && a) && b)
    turned true true true = refl
    turned true true false = refl
    turned true false true = refl
    turned true false false = refl
    turned false true true = refl
    turned false true false = refl
    turned false false true = refl
    turned false false false = refl

has-atom_items : (f : List Items) (k : Items) (i : ℕ) → has (set_of (atom_items f k)) i ≡ is_atom_at f i k
unfolding items
has-atom_items f k i =
    ap (λ is. has (set_of is) i) (filter-both (has k) (λ q. is_atom_at f q k) (numbers_from 0 (bound k)))
    ∙ has-set_of-filter (λ q. has k q && is_atom_at f q k) 0 (bound k) i
    ∙ within (has k i) (not (list_any (λ l. has l i && is_within l k && not (is_same l k)) f)) (bound-has k i)
  where
    within : (h r : Bool) → (h ≡ true → i < bound k) → (leb 0 i && ltb i (0 + bound k) && (h && (h && r))) ≡ (h && r)
    within true r l = grind (arith, nat_tests, l refl)
    within false r l = grind (arith, nat_tests)

-- the items at which a base set is an atom
pub own-atoms : (f : List Items) (k : Items) → minus k (union_below (base f) k) ≡ set_of (atom_items f k)
own-atoms f k = same_set (minus k (union_below (base f) k)) (set_of (atom_items f k)) (λ i.
    has-minus k (union_below (base f) k) i ∙ ap (λ b. has k i && not b) (has-below (base f) k i) ∙ is_atom_at-base f i k ∙ sym (has-atom_items f k i))

-- what lies below the set at a place of the base lies in the part after it
-- so what lies below a set of a list in order is told by the sets behind it
pub after-place : (sets after : List Items) (p : ℕ) (k : Items) → IsInOrder sets
    → p < length sets → k ≡ get_or sets p k
    → after ≡ take (length sets - (p + 1)) (drop (p + 1) sets)
    → union_below after k ≡ union_below sets k
after-place sets after p k order l e rest =
    let at : slice_get sets p ≡ Some k = slice_get_read sets (length sets) p k refl l e in
    let whole : after ≡ drop (suc p) sets =
    rest ∙ take_all (length sets - (p + 1)) (drop (p + 1) sets)
    (omega (arith, length-drop (p + 1) sets)) ∙ ap (λ i. drop i sets) (add-one p) in
    ap (λ g. union_below g k) whole ∙ sym (below-place sets p k order at)

pub own-place : (f sets after : List Items) (p : ℕ) (k : Items) → IsInOrder f → base f ≡ sets → p < length sets → k ≡ get_or sets p k → after ≡ take (length sets - (p + 1)) (drop (p + 1) sets) → union_below after k ≡ union_below (base f) k
own-place f sets after p k order is l e rest =
    after-place sets after p k (subst IsInOrder is (base-in_order f order)) l e rest
    ∙ ap (λ g. union_below g k) (sym is)

pub own-less : (f sets after : List Items) (p : ℕ) (k : Items) → IsInOrder f → base f ≡ sets → p < length sets → k ≡ get_or sets p k → after ≡ take (length sets - (p + 1)) (drop (p + 1) sets) → is_same (union_below after k) k ≡ false
own-less f sets after p k order is l e rest =
    let at : slice_get sets p ≡ Some k = slice_get_read sets (length sets) p k refl l e in
    ap (λ u. is_same u k) (own-place f sets after p k order is l e rest)
    ∙ base-less f k order (ap (λ g. is_among g k) is ∙ among-place sets p k at)
