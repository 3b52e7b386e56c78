-- The base of a family, told by any list of its members that spans it.
use Rattle.ls_laws.proofs.Vocabulary.{◌&&◌, ◌∙◌, ◌≡◌, Decides-is_same, IsInOrder, AreOn, IsPart, Items, List, Spans, ℕ, among-filter, among-subsets, and_from, and_parts, ap, base, cases_Bool, empty, empty-within, false_from_ne_true, filter, full, has, has-union, inl, inr, interior, is_among, is_proper, is_same, is_within, is_within-from, needed, not, not-true, not_from_false, or_cases, same_truth, same_within, spanned, subsets, subsets_from-in_order, subst, sym, true, true≢false, union, union-left, union-right}
use Rattle.ls_laws.proofs.Lists.{IsInOrder-filter, same_members}
use Rattle.ls_laws.proofs.Interiors.{IsUnionFamily, subsets-IsUnionFamily, filter-IsUnionFamily, from-interior, interior-whole, interior-member, interior-among}
use Rattle.ls_laws.proofs.Atoms.{among-base, base-atom, base-member, base-spans, base-least, atom_within}

-- The base of f is, of any members that span f, those that are not the union of the others within them.
pub base-of : (f g : List Items) → IsPart g f → Spans g f
    → (k : Items) → is_among (base f) k ≡ is_among (needed g) k
unfolding needed
base-of f g part span k = same_truth (is_among (base f) k) (is_among g k && not (is_same (interior others k) k)) there back ∙ sym (among-filter (λ k. not (is_same (interior (filter (λ l. is_proper l k) g) k) k)) g k)
  where
    others : List Items
    others = filter (λ l. is_proper l k) g

    there : is_among (base f) k ≡ true → (is_among g k && not (is_same (interior others k) k)) ≡ true
    there c =
        let r = base-atom f k c in
        let a = r.1 in
        and_from (is_among g k) (not (is_same (interior others k) k)) (base-least f g part span k c)
        (not_from_false (is_same (interior others k) k) (false_from_ne_true (is_same (interior others k) k) (λ e.
        let x = from-interior others k r.0 (ap (λ s. has s r.0) ((Decides-is_same (interior others k) k).0 e) ∙ a.has_q) in
        let y = and_parts (is_among g x.0) (is_proper x.0 k) (sym (among-filter (λ l. is_proper l k) g x.0) ∙ x.1) in
        let z = and_parts (is_within x.0 k) (not (is_same x.0 k)) y.1 in
        true≢false (sym ((Decides-is_same x.0 k).1 (a.least x.0 (part x.0 y.0) x.2 x.3)) ∙ not-true (is_same x.0 k) z.1))))

    back : (is_among g k && not (is_same (interior others k) k)) ≡ true → is_among (base f) k ≡ true
    back h =
        let x = and_parts (is_among g k) (not (is_same (interior others k) k)) h in
        elim (cases_Bool (is_among (base f) k)) [
          | inl c ↦ c
          | inr c ↦
              let whole : interior others k ≡ k = interior-whole others k (λ q hq.
              let r = atom_within f k q (part k x.0) hq in
              let a = r.1 in
              let ba = among-base f q r.0 a in
              let differ = false_from_ne_true (is_same r.0 k) (λ e. true≢false (sym (ap (is_among (base f)) (sym ((Decides-is_same r.0 k).0 e)) ∙ ba) ∙ c)) in (
                r.0,
                among-filter (λ l. is_proper l k) g r.0 ∙ and_from (is_among g r.0) (is_proper r.0 k) (base-least f g part span r.0 ba)
                    (and_from (is_within r.0 k) (not (is_same r.0 k)) (is_within-from r.0 k r.2) (not_from_false (is_same r.0 k) differ)),
                r.2,
                a.has_q,
              )) in
              absurd (true≢false (sym ((Decides-is_same (interior others k) k).1 whole) ∙ not-true (is_same (interior others k) k) x.1))
        ]

-- ---- the sets that a list spans

pub among-spanned : (n : ℕ) (g : List Items) (k : Items) → is_among (spanned n g) k ≡ (is_within k (full n) && is_same (interior g k) k)
unfolding spanned
among-spanned n g k = among-filter (λ k. is_same (interior g k) k) (subsets n) k ∙ ap (λ b. b && is_same (interior g k) k) (among-subsets n k)

pub interior-empty : (g : List Items) → interior g empty ≡ empty
interior-empty g = same_within (interior g empty) empty (λ i h. let r = from-interior g empty i h in r.2 i r.3) (empty-within (interior g empty))

pub interior-union : (g : List Items) (s t : Items) → interior g s ≡ s → interior g t ≡ t → interior g (union s t) ≡ union s t
interior-union g s t a b = interior-whole g (union s t) (λ q h. elim (or_cases (has s q) (has t q) (sym (has-union s t q) ∙ h)) [
  | inl x ↦ let r = from-interior g s q (ap (λ u. has u q) a ∙ x) in (r.0, r.1, (λ i y. union-left s t i (r.2 i y)), r.3)
  | inr x ↦ let r = from-interior g t q (ap (λ u. has u q) b ∙ x) in (r.0, r.1, (λ i y. union-right s t i (r.2 i y)), r.3)
])

pub spanned-IsUnionFamily : (n : ℕ) (g : List Items) → IsUnionFamily n (spanned n g)
unfolding spanned
spanned-IsUnionFamily n g = filter-IsUnionFamily n (subsets n) (λ k. is_same (interior g k) k)
    ((Decides-is_same (interior g empty) empty).1 (interior-empty g))
    (λ s t a b. (Decides-is_same (interior g (union s t)) (union s t)).1 (interior-union g s t ((Decides-is_same (interior g s) s).0 a) ((Decides-is_same (interior g t) t).0 b)))
    (subsets-IsUnionFamily n)

-- a set of the list is one of them
pub spanned-has : (n : ℕ) (g : List Items) → AreOn n g → IsPart g (spanned n g)
spanned-has n g small k c =
    among-spanned n g k ∙ and_from (is_within k (full n)) (is_same (interior g k) k) (is_within-from k (full n) (small k c))
    ((Decides-is_same (interior g k) k).1 (interior-member g k c))

pub spanned-whole : (n : ℕ) (g : List Items) → Spans g (spanned n g)
spanned-whole n g k c = (Decides-is_same (interior g k) k).0 (and_parts (is_within k (full n)) (is_same (interior g k) k) (sym (among-spanned n g k) ∙ c)).1

-- members that span a family span nothing else
pub spanned-same : (n : ℕ) (f g : List Items) → IsUnionFamily n f → IsPart g f → Spans g f
    → (k : Items) → is_among (spanned n g) k ≡ is_among f k
spanned-same n f g family part span k = same_truth (is_among (spanned n g) k) (is_among f k)
    (λ c. subst (λ s. is_among f s ≡ true) (spanned-whole n g k c) (interior-among f g family.holds_empty family.holds_unions part k))
    (λ c. among-spanned n g k ∙ and_from (is_within k (full n)) (is_same (interior g k) k) (is_within-from k (full n) (family.small k c)) ((Decides-is_same (interior g k) k).1 (span k c)))

-- ---- the same as lists in order

pub base-in_order : (f : List Items) → IsInOrder f → IsInOrder (base f)
unfolding base
base-in_order f h = IsInOrder-filter _ f h

needed-in_order : (g : List Items) → IsInOrder g → IsInOrder (needed g)
unfolding needed
needed-in_order g h = IsInOrder-filter _ g h

pub spanned-in_order : (n : ℕ) (g : List Items) → IsInOrder (spanned n g)
unfolding spanned
spanned-in_order n g = IsInOrder-filter _ (subsets n) (subsets_from-in_order 0 n)

same_list : (f g : List Items) → IsInOrder f → IsInOrder g → ((k : Items) → is_among f k ≡ is_among g k) → f ≡ g
same_list f g h k e = same_members f g h k (λ s c. sym (e s) ∙ c) (λ s c. e s ∙ c)

-- the base, from any members in order that span
pub base-needed : (f g : List Items) → IsInOrder f → IsInOrder g → IsPart g f → Spans g f → base f ≡ needed g
base-needed f g a b part span = same_list (base f) (needed g) (base-in_order f a) (needed-in_order g b) (base-of f g part span)

-- the base of what a list in order spans
pub spanned-needed : (n : ℕ) (g : List Items) → IsInOrder g → AreOn n g → base (spanned n g) ≡ needed g
spanned-needed n g h small = base-needed (spanned n g) g (spanned-in_order n g) h (spanned-has n g small) (spanned-whole n g)

-- what the base of a family spans is the family
pub spanned-base : (n : ℕ) (f : List Items) → IsInOrder f → IsUnionFamily n f → spanned n (base f) ≡ f
spanned-base n f h family = same_list (spanned n (base f)) f (spanned-in_order n (base f)) h (spanned-same n f (base f) family (base-member f) (base-spans f))
