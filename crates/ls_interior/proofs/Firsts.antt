-- The first set of a list in order that lies within another set.
use Rattle.std.proofs.Common.{ℕ, zero, suc, ◌-◌, ◌<◌, ◌≤◌, ◌≡◌, inl, inr, Bool, true, false, List, [], ◌∷◌, length, length-drop, take, drop, get_or, find, Some, refl, sym, ap, ◌∙◌, arith, true≢false}
use Rattle.std.specs.List.{AllByRecursion}
use Rattle.std.specs.List.Sorted.{IsPartitionedBy}
use Rattle.std.proofs.lemmas.Bool.{false_from_ne_true}
use Rattle.std.proofs.lemmas.List.{take_all}
use Rattle.ls_set.specs.{IsInOrder, Items, comes_before, empty, is_among, is_within}
use Rattle.ls_set.proofs.Sets.{IsWithin-from, is_within-from}
use Rattle.ls_set.proofs.Members.{among-here, among-there, among-cases, Each-among}
use Rattle.ls_set.proofs.Order.{differs_first, comes_before-transitive}
use Rattle.ls_theory.specs.{interior}
use Rattle.ls_laws.specs.Families.{IsFamily}
use Rattle.ls_laws.proofs.Interiors.{interior-is}

-- a set does not lie within one that it comes before
earlier-apart : (s t : Items) → comes_before s t ≡ true → is_within s t ≡ false
earlier-apart s t before = false_from_ne_true (is_within s t) (λ w.
    let at = (differs_first s t before).1 in
    true≢false (sym (IsWithin-from s t w _ at.in_first) ∙ at.not_in_second))

-- what holds of each holds of the one at a place
each-at : {X : Type 0} (P : X → Type 0) (xs : List X) (i : ℕ) (d : X) → AllByRecursion P xs → i < length xs → P (get_or xs i d)
each-at P [] i d h l = absurd (omega arith)
each-at P (x ∷ xs) zero d h l = h.0
each-at P (x ∷ xs) (suc i) d h l = each-at P xs i d h.1 (omega arith)

-- in a list in order no set that comes before s follows one that does not
pub parted : (sets : List Items) (s : Items) → IsInOrder sets → IsPartitionedBy (λ k. comes_before k s) sets
parted [] s order i j d a b h = absurd (omega arith)
parted (t ∷ sets) s order zero zero d a b h = h
parted (t ∷ sets) s order (suc i) zero d a b h = absurd (omega arith)
parted (t ∷ sets) s order zero (suc j) d a b h = comes_before-transitive t (get_or sets j d) s (each-at (λ k. comes_before t k ≡ true) sets j d order.0 (omega arith)) h
parted (t ∷ sets) s order (suc i) (suc j) d a b h = parted sets s order.1 i j d (omega arith) (omega arith) h

-- where the first m sets come before s, none of them is the first within it
first-after : (sets : List Items) (s : Items) (m : ℕ) → ((k : ℕ) → k < m → comes_before (get_or sets k empty) s ≡ true) → m ≤ length sets
    → find (λ k. is_within k s) (drop m sets) ≡ find (λ k. is_within k s) sets
first-after sets s zero before l = refl
first-after [] s (suc m) before l = refl
first-after (t ∷ sets) s (suc m) before l = rw (earlier-apart t s (before 0 (omega arith))) (first-after sets s m (λ k a. before (suc k) (omega arith)) (omega arith))

-- what is found is the member that passes where none before it does
first-passing : (p : Items → Bool) (f : List Items) (k : Items) → IsInOrder f → is_among f k ≡ true → p k ≡ true
    → ((l : Items) → is_among f l ≡ true → comes_before l k ≡ true → p l ≡ false) → find p f ≡ Some k
first-passing p [] k order c h none = absurd (true≢false (sym c))
first-passing p (t ∷ f) k order c h none = elim (among-cases k t f c) [
  | inl e ↦ rw (sym (ap p e) ∙ h) (ap Some (sym e))
  | inr a ↦ rw (none t (among-here t t f refl) (Each-among (λ x. comes_before t x ≡ true) f k order.0 a)) (first-passing p f k order.1 a h (λ l c. none l (among-there l t f c)))
]

-- the first member within s is the interior of s
first-interior : (n : ℕ) (f : List Items) (s : Items) → IsFamily n f → find (λ k. is_within k s) f ≡ Some (interior f s)
first-interior n f s family =
    let greatest = interior-is f family.holds_empty family.holds_unions s in
    first-passing (λ k. is_within k s) f (interior f s) family.in_order greatest.member (is_within-from (interior f s) s greatest.within)
    (λ l c before. false_from_ne_true (is_within l s) (λ w. true≢false (sym (is_within-from l (interior f s) (greatest.greatest l c (IsWithin-from l s w))) ∙ earlier-apart l (interior f s) before)))

-- what is found from a place on, where all sets before it come before s
pub interior-from : (n : ℕ) (f : List Items) (s : Items) (m : ℕ) → IsFamily n f → m ≤ length f → ((k : ℕ) → k < m → comes_before (get_or f k empty) s ≡ true)
    → find (λ k. is_within k s) (take (length f - m) (drop m f)) ≡ Some (interior f s)
interior-from n f s m family l before =
    ap (find (λ k. is_within k s)) (take_all (length f - m) (drop m f) (omega (arith, length-drop m f)))
    ∙ first-after f s m before l
    ∙ first-interior n f s family
