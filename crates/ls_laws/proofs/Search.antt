-- The families on n items are the lists in order of sets of those items, and the search through them finds each that fits.
use Rattle.ls_laws.proofs.Vocabulary.{◌&&◌, ◌||◌, ◌↔◌, ◌∙◌, ◌∷◌, ◌≡◌, ◌≢◌, All-append, All-kept, All-list_all, All-map, All-to, AllByRecursion, Bool, Each-among, IsInOrder, AreOn, IsPart, IsWithin-from, Items, List, Query, Start, ℕ, [], among-cases, among-here, among-subsets, among-there, and_from, and_parts, ap, comes_before, comes_before-asymmetric, compat, false, families, fits, fitting_spaces, full, inl, inr, is_among, is_compatible, is_space, is_within, is_within-from, list_all, list_all-All, list_all-append, list_all-filter, list_all-map, map, not, refl, some_breaks, sublists, subsets, subsets_from-in_order, subst, sym, true, true≢false}
use Rattle.ls_laws.proofs.Lists.{every-among, every-from, not_among, tail_part}
use Rattle.ls_laws.proofs.Interiors.{space-from, space-to, family-from}
use Rattle.ls_laws.proofs.Compat.{among-compat}
use Rattle.ls_laws.proofs.Fit.{Fits}

AllByRecursion-from : (P : Items → Type 0) (f : List Items) → ((k : Items) → is_among f k ≡ true → P k) → AllByRecursion P f
AllByRecursion-from P [] h = tt
AllByRecursion-from P (t ∷ f) h = (h t (among-here t t f refl), AllByRecursion-from P f (λ k c. h k (among-there k t f c)))

-- ---- the sublists of a list in order are the lists in order of its members

-- x and then some that all come after it
pub in_order-cons : (x : Items) (xs ys : List Items) → IsInOrder (x ∷ xs) → IsInOrder ys → IsPart ys xs → IsInOrder (x ∷ ys)
in_order-cons x xs ys h k part = (AllByRecursion-from (λ t. comes_before x t ≡ true) ys (λ t c. Each-among (λ t. comes_before x t ≡ true) xs t h.0 (part t c)), k)

pub IsPart-cons : (x : Items) (ys xs : List Items) → IsPart ys xs → IsPart (x ∷ ys) (x ∷ xs)
IsPart-cons x ys xs part t c = elim (among-cases t x ys c) [ inl e ↦ among-here t x xs e | inr a ↦ among-there t x xs (part t a) ]

-- what holds of each list in order of members holds of each sublist
pub sublists-each : (P : List Items → Type 0) (g : List Items) → IsInOrder g → ((f : List Items) → IsInOrder f → IsPart f g → P f) → AllByRecursion P (sublists g)
sublists-each P [] o h = (h [] tt (λ x c. c), tt)
sublists-each P (x ∷ xs) o h = All-append P (map (λ ys. x ∷ ys) (sublists xs)) (sublists xs)
    (All-map P (λ ys. x ∷ ys) (sublists xs) (sublists-each (λ ys. P (x ∷ ys)) xs o.1 (λ ys k part. h (x ∷ ys) (in_order-cons x xs ys o k part) (IsPart-cons x ys xs part))))
    (sublists-each P xs o.1 (λ ys k part. h ys k (λ t c. among-there t x xs (part t c))))

-- where the first of f is not x, x is not in f
pub past_head : (x : Items) (xs : List Items) (y : Items) (ys : List Items) → IsInOrder (x ∷ xs) → IsInOrder (y ∷ ys) → is_among xs y ≡ true → IsPart (y ∷ ys) (x ∷ xs) → IsPart (y ∷ ys) xs
past_head x xs y ys o k a part t c =
    elim (among-cases t x xs (part t c)) [
      | inr b ↦ b
      | inl e ↦ elim (among-cases t y ys c) [
        | inl i ↦ absurd (not_among x xs o.0 (subst (λ s. is_among xs s ≡ true) (sym i ∙ e) a))
        | inr b ↦ absurd (true≢false (sym (Each-among (λ s. comes_before x s ≡ true) xs y o.0 a)
            ∙ comes_before-asymmetric y x (subst (λ s. comes_before y s ≡ true) e (Each-among (λ s. comes_before y s ≡ true) ys t k.0 b))))
      ]
    ]

pub all_sublists-each : (P : List Items → Bool) (g : List Items) → IsInOrder g → list_all P (sublists g) ≡ true → (f : List Items) → IsInOrder f → IsPart f g → P f ≡ true
all_sublists-each P [] o h [] k part = (and_parts (P []) true h).0
all_sublists-each P [] o h (y ∷ ys) k part = absurd (true≢false (sym (part y (among-here y y ys refl))))
all_sublists-each P (x ∷ xs) o h f k part =
    let p = and_parts (list_all P (map (λ ys. x ∷ ys) (sublists xs))) (list_all P (sublists xs)) (sym (list_all-append P (map (λ ys. x ∷ ys) (sublists xs)) (sublists xs)) ∙ h) in
    let with_x = all_sublists-each (λ ys. P (x ∷ ys)) xs o.1 (sym (list_all-map P (λ ys. x ∷ ys) (sublists xs)) ∙ p.0) in
    let without_x = all_sublists-each P xs o.1 p.1 in
    elim f as (λ f. IsInOrder f → IsPart f (x ∷ xs) → P f ≡ true) [
      | [] ↦ λ k part. without_x [] tt (λ t c. absurd (true≢false (sym c)))
      | y ∷ ys ↦ λ k part. elim (among-cases y x xs (part y (among-here y y ys refl))) [
        | inl e ↦ subst (λ t. P (t ∷ ys) ≡ true) (sym e) (with_x ys k.1 (tail_part x ys xs (subst (λ t. IsInOrder (t ∷ ys)) e k) (subst (λ t. IsPart (t ∷ ys) (x ∷ xs)) e part)))
        | inr a ↦ without_x (y ∷ ys) k (past_head x xs y ys o k a part)
      ]
    ] k part

-- ---- the search for those that fit

pub fits-from : (n : ℕ) (start : Start) (yeses nos : List Query) (f : List Items) → Fits n (compat n start yeses) nos f → fits n start yeses nos f ≡ true
fits-from n start yeses nos f h =
    and_from (is_space (full n) f && list_all (is_compatible start yeses) f) (list_all (some_breaks f) nos)
    (and_from (is_space (full n) f) (list_all (is_compatible start yeses) f)
    (space-to (full n) f h.is_family.holds_empty h.holds_full h.is_family.holds_unions)
    (every-from (is_compatible start yeses) f (λ k c. (and_parts (is_within k (full n)) (is_compatible start yeses k) (sym (among-compat n start yeses k) ∙ h.compatible k c)).1)))
    (All-list_all (some_breaks f) nos h.broken)

pub fits-is : (n : ℕ) (start : Start) (yeses nos : List Query) (f : List Items) → IsInOrder f → AreOn n f → fits n start yeses nos f ≡ true → Fits n (compat n start yeses) nos f
fits-is n start yeses nos f o on h =
    let a = and_parts (is_space (full n) f && list_all (is_compatible start yeses) f) (list_all (some_breaks f) nos) h in
    let b = and_parts (is_space (full n) f) (list_all (is_compatible start yeses) f) a.0 in
    let space = space-from (full n) f b.0 in
    record {
      in_order = o;
      is_family = family-from n f on b.0;
      holds_full = space.holds_whole;
      compatible = λ k c. among-compat n start yeses k ∙ and_from (is_within k (full n)) (is_compatible start yeses k) (is_within-from k (full n) (on k c)) (every-among (is_compatible start yeses) f k b.1 c);
      broken = list_all-All (some_breaks f) nos a.1;
    }

pub AreOn-subsets : (n : ℕ) (f : List Items) → IsPart f (subsets n) → AreOn n f
AreOn-subsets n f part s c = IsWithin-from s (full n) (sym (among-subsets n s) ∙ part s c)

pub subsets-AreOn : (n : ℕ) (f : List Items) → AreOn n f → IsPart f (subsets n)
subsets-AreOn n f on s c = among-subsets n s ∙ is_within-from s (full n) (on s c)

-- each of the fitting spaces fits
pub all_fit : (n : ℕ) (start : Start) (yeses nos : List Query) → AllByRecursion (Fits n (compat n start yeses) nos) (fitting_spaces n start yeses nos)
unfolding fitting_spaces families
all_fit n start yeses nos = All-kept (Fits n (compat n start yeses) nos) (fits n start yeses nos) (sublists (subsets n))
    (sublists-each (λ f. fits n start yeses nos f ≡ true → Fits n (compat n start yeses) nos f) (subsets n) (subsets_from-in_order 0 n)
    (λ f o part. fits-is n start yeses nos f o (AreOn-subsets n f part)))

-- what each of the fitting spaces passes, as a search and as a statement
pub all_fitting : (p : List Items → Bool) (n : ℕ) (start : Start) (yeses nos : List Query)
    → (list_all p (fitting_spaces n start yeses nos) ≡ true) ↔ ((f : List Items) → Fits n (compat n start yeses) nos f → p f ≡ true)
unfolding fitting_spaces families
all_fitting p n start yeses nos = (
  λ h f a.
      sym (ap (λ b. not b || p f) (fits-from n start yeses nos f a))
      ∙ all_sublists-each (λ f. not (fits n start yeses nos f) || p f) (subsets n) (subsets_from-in_order 0 n) (sym (list_all-filter p (fits n start yeses nos) (sublists (subsets n))) ∙ h) f a.in_order (subsets-AreOn n f a.is_family.small),
  All-to (Fits n (compat n start yeses) nos) p (fitting_spaces n start yeses nos) (all_fit n start yeses nos),
)

-- some space fits exactly where the search finds one
pub some_fitting : (n : ℕ) (start : Start) (yeses nos : List Query) → fitting_spaces n start yeses nos ≢ [] → (f : List Items) × Fits n (compat n start yeses) nos f
some_fitting n start yeses nos h = go (fitting_spaces n start yeses nos) h (all_fit n start yeses nos)
  where
    go : (fs : List (List Items)) → fs ≢ [] → AllByRecursion (Fits n (compat n start yeses) nos) fs → (f : List Items) × Fits n (compat n start yeses) nos f
    go [] h a = absurd (h refl)
    go (f ∷ fs) h a = (f, a.0)

pub fitting_some : (n : ℕ) (start : Start) (yeses nos : List Query) (f : List Items) → Fits n (compat n start yeses) nos f → fitting_spaces n start yeses nos ≢ []
fitting_some n start yeses nos f a e = true≢false (sym ((all_fitting (λ _. false) n start yeses nos).0 (ap (list_all (λ _. false)) e) f a))
