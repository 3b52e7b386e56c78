-- Lists in an order, and the first element that comes after a given one.
use Rattle.ls_lists.proofs.Vocabulary.{◌++◌, ◌+◌, ◌<◌, ◌∙◌, ◌∷◌, ◌≡◌, AllByRecursion, Bool, IsIn, IsRising, IsSorted, List, None, Some, ℕ, [], ap, arith, cond, false, false_from_ne_true, filter, find, flat_map, get_or, inl, inr, map, refl, slice_get, subst, suc, sym, true, true≢false, zero}
use Rattle.std.specs.List.Sorted.{IsStrictlyIncreasing}
use Rattle.ls_lists.proofs.Elements.{append-in, filter-in, map-in, flat_map-in, get-in}

-- ---- lists in an order

module _ {X : Type 0} (before : X → X → Bool) where
  pub sorted-append : (xs ys : List X) → IsSorted before xs → IsSorted before ys → ((x y : X) → IsIn x xs → IsIn y ys → before x y ≡ true) → IsSorted before (xs ++ ys)
  sorted-append [] ys g h a = h
  sorted-append (x ∷ xs) ys g h a = (
    λ y c. elim (append-in xs ys y c) [ inl d ↦ g.0 y d | inr d ↦ a x y (inl refl) d ],
    sorted-append xs ys g.1 h (λ u v c d. a u v (inr c) d),
  )

  pub sorted-filter : (p : X → Bool) (xs : List X) → IsSorted before xs → IsSorted before (filter p xs)
  sorted-filter p [] h = tt
  sorted-filter p (x ∷ xs) h =
      elim (p x) as (λ b. IsSorted before (cond b (x ∷ filter p xs) (filter p xs))) [
        | true ↦ (λ y c. h.0 y (filter-in p xs y c).0, sorted-filter p xs h.1)
        | false ↦ sorted-filter p xs h.1
      ]

pub sorted-map : {X Y : Type 0} (first : X → X → Bool) (before : Y → Y → Bool) (h : X → Y) (xs : List X) → IsSorted first xs → ((x y : X) → IsIn x xs → IsIn y xs → first x y ≡ true → before (h x) (h y) ≡ true) → IsSorted before (map h xs)
sorted-map first before h [] s keeps = tt
sorted-map first before h (x ∷ xs) s keeps = (
  λ y c. let r = map-in h xs y c in rw r.2 (keeps x r.0 (inl refl) (inr r.1) (s.0 r.0 r.1)),
  sorted-map first before h xs s.1 (λ u v c d. keeps u v (inr c) (inr d)),
)

-- the same list in another order that agrees on its elements
pub sorted-as : {X : Type 0} (first before : X → X → Bool) (xs : List X) → IsSorted first xs → ((x y : X) → IsIn x xs → IsIn y xs → first x y ≡ true → before x y ≡ true) → IsSorted before xs
sorted-as first before [] s keeps = tt
sorted-as first before (x ∷ xs) s keeps = (λ y c. keeps x y (inl refl) (inr c) (s.0 y c), sorted-as first before xs s.1 (λ u v c d. keeps u v (inr c) (inr d)))

pub sorted-flat_map : {X Y : Type 0} (first : X → X → Bool) (before : Y → Y → Bool) (h : X → List Y) (xs : List X)
    → IsSorted first xs → ((x : X) → IsIn x xs → IsSorted before (h x))
    → ((x y : X) (u v : Y) → first x y ≡ true → IsIn u (h x) → IsIn v (h y) → before u v ≡ true)
    → IsSorted before (flat_map h xs)
sorted-flat_map first before h [] s each across = tt
sorted-flat_map first before h (x ∷ xs) s each across =
    sorted-append before (h x) (flat_map h xs) (each x (inl refl)) (sorted-flat_map first before h xs s.1 (λ y c. each y (inr c)) across)
    (λ u v c d. let r = flat_map-in h xs v d in across x r.0 u v (s.0 r.0 r.1) c r.2)

-- ---- the first that comes after

module _ {X : Type 0} where
  pub find-same : (p q : X → Bool) (xs : List X) → ((x : X) → IsIn x xs → p x ≡ q x) → find p xs ≡ find q xs
  find-same p q [] h = refl
  find-same p q (x ∷ xs) h = rw (h x (inl refl), find-same p q xs (λ y c. h y (inr c))) refl

  pub find-no_element : (p : X → Bool) (xs : List X) → ((x : X) → IsIn x xs → p x ≡ false) → find p xs ≡ None
  find-no_element p [] h = refl
  find-no_element p (x ∷ xs) h = rw (h x (inl refl)) (find-no_element p xs (λ y c. h y (inr c)))

  -- b is the first that passes where it passes and none before it does
  pub find-first : (before : X → X → Bool) (p : X → Bool) (xs : List X) (b : X) → IsSorted before xs → IsIn b xs → p b ≡ true → ((c : X) → IsIn c xs → before c b ≡ true → p c ≡ false) → find p xs ≡ Some b
  find-first before p [] b s c h least = absurd c
  find-first before p (x ∷ xs) b s c h least =
      elim c [
        | inl e ↦ rw (sym (ap p e) ∙ h) (ap Some (sym e))
        | inr a ↦ rw (least x (inl refl) (s.0 b a)) (find-first before p xs b s.1 a h (λ y d. least y (inr d)))
      ]

  -- what the first that passes is
  pub find-is : (before : X → X → Bool) (p : X → Bool) (xs : List X) (b : X) → IsSorted before xs → ((x y : X) → before x y ≡ true → before y x ≡ false) → find p xs ≡ Some b
      → IsIn b xs × (p b ≡ true) × ((c : X) → IsIn c xs → before c b ≡ true → p c ≡ false)
  find-is before p [] b s asymmetric e = cc
  find-is before p (x ∷ xs) b s asymmetric e =
      elim (p x) as (λ v. p x ≡ v → cond v (Some x) (find p xs) ≡ Some b → IsIn b (x ∷ xs) × (p b ≡ true) × ((c : X) → IsIn c (x ∷ xs) → before c b ≡ true → p c ≡ false)) [
        | true ↦ λ here e.
            let same : x ≡ b = cc in (
              inl (sym same),
              ap p (sym same) ∙ here,
              λ c d l. elim d [
                | inl q ↦ absurd (true≢false (sym l ∙ false_from_ne_true (before c b) (λ m. true≢false (sym m ∙ ap (before c) (sym same ∙ sym q) ∙ false_from_ne_true (before c c) (λ n. true≢false (sym n ∙ asymmetric c c n))))))
                | inr a ↦ absurd (true≢false (sym (s.0 c a) ∙ ap (λ z. before z c) same ∙ asymmetric c b l))
              ],
            )
        | false ↦ λ here e.
            let rest = find-is before p xs b s.1 asymmetric e in
            (inr rest.0, rest.1, λ c d l. elim d [ inl q ↦ ap p q ∙ here | inr a ↦ rest.2 c a l ])
      ] refl e

  pub find-none_is : (p : X → Bool) (xs : List X) → find p xs ≡ None → (x : X) → IsIn x xs → p x ≡ false
  find-none_is p [] e x c = absurd c
  find-none_is p (y ∷ xs) e x c =
      elim (p y) as (λ v. p y ≡ v → cond v (Some y) (find p xs) ≡ None → p x ≡ false) [
        | true ↦ λ _ e. cc
        | false ↦ λ here e. elim c [ inl q ↦ ap p q ∙ here | inr a ↦ find-none_is p xs e x a ]
      ] refl e

-- ---- a walk from each element to the first that comes after it

module _ {X : Type 0} where
  -- the first that comes after an element is the next
  pub find-next : (before : X → X → Bool) (xs : List X) (i : ℕ) (x : X) → IsSorted before xs → ((x y : X) → before x y ≡ true → before y x ≡ false) → slice_get xs i ≡ Some x → find (before x) xs ≡ slice_get xs (suc i)
  find-next before [] i x s asymmetric e = cc
  find-next before (y ∷ xs) zero x s asymmetric e =
      let same : y ≡ x = cc in
      let out : before x x ≡ false = false_from_ne_true (before x x) (λ h. true≢false (sym h ∙ asymmetric x x h)) in
      rw (same, out) (first xs (λ z c. ap (λ w. before w z) (sym same) ∙ s.0 z c))
    where
      first : (xs : List X) → ((z : X) → IsIn z xs → before x z ≡ true) → find (before x) xs ≡ slice_get xs 0
      first [] h = refl
      first (z ∷ xs) h = rw (h z (inl refl)) refl
  find-next before (y ∷ xs) (suc i) x s asymmetric e =
      rw (asymmetric y x (s.0 x (get-in xs i x e))) (find-next before xs i x s.1 asymmetric e)

-- ---- numbers that rise

pub tail-increasing : (x : ℕ) (xs : List ℕ) → IsStrictlyIncreasing (x ∷ xs) → IsStrictlyIncreasing xs
tail-increasing x xs h k within = let e : suc k + 1 ≡ suc (k + 1) = omega arith in subst (λ n. get_or xs k 0 < get_or (x ∷ xs) n 0) e (h (suc k) (omega arith))

pub all-above : (x y : ℕ) (xs : List ℕ) → x < y → AllByRecursion (λ z. y < z) xs → AllByRecursion (λ z. x < z) xs
all-above x y [] l h = tt
all-above x y (z ∷ xs) l h = (let m = h.0 in omega arith, all-above x y xs l h.1)

pub rising-from : (xs : List ℕ) → IsStrictlyIncreasing xs → IsRising xs
rising-from [] h = tt
rising-from (x ∷ []) h = (tt, tt)
rising-from (x ∷ y ∷ xs) h =
    let rest = rising-from (y ∷ xs) (tail-increasing x (y ∷ xs) h) in
    let next : x < y = h 0 (omega arith) in
    ((next, all-above x y xs next rest.0), rest)

pub increasing-cons : (x : ℕ) (xs : List ℕ) → AllByRecursion (λ y. x < y) xs → IsStrictlyIncreasing xs → IsStrictlyIncreasing (x ∷ xs)
increasing-cons x [] a h k within = absurd (omega arith)
increasing-cons x (y ∷ xs) a h zero within = a.0
increasing-cons x (y ∷ xs) a h (suc k) within = let e : suc (k + 1) ≡ suc k + 1 = omega arith in subst (λ n. get_or (y ∷ xs) k 0 < get_or (x ∷ y ∷ xs) n 0) e (h k (omega arith))

pub increasing-from : (xs : List ℕ) → IsRising xs → IsStrictlyIncreasing xs
increasing-from [] h = λ k within. absurd (omega arith)
increasing-from (x ∷ xs) h = increasing-cons x xs h.0 (increasing-from xs h.1)
