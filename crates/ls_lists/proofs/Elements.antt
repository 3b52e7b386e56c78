-- The elements of a list.
use Rattle.ls_lists.proofs.Vocabulary.{◌++◌, ◌∙◌, ◌∷◌, ◌≡◌, ◌⊎◌, AllByRecursion, Bool, IsIn, List, Some, ℕ, [], ap, cond, false, filter, flat_map, inl, inr, list_any, map, or_cases, or_left, or_right, refl, slice_get, subst, suc, sym, true, true≢false, zero}

module _ {X : Type 0} where
  pub in-append_left : (xs ys : List X) (x : X) → IsIn x xs → IsIn x (xs ++ ys)
  in-append_left [] ys x c = absurd c
  in-append_left (y ∷ xs) ys x c = elim c [ inl e ↦ inl e | inr a ↦ inr (in-append_left xs ys x a) ]

  pub in-append_right : (xs ys : List X) (x : X) → IsIn x ys → IsIn x (xs ++ ys)
  in-append_right [] ys x c = c
  in-append_right (y ∷ xs) ys x c = inr (in-append_right xs ys x c)

  pub append-in : (xs ys : List X) (x : X) → IsIn x (xs ++ ys) → IsIn x xs ⊎ IsIn x ys
  append-in [] ys x c = inr c
  append-in (y ∷ xs) ys x c = elim c [ inl e ↦ inl (inl e) | inr a ↦ elim (append-in xs ys x a) [ inl b ↦ inl (inr b) | inr b ↦ inr b ] ]

  pub in-filter : (p : X → Bool) (xs : List X) (x : X) → IsIn x xs → p x ≡ true → IsIn x (filter p xs)
  in-filter p [] x c h = absurd c
  in-filter p (y ∷ xs) x c h = elim c [
    | inl e ↦ rw (sym (ap p e) ∙ h) (inl e)
    | inr a ↦ let rest = in-filter p xs x a h in elim (p y) as (λ b. IsIn x (cond b (y ∷ filter p xs) (filter p xs))) [ true ↦ inr rest | false ↦ rest ]
  ]

  pub filter-in : (p : X → Bool) (xs : List X) (x : X) → IsIn x (filter p xs) → IsIn x xs × (p x ≡ true)
  filter-in p [] x c = absurd c
  filter-in p (y ∷ xs) x c =
      elim (p y) as (λ b. p y ≡ b → IsIn x (cond b (y ∷ filter p xs) (filter p xs)) → IsIn x (y ∷ xs) × (p x ≡ true)) [
        | true ↦ λ h c. elim c [ inl e ↦ (inl e, ap p e ∙ h) | inr a ↦ let r = filter-in p xs x a in (inr r.0, r.1) ]
        | false ↦ λ _ c. let r = filter-in p xs x c in (inr r.0, r.1)
      ] refl c

  -- an element that passes
  pub some-in : (p : X → Bool) (xs : List X) → list_any p xs ≡ true → (x : X) × IsIn x xs × (p x ≡ true)
  some-in p [] h = absurd (true≢false (sym h))
  some-in p (x ∷ xs) h = elim (or_cases (p x) (list_any p xs) h) [ inl a ↦ (x, inl refl, a) | inr a ↦ let r = some-in p xs a in (r.0, inr r.1, r.2) ]

  -- what holds of each holds of one
  pub each-in : (P : X → Type 0) (xs : List X) (x : X) → AllByRecursion P xs → IsIn x xs → P x
  each-in P [] x h c = absurd c
  each-in P (y ∷ xs) x h c = elim c [ inl e ↦ subst P (sym e) h.0 | inr a ↦ each-in P xs x h.1 a ]

module _ {X Y : Type 0} where
  pub in-map : (h : X → Y) (xs : List X) (x : X) → IsIn x xs → IsIn (h x) (map h xs)
  in-map h [] x c = absurd c
  in-map h (y ∷ xs) x c = elim c [ inl e ↦ inl (ap h e) | inr a ↦ inr (in-map h xs x a) ]

  pub map-in : (h : X → Y) (xs : List X) (y : Y) → IsIn y (map h xs) → (x : X) × IsIn x xs × (y ≡ h x)
  map-in h [] y c = absurd c
  map-in h (x ∷ xs) y c = elim c [ inl e ↦ (x, inl refl, e) | inr a ↦ let r = map-in h xs y a in (r.0, inr r.1, r.2) ]

  pub in-flat_map : (h : X → List Y) (xs : List X) (x : X) (y : Y) → IsIn x xs → IsIn y (h x) → IsIn y (flat_map h xs)
  in-flat_map h [] x y c d = absurd c
  in-flat_map h (z ∷ xs) x y c d = elim c [
    | inl e ↦ in-append_left (h z) (flat_map h xs) y (subst (λ w. IsIn y (h w)) e d)
    | inr a ↦ in-append_right (h z) (flat_map h xs) y (in-flat_map h xs x y a d)
  ]

  pub flat_map-in : (h : X → List Y) (xs : List X) (y : Y) → IsIn y (flat_map h xs) → (x : X) × IsIn x xs × IsIn y (h x)
  flat_map-in h [] y c = absurd c
  flat_map-in h (x ∷ xs) y c = elim (append-in (h x) (flat_map h xs) y c) [
    | inl a ↦ (x, inl refl, a)
    | inr a ↦ let r = flat_map-in h xs y a in (r.0, inr r.1, r.2)
  ]

module _ {X : Type 0} where
  -- a test that an element passes
  pub in-some : (p : X → Bool) (xs : List X) (x : X) → IsIn x xs → p x ≡ true → list_any p xs ≡ true
  in-some p [] x c h = absurd c
  in-some p (y ∷ ys) x c h = elim c [ inl e ↦ or_left (p y) (list_any p ys) (sym (ap p e) ∙ h) | inr a ↦ or_right (p y) (list_any p ys) (in-some p ys x a h) ]

  pub each-from : (P : X → Type 0) (xs : List X) → ((x : X) → IsIn x xs → P x) → AllByRecursion P xs
  each-from P [] h = tt
  each-from P (x ∷ xs) h = (h x (inl refl), each-from P xs (λ y c. h y (inr c)))

  pub get-in : (xs : List X) (i : ℕ) (x : X) → slice_get xs i ≡ Some x → IsIn x xs
  get-in [] i x e = cc
  get-in (z ∷ xs) zero x e = let same : z ≡ x = cc in inl (sym same)
  get-in (z ∷ xs) (suc i) x e = inr (get-in xs i x e)
