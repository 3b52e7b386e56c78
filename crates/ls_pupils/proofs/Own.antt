-- Lists in which each element has a name of its own: what is done at the place of a name is done to the elements of that name.
use Rattle.ls_pupils.proofs.Vocabulary.{◌&&◌, ◌++◌, ◌∙◌, ◌∷◌, ◌≡◌, Bool, List, Some, ℕ, [], and_parts, ap, ap₂, bytes_eq, bytes_eq-Decides, cases_Bool, cond, false, filter, have_own_names, inl, inr, is_called, list_any, list_any-map, map, not, refl, remove, set, slice_get, subst, suc, sym, true, true≢false, zero}

-- names that are the same
same_name : (a b : List ℕ) → bytes_eq a b ≡ true → a ≡ b
same_name a b h = (bytes_eq-Decides a b).0 h

pub own_name : (a : List ℕ) → bytes_eq a a ≡ true
own_name a = (bytes_eq-Decides a a).1 refl

-- ---- no element passes

module _ {X : Type 0} (p : X → Bool) where
  none_replaced : (next : X) (xs : List X) → list_any p xs ≡ false → map (λ y. cond (p y) next y) xs ≡ xs
  none_replaced next [] h = refl
  none_replaced next (x ∷ xs) h =
      elim (cases_Bool (p x)) [
        | inl e ↦ absurd (true≢false (let z : true ≡ false = rw e at h in z))
        | inr e ↦ rw e (ap (λ l. x ∷ l) (none_replaced next xs (let z : list_any p xs ≡ false = rw e at h in z)))
      ]

  none_left_out : (xs : List X) → list_any p xs ≡ false → filter (λ y. not (p y)) xs ≡ xs
  none_left_out [] h = refl
  none_left_out (x ∷ xs) h =
      elim (cases_Bool (p x)) [
        | inl e ↦ absurd (true≢false (let z : true ≡ false = rw e at h in z))
        | inr e ↦ rw e (ap (λ l. x ∷ l) (none_left_out xs (let z : list_any p xs ≡ false = rw e at h in z)))
      ]

-- an element at a place passes, so some does
some_at : {X : Type 0} (p : X → Bool) (xs : List X) (i : ℕ) (x : X) → slice_get xs i ≡ Some x → p x ≡ true → list_any p xs ≡ true
some_at p [] i x at h = absurd (cc at)
some_at p (y ∷ xs) zero x at h = let e : y ≡ x = cc at in rw (ap p e ∙ h) refl
some_at p (y ∷ xs) (suc i) x at h =
    elim (cases_Bool (p y)) [
      | inl e ↦ rw e refl
      | inr e ↦ rw e (some_at p xs i x at h)
    ]

-- ---- the element at a place has the name

module _ {X : Type 0} (name_of : X → List ℕ) where
  own_rest : (x : X) (xs : List X) → have_own_names name_of (x ∷ xs) ≡ true → (list_any (is_called name_of (name_of x)) xs ≡ false) × (have_own_names name_of xs ≡ true)
  own_rest x xs own =
      let parts = and_parts (not (list_any (is_called name_of (name_of x)) xs)) (have_own_names name_of xs) own in
      elim (cases_Bool (list_any (is_called name_of (name_of x)) xs)) [
        | inl e ↦ absurd (true≢false (sym (rw e at parts.0)))
        | inr e ↦ (e, parts.1)
      ]

  -- the first of a longer list does not have the name of a later one
  first_other : (name : List ℕ) (y : X) (xs : List X) (i : ℕ) (x : X) → have_own_names name_of (y ∷ xs) ≡ true → slice_get xs i ≡ Some x → is_called name_of name x ≡ true → is_called name_of name y ≡ false
  first_other name y xs i x own at h =
      elim (cases_Bool (is_called name_of name y)) [
        | inl e ↦
            let same : name_of y ≡ name = same_name (name_of y) name e in
            let here : is_called name_of (name_of y) x ≡ true = rw same h in
            absurd (true≢false (sym (some_at (is_called name_of (name_of y)) xs i x at here) ∙ (own_rest y xs own).0))
        | inr e ↦ e
      ]

  -- the others do not have the name of the first
  others_apart : (name : List ℕ) (x : X) (xs : List X) → have_own_names name_of (x ∷ xs) ≡ true → is_called name_of name x ≡ true → list_any (is_called name_of name) xs ≡ false
  others_apart name x xs own h = subst (λ (n : List ℕ). list_any (is_called name_of n) xs ≡ false) (same_name (name_of x) name h) (own_rest x xs own).0

  pub replaced-set : (name : List ℕ) (next : X) (xs : List X) (i : ℕ) (x : X) → have_own_names name_of xs ≡ true → slice_get xs i ≡ Some x → is_called name_of name x ≡ true
      → map (λ y. cond (is_called name_of name y) next y) xs ≡ set xs i next
  replaced-set name next [] i x own at h = absurd (cc at)
  replaced-set name next (y ∷ xs) zero x own at h =
      let e : y ≡ x = cc at in
      let here : is_called name_of name y ≡ true = ap (is_called name_of name) e ∙ h in
      rw here (ap (λ l. next ∷ l) (none_replaced (is_called name_of name) next xs (others_apart name y xs own here)))
  replaced-set name next (y ∷ xs) (suc i) x own at h =
      rw (first_other name y xs i x own at h) (ap (λ l. y ∷ l) (replaced-set name next xs i x (own_rest y xs own).1 at h))

  pub left_out-remove : (name : List ℕ) (xs : List X) (i : ℕ) (x : X) → have_own_names name_of xs ≡ true → slice_get xs i ≡ Some x → is_called name_of name x ≡ true
      → filter (λ y. not (is_called name_of name y)) xs ≡ remove xs i
  left_out-remove name [] i x own at h = absurd (cc at)
  left_out-remove name (y ∷ xs) zero x own at h =
      let e : y ≡ x = cc at in
      let here : is_called name_of name y ≡ true = ap (is_called name_of name) e ∙ h in
      rw here (none_left_out (is_called name_of name) xs (others_apart name y xs own here))
  left_out-remove name (y ∷ xs) (suc i) x own at h =
      rw (first_other name y xs i x own at h) (ap (λ l. y ∷ l) (left_out-remove name xs i x (own_rest y xs own).1 at h))

  -- ---- names stay apart

  any-replaced : (name : List ℕ) (next : X) (xs : List X) (i : ℕ) (x : X) → slice_get xs i ≡ Some x → name_of next ≡ name_of x → list_any (is_called name_of name) (set xs i next) ≡ list_any (is_called name_of name) xs
  any-replaced name next [] i x at h = absurd (cc at)
  any-replaced name next (y ∷ xs) zero x at h =
      let e : y ≡ x = cc at in
      let same : name_of next ≡ name_of y = h ∙ ap name_of (sym e) in
      rw same refl
  any-replaced name next (y ∷ xs) (suc i) x at h =
      elim (cases_Bool (is_called name_of name y)) [
        | inl e ↦ rw e refl
        | inr e ↦ rw e (any-replaced name next xs i x at h)
      ]

  pub own-set : (next : X) (xs : List X) (i : ℕ) (x : X) → have_own_names name_of xs ≡ true → slice_get xs i ≡ Some x → name_of next ≡ name_of x → have_own_names name_of (set xs i next) ≡ true
  own-set next [] i x own at h = absurd (cc at)
  own-set next (y ∷ xs) zero x own at h =
      let e : y ≡ x = cc at in
      let same : name_of next ≡ name_of y = h ∙ ap name_of (sym e) in
      rw same own
  own-set next (y ∷ xs) (suc i) x own at h =
      let rest = own_rest y xs own in
      rw (any-replaced (name_of y) next xs i x at h, rest.0) (own-set next xs i x rest.1 at h)

  any-remove : (name : List ℕ) (xs : List X) (i : ℕ) → list_any (is_called name_of name) xs ≡ false → list_any (is_called name_of name) (remove xs i) ≡ false
  any-remove name [] zero h = refl
  any-remove name [] (suc i) h = refl
  any-remove name (y ∷ xs) i h =
      elim (cases_Bool (is_called name_of name y)) [
        | inl e ↦ absurd (true≢false (let z : true ≡ false = rw e at h in z))
        | inr e ↦
            let rest : list_any (is_called name_of name) xs ≡ false = rw e at h in
            elim i as (λ j. list_any (is_called name_of name) (remove (y ∷ xs) j) ≡ false) [
              | zero ↦ rest
              | suc j ↦ rw e (any-remove name xs j rest)
            ]
      ]

  pub own-remove : (xs : List X) (i : ℕ) → have_own_names name_of xs ≡ true → have_own_names name_of (remove xs i) ≡ true
  own-remove [] zero own = refl
  own-remove [] (suc i) own = refl
  own-remove (y ∷ xs) zero own = (own_rest y xs own).1
  own-remove (y ∷ xs) (suc i) own =
      let rest = own_rest y xs own in
      rw (any-remove (name_of y) xs i rest.0) (own-remove xs i rest.1)

  any-push : (name : List ℕ) (xs : List X) (x : X) → list_any (is_called name_of name) xs ≡ false → is_called name_of name x ≡ false → list_any (is_called name_of name) (xs ++ x ∷ []) ≡ false
  any-push name [] x h e = rw e refl
  any-push name (y ∷ xs) x h e =
      elim (cases_Bool (is_called name_of name y)) [
        | inl f ↦ absurd (true≢false (let z : true ≡ false = rw f at h in z))
        | inr f ↦ rw f (any-push name xs x (let z : list_any (is_called name_of name) xs ≡ false = rw f at h in z) e)
      ]

  pub own-push : (xs : List X) (x : X) → have_own_names name_of xs ≡ true → list_any (is_called name_of (name_of x)) xs ≡ false → have_own_names name_of (xs ++ x ∷ []) ≡ true
  own-push [] x own h = refl
  own-push (y ∷ xs) x own h =
      let rest = own_rest y xs own in
      elim (cases_Bool (is_called name_of (name_of x) y)) [
        | inl e ↦ absurd (true≢false (let z : true ≡ false = rw e at h in z))
        | inr e ↦
            let later : list_any (is_called name_of (name_of x)) xs ≡ false = rw e at h in
            let other : is_called name_of (name_of y) x ≡ false = elim (cases_Bool (is_called name_of (name_of y) x)) [
              | inl f ↦ absurd (true≢false (sym (own_name (name_of y)) ∙ (let z : is_called name_of (name_of y) y ≡ false = subst (λ (n : List ℕ). is_called name_of n y ≡ false) (same_name (name_of x) (name_of y) f) e in z)))
              | inr f ↦ f
            ] in
            rw (any-push (name_of y) xs x rest.0 other) (own-push xs x rest.1 later)
      ]

-- ---- elements that are made of others

pub own-map : {X Y : Type 0} (name_of : Y → List ℕ) (f : X → Y) (xs : List X) → have_own_names (λ x. name_of (f x)) xs ≡ have_own_names name_of (map f xs)
own-map name_of f [] = refl
own-map name_of f (x ∷ xs) = ap₂ (λ a b. not a && b) (list_any-map f (is_called name_of (name_of (f x))) xs) (own-map name_of f xs)
