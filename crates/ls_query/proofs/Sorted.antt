-- Lists in an order, and the numbers from one on.
use Rattle.ls_query.proofs.Vocabulary.{◌∙◌, ◌∷◌, ◌≡◌, ◌⊎◌, Bool, IsIn, IsSorted, List, Some, ℕ, [], ap, arith, inl, inr, lt-ltb, ltb, numbers-in, numbers_from, slice_get, suc, sym, true, zero}

pub sorted-numbers : (i m : ℕ) → IsSorted ltb (numbers_from i m)
sorted-numbers i zero = tt
sorted-numbers i (suc m) = (λ y c. let l = (numbers-in (suc i) m y c).0 in lt-ltb i y (omega arith), sorted-numbers (suc i) m)

-- two elements of a list in order are one, or one comes before the other
pub sorted-cases : {X : Type 0} (before : X → X → Bool) (xs : List X) (x y : X) → IsSorted before xs → IsIn x xs → IsIn y xs → (x ≡ y) ⊎ ((before x y ≡ true) ⊎ (before y x ≡ true))
sorted-cases before [] x y s c d = absurd c
sorted-cases before (z ∷ xs) x y s c d = elim c [
  | inl e ↦ elim d [
    | inl g ↦ inl (e ∙ sym g)
    | inr g ↦ inr (inl (ap (λ w. before w y) e ∙ s.0 y g))
  ]
  | inr e ↦ elim d [
    | inl g ↦ inr (inr (ap (λ w. before w x) g ∙ s.0 x e))
    | inr g ↦ sorted-cases before xs x y s.1 e g
  ]
]

-- an element stands at a place
pub in-get : {X : Type 0} (xs : List X) (x : X) → IsIn x xs → (i : ℕ) × (slice_get xs i ≡ Some x)
in-get [] x c = absurd c
in-get (y ∷ xs) x c = elim c [ inl e ↦ (0, ap Some (sym e)) | inr d ↦ let r = in-get xs x d in (suc r.0, r.1) ]
