-- The sets of a list by their places.
use Rattle.ls_clauses.proofs.Vocabulary.{◌<◌, ◌∷◌, ◌≡◌, Each-among, IsInOrder, Items, List, ℕ, [], among-cases, among-here, among-there, arith, comes_before, empty, get_or, inl, inr, is_among, length, refl, suc, sym, true, true≢false, zero}

pub place-of : (f : List Items) (k : Items) → is_among f k ≡ true → (j : ℕ) × (j < length f) × (get_or f j empty ≡ k)
place-of [] k h = absurd (true≢false (sym h))
place-of (t ∷ f) k h = elim (among-cases k t f h) [
  | inl e ↦ (0, omega arith, sym e)
  | inr a ↦ let r = place-of f k a in let l = r.1 in (suc r.0, omega arith, r.2)
]

pub among-at : (f : List Items) (j : ℕ) → j < length f → is_among f (get_or f j empty) ≡ true
among-at [] j l = absurd (omega arith)
among-at (t ∷ f) zero l = among-here t t f refl
among-at (t ∷ f) (suc j) l = among-there (get_or f j empty) t f (among-at f j (omega arith))

pub in_order-at : (f : List Items) (i j : ℕ) → IsInOrder f → i < j → j < length f → comes_before (get_or f i empty) (get_or f j empty) ≡ true
in_order-at [] i j order a b = absurd (omega arith)
in_order-at (t ∷ f) i zero order a b = absurd (omega arith)
in_order-at (t ∷ f) zero (suc j) order a b = Each-among (λ s. comes_before t s ≡ true) f (get_or f j empty) order.0 (among-at f j (omega arith))
in_order-at (t ∷ f) (suc i) (suc j) order a b = in_order-at f i j order.1 (omega arith) (omega arith)
