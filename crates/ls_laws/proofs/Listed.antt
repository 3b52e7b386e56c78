-- What the lists of numbers, of a set's items and of sets have.
use Rattle.ls_laws.proofs.Vocabulary.{◌+◌, ◌<◌, ◌∷◌, ◌≡◌, ◌≤◌, IsIn, Items, List, ℕ, [], among-cases, among-here, among-there, arith, bound, bound-has, cases_eq, has, in-filter, inl, inr, is_among, items, numbers_from, suc, sym, true, true≢false, zero}

pub in-numbers : (i m k : ℕ) → i ≤ k → k < i + m → IsIn k (numbers_from i m)
in-numbers i zero k a b = absurd (omega arith)
in-numbers i (suc m) k a b = elim (cases_eq k i) [ inl e ↦ inl e | inr n ↦ inr (in-numbers (suc i) m k (omega arith) (omega arith)) ]

pub numbers-in : (i m k : ℕ) → IsIn k (numbers_from i m) → (i ≤ k) × (k < i + m)
numbers-in i zero k c = absurd c
numbers-in i (suc m) k c = elim c [ inl e ↦ (omega arith, omega arith) | inr a ↦ let r = numbers-in (suc i) m k a in let l = r.0 in let h = r.1 in (omega arith, omega arith) ]

pub in-items : (s : Items) (i : ℕ) → has s i ≡ true → IsIn i (items s)
unfolding items
in-items s i h = let l : i < bound s = bound-has s i h in in-filter (has s) (numbers_from 0 (bound s)) i (in-numbers 0 (bound s) i (omega arith) (omega arith)) h

pub in-among : (ss : List Items) (s : Items) → is_among ss s ≡ true → IsIn s ss
in-among [] s c = absurd (true≢false (sym c))
in-among (t ∷ ss) s c = elim (among-cases s t ss c) [ inl e ↦ inl e | inr a ↦ inr (in-among ss s a) ]

pub among-in : (ss : List Items) (s : Items) → IsIn s ss → is_among ss s ≡ true
among-in [] s c = absurd c
among-in (t ∷ ss) s c = elim c [ inl e ↦ among-here s t ss e | inr a ↦ among-there s t ss (among-in ss s a) ]
