-- Sums over the numbers below a number.
use Rattle.ls_weight.proofs.Vocabulary.{◌&&◌, ◌+◌, ◌<◌, ◌∙◌, ◌∷◌, ◌≡◌, ◌≤◌, Bool, List, ℕ, [], add-one, ap, ap₂, arith, cases_Bool, cond, eqb, eqb-true, false, get_or, inl, inr, length, nat_tests, refl, suc, sum_below, sum_by, sum_by-cons, sym, true, zero}

pub sum_below-none : (f : ℕ → ℕ) → sum_below 0 f ≡ 0
unfolding sum_below
sum_below-none f = refl

pub sum_below-next : (n : ℕ) (f : ℕ → ℕ) → sum_below (n + 1) f ≡ sum_below n f + f n
unfolding sum_below
sum_below-next n f = ap (λ m. sum_below m f) (add-one n)

pub sum_below-same : (n : ℕ) (f g : ℕ → ℕ) → ((i : ℕ) → i < n → f i ≡ g i) → sum_below n f ≡ sum_below n g
unfolding sum_below
sum_below-same zero f g h = refl
sum_below-same (suc n) f g h = ap₂ (λ x y. x + y) (sum_below-same n f g (λ i l. h i (omega arith))) (h n (omega arith))

pub sum_below-le : (n : ℕ) (f g : ℕ → ℕ) → ((i : ℕ) → i < n → f i ≤ g i) → sum_below n f ≤ sum_below n g
unfolding sum_below
sum_below-le zero f g h = omega arith
sum_below-le (suc n) f g h =
    let rest = sum_below-le n f g (λ i l. h i (omega arith)) in
    let last = h n (omega arith) in
    omega arith

pub sum_below-fewer : (m n : ℕ) (f : ℕ → ℕ) → m ≤ n → sum_below m f ≤ sum_below n f
unfolding sum_below
sum_below-fewer m zero f h = let e : m ≡ 0 = omega arith in rw e (omega arith)
sum_below-fewer m (suc n) f h = elim (cases_Bool (eqb m (suc n))) [
  | inl e ↦ rw (eqb-true m (suc n) e) (omega arith)
  | inr e ↦
      let l : m ≤ n = grind (arith, nat_tests) in
      let rest = sum_below-fewer m n f l in
      omega arith
]

pub sum_below-zero : (n : ℕ) (f : ℕ → ℕ) → ((i : ℕ) → i < n → f i ≡ 0) → sum_below n f ≡ 0
unfolding sum_below
sum_below-zero zero f h = refl
sum_below-zero (suc n) f h =
    let rest = sum_below-zero n f (λ i l. h i (omega arith)) in
    let last = h n (omega arith) in
    omega arith

pub sum_below-both : (n : ℕ) (f g : ℕ → ℕ) → sum_below n (λ i. f i + g i) ≡ sum_below n f + sum_below n g
unfolding sum_below
sum_below-both zero f g = refl
sum_below-both (suc n) f g = let rest = sum_below-both n f g in omega arith

-- what adds nothing can be passed over
pub sum_below-over : (m n : ℕ) (f : ℕ → ℕ) → m ≤ n → ((i : ℕ) → m ≤ i → i < n → f i ≡ 0) → sum_below m f ≡ sum_below n f
unfolding sum_below
sum_below-over m zero f l h = let e : m ≡ 0 = omega arith in rw e refl
sum_below-over m (suc n) f l h = elim (cases_Bool (eqb m (suc n))) [
  | inl e ↦ rw (eqb-true m (suc n) e) refl
  | inr e ↦
      let b : m ≤ n = grind (arith, nat_tests) in
      let rest = sum_below-over m n f b (λ i a c. h i a (omega arith)) in
      let none = h n b (omega arith) in
      omega arith
]

-- of the numbers that pass, the one is counted where it passes
pub sum_below-one : (n v w : ℕ) (p : ℕ → Bool) → v < n → sum_below n (λ i. cond (p i) (cond (eqb v i) w 0) 0) ≡ cond (p v) w 0
unfolding sum_below
sum_below-one zero v w p h = absurd (omega arith)
sum_below-one (suc n) v w p h = elim (cases_Bool (eqb v n)) [
  | inl e ↦
      let same = eqb-true v n e in
      let none = sum_below-zero n (λ i. cond (p i) (cond (eqb v i) w 0) 0) (λ i l. grind (arith, nat_tests)) in
      grind (arith, nat_tests)
  | inr e ↦
      let l : v < n = grind (arith, nat_tests) in
      let rest = sum_below-one n v w p l in
      grind (arith, nat_tests)
]

pub sum_below-first : (n : ℕ) (f : ℕ → ℕ) → f 0 + sum_below n (λ i. f (suc i)) ≡ sum_below (suc n) f
unfolding sum_below
sum_below-first zero f = omega arith
sum_below-first (suc n) f = let rest = sum_below-first n f in omega arith

-- the sum of a list
pub sum_by-below : {X : Type 0} (f : X → ℕ) (xs : List X) (d : X) → sum_by f xs ≡ sum_below (length xs) (λ i. f (get_or xs i d))
sum_by-below f [] d = sym (sum_below-none (λ i. f d))
sum_by-below f (x ∷ xs) d = sum_by-cons f x xs ∙ ap (λ n. f x + n) (sum_by-below f xs d) ∙ sum_below-first (length xs) (λ i. f (get_or (x ∷ xs) i d))

-- ---- sums by classes

next-class : (m v : ℕ) (p : Bool) (a : ℕ → Bool) (class w : ℕ → ℕ) → cond p (sum_below (suc m) (λ i. cond (a i && eqb (class i) v) (w i) 0)) 0 ≡ cond p (sum_below m (λ i. cond (a i && eqb (class i) v) (w i) 0)) 0 + cond p (cond (eqb (class m) v) (cond (a m) (w m) 0) 0) 0
unfolding sum_below
next-class m v p a class w = grind (arith, nat_tests)

both-pass : (a p : Bool) (w : ℕ) → cond p (cond a w 0) 0 ≡ cond (a && p) w 0
both-pass true p w = refl
both-pass false true w = refl
both-pass false false w = refl

-- what has the classes that pass, class by class
pub sum_below-classes : (m n : ℕ) (a p : ℕ → Bool) (class w : ℕ → ℕ) → ((i : ℕ) → i < m → class i < n) → sum_below n (λ v. cond (p v) (sum_below m (λ i. cond (a i && eqb (class i) v) (w i) 0)) 0) ≡ sum_below m (λ i. cond (a i && p (class i)) (w i) 0)
unfolding sum_below
sum_below-classes zero n a p class w h =
    sum_below-zero n (λ v. cond (p v) (sum_below 0 (λ i. cond (a i && eqb (class i) v) (w i) 0)) 0) (λ v l. let e = sum_below-none (λ i. cond (a i && eqb (class i) v) (w i) 0) in grind (arith, nat_tests))
    ∙ sym (sum_below-none (λ i. cond (a i && p (class i)) (w i) 0))
sum_below-classes (suc m) n a p class w h =
    let before = λ (v : ℕ). cond (p v) (sum_below m (λ i. cond (a i && eqb (class i) v) (w i) 0)) 0 in
    let last = λ (v : ℕ). cond (p v) (cond (eqb (class m) v) (cond (a m) (w m) 0) 0) 0 in
    sum_below-same n _ (λ v. before v + last v) (λ v l. next-class m v (p v) a class w)
    ∙ sum_below-both n before last
    ∙ ap₂ (λ x y. x + y) (sum_below-classes m n a p class w (λ i l. h i (omega arith))) (sum_below-one n (class m) (cond (a m) (w m) 0) p (h m (omega arith)))
    ∙ ap (λ x. sum_below m (λ i. cond (a i && p (class i)) (w i) 0) + x) (both-pass (a m) (p (class m)) (w m))
