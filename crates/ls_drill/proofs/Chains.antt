-- Chains of pairs in order: what is followed from the last pair on is all that a chain of any pairs reaches.
use Rattle.ls_drill.proofs.Vocabulary.{◌%◌, ◌&&◌, ◌++◌, ◌+◌, ◌<◌, ◌||◌, ◌∙◌, ◌∷◌, ◌≡◌, ◌≤◌, All, All-append, All-map, AllByRecursion, Bool, Decides-eqb, IsPair, Lcg, List, ℕ, [], ap, ap₂, arith, cond, drawn, each, eqb, false, false_from_ne_true, generator_of, implied, is_chained, item_pairs, list_any, map, numbers_from, pairs, pcg32, has_chain, refl, related, subst, suc, sym, true, zero}
use Rattle.ls_drill.proofs.DrawnPairs.{related-drawn}

-- ---- lists

any-agree : {X : Type 0} (p q : X → Bool) (xs : List X) → AllByRecursion (λ x. p x ≡ q x) xs → list_any p xs ≡ list_any q xs
any-agree p q [] h = refl
any-agree p q (x ∷ xs) h = ap₂ (λ b c. b || c) h.0 (any-agree p q xs h.1)

any-none : {X : Type 0} (xs : List X) → list_any (λ x. false) xs ≡ false
any-none [] = refl
any-none (x ∷ xs) = any-none xs

both : {X : Type 0} (P Q : X → Type 0) (xs : List X) → AllByRecursion P xs → AllByRecursion Q xs → AllByRecursion (λ x. P x × Q x) xs
both P Q [] h k = tt
both P Q (x ∷ xs) h k = ((h.0, k.0), both P Q xs h.1 k.1)

pub at-place : {X : Type 0} (P : X → Type 0) (xs : List X) → AllByRecursion P xs → All P xs
at-place P [] h k d lt = absurd (omega arith)
at-place P (x ∷ xs) h zero d lt = h.0
at-place P (x ∷ xs) h (suc k) d lt = at-place P xs h.1 k d (omega arith)

guarded : (b x y : Bool) → (b ≡ true → x ≡ y) → (b && x) ≡ (b && y)
guarded true x y h = h refl
guarded false x y h = refl

-- ---- chains

-- a pair that begins below a is of no use from a on
skip : (n : ℕ) (p : ℕ × ℕ) (ps : List (ℕ × ℕ)) (m a q : ℕ) → p.0 < a → AllByRecursion (IsPair n) ps → is_chained (p ∷ ps) m a q ≡ is_chained ps m a q
unfolding is_chained
skip n p ps zero a q lt h = refl
skip n p ps (suc m) a q lt h =
    let other : eqb p.0 a ≡ false = false_from_ne_true (eqb p.0 a) (λ t. let e : p.0 ≡ a = (Decides-eqb p.0 a).0 t in absurd (omega arith)) in
    ap₂ (λ b c. (b && (eqb p.1 q || is_chained (p ∷ ps) m p.1 q)) || c) other
    (any-agree (λ r. eqb r.0 a && (eqb r.1 q || is_chained (p ∷ ps) m r.1 q)) (λ r. eqb r.0 a && (eqb r.1 q || is_chained ps m r.1 q)) ps
    (each (λ (r : ℕ × ℕ) (k : IsPair n r). guarded (eqb r.0 a) (eqb r.1 q || is_chained (p ∷ ps) m r.1 q) (eqb r.1 q || is_chained ps m r.1 q) (λ t.
    let e : r.0 ≡ a = (Decides-eqb r.0 a).0 t in
    let rises : r.0 < r.1 = k.rises in
    ap (λ b. eqb r.1 q || b) (skip n p ps m r.1 q (omega arith) h))) ps h))

-- chains that rise below n have fewer than n pairs
stable : (n : ℕ) (ps : List (ℕ × ℕ)) (m a q : ℕ) → n ≤ m + a → AllByRecursion (IsPair n) ps → is_chained ps (suc m) a q ≡ is_chained ps m a q
unfolding is_chained
stable n ps zero a q le h =
    any-agree (λ r. eqb r.0 a && (eqb r.1 q || false)) (λ r. false) ps
    (each (λ (r : ℕ × ℕ) (k : IsPair n r).
    let rises : r.0 < r.1 = k.rises in
    let small : r.1 < n = k.small in
    let other : eqb r.0 a ≡ false = false_from_ne_true (eqb r.0 a) (λ t. let e : r.0 ≡ a = (Decides-eqb r.0 a).0 t in absurd (omega arith)) in
    ap (λ b. b && (eqb r.1 q || false)) other) ps h)
    ∙ any-none ps
stable n ps (suc m) a q le h =
    any-agree (λ r. eqb r.0 a && (eqb r.1 q || is_chained ps (suc m) r.1 q)) (λ r. eqb r.0 a && (eqb r.1 q || is_chained ps m r.1 q)) ps
    (each (λ (r : ℕ × ℕ) (k : IsPair n r). guarded (eqb r.0 a) (eqb r.1 q || is_chained ps (suc m) r.1 q) (eqb r.1 q || is_chained ps m r.1 q) (λ t.
    let e : r.0 ≡ a = (Decides-eqb r.0 a).0 t in
    let rises : r.0 < r.1 = k.rises in
    ap (λ b. eqb r.1 q || b) (stable n ps m r.1 q (omega arith) h))) ps h)

-- each pair rises below n, and begins no later than those behind it
abbrev pub AreOrdered : ℕ → List (ℕ × ℕ) → Type 0
AreOrdered n [] = Unit {0}
AreOrdered n (p ∷ ps) = IsPair n p × AllByRecursion (λ (r : ℕ × ℕ). p.0 ≤ r.0) ps × AreOrdered n ps

pub are_pairs : (n : ℕ) (ps : List (ℕ × ℕ)) → AreOrdered n ps → AllByRecursion (IsPair n) ps
are_pairs n [] h = tt
are_pairs n (p ∷ ps) h = (h.0, are_pairs n ps h.2)

none_chained : (n a q : ℕ) → is_chained [] n a q ≡ false
unfolding is_chained
none_chained zero a q = refl
none_chained (suc n) a q = refl

pub chained-reached : (n : ℕ) (ps : List (ℕ × ℕ)) (a q : ℕ) → AreOrdered n ps → is_chained ps n a q ≡ has_chain ps a q
unfolding is_chained has_chain
chained-reached n [] a q h = none_chained n a q
chained-reached zero (p ∷ ps) a q h = let small : p.1 < 0 = h.0.small in absurd (omega arith)
chained-reached (suc m) (p ∷ ps) a q h =
    let rises : p.0 < p.1 = h.0.rises in
    let later = are_pairs (suc m) ps h.2 in
    ap₂ (λ b c. (eqb p.0 a && (eqb p.1 q || b)) || c)
    (skip (suc m) p ps m p.1 q rises later ∙ sym (stable (suc m) ps m p.1 q (omega arith) later) ∙ chained-reached (suc m) ps p.1 q h.2)
    (any-agree (λ r. eqb r.0 a && (eqb r.1 q || is_chained (p ∷ ps) m r.1 q)) (λ r. eqb r.0 a && (eqb r.1 q || is_chained ps m r.1 q)) ps
    (each (λ (r : ℕ × ℕ) (k : IsPair (suc m) r × (p.0 ≤ r.0)).
    let up : r.0 < r.1 = k.0.rises in
    let le : p.0 ≤ r.0 = k.1 in
    ap (λ b. eqb r.0 a && (eqb r.1 q || b)) (skip (suc m) p ps m r.1 q (omega arith) later)) ps (both (IsPair (suc m)) (λ (r : ℕ × ℕ). p.0 ≤ r.0) ps later h.1))
    ∙ chained-reached (suc m) ps a q h.2)

-- ---- the related pairs are in order

numbers-between : (i n j m : ℕ) → i < j → j + m ≤ n → AllByRecursion (λ k. (i < k) × (k < n)) (numbers_from j m)
numbers-between i n j zero lt le = tt
numbers-between i n j (suc m) lt le = ((lt, omega arith), numbers-between i n (suc j) m (omega arith) (omega arith))

-- the pairs of the numbers from i on begin at i or later
begin-later : (i m j : ℕ) → j ≤ i → AllByRecursion (λ (r : ℕ × ℕ). j ≤ r.0) (pairs (numbers_from i m))
begin-later i zero j le = tt
begin-later i (suc m) j le =
    All-append (λ (r : ℕ × ℕ). j ≤ r.0) (map (λ y. (i, y)) (numbers_from (suc i) m)) (pairs (numbers_from (suc i) m))
    (All-map (λ (r : ℕ × ℕ). j ≤ r.0) (λ (y : ℕ). (i, y)) (numbers_from (suc i) m) (each (λ (k : ℕ) (h : (i < k) × (k < suc i + m)). le) (numbers_from (suc i) m) (numbers-between i (suc i + m) (suc i) m (omega arith) (omega arith))))
    (begin-later (suc i) m j (omega arith))

-- pairs of i and greater numbers before pairs that are in order and begin at i or later
row-ordered : (n i : ℕ) (ks : List ℕ) (ps : List (ℕ × ℕ)) → AllByRecursion (λ k. (i < k) × (k < n)) ks → AllByRecursion (λ (r : ℕ × ℕ). i ≤ r.0) ps → AreOrdered n ps → AreOrdered n (map (λ y. (i, y)) ks ++ ps)
row-ordered n i [] ps h later o = o
row-ordered n i (k ∷ ks) ps h later o = (
  record { rises = h.0.0; small = h.0.1 },
  All-append (λ (r : ℕ × ℕ). i ≤ r.0) (map (λ y. (i, y)) ks) ps (All-map (λ (r : ℕ × ℕ). i ≤ r.0) (λ (y : ℕ). (i, y)) ks (each (λ (k : ℕ) (h : (i < k) × (k < n)). (let le : i ≤ i = omega arith in le)) ks h.1)) later,
  row-ordered n i ks ps h.1 later o,
)

pairs-ordered : (n i m : ℕ) → i + m ≤ n → AreOrdered n (pairs (numbers_from i m))
pairs-ordered n i zero le = tt
pairs-ordered n i (suc m) le =
    row-ordered n i (numbers_from (suc i) m) (pairs (numbers_from (suc i) m)) (numbers-between i n (suc i) m (omega arith) (omega arith))
    (begin-later (suc i) m i (omega arith)) (pairs-ordered n (suc i) m (omega arith))

cond-later : (b : Bool) (a : ℕ) (p : ℕ × ℕ) (rest : List (ℕ × ℕ)) → a ≤ p.0 → AllByRecursion (λ (r : ℕ × ℕ). a ≤ r.0) rest → AllByRecursion (λ (r : ℕ × ℕ). a ≤ r.0) (cond b (p ∷ rest) rest)
cond-later true a p rest le h = (le, h)
cond-later false a p rest le h = h

drawn-later : (a : ℕ) (g : Lcg) (ps : List (ℕ × ℕ)) → AllByRecursion (λ (r : ℕ × ℕ). a ≤ r.0) ps → AllByRecursion (λ (r : ℕ × ℕ). a ≤ r.0) (drawn g ps)
unfolding drawn
drawn-later a g [] h = tt
drawn-later a g (p ∷ ps) h = cond-later (eqb ((pcg32 g).0 % 4) 0) a p (drawn (pcg32 g).1 ps) h.0 (drawn-later a (pcg32 g).1 ps h.1)

cond-ordered : (b : Bool) (n : ℕ) (p : ℕ × ℕ) (rest : List (ℕ × ℕ)) → IsPair n p → AllByRecursion (λ (r : ℕ × ℕ). p.0 ≤ r.0) rest → AreOrdered n rest → AreOrdered n (cond b (p ∷ rest) rest)
cond-ordered true n p rest k later o = (k, later, o)
cond-ordered false n p rest k later o = o

drawn-ordered : (n : ℕ) (g : Lcg) (ps : List (ℕ × ℕ)) → AreOrdered n ps → AreOrdered n (drawn g ps)
unfolding drawn
drawn-ordered n g [] h = tt
drawn-ordered n g (p ∷ ps) h = cond-ordered (eqb ((pcg32 g).0 % 4) 0) n p (drawn (pcg32 g).1 ps) h.0 (drawn-later p.0 (pcg32 g).1 ps h.1) (drawn-ordered n (pcg32 g).1 ps h.2)

pub related-ordered : (n number : ℕ) → AreOrdered n (related n number)
related-ordered n number = subst (AreOrdered n) (sym (related-drawn n number)) (drawn-ordered n (generator_of number) (item_pairs n) (pairs-ordered n 0 n (omega arith)))

-- what is followed from the last pair on is what is implied
pub reached-implied : (n number a q : ℕ) → has_chain (related n number) a q ≡ implied n number a q
reached-implied n number a q = sym (chained-reached n (related n number) a q (related-ordered n number))
