-- How small and how great weights and totals are.
use Rattle.ls_weight.proofs.Vocabulary.{◌*◌, ◌+◌, ◌<◌, ◌^◌, ◌∙◌, ◌∷◌, ◌≡◌, ◌≤◌, Bool, Items, List, None, Ratio, Ratios, Some, ℕ, [], agrees, and_parts, ap, arith, cases_lt, cond, factor, false, find, get_or, inl, inr, length, list_all, ltb-false, max, mul-le, nat_tests, no_ratios, numbers_from, one-le-mul, pow-succ', pow-zero, refl, subst, suc, sym, total, true, weight, zero}
use Rattle.std.proofs.lemmas.List.Sums.{sum_by-le}
use Rattle.ls_theory.specs.declared.reply.Reply.{Reply}
use Rattle.ls_theory.specs.Settings.{Settings, is_ratio, are_ratios, greatest, is_heavy, heavy_after}

-- ---- factors

-- both numbers of the ratio are from 1 to g
abbrev IsUpTo : ℕ → Ratio → Type 0
IsUpTo g r = (1 ≤ r.a) × (r.a ≤ g) × (1 ≤ r.b) × (r.b ≤ g)

ratio-up : (r : Ratio) (g : ℕ) → is_ratio r ≡ true → r.a ≤ g → IsUpTo g r
ratio-up r g e l = let h : (1 ≤ r.b) × (r.b < r.a) = grind (arith, nat_tests) in (omega arith, l, omega arith, omega arith)

up-more : (r : Ratio) (g h : ℕ) → g ≤ h → IsUpTo g r → IsUpTo h r
up-more r g h l u = (u.0, omega arith, u.2, omega arith)

place-up : (ratios : List Ratios) (q : ℕ) → list_all are_ratios ratios ≡ true → let own = get_or ratios q no_ratios in IsUpTo (max 1 (greatest ratios)) own.right × IsUpTo (max 1 (greatest ratios)) own.wrong
place-up [] q e = let u : IsUpTo (max 1 0) (record { a = 1; b = 1 }) = (omega arith, omega arith, omega arith, omega arith) in (u, u)
place-up (r ∷ ratios) zero e =
    let own = and_parts (is_ratio r.right) (is_ratio r.wrong) (and_parts (are_ratios r) (list_all are_ratios ratios) e).0 in
    (ratio-up r.right _ own.0 (omega arith), ratio-up r.wrong _ own.1 (omega arith))
place-up (r ∷ ratios) (suc q) e =
    let rest = place-up ratios q (and_parts (are_ratios r) (list_all are_ratios ratios) e).1 in
    let own = get_or ratios q no_ratios in
    let l : max 1 (greatest ratios) ≤ max 1 (greatest (r ∷ ratios)) = omega arith in
    (up-more own.right _ _ l rest.0, up-more own.wrong _ _ l rest.1)

chosen : (g : ℕ) (x y : Ratio) (b c : Bool) → IsUpTo g x → IsUpTo g y → let t = cond b x y in (1 ≤ cond c t.a t.b) × (cond c t.a t.b ≤ g)
chosen g x y true true u v = (u.0, u.1)
chosen g x y true false u v = (u.2, u.3)
chosen g x y false true u v = (v.0, v.1)
chosen g x y false false u v = (v.2, v.3)

factor-up : (ratios : List Ratios) (k : Items) (r : Reply) → list_all are_ratios ratios ≡ true → (1 ≤ factor ratios k r) × (factor ratios k r ≤ max 1 (greatest ratios))
factor-up ratios k r e =
    let own = get_or ratios r.q no_ratios in
    let up = place-up ratios r.q e in
    chosen (max 1 (greatest ratios)) own.right own.wrong r.right (agrees k r) up.0 up.1

-- ---- weights and totals

pub weight-some : (ratios : List Ratios) (replies : List Reply) (k : Items) → list_all are_ratios ratios ≡ true → 0 < weight ratios replies k
unfolding weight
weight-some ratios [] k e = omega arith
weight-some ratios (r ∷ replies) k e = one-le-mul (factor-up ratios k r e).0 (weight-some ratios replies k e)

weight-up : (ratios : List Ratios) (replies : List Reply) (k : Items) → list_all are_ratios ratios ≡ true → weight ratios replies k ≤ max 1 (greatest ratios) ^ length replies
unfolding weight
weight-up ratios [] k e = omega (arith, pow-zero (max 1 (greatest ratios)))
weight-up ratios (r ∷ replies) k e =
    let m = max 1 (greatest ratios) in
    let more : m ^ suc (length replies) ≡ m * m ^ length replies = pow-succ' m (length replies) in
    subst (λ n. factor ratios k r * weight ratios replies k ≤ n) (sym more)
    (mul-le (factor ratios k r) (weight ratios replies k) m (m ^ length replies) (factor-up ratios k r e).1 (weight-up ratios replies k e))

total-up : (ratios : List Ratios) (replies : List Reply) (f : List Items) → list_all are_ratios ratios ≡ true → total ratios replies f ≤ length f * max 1 (greatest ratios) ^ length replies
total-up ratios replies f e = sum_by-le (weight ratios replies) (max 1 (greatest ratios) ^ length replies) f (λ i d l. weight-up ratios replies (get_or f i d) e)

greatest-some : (ratios : List Ratios) → list_all are_ratios ratios ≡ true → 0 < length ratios → max 1 (greatest ratios) ≡ greatest ratios
greatest-some [] e l = absurd (omega arith)
greatest-some (r ∷ ratios) e l =
    let own = and_parts (is_ratio r.right) (is_ratio r.wrong) (and_parts (are_ratios r) (list_all are_ratios ratios) e).0 in
    let up = ratio-up r.right r.right.a own.0 (omega arith) in
    omega (arith, up.0)

pub weight-most : (ratios : List Ratios) (replies : List Reply) (k : Items) → list_all are_ratios ratios ≡ true → 0 < length ratios → weight ratios replies k ≤ greatest ratios ^ length replies
weight-most ratios replies k e l = subst (λ m. weight ratios replies k ≤ m ^ length replies) (greatest-some ratios e l) (weight-up ratios replies k e)

pub total-most : (ratios : List Ratios) (replies : List Reply) (f : List Items) → list_all are_ratios ratios ≡ true → 0 < length ratios → total ratios replies f ≤ length f * greatest ratios ^ length replies
total-most ratios replies f e l = subst (λ m. total ratios replies f ≤ length f * m ^ length replies) (greatest-some ratios e l) (total-up ratios replies f e)

-- ---- light settings

passed : (p : ℕ → Bool) (i m j : ℕ) → find p (numbers_from i m) ≡ None → i ≤ j → j < i + m → p j ≡ false
passed p i zero j e l h = absurd (omega arith)
passed p i (suc m) j e l h = elim (p i) as (λ b. p i ≡ b → cond b (Some i) (find p (numbers_from (suc i) m)) ≡ None → p j ≡ false) [
  | true ↦ λ _ e. absurd (cc)
  | false ↦ λ q e. elim (cases_lt i j) [
    | inl lt ↦ passed p (suc i) m j e lt (omega arith)
    | inr ge ↦ let same : i ≡ j = omega arith in ap p (sym same) ∙ q
  ]
] refl e

light-at : (s : Settings) (count r : ℕ) → heavy_after s count ≡ None → r ≤ s.budget → count * greatest s.ratios ^ r ≤ 2 ^ 120
unfolding heavy_after
light-at s count r e l = ltb-false (2 ^ 120) (count * greatest s.ratios ^ r) (passed (is_heavy s count) 0 (suc s.budget) r e (omega arith) (omega arith))

one-up : (n : ℕ) → 1 ^ n ≡ 1
one-up zero = pow-zero 1
one-up (suc n) = pow-succ' 1 n ∙ omega (arith, one-up n)

no-items : (ratios : List Ratios) (n : ℕ) → length ratios ≤ 0 → max 1 (greatest ratios) ^ n ≡ greatest ratios ^ 0
no-items [] n l = one-up n ∙ sym (pow-zero 0)
no-items (r ∷ ratios) n l = absurd (omega arith)

-- what many states can come to is at most 2 ^ 120
light-all : (s : Settings) (count n : ℕ) → list_all are_ratios s.ratios ≡ true → heavy_after s count ≡ None → n ≤ s.budget → count * max 1 (greatest s.ratios) ^ n ≤ 2 ^ 120
light-all s count n e h l = elim (cases_lt 0 (length s.ratios)) [
  | inl some ↦ subst (λ m. count * m ^ n ≤ 2 ^ 120) (sym (greatest-some s.ratios e some)) (light-at s count n h l)
  | inr none ↦ subst (λ m. count * m ≤ 2 ^ 120) (sym (no-items s.ratios n none)) (light-at s count 0 h (omega arith))
]

pub light-weight : (s : Settings) (replies : List Reply) (f : List Items) (k : Items) → list_all are_ratios s.ratios ≡ true → 0 < length f → heavy_after s (length f) ≡ None → length replies ≤ s.budget → weight s.ratios replies k ≤ 2 ^ 120
light-weight s replies f k e some h l =
    let m = max 1 (greatest s.ratios) ^ length replies in
    let once : 1 * m ≤ length f * m = mul-le 1 m (length f) m some (omega arith) in
    omega (arith, weight-up s.ratios replies k e, once, light-all s (length f) (length replies) e h l)

pub light-total : (s : Settings) (replies : List Reply) (f : List Items) → list_all are_ratios s.ratios ≡ true → heavy_after s (length f) ≡ None → length replies ≤ s.budget → total s.ratios replies f ≤ 2 ^ 120
light-total s replies f e h l = omega (arith, total-up s.ratios replies f e, light-all s (length f) (length replies) e h l)
