-- The greatest number of ratios, and the least number of replies after which a total may pass.
use Rattle.ls_weight.proofs.Vocabulary.{◌*◌, ◌+◌, ◌-◌, ◌<◌, ◌^◌, ◌∙◌, ◌∷◌, ◌≡◌, ◌≤◌, List, None, Ratios, Some, ℕ, [], add-one, and_parts, ap, arith, cond, false, find, fold, le-ltb, list_all, lt-ltb, ltb, max, nat_tests, numbers_from, pow-suc, suc, sym, true}
use Rattle.ls_theory.specs.Settings.{Settings, are_ratios, greatest, is_heavy, heavy_after}
use Rattle.ls_theory.proofs.Numbers.{numbers_first, numbers_none}

pub greatest-fold : (n : ℕ) (ratios : List Ratios) → fold (λ a (r : Ratios). max a (max r.right.a r.wrong.a)) n ratios ≡ max n (greatest ratios)
greatest-fold n [] = omega arith
greatest-fold n (r ∷ ratios) = greatest-fold (max n (max r.right.a r.wrong.a)) ratios ∙ omega arith

ratio-most : (r : Ratios) → are_ratios r ≡ true → max r.right.a r.wrong.a ≤ 64
ratio-most r e = let h : (r.right.a ≤ 64) × (r.wrong.a ≤ 64) = grind (arith, nat_tests) in omega arith

pub greatest-most : (ratios : List Ratios) → list_all are_ratios ratios ≡ true → greatest ratios ≤ 64
greatest-most [] e = omega arith
greatest-most (r ∷ ratios) e = let a = and_parts (are_ratios r) (list_all are_ratios ratios) e in omega (arith, ratio-most r a.0, greatest-most ratios a.1)

-- ---- from the replies r on

-- the least number of replies from r on after which the total may pass
abbrev pub heavy_from : Settings → ℕ → ℕ → Type 0
heavy_from s count r = find (is_heavy s count) (numbers_from r (suc s.budget - r)) ≡ heavy_after s count

pub heavy-start : (s : Settings) (count : ℕ) → heavy_from s count 0
unfolding heavy_after
heavy-start s count = ap (λ m. find (is_heavy s count) (numbers_from 0 m)) (let e : suc s.budget - 0 ≡ suc s.budget = omega arith in e)

heavy-first : (s : Settings) (count r : ℕ) → r ≤ s.budget → find (is_heavy s count) (numbers_from r (suc s.budget - r)) ≡ cond (is_heavy s count r) (Some r) (find (is_heavy s count) (numbers_from (r + 1) (suc s.budget - (r + 1))))
heavy-first s count r l = ap (find (is_heavy s count)) (numbers_first r (suc s.budget) (omega arith))

pub heavy-here : (s : Settings) (count r total : ℕ) → heavy_from s count r → r ≤ s.budget → total ≡ count * greatest s.ratios ^ r → 2 ^ 120 < total → Some r ≡ heavy_after s count
heavy-here s count r total h l e g =
    let passes : is_heavy s count r ≡ true = ap (ltb (2 ^ 120)) (sym e) ∙ lt-ltb (2 ^ 120) total g in
    let rest = find (is_heavy s count) (numbers_from (r + 1) (suc s.budget - (r + 1))) in
    sym (ap (λ b. cond b (Some r) rest) passes) ∙ sym (heavy-first s count r l) ∙ h

pub heavy-next : (s : Settings) (count r total : ℕ) → heavy_from s count r → r ≤ s.budget → total ≡ count * greatest s.ratios ^ r → total ≤ 2 ^ 120 → heavy_from s count (r + 1)
heavy-next s count r total h l e g =
    let stays : is_heavy s count r ≡ false = ap (ltb (2 ^ 120)) (sym e) ∙ le-ltb (2 ^ 120) total g in
    let rest = find (is_heavy s count) (numbers_from (r + 1) (suc s.budget - (r + 1))) in
    sym (ap (λ b. cond b (Some r) rest) stays) ∙ sym (heavy-first s count r l) ∙ h

pub heavy-none : (s : Settings) (count r : ℕ) → heavy_from s count r → suc s.budget ≤ r → None ≡ heavy_after s count
heavy-none s count r h l = sym (ap (find (is_heavy s count)) (numbers_none r (suc s.budget) l)) ∙ h

-- one reply more multiplies the total by the greatest number
pub total-next : (count g r total : ℕ) → total ≡ count * g ^ r → total * g ≡ count * g ^ (r + 1)
total-next count g r total e =
    let more : g ^ (r + 1) ≡ g ^ r * g = ap (λ n. g ^ n) (add-one r) ∙ pow-suc g r in
    ap (λ n. n * g) e ∙ (let a : count * g ^ r * g ≡ count * (g ^ r * g) = omega arith in a) ∙ ap (λ n. count * n) (sym more)
