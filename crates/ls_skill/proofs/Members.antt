-- What is made of a member by leaving out items in turn is a member.
use Rattle.std.proofs.Common.{ℕ, zero, suc, ◌≡◌, inl, inr, Bool, true, false, cond, List, ap}
use Rattle.std.proofs.Common.{◌∙◌}
use Rattle.std.proofs.Common.{refl, arith}
use Rattle.std.proofs.lemmas.Bool.{cases_eq}
use Rattle.std.proofs.lemmas.Bool.Decides.{nat_tests}
use Rattle.ls_set.specs.ItemSet.{Items, has, without, keep_before, is_within, is_among}
use Rattle.ls_set.proofs.Sets.{members, same_set}
use Rattle.ls_theory.specs.Families.{interior}
use Rattle.ls_laws.specs.Families.{IsFamily}
use Rattle.ls_laws.proofs.Interiors.{interior-member}
use Rattle.ls_skill.specs.Duals.{dual_reach, lowered_at, lowered}
use Rattle.ls_skill.proofs.Dual.{inside-of}

pub begins-member : (n : ℕ) (f : List Items) (word : Items) (i : ℕ) → IsFamily n f
    → is_among f (interior f (dual_reach n word i)) ≡ true
begins-member n f word i family = (inside-of n f family (dual_reach n word i)).member

pub lowered_at-member : (n : ℕ) (f : List Items) (k : Items) (j : ℕ) → IsFamily n f → is_among f k
    ≡ true → is_among f (lowered_at f k j) ≡ true
lowered_at-member n f k j family c =
    let t = interior f (without k j) in
    elim (is_within (keep_before k j) t) as (λ b. is_among f (cond b t k) ≡ true) [
      | true ↦ (inside-of n f family (without k j)).member
      | false ↦ c
    ]

pub lowered-member : (n : ℕ) (f : List Items) (k : Items) (j m : ℕ) → IsFamily n f → is_among f k
    ≡ true → is_among f (lowered f k j m) ≡ true
lowered-member n f k j zero family c = c
lowered-member n f k j (suc m) family c =
    lowered-member n f (lowered_at f k j) (suc j) m family (lowered_at-member n f k j family c)

pub lowered_at-absent : (n : ℕ) (f : List Items) (k : Items) (j : ℕ) → IsFamily n f → is_among f k
    ≡ true → has k j ≡ false → lowered_at f k j ≡ k
lowered_at-absent n f k j family c h =
    let same : without k j ≡ k = same_set (without k j) k (λ i. elim (cases_eq i j) [
      | inl e ↦ let b = ap (has k) e ∙ h in grind (arith, members, nat_tests)
      | inr d ↦ grind (arith, members, nat_tests)
    ]) in
    let t : interior f (without k j) ≡ k = ap (interior f) same ∙ interior-member f k c in
    let e : cond (is_within (keep_before k j) (interior f (without k j))) (interior f (without k j))
    k ≡ cond (is_within (keep_before k j) (interior f (without k j))) k k = ap
    (λ s. cond (is_within (keep_before k j) (interior f (without k j))) s k) t in
    e ∙ either (is_within (keep_before k j) (interior f (without k j))) k
  where
    either : (b : Bool) (k : Items) → cond b k k ≡ k
    either true k = refl
    either false k = refl
