-- Leaving items out of a member, in turn.
use Rattle.std.proofs.Common.{ℕ, zero, suc, ◌+◌, ◌-◌, ◌<◌, ◌≡◌, inl, inr, Bool, true, false}
use Rattle.std.proofs.Common.{cond, List, find, Option, Some}
use Rattle.std.proofs.Common.{None, option_map, refl, sym, ap, ◌∙◌, arith}
use Rattle.std.proofs.lemmas.Bool.{cases_eq}
use Rattle.ls_set.specs.ItemSet.{Items, full, without, minus, keep_before, is_within, comes_before}
use Rattle.ls_set.specs.ItemSet.{IsWithin}
use Rattle.ls_set.proofs.Sets.{members}
use Rattle.std.proofs.lemmas.Bool.Decides.{nat_tests}
use Rattle.ls_theory.specs.Families.{interior}
use Rattle.ls_laws.specs.Families.{IsFamily}
use Rattle.ls_interior.specs.Keeping.{interior_keeping}
use Rattle.ls_origins.specs.Skills.{duals}
use Rattle.ls_skill.specs.Duals.{dual_reach, parts_at, last_that, lowered_at, lowered, next_dual}
use Rattle.ls_skill.proofs.Dual.{next-dual}

-- one item further
pub lowered-next : (f : List Items) (k : Items) (j n : ℕ) → j < n → lowered f k j (n - j)
    ≡ lowered f (lowered_at f k j) (j + 1) (n - (j + 1))
lowered-next f k j n l =
    let e : n - j ≡ suc (n - (j + 1)) = omega arith in
    let d : suc j ≡ j + 1 = omega arith in
    ap (lowered f k j) e ∙ ap (λ i. lowered f (lowered_at f k j) i (n - (j + 1))) d

pub lowered-some : (f : List Items) (k t : Items) (j : ℕ)
    → interior_keeping f (without k j) (keep_before k j) ≡ Some t → lowered_at f k j ≡ t
lowered-some f k t j e =
    elim (is_within (keep_before k j) (interior f (without k j))) as
    (λ b. cond b (Some (interior f (without k j))) None ≡ Some t
    → cond b (interior f (without k j)) k ≡ t) [
      | true ↦ λ e. let same : interior f (without k j) ≡ t = cc in same
      | false ↦ λ e. cc
    ] e

pub lowered-none : (f : List Items) (k : Items) (j : ℕ)
    → interior_keeping f (without k j) (keep_before k j) ≡ None → lowered_at f k j ≡ k
lowered-none f k j e =
    elim (is_within (keep_before k j) (interior f (without k j))) as
    (λ b. cond {A = Option Items} b (Some (interior f (without k j))) None ≡ None
    → cond b (interior f (without k j)) k ≡ k) [
      | true ↦ λ e. cc
      | false ↦ λ e. refl
    ] e

-- ---- the greatest number that passes

pub last-at : (p : ℕ → Bool) (m i : ℕ) → i < m → p i ≡ true
    → ((j : ℕ) → i < j → j < m → p j ≡ true → ⊥) → last_that p m ≡ Some i
last-at p zero i l h none = absurd (omega arith)
last-at p (suc m) i l h none = elim (cases_eq i m) [
  | inl e ↦ rw (ap p (sym e) ∙ h) (ap Some (sym e))
  | inr d ↦
      let small : i < m = omega arith in
      elim (p m) as (λ b. p m ≡ b → cond b (Some m) (last_that p m) ≡ Some i) [
        | true ↦ λ e. absurd (none m small (omega arith) e)
        | false ↦ λ e. last-at p m i small h (λ j a b. none j a (omega arith))
      ] refl
]

pub last-none : (p : ℕ → Bool) (m : ℕ) → ((j : ℕ) → j < m → p j ≡ true → ⊥) → last_that p m ≡ None
last-none p zero none = refl
last-none p (suc m) none = elim (p m) as (λ b. p m ≡ b → cond b (Some m) (last_that p m) ≡ None) [
  | true ↦ λ e. absurd (none m (omega arith) e)
  | false ↦ λ e. last-none p m (λ j l. none j (omega arith))
] refl

-- what is found where a complement parts from the word
pub found : (n : ℕ) (f : List Items) (word : Items) (i : ℕ) → IsFamily n f → IsWithin word (full n)
    → i < n → parts_at n f word i ≡ true
    → ((j : ℕ) → i < j → j < n → parts_at n f word j ≡ true → ⊥)
    → Some (minus (full n) (lowered f (interior f (dual_reach n word i)) (i + 1) (n - (i + 1))))
    ≡ find (comes_before word) (duals n f)
unfolding next_dual
found n f word i family small l h none =
    let d : suc i ≡ i + 1 = omega arith in
    ap (λ j. Some (minus (full n) (lowered f (interior f (dual_reach n word i)) j (n - j)))) (sym d)
    ∙ sym
    (ap
    (option_map
    (λ i. minus (full n) (lowered f (interior f (dual_reach n word i)) (suc i) (n - suc i))))
    (last-at (parts_at n f word) n i l h none))
    ∙ sym (next-dual n f word family small)

pub none-found : (n : ℕ) (f : List Items) (word : Items) → IsFamily n f → IsWithin word (full n)
    → ((j : ℕ) → j < n → parts_at n f word j ≡ true → ⊥) → None
    ≡ find (comes_before word) (duals n f)
unfolding next_dual
none-found n f word family small none =
    sym
    (ap
    (option_map
    (λ i. minus (full n) (lowered f (interior f (dual_reach n word i)) (suc i) (n - suc i))))
    (last-none (parts_at n f word) n none))
    ∙ sym (next-dual n f word family small)

-- where an interior is formed all items are the family's
pub reach-within : (n : ℕ) (word : Items) (i : ℕ) → IsWithin (dual_reach n word i) (full n)
reach-within n word i j h = grind (arith, members, nat_tests)
