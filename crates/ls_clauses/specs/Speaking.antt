-- Which sets and items a verdict speaks of.
use Rattle.std.specs.Prelude.{ℕ, ◌<◌, ⊤}
use Rattle.ls_set.specs.{IsWithin, Items, full}
use Rattle.ls_theory.specs.declared.verdict.Verdict.{Verdict}
use Rattle.ls_theory.specs.declared.verdict.Verdict.TheVariants.{NoEmpty, NoFull, NotClosed}
use Rattle.ls_theory.specs.declared.verdict.Verdict.TheVariants.{NotGraded, Learning}
use Rattle.ls_theory.specs.declared.verdict.BaseVerdict.{BaseVerdict}
use Rattle.ls_theory.specs.declared.verdict.BaseVerdict.TheVariants as of_base

-- a set of n items, and two items
pub record IsDoubleOn (n : ℕ) (k : Items) (first second : ℕ) : Type 0 where
  pub set : IsWithin k (full n)
  pub first_item : first < n
  pub second_item : second < n

-- a verdict on a space of n items
abbrev pub IsBaseVerdictOn : ℕ → BaseVerdict → Type 0
IsBaseVerdictOn n of_base.Learning = ⊤
IsBaseVerdictOn n (of_base.NotGraded k first second) = IsDoubleOn n k first second

-- a verdict on a family of n items
abbrev pub IsVerdictOn : ℕ → Verdict → Type 0
IsVerdictOn n NoEmpty = ⊤
IsVerdictOn n NoFull = ⊤
IsVerdictOn n (NotClosed left right) = IsWithin left (full n) × IsWithin right (full n)
IsVerdictOn n (NotGraded k first second) = IsDoubleOn n k first second
IsVerdictOn n (Learning base) = ⊤
