-- What contracts see of a family with rules.
use Rattle.std.specs.Prelude.{ℕ, List}
use Rattle.ls_set.specs.declared.query.Query.{Query}

-- the family under the rules, the rules in their order, and how many more fit without memory
pub record RuledState (F : Type 0) : Type 0 where
  pub inner : F
  pub rules : List Query
  pub spare : ℕ
