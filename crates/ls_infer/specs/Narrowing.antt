-- What may still be enough, as states tell it.
--     owed rest      the steps that may still be taken: one for each item that is left,
--         and the spare ones
--     IsNarrowed n f outside q before after      items are left out, none that is enough
--         for q with the closed set
use Rattle.std.specs.Prelude.{ℕ, ◌+◌, ◌≡◌, true, List}
use Rattle.ls_set.specs.{IsWithin, Items, full, has, len, minus}
use Rattle.ls_infer.specs.declared.narrowing.Rest.{Rest}
use Rattle.ls_infer.specs.Tables.{enough_for}

abbrev pub owed : Rest → ℕ
owed rest = len rest.items + rest.spare

-- the closed set is that of which these are the items outside
pub record IsNarrowed (n : ℕ) (f : List Items) (outside : Items) (q : ℕ)
    (before after : Items) : Type 0 where
  pub part : IsWithin after before
  pub enough : (closed : Items)
      → outside ≡ minus (full n) closed
      → (i : ℕ)
      → has (enough_for n f closed q) i ≡ true
      → has before i ≡ true
      → has after i ≡ true
