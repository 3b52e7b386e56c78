-- Which queries of a set were asked.
use Rattle.std.specs.Prelude.{ℕ, ◌≡◌, List}
use Rattle.std.specs.List.{list_any}
use Rattle.ls_set.specs.{has}
use Rattle.ls_set.specs.declared.query.Query.{Query}
use Rattle.ls_theory.specs.{is_same_query}
use Rattle.ls_theory.specs.declared.answer.Answer.{Answer}
use Rattle.ls_drill.specs.declared.asked.Asked.{Asked}

-- it has the items of the queries of its set that were asked
abbrev pub IsAsked : List Answer → Asked → Type 0
IsAsked answers s = (q : ℕ) → let r : Query = record { a = s.set; q = q } in
    has s.items q ≡ list_any (λ a. is_same_query a.query r) answers
