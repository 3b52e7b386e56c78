use Rattle.ls_pupils.proofs.Vocabulary.{◌∙◌, sym}
use Rattle.ls_pupils.proofs.beginning.is_like.Goals as goal

pub returns-then-is_same_start : goal.returns-then-is_same_start
returns-then-is_same_start c = λ h. (
  c.is_same_start.ensures c.if-is_same_start.true ∙ c.start.ensures.value,
  sym c.as_slice.ensures ∙ c.are_same_queries.ensures h ∙ c.yes_queries.ensures.value,
)
