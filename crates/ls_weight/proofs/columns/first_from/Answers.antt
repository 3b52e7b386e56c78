use Rattle.ls_weight.proofs.Vocabulary.{arith}
use Rattle.ls_weight.proofs.columns.first_from.Goals as goal

pub returns-then-place-column : goal.returns-then-place-column
returns-then-place-column c = record {
  later = c.next_agreeing-place.ensures.later;
  none = c.next_agreeing-place.ensures.none;
  agrees = c.next_agreeing-place.ensures.first;
  digits = λ l. c.rest_at.ensures;
}

pub returns-else-place-column : goal.returns-else-place-column
returns-else-place-column c = record {
  later = c.next_agreeing-place.ensures.later;
  none = c.next_agreeing-place.ensures.none;
  agrees = c.next_agreeing-place.ensures.first;
  digits = λ l. absurd (omega arith);
}
