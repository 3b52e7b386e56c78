-- What is followed over the first Yes answers, where the interview changes.
use Rattle.ls_deciding.proofs.Vocabulary.{◌≡◌, Bool, Interview, IsTrail, IsTrail-more, IsTrailOf, List, Query, Some, ℕ, accepted, answer_with, arith, false, retracted, rules_before, subst, sym, take, true, yes_queries}
use Rattle.ls_theory.specs.declared.answer.Answer.{Answer}
use Rattle.ls_laws.specs.Forced.{IsNumbered}
use Rattle.ls_base.specs.declared.trail.Entry.{Entry}
use Rattle.ls_standing.proofs.AnswerLists.{yes_queries-yes, yes_queries-no, yes_queries-without_no, take-yes_queries-without_yes}

pub trail-accepted : (i : Interview) (r : Query) (yes : Bool) (t : List Entry) → IsTrailOf i t → IsTrailOf (accepted i r yes) t
trail-accepted i r true t h = subst (λ ys. IsTrail i.count i.start ys t) (sym (yes_queries-yes i r)) (IsTrail-more i.count i.start (yes_queries i.answers) r t h)
trail-accepted i r false t h = subst (λ ys. IsTrail i.count i.start ys t) (sym (yes_queries-no i r)) h

module _ (i : Interview) (a : Answer) (numbered : IsNumbered i) (stands : answer_with i a.number ≡ Some a) where
  pub trail-without_no : (t : List Entry) → a.yes ≡ false → IsTrailOf i t → IsTrailOf (retracted i a.number) t
  trail-without_no t is_no h = subst (λ ys. IsTrail i.count i.start ys t) (sym (yes_queries-without_no i a numbered stands is_no)) h

  pub first-kept : (k : ℕ) → a.yes ≡ true → k ≡ rules_before i.answers a.number → take k (yes_queries (retracted i a.number).answers) ≡ take k (yes_queries i.answers)
  first-kept k is_yes e = take-yes_queries-without_yes i a numbered stands k is_yes (omega arith)
