use Rattle.ls_infer.proofs.Vocabulary.{◌∙◌, family_sets, good-from, refl}
use Rattle.ls_infer.proofs.Outside.{outside-member}
use Rattle.ls_infer.proofs.States.{enough-within}
use Rattle.ls_infer.proofs.Standing.{standing-from}
use Rattle.ls_infer.proofs.standing_no.StandingNo.new.Goals as goal

pub closure-closed-requires : goal.closure-closed-requires
closure-closed-requires g c = (good-from _ c.args.answer.now.query c.requires).small

pub enough_for-enough-requires-clause-member : goal.enough_for-enough-requires-clause-member
enough_for-enough-requires-clause-member g c = rw c.closure-closed.ensures.value (outside-member _ _ _ (family_sets _ _ (g.met.I.Interior.is_family c.args.f.now)))

pub enough_for-enough-requires-clause-item : goal.enough_for-enough-requires-clause-item
enough_for-enough-requires-clause-item g c = (good-from _ c.args.answer.now.query c.requires).item

pub from_enough-requires : goal.from_enough-requires
from_enough-requires g c = rw c.enough_for-enough.ensures.value (enough-within _ _ _ _)

pub returns-clause-value : goal.returns-clause-value
returns-clause-value g c = c.from_enough.ensures.value ∙ standing-from _ _ c.args.answer.now c.closure-closed.result c.enough_for-enough.result _ c.closure-closed.ensures.value c.enough_for-enough.ensures.value refl
