use Rattle.ls_room.proofs.Vocabulary.{◌∙◌, sym}
use Rattle.ls_room.proofs.Saying.{ends_fault, ends_fine}
use Rattle.ls_room.proofs.room.Room.finish.Goals as goal

pub returns-in-None-clause-ends : goal.returns-in-None-clause-ends
returns-in-None-clause-ends g c = ends_fine _ _ _ _ _ _ c.flush.ensures.says c.flush.ensures.none (sym c.take_fault.ensures.fault ∙ c.in-None.is)

pub returns-in-Some-clause-ends : goal.returns-in-Some-clause-ends
returns-in-Some-clause-ends g c = ends_fault _ _ _ _ _ _ _ c.flush.ensures.says (sym c.take_fault.ensures.fault ∙ c.in-Some.is)
