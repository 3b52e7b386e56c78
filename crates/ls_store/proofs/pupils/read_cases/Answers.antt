use Rattle.ls_store.proofs.Vocabulary.{pupils_of}
use Rattle.ls_store.proofs.PupilLists.{fault-as}
use Rattle.ls_store.proofs.pupils.read_cases.Goals as goal

pub returns-in-Err-clause-value : goal.returns-in-Err-clause-value
returns-in-Err-clause-value g c = fault-as (λ (u : Unit {0}). pupils_of c.fill.new.cases) pupils_of _ c.in-Err.fault c.in-Err.ensures.value
