use Rattle.ls_store.proofs.Vocabulary.{compat, start_of}
use Rattle.ls_store.proofs.PupilStates.{kept-from, weighable}
use Rattle.ls_store.proofs.replaying.pupil_after.Goals as goal

pub begun-requires : goal.begun-requires
begun-requires g c =
    let n = c.args.n in
    let start = start_of c.args.start.now in
    let own = c.args.yes.now in
    weighable n start own c.in-Some.states c.args.settings.now (kept-from c.in-Some.states (compat n start own) (rw c.in-Some.is at c.in_ok-states.ensures)) c.requires.some c.requires.few c.requires.items
