use Rattle.ls_paths.proofs.Vocabulary.{sym}
use Rattle.ls_paths.proofs.Growths.{learning-from}
use Rattle.ls_paths.proofs.Levels.{first-whole}
use Rattle.ls_paths.proofs.PathOrder.{paths-begin}
use Rattle.ls_paths.proofs.walk.Walk.from_start.Goals as goal

pub invariant_of-result : goal.invariant_of-result
invariant_of-result g c =
    let n = g.F.Inside.item_count c.args.family.now in
    let f = g.F.Inside.members c.args.family.now in
    let learning = learning-from n f (g.met.F.Inside.is_family c.args.family.now).small c.requires in
    record { learning = c.requires; whole = λ _. rw c.first.ensures (first-whole n f learning) }

pub returns-clause-left : goal.returns-clause-left
returns-clause-left g c =
    let n = g.F.Inside.item_count c.args.family.now in
    let f = g.F.Inside.members c.args.family.now in
    rw c.first.ensures (sym (paths-begin n f (g.met.F.Inside.is_family c.args.family.now).small c.requires))
