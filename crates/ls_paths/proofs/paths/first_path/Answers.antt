use Rattle.ls_paths.proofs.Vocabulary.{empty, first_growth}
use Rattle.ls_paths.proofs.Growths.{learning-from}
use Rattle.ls_paths.proofs.Levels.{first-whole, whole-order}
use Rattle.ls_paths.proofs.PathOrder.{paths-begin}
use Rattle.ls_paths.proofs.paths.first_path.Goals as goal

pub returns-clause-order : goal.returns-clause-order
returns-clause-order g c =
    let n = g.F.Inside.item_count c.args.f.now in
    let f = g.F.Inside.members c.args.f.now in
    let learning = learning-from n f (g.met.F.Inside.is_family c.args.f.now).small c.requires in
    rw c.first.ensures (whole-order n f (first_growth n f n empty) learning (first-whole n f learning))

pub returns-clause-first : goal.returns-clause-first
returns-clause-first g c =
    let n = g.F.Inside.item_count c.args.f.now in
    let f = g.F.Inside.members c.args.f.now in
    rw c.first.ensures (paths-begin n f (g.met.F.Inside.is_family c.args.f.now).small c.requires)
