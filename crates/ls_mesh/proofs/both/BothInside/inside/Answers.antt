use Rattle.ls_mesh.specs.Sides.{both}
use Rattle.ls_mesh.proofs.Turns.{never-none}
use Rattle.ls_mesh.proofs.both.BothInside.inside.Goals as goal

pub unreachable-requires : goal.unreachable-requires
unreachable-requires g c =
    let f = g.F.Inside.members c.self.inside.left.now in
    let d = g.G.Inside.members c.self.inside.right.now in
    never-none (both f d) c.args.s c.empty.result c.inside_keeping.result c.empty.ensures
    c.inside_keeping.ensures c.in-None.is
