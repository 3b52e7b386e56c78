use Rattle.ls_laws.proofs.Interiors.{is_within-interior}
use Rattle.ls_interior.proofs.family.is_member.Goals as goal

pub returns : goal.returns
returns g c =
    let family = g.met.F.Inside.is_family c.args.f.now in
    rw (c.is_within.ensures, c.inside.ensures) (is_within-interior _ family.holds_empty family.holds_unions c.args.s)
