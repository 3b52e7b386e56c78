use Rattle.std.proofs.Common.{sym, ◌∙◌}
use Rattle.ls_set.specs.{full, subsets}
use Rattle.ls_set.proofs.Sets.{is_within-from}
use Rattle.ls_set.proofs.Order.{among-subsets}
use Rattle.ls_laws.proofs.Interiors.{interior-member}
use Rattle.ls_interior.proofs.free.FreeInside.inside.Goals as goal

pub returns : goal.returns
returns c =
    let n = c.args.self.now in
    sym (interior-member (subsets n) c.args.s (among-subsets n c.args.s ∙ is_within-from c.args.s (full n) c.requires))
