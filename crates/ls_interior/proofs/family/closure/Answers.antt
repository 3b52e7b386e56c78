use Rattle.std.proofs.Common.{ap, ◌∙◌}
use Rattle.ls_set.specs.{full}
use Rattle.ls_set.proofs.Sets.{minus-within}
use Rattle.ls_interior.proofs.family.closure.Goals as goal

pub interior-requires : goal.interior-requires
interior-requires g c =
    let all = c.full-all.ensures ∙ ap full c.items.ensures.count in
    rw (c.minus.ensures, all) (minus-within _ _)
