use Rattle.ls_write.proofs.Vocabulary.{◌∙◌, ap, paths_after, sym}
use Rattle.ls_write.proofs.Pages.{all_after}
use Rattle.ls_write.proofs.walking.walk_after.Goals as goal

pub returns-in_default-clause-left : goal.returns-in_default-clause-left
returns-in_default-clause-left g c =
    let n = g.F.Inside.item_count c.args.f.now in
    let f = g.F.Inside.members c.args.f.now in
    c.from_start.ensures.left ∙ sym (all_after n f) ∙ ap (paths_after n f) (sym c.in_default.is)
