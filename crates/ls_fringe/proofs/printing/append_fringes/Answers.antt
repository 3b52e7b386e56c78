use Rattle.ls_fringe.proofs.Vocabulary.{◌∙◌}
use Rattle.ls_fringe.proofs.Bars.{fringes_joined, gap-named}
use Rattle.ls_fringe.proofs.printing.append_fringes.Goals as goal

pub returns-clause-ok : goal.returns-clause-ok
returns-clause-ok c =
    let names = c.args.d.now in
    let x = c.args.x.now in
    fringes_joined names x.inner x.outer c.args.out.now.items _ _ _ _ _ _ _ c.in_ok-push_names.ensures.ok
    (c.gap_of.ensures ∙ gap-named names x.inner c.requires.inner) c.in_ok-extend_from_slice.ensures.items c.in_ok-push.ensures.items
    (c.gap_of-2.ensures ∙ gap-named names x.outer c.requires.outer) c.in_ok-extend_from_slice-2.ensures.items
    c.in_ok-push_names-2.ensures.ok
