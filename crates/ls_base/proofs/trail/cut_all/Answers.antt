use Rattle.ls_base.proofs.Vocabulary.{◌∙◌, ap, cut, set, sym}
use Rattle.std.proofs.lemmas.List.Edits.{map_over_more}
use Rattle.ls_base.proofs.trail.cut_all.Goals as goal

pub loop-entry-preserved : goal.loop-entry-preserved
loop-entry-preserved c =
    let ys = c.loop-entry.entries in
    let i = c.loop-entry.entry-index in
    ap (set ys i) (c.cut.ensures ∙ ap (cut c.args.count) (sym c.entry-item.is))
    ∙ map_over_more (cut c.args.count) c.args.entries.now ys i c.entry-item.result c.loop-entry-test.true c.loop-entry.invariant c.entry-item.is
