use Rattle.ls_infer.proofs.Vocabulary.{◌∙◌, ap, breaks, filter, not, set, sym}
use Rattle.std.proofs.lemmas.List.Edits.{map_over_more}
use Rattle.ls_infer.proofs.KeptStates.{written-end}
use Rattle.ls_infer.proofs.witnesses.let_go_each.Goals as goal

pub loop-witnesses-preserved : goal.loop-witnesses-preserved
loop-witnesses-preserved c =
    let v = c.loop-witnesses in
    let left = filter (λ k. not (breaks k c.args.r.now)) in
    ap (set v.kept v.witnesses-index) (c.let_go.ensures ∙ ap left (sym c.witnesses-item.is))
    ∙ map_over_more left c.args.kept.now v.kept v.witnesses-index c.witnesses-item.result c.loop-witnesses-test.true v.invariant c.witnesses-item.is

pub returns : goal.returns
returns c = c.loop-witnesses.invariant ∙ written-end (filter (λ k. not (breaks k c.args.r.now))) c.args.kept.now c.loop-witnesses.witnesses-index c.loop-witnesses-test.false
