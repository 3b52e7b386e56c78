use Rattle.ls_surmise.proofs.Vocabulary.{◌∙◌, among-at, ap, arith, empty, get_or_default, is_among}
use Rattle.ls_surmise.proofs.printing.clauses_value.Goals as goal

pub clause_value-requires : goal.clause_value-requires
clause_value-requires c =
    let cs = c.args.clauses.now in
    let j = c.loop-clause.clause-index in
    c.requires c.clause-item.result (ap (is_among cs) (c.clause-item.is ∙ get_or_default cs j c.clause-item.result empty (omega arith)) ∙ among-at cs j (omega arith))
