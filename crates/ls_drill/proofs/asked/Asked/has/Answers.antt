use Rattle.ls_drill.proofs.Vocabulary.{◌∙◌, Items, ap, list_any}
use Rattle.ls_drill.proofs.Askings.{asks}
use Rattle.ls_drill.proofs.asked.Asked.has.Goals as goal

pub returns-clause-value : goal.returns-clause-value
returns-clause-value c =
    let q = c.args.query.now.q in
    c.has.ensures ∙ c.moved.ensures.asked q ∙ ap (λ (s : Items). list_any (asks s q) c.args.answers.now) c.moved.ensures.set
