use Rattle.ls_deciding.proofs.Vocabulary.{◌∙◌, IfOk-weaker, IsFollowed, subst, yes_queries}
use Rattle.ls_deciding.proofs.OnBases.{followed-space, followed-row}
use Rattle.ls_deciding.proofs.based.decide_based.Goals as goal

pub show-requires-clause-space : goal.show-requires-clause-space
show-requires-clause-space c =
    let i = c.args.inquiry.now in
    followed-space i c.in-Within.base (subst (IsFollowed i.count i.start (yes_queries i.answers)) c.in-Within.is c.requires.followed) c.standing.ensures.standing.sound

pub returns-in-Within : goal.returns-in-Within
returns-in-Within c =
    let i = c.args.inquiry.now in
    IfOk-weaker c.show.result _ _ (λ r e. e ∙ followed-row i c.in-Within.base (subst (IsFollowed i.count i.start (yes_queries i.answers)) c.in-Within.is c.requires.followed) c.args.asked c.requires.based) c.show.ensures
