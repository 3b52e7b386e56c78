use Rattle.std.proofs.Common.{◌+◌, List, ap, length, subst, sym}
use Rattle.ls_set.specs.declared.query.Query.{Query}
use Rattle.ls_theory.specs.{Interview, yes_queries}
use Rattle.ls_base.specs.Followed.{IsFollowed}
use Rattle.ls_standing.proofs.AnswerLists.{yes_queries-yes}
use Rattle.ls_expert.proofs.interview.Interview.take_yes.Goals as goal

pub invariant_of-self-2 : goal.invariant_of-self-2
invariant_of-self-2 g c =
    let i = c.self.inside.inquiry in
    let next = c.in_ok-followed.followed in
    let followed = c.in_ok-followed.ensures.followed i.count i.start (yes_queries i.answers) c.self.invariant (ap (λ (l : List Query). length l + 1) c.yes_queries.ensures.value) in
    subst (λ (j : Interview). IsFollowed j.count j.start (yes_queries j.answers) next) (sym c.in_ok-number.ensures.ok)
    (subst (λ (l : List Query). IsFollowed i.count i.start l next) (sym (yes_queries-yes i c.args.query.now)) followed)
