use Rattle.ls_store.proofs.Vocabulary.{◌∙◌, Answer, IsStandingFault, List, ap, interview_on, rules, subst, view}
use Rattle.ls_standing.specs.Starts.{start_of}
use Rattle.ls_store.proofs.Standings.{standing, refused}
use Rattle.ls_store.proofs.inquiries.read_inquiry.Goals as goal

pub returns-in-Ok : goal.returns-in-Ok
returns-in-Ok g c =
    let n = c.args.n in
    let start = start_of c.args.start in
    let next = c.in_ok-next.next in
    let is = c.in-Ok.ensures.ok ∙ ap (λ (xs : List Answer). interview_on n start c.args.block xs next) c.deref.ensures.value in
    standing n start c.args.block (view c.args.object.now) c.in_ok-answers.answers.items next c.in-Ok.inquiry c.in_ok-answers.ensures c.in_ok-next.ensures is c.in-Ok.ensures.standing

pub returns : goal.returns
returns g c =
    let n = c.args.n in
    let start = start_of c.args.start in
    let next = c.in_ok-next.next in
    let fault = subst (λ (xs : List Answer). IsStandingFault (interview_on n start c.args.block xs next) c.in-Err.field-0) c.deref.ensures.value c.in-Err.ensures.fault in
    refused n start c.args.block (view c.args.object.now) c.in_ok-answers.answers.items next c.in-Err.field-0 c.in_ok-answers.ensures c.in_ok-next.ensures c.requires.made (λ e is. search rules) fault
