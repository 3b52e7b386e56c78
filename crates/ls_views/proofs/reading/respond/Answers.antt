use Rattle.ls_views.proofs.Vocabulary.{◌<◌, ◌∙◌, CanSay, Err, IfOk-weaker, Refused, ResolvesInMemory, Response, answers, ap, arith, length, session_with, subst, sym, unnamed, view_item_words, view_of, view_row}
use Rattle.std.proofs.Common.{◌+◌, ◌≤◌, refl}
use Rattle.ls_meaning.specs.declared.request.View.{View}
use Rattle.ls_write.specs.Showing.{response_steps}
use Rattle.ls_deciding.specs.Views.{view_steps}
use Rattle.ls_views.specs.Views.{command_steps}
use Rattle.ls_resolve.specs.declared.unnamed.ResolveFault.{ResolveFault}
use Rattle.ls_meaning.specs.declared.response.Refusal.TheVariants.{Unnamed}
use Rattle.ls_write.proofs.Showing.{can-view}
use Rattle.ls_views.proofs.Viewing.{shows-row, tells-place}
use Rattle.ls_views.proofs.Costs.{view-cost}
use Rattle.ls_views.proofs.reading.respond.Goals as goal

pub returns-in-Ok-clause-response : goal.returns-in-Ok-clause-response
returns-in-Ok-clause-response g c = λ old calls.
    let i = c.args.inquiry.now in
    let s = session_with old c.args.domain.now i in
    let some : 0 < length c.args.domain.now = omega (arith, c.count.ensures.value, c.count.ensures.some) in
    let resolved = c.in-Ok.ensures.resolves in
    IfOk-weaker c.show.result _ _
    (λ r e. shows-row s calls c.args.command.now some resolved.1 ∙ ap (answers s) (sym (e ∙ ap (view_row i) resolved.0)))
    c.show.ensures.response

pub returns-in-Ok-clause-can : goal.returns-in-Ok-clause-can
returns-in-Ok-clause-can g c =
    let n = length c.args.domain.now in
    let i = c.args.inquiry.now in
    IfOk-weaker c.show.result _ _
    (λ r e. subst (CanSay n i) (sym e) (can-view n i c.requires.items c.standing.ensures.standing.sound c.in-Ok.view c.in-Ok.ensures.on))
    c.show.ensures.response

pub returns-in-Err-Unnamed-clause-response : goal.returns-in-Err-Unnamed-clause-response
returns-in-Err-Unnamed-clause-response g c = λ old calls.
    let names = c.args.domain.now in
    let asked = c.args.command.now in
    let s = session_with old names c.args.inquiry.now in
    let some : 0 < length names = omega (arith, c.count.ensures.value, c.count.ensures.some) in
    let first = subst (λ (fault : ResolveFault). ResolvesInMemory (unnamed names (view_item_words asked)) (view_of names asked) (Err fault))
    c.in-Err-Unnamed.field-0-is c.in-Err-Unnamed.ensures.resolves in
    tells-place s calls asked some c.in-Err-Unnamed.place first
    ∙ ap (λ n. answers s (Refused (Unnamed n))) (sym c.in-Err-Unnamed.place-is)

pub returns-in-Ok-clause-cost : goal.returns-in-Ok-clause-cost
returns-in-Ok-clause-cost g c =
    let n = c.args.inquiry.now.count in
    let i = c.args.inquiry.now in
    let names = c.args.domain.now in
    let asked = c.args.command.now in
    let is = c.in-Ok.ensures.resolves.0 in
    let cost = subst (λ (v : View). c.show.new.steps ≤ c.args.steps.now + view_steps i v) is c.show.ensures.cost in
    IfOk-weaker c.show.result _ _
    (λ r e.
    let same = e ∙ ap (view_row i) is in
    let spent = subst (λ (x : Response). view_steps i (view_of names asked) + response_steps x n ≤ command_steps i asked) (sym same) (view-cost n i refl names asked) in
    omega (arith, cost, spent))
    c.show.ensures.response
