use Rattle.ls_expert.proofs.Vocabulary.{◌∙◌, Answer, Interview, List, StartOn, TableState, answer_with, ap, arith, compat, interview_of, is_good, remove, retracted, rules_before}
use Rattle.ls_standing.proofs.Ruling.{ruled-compat}
use Rattle.ls_expert.proofs.Asking.{asking}
use Rattle.ls_expert.proofs.Retracting.{held-without_yes, rule-within, good-of, steps-over}
use Rattle.ls_expert.proofs.inquiry.Inquiry.take_back_yes.Goals as goal

pub returns-clause-cost : goal.returns-clause-cost
returns-clause-cost g c =
    let i = interview_of c.self.inside.family.inner c.self.inside.block c.self.inside.answers.items c.self.inside.next in
    let a = c.args.answer.now in
    let most = steps-over i c.self.inside.table.table a.query.a c.self.invariant.held.tabled.table in
    rw (← c.self.view_is, c.requires.yes) (omega (arith, c.yes_removed.ensures.cost, most))

pub remove-requires : goal.remove-requires
remove-requires g c =
    let i = interview_of c.self.inside.family.inner c.self.inside.block c.self.inside.answers.items c.self.inside.next in
    let a = c.args.answer.now in
    let rule = c.rules_before-rule.ensures ∙ ap (λ (l : List Answer). rules_before l a.number) c.deref.ensures.value in
    rw rule (rule-within i a c.self.inside.family.rules c.self.inside.table c.self.inside.table c.self.invariant.held
    (ap (λ (j : Interview). answer_with j a.number) c.self.view_is ∙ c.requires.stands) c.requires.yes)

pub yes_removed-requires-clause-good : goal.yes_removed-requires-clause-good
yes_removed-requires-clause-good g c =
    let i = interview_of c.self.inside.family.inner c.self.inside.block c.self.inside.answers.items c.self.inside.next in
    let a = c.args.answer.now in
    ap (λ (t : TableState). is_good t.blocks.item_count a.query) c.self.invariant.held.tabled.table
    ∙ good-of i a c.self.inside.family.rules c.self.inside.table c.self.inside.table c.self.invariant.held
    (ap (λ (j : Interview). answer_with j a.number) c.self.view_is ∙ c.requires.stands) c.requires.yes

pub invariant_of-self : goal.invariant_of-self
invariant_of-self g c =
    let s = c.self.inside.family.inner in
    let i = interview_of s c.self.inside.block c.self.inside.answers.items c.self.inside.next in
    let a = c.args.answer.now in
    let others = c.remove.new.self.rules in
    let rule = c.rules_before-rule.ensures ∙ ap (λ (l : List Answer). rules_before l a.number) c.deref.ensures.value in
    let family =
    ruled-compat c.remove.new.self.inner.item_count c.remove.new.self.inner.start others
    ∙ ap (λ (u : StartOn). compat u.item_count u.start others) c.remove.ensures.inner in
    let stands = ap (λ (j : Interview). answer_with j a.number) c.self.view_is ∙ c.requires.stands in
    let removed = c.remove.ensures.rules ∙ ap (remove c.self.inside.family.rules) rule in
    let held = held-without_yes i a c.self.inside.family.rules c.self.inside.table c.yes_removed.new.self c.self.invariant.held stands others _ c.requires.yes removed (rw c.new.ensures family) c.yes_removed.ensures.kept in
    rw (c.take_out.ensures, c.remove.ensures.inner)
    (asking (retracted i a.number) c.self.inside.blocks others c.yes_removed.new.self c.next_query-self-inside.result held c.self.invariant.asked c.self.invariant.some_sizes c.next_query-self-inside.ensures)
