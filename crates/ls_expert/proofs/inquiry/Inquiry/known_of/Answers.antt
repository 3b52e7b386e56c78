use Rattle.ls_expert.proofs.Vocabulary.{◌∙◌, Interview, ap, compat, interview_of, known, sym}
use Rattle.ls_standing.proofs.Ruling.{ruled-compat}
use Rattle.ls_expert.proofs.Ruling.{own_blocks}
use Rattle.ls_expert.proofs.inquiry.Inquiry.known_of.Goals as goal

pub returns-clause-value : goal.returns-clause-value
returns-clause-value g c =
    let s = c.self.inside.family.inner in
    let i = interview_of s c.self.inside.block c.self.inside.answers.items c.self.inside.next in
    let held = c.self.invariant.held in
    c.answer_of.ensures.known i held.standing.sound held.standing.numbered (ap (λ t. t.blocks.item_count) (sym held.tabled.table))
    (rw c.new.ensures (ruled-compat s.item_count s.start c.self.inside.family.rules ∙ ap (compat s.item_count s.start) held.ruled))
    (own_blocks i c.self.inside.table.table held.tabled.table)
    ∙ ap (λ (j : Interview). known j c.args.q.now) c.self.view_is
