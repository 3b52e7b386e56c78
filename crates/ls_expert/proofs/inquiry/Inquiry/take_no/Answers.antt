use Rattle.ls_expert.proofs.Vocabulary.{◌∙◌, Interview, IsTabled, ap, compat, false, interview_of, refusal}
use Rattle.ls_standing.proofs.Ruling.{ruled-compat}
use Rattle.ls_expert.proofs.Asking.{still-asking}
use Rattle.ls_expert.proofs.Taking.{held-no, tabled-no}
use Rattle.ls_expert.proofs.inquiry.Inquiry.take_no.Goals as goal

pub invariant_of-self-2 : goal.invariant_of-self-2
invariant_of-self-2 g c =
    let s = c.self.inside.family.inner in
    let i = interview_of s c.self.inside.block c.self.inside.answers.items c.self.inside.next in
    let r = c.args.query.now in
    let h = c.self.invariant.held in
    let ruled = ruled-compat s.item_count s.start c.self.inside.family.rules ∙ ap (compat s.item_count s.start) h.ruled in
    let own : IsTabled i c.reserve_no.new.self = record { table = c.reserve_no.ensures.table ∙ h.tabled.table; states = rw c.reserve_no.ensures.witnesses h.tabled.states } in
    rw (c.put_last.ensures.last, c.put_last.ensures.next, c.reserve.ensures.items)
    (still-asking i r false c.self.inside.blocks c.self.inside.family.rules c.self.inside.family.rules c.self.inside.table c.no_added_shared.new.self c.self.inside.from c.self.inside.is_found c.self.invariant
    (held-no i r c.self.inside.family.rules c.self.inside.table c.no_added_shared.new.self h (ap (λ (j : Interview). refusal j r false) c.self.view_is ∙ c.requires)
    (tabled-no i r c.reserve_no.new.self c.no_added_shared.new.self _ own (rw c.new.ensures ruled) c.no_added_shared.ensures.kept c.no_added_shared.ensures.states)))
