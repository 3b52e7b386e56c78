use Rattle.ls_expert.proofs.Vocabulary.{◌∙◌, Interview, Ok, ap, interview_of, made, sym}
use Rattle.ls_expert.proofs.Holding.{range-of, some-made, held-blocks}
use Rattle.ls_expert.proofs.Asking.{asking}
use Rattle.ls_expert.proofs.inquiry.Inquiry.set_blocks.Goals as goal

pub invariant_of-self : goal.invariant_of-self
invariant_of-self c =
    let s = c.self.inside.family.inner in
    let i = interview_of s c.self.inside.block c.self.inside.answers.items c.self.inside.next in
    let j = interview_of s c.args.k c.self.inside.answers.items c.self.inside.next in
    let b = c.in_ok-self-inside.field-0 in
    let is_made = ap (λ m. made m c.args.k) (sym c.items.ensures.count) ∙ sym c.new.ensures.value ∙ c.in_ok-self-inside.was in
    asking j b c.self.inside.family.rules c.self.inside.table c.next_query-self-inside.result
    (held-blocks i c.args.k c.self.inside.family.rules c.self.inside.table c.self.invariant.held)
    (range-of s.item_count c.args.k b is_made) (some-made s.item_count c.args.k b is_made) c.next_query-self-inside.ensures

pub returns-clause-made : goal.returns-clause-made
returns-clause-made c =
    let s = c.self.inside.family.inner in
    let is_made = ap (λ m. made m c.args.k) (sym c.items.ensures.count) ∙ sym c.new.ensures.value ∙ c.in_ok-self-inside.was in
    ap (λ (i : Interview). made i.count c.args.k) (sym c.self.view_is) ∙ is_made ∙ ap Ok (range-of s.item_count c.args.k c.in_ok-self-inside.field-0 is_made)
