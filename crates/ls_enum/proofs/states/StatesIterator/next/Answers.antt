use Rattle.ls_enum.proofs.Vocabulary.{◌∙◌, sym}
use Rattle.ls_enum.proofs.Left.{left-first, left-none, left-shorter}
use Rattle.ls_enum.proofs.states.StatesIterator.next.Goals as goal

pub returns-in_err-member-clause-steps : goal.returns-in_err-member-clause-steps
returns-in_err-member-clause-steps g c =
    let none = left-none c.args.self.now.cursor (g.I.Interior.members c.args.self.now.family.now) (sym c.first_left_by.ensures.first ∙ c.in_err-member.was) in
    rw c.from_residual.ensures (none, none)

pub returns-clause-steps : goal.returns-clause-steps
returns-clause-steps g c =
    left-first c.args.self.now.cursor (g.I.Interior.members c.args.self.now.family.now) c.in_ok-member.member (g.met.I.Interior.is_family c.args.self.now.family.now).in_order (sym c.first_left_by.ensures.first ∙ c.in_ok-member.was)

pub returns-clause-goes : goal.returns-clause-goes
returns-clause-goes g c =
    let shorter = left-shorter c.args.self.now.cursor (g.I.Interior.members c.args.self.now.family.now) c.in_ok-member.member (g.met.I.Interior.is_family c.args.self.now.family.now).in_order (sym c.first_left_by.ensures.first ∙ c.in_ok-member.was) in
    record { on = λ _. (tt, tt, shorter); keeps = tt; rests = λ _. tt }
