use Rattle.ls_set.proofs.Vocabulary.{◌/◌, ◌%◌, ◌+◌, ◌∙◌, ap, arith, shr-shr, sym}
use Rattle.ls_set.proofs.Lanes.{digit_of_lane, past_lane}
use Rattle.ls_set.proofs.item_set.ItemSet.digits_from.Goals as goal

pub returns-clause-in_lane : goal.returns-clause-in_lane
returns-clause-in_lane c = λ j l.
    let i = c.args.i in
    rw (c.as_array.ensures, ← c.self.view_is) (ap (λ m. m % 2) (shr-shr _ (i % 64) j) ∙ sym (digit_of_lane c.self.inside.lanes c.self.invariant.1 (i / 64) (i % 64 + j) (i + j) l (omega arith)))

pub returns-clause-past_lane : goal.returns-clause-past_lane
returns-clause-past_lane c = λ j l.
    let i = c.args.i in
    rw c.as_array.ensures (ap (λ m. m % 2) (shr-shr _ (i % 64) j) ∙ past_lane c.self.inside.lanes c.self.invariant.1 (i / 64) (i % 64 + j) l)
