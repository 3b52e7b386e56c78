use Rattle.ls_order.proofs.Refused.{two-clauses, quasi-pairs, faultless-order, cycles}
use Rattle.ls_order.proofs.relations.relations_are_refused_at_first.Goals as goal

pub returns : goal.returns
returns c =
    record
    { two_clauses = two-clauses; quasi = quasi-pairs; order = faultless-order; cycle = cycles }
