use Rattle.ls_surmise.proofs.OfBases.{copy-has}
use Rattle.ls_surmise.proofs.surmise.Surmise.to_base.Goals as goal

pub returns-clause-clauses : goal.returns-clause-clauses
returns-clause-clauses c =
    let s = c.self.inside in
    rw (← c.self.view_is) (copy-has s.base s.clauses.items c.copy.result c.self.invariant c.copy.ensures)
