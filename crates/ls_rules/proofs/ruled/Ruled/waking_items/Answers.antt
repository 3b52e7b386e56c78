use Rattle.ls_rules.proofs.Vocabulary.{several}
use Rattle.ls_rules.proofs.Alone.{covered_all}
use Rattle.ls_rules.proofs.Indexing.{covered}
use Rattle.ls_rules.proofs.ruled.Ruled.waking_items.Goals as goal

pub returns : goal.returns
returns g c =
    let rules = c.self.inside.rules.items in
    let a = c.self.invariant in
    let several_covered = covered c.items.result rules (λ r. several r.a) c.self.inside.wakes a.wakes_are c.items.ensures in
    rw (← c.self.view_is, c.union.ensures) (covered_all c.items.result c.items-2.result rules c.self.inside.singles several_covered a.singles_are c.items-2.ensures)
