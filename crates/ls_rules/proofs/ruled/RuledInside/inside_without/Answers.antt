use Rattle.ls_rules.proofs.Vocabulary.{◌∙◌, ◌≡◌, arith, eqb-true, length, nil_from_length, sym}
use Rattle.ls_rules.proofs.Reaching.{without_rules}
use Rattle.ls_rules.proofs.ruled.RuledInside.inside_without.Goals as goal

pub returns-then-is_empty-clause-value : goal.returns-then-is_empty-clause-value
returns-then-is_empty-clause-value g c =
    let f = g.F.Inside.members c.self.inside.inner in
    let none = nil_from_length c.self.inside.rules.items (let none : length c.self.inside.rules.items ≡ 0 = omega (arith, eqb-true _ 0 (sym c.is_empty.ensures ∙ c.if-is_empty.true)) in none) in
    rw (← c.self.view_is, without_rules c.self.inside.rules.items f none) c.inside_without.ensures.value
