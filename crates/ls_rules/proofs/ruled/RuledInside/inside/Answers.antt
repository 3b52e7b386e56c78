use Rattle.ls_rules.proofs.Vocabulary.{◌∙◌, ◌≡◌, ap, arith, eqb-true, interior, length, nil_from_length, sym}
use Rattle.ls_rules.proofs.Reaching.{without_rules}
use Rattle.ls_rules.proofs.ruled.RuledInside.inside.Goals as goal

pub returns-then-is_empty : goal.returns-then-is_empty
returns-then-is_empty g c =
    let f = g.F.Inside.members c.self.inside.inner in
    let none = nil_from_length c.self.inside.rules.items (let none : length c.self.inside.rules.items ≡ 0 = omega (arith, eqb-true _ 0 (sym c.is_empty.ensures ∙ c.if-is_empty.true)) in none) in
    rw (← c.self.view_is) (c.inside.ensures ∙ ap (λ m. interior m c.args.s) (sym (without_rules c.self.inside.rules.items f none)))
