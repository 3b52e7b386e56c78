use Rattle.ls_surmise.proofs.Vocabulary.{◌∙◌, AreApart, ap, length, subst, sym}
use Rattle.ls_surmise.proofs.Apart.{apart-clauses}
use Rattle.ls_surmise.proofs.flaws.comparable_in.Goals as goal

pub returns-then-are_apart : goal.returns-then-are_apart
returns-then-are_apart c =
    let as_many = sym (ap length c.clauses_of-sets.ensures) ∙ c.if-sets-clauses_of.true ∙ ap length c.clauses_of.ensures in
    sym (apart-clauses c.args.clauses.now c.args.ordered.now c.args.q c.requires as_many (subst AreApart c.clauses_of-sets.ensures (c.are_apart.ensures c.if-are_apart.true)))
