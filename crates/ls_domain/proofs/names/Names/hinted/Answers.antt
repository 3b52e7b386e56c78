use Rattle.ls_domain.proofs.Vocabulary.{◌∙◌, AreNames, Some, ap, subst, sym}
use Rattle.std.proofs.lemmas.Slice.Eq.{bytes_eq-Decides}
use Rattle.ls_domain.proofs.Numbers.{hint-right}
use Rattle.ls_domain.proofs.names.Names.hinted.Goals as goal

pub returns-then-eq-clause-value : goal.returns-then-eq-clause-value
returns-then-eq-clause-value c =
    let same = (bytes_eq-Decides c.as_bytes.result.now c.args.name.now).0 (sym c.eq.ensures ∙ c.if-eq.true) in
    let are : AreNames c.args.self.now = subst AreNames c.self.view_is c.self.invariant in
    hint-right c.self.inside.set.keys c.args.self.now c.from.result c.in_ok-hinted.hinted.now c.args.name.now c.self.view_is are c.in_ok-hinted.ensures.key (sym c.as_bytes.ensures.value ∙ same)
    ∙ ap Some (c.from.ensures ∙ sym c.from-then-eq.ensures)
