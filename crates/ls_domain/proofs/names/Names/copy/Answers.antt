use Rattle.ls_domain.proofs.Vocabulary.{◌∙◌, AreNames, subst, sym}
use Rattle.ls_domain.proofs.Numbers.{texts_of_clones}
use Rattle.ls_domain.proofs.names.Names.copy.Goals as goal

pub invariant_of-result : goal.invariant_of-result
invariant_of-result c = subst AreNames (sym (texts_of_clones c.self.inside.set.keys c.in_ok-set.set.keys c.in_ok-set.ensures.cases)) c.self.invariant

pub returns : goal.returns
returns c = texts_of_clones c.self.inside.set.keys c.in_ok-set.set.keys c.in_ok-set.ensures.cases ∙ c.self.view_is
