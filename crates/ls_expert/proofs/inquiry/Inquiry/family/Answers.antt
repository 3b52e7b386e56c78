use Rattle.ls_expert.proofs.Vocabulary.{◌∙◌, ap, compat, compatible_sets}
use Rattle.ls_standing.proofs.Ruling.{ruled-compat}
use Rattle.ls_expert.proofs.inquiry.Inquiry.family.Goals as goal

pub returns-clause-members : goal.returns-clause-members
returns-clause-members c =
    let s = c.self.inside.family.inner in
    ruled-compat s.item_count s.start c.self.inside.family.rules ∙ ap (compat s.item_count s.start) c.self.invariant.held.ruled ∙ ap compatible_sets c.self.view_is
