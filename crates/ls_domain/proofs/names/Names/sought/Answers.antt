use Rattle.ls_domain.proofs.Vocabulary.{◌∙◌, ap, arith, bytes_eq, common_steps, position, position-map, string_bytes}
use Rattle.ls_domain.proofs.names.Names.sought.Goals as goal

pub returns-clause-value : goal.returns-clause-value
returns-clause-value c =
    let at = c.get_index_of.ensures.index ∙ position-map string_bytes (bytes_eq c.args.name.now) c.self.inside.set.keys ∙ ap (position (bytes_eq c.args.name.now)) c.self.view_is in
    grind (arith, common_steps, at)
