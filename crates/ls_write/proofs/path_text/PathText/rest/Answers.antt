use Rattle.ls_write.proofs.Vocabulary.{◌≡◌, rules}
use Rattle.ls_write.proofs.Fronts.{behind}
use Rattle.ls_write.proofs.path_text.PathText.rest.Goals as goal

pub returns : goal.returns
returns c = behind c.args.order.now c.as_slice.result.now c.args.self.now.front c.strip_prefix.result (let e : c.args.self.now.front ≡ c.as_slice.result.now = search rules in e) c.strip_prefix.ensures.cases
