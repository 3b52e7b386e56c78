use Rattle.ls_paths.proofs.Vocabulary.{paths}
use Rattle.ls_paths.proofs.Growths.{paths-are}
use Rattle.ls_paths.proofs.PathOrder.{paths-in_order, after-next, after-none}
use Rattle.ls_paths.proofs.laws.paths_are_growths.Goals as goal

pub returns : goal.returns
returns c = record {
  growths = paths-are;
  in_order = paths-in_order;
  after = λ n f order next h. after-next (paths n f) order next (paths-in_order n f h);
  none = λ n f. after-none (paths n f);
}
