use Rattle.ls_family.proofs.Vocabulary.{length}
use Rattle.ls_family.proofs.Fitting.{sets-fit, each-fits}
use Rattle.ls_family.proofs.laws.files_have_sets_of_items.Goals as goal

pub returns : goal.returns
returns c = λ names text sets s e among. each-fits (length names) sets s (sets-fit names text sets e) among
