use Rattle.ls_laws.proofs.Vocabulary.{is_forced_by}
use Rattle.ls_laws.proofs.Numbered.{nos-increasing}
use Rattle.ls_laws.proofs.Least.{first_passes, first_is_least}
use Rattle.ls_laws.proofs.Answering.{number_told, number_known}
use Rattle.ls_laws.proofs.forced.least_number_is_told.Goals as goal

pub returns : goal.returns
returns c = record {
  some = number_told;
  told = number_known;
  names = λ f ns r. first_passes (λ a. is_forced_by f r a.query) ns;
  least = λ f ns r. first_is_least (λ a. is_forced_by f r a.query) ns;
  in_order = λ i h. nos-increasing i.answers h.in_order;
}
