use Rattle.ls_domain.proofs.Numbers.{number_of-name_of, name_of-number_of}
use Rattle.ls_domain.proofs.laws.names_and_numbers_agree.Goals as goal

pub returns-clause-number : goal.returns-clause-number
returns-clause-number c names i domain lt = number_of-name_of names i domain.are_names.distinct lt

pub returns-clause-name : goal.returns-clause-name
returns-clause-name c = name_of-number_of
