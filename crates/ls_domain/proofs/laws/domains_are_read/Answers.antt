use Rattle.ls_domain.proofs.Readings.{names_of_words-read, names_of_table-read, names_of_words-again}
use Rattle.ls_domain.proofs.laws.domains_are_read.Goals as goal

pub returns-clause-words : goal.returns-clause-words
returns-clause-words c = names_of_words-read

pub returns-clause-table : goal.returns-clause-table
returns-clause-table c = names_of_table-read

pub returns-clause-again : goal.returns-clause-again
returns-clause-again c = names_of_words-again
