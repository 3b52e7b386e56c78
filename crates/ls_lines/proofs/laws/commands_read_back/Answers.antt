use Rattle.ls_lines.proofs.ReadBack.{words_back, read_back}
use Rattle.ls_lines.proofs.laws.commands_read_back.Goals as goal

pub returns-clause-words : goal.returns-clause-words
returns-clause-words c = words_back

pub returns-clause-command : goal.returns-clause-command
returns-clause-command c = read_back
