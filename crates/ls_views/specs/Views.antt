-- How many interiors the replies take to the commands that look at an interview.
use Rattle.std.specs.Prelude.{ℕ, ◌+◌, ◌*◌, None}
use Rattle.ls_theory.specs.{Interview}
use Rattle.ls_lines.specs.declared.view.ViewCommand.{ViewCommand}
use Rattle.ls_lines.specs.declared.view.ViewCommand.TheVariants as command
use Rattle.ls_expert.specs.Steps.{question_steps}

-- how many interiors the reply to a command takes at most
abbrev pub command_steps : Interview → ViewCommand → ℕ
command_steps i (command.Known names item) = 1
command_steps i command.Ask = question_steps i None
command_steps i (command.States count after) = (count + 1) * (i.count + 1)
command_steps i (command.Project count after names) = (count + 1) * (i.count + 1)
command_steps i c = 0
