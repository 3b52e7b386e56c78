use Rattle.ls_session.proofs.Vocabulary.{List, Text, ap, command_effect, length, line_effect-command, sym}
use Rattle.ls_lines.specs.declared.command.Command.TheVariants as command
use Rattle.ls_lines.proofs.Choosing.{no_words}
use Rattle.ls_session.proofs.session.is_passed.Goals as goal

pub returns-then-line-le-LONGEST_LINE : goal.returns-then-line-le-LONGEST_LINE
unfolding command_effect
returns-then-line-le-LONGEST_LINE c = λ is s calls.
    line_effect-command s calls c.args.line.now command.Nothing c.if-line-le-LONGEST_LINE.true (sym (no_words _ (ap (λ (ws : List Text). length ws) (c.is_note.ensures.silent is))))
