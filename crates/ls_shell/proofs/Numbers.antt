-- The code's constants are those of the definitions.
use Rattle.ls_shell.proofs.Vocabulary.{◌≡◌, longest_script, refl, usage_line}
use Rattle.ls_shell.specs.declared.reading.TheConstants.{LONGEST_SCRIPT}
use Rattle.ls_shell.specs.declared.top.TheConstants.{USAGE}

longest : LONGEST_SCRIPT ≡ longest_script
longest = refl

usage : USAGE.now ≡ usage_line
usage = refl
