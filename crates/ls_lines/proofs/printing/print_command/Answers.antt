use Rattle.ls_lines.proofs.Vocabulary.{◌∙◌, ◌≡◌, ap, length, refl, rules, spelled, vec_len, with_spaces}
use Rattle.ls_lines.proofs.Printed.{trimmed, shown-filling}
use Rattle.ls_lines.proofs.printing.print_command.Goals as goal

pub returns : goal.returns
unfolding spelled
returns c =
    let text : c.in_ok-text.text.items ≡ with_spaces (spelled c.args.command.now) = rw (c.in_ok-text.ensures, c.parts.ensures, c.as_slice.ensures.value, shown-filling, ← c.spelled_as-form.ensures) refl in
    let long : vec_len c.in_ok-text.text ≡ length c.in_ok-text.text.items = search rules in
    c.pop.ensures.rest ∙ rw text (trimmed (spelled c.args.command.now) (vec_len c.in_ok-text.text) (long ∙ ap length text))
