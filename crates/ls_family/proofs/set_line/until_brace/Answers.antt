use Rattle.ls_family.proofs.Vocabulary.{◌+◌, ◌∙◌, ap, is_blank, list_all, sym, take_rest}
use Rattle.ls_family.proofs.Parts.{until_brace-none, until_brace-blank, until_brace-more}
use Rattle.ls_family.proofs.set_line.until_brace.Goals as goal

pub returns-in_default : goal.returns-in_default
returns-in_default c =
    let line = c.args.line.now in
    let at = c.in_default.ensures.place in
    sym (until_brace-none line at)

pub returns-then-are_blank : goal.returns-then-are_blank
returns-then-are_blank c =
    let line = c.args.line.now in
    let end = c.in-Some.end in
    let at = c.in-Some.ensures.place in
    sym (until_brace-blank line end at (ap (list_all is_blank) (sym (take_rest line (end + 1))) ∙ sym c.if-are_blank.ensures))

pub returns-else-are_blank : goal.returns-else-are_blank
returns-else-are_blank c =
    let line = c.args.line.now in
    let end = c.in-Some.end in
    let at = c.in-Some.ensures.place in
    sym (until_brace-more line end at (ap (list_all is_blank) (sym (take_rest line (end + 1))) ∙ sym c.if-are_blank.ensures))
