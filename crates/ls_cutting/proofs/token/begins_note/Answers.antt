use Rattle.ls_cutting.proofs.Vocabulary.{◌∙◌, Some, YieldsList-from_slice, ap, find_from_yields_List, is_blank, nat_eq, not, option_eq, rules, sym, tests}
use Rattle.ls_cutting.proofs.Runs.{is_note-by_first}
use Rattle.ls_cutting.proofs.token.begins_note.Goals as goal

pub returns : goal.returns
returns c =
    let first = find_from_yields_List (λ b. not (is_blank b)) _ _ c.find.result c.find.ensures.ran (YieldsList-from_slice c.args.line.now cc) (λ x b q k. search (rules, tests)) in
    c.eq.ensures ∙ ap (λ o. option_eq nat_eq o (Some 35)) (c.copied.ensures ∙ first) ∙ sym (is_note-by_first c.args.line.now)
