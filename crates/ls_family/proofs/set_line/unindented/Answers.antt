use Rattle.ls_family.proofs.Vocabulary.{◌∙◌, YieldsList-from_slice, YieldsList-from_take_while, ap, count_from_yields_List, drop, is_blank, rules, take_rest, tests}
use Rattle.std.proofs.lemmas.List.Folds.{length-prefix_len}
use Rattle.ls_family.proofs.set_line.unindented.Goals as goal

pub returns : goal.returns
returns c =
    let line = c.args.line.now in
    let counted = count_from_yields_List c.take_while.result _ c.count-start.ensures.ran (YieldsList-from_take_while _ is_blank (YieldsList-from_slice line cc) c.take_while.ensures.closure c.take_while.ensures.done (λ x b q k. search (rules, tests))) ∙ length-prefix_len is_blank line in
    take_rest line c.count-start.result ∙ ap (λ n. drop n line) counted
