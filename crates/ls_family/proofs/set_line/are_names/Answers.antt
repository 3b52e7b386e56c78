use Rattle.ls_family.proofs.Vocabulary.{YieldsList-at, YieldsList-from_filter, all_from_yields_List, is_name, length, nat_lt, parts_words, rules, tests}
use Rattle.std.proofs.lemmas.Iterator.Splits.{YieldsList-from_slice_split}
use Rattle.ls_family.proofs.set_line.are_names.Goals as goal

pub returns : goal.returns
returns c =
    all_from_yields_List is_name _ _ c.all.result c.all.ensures.ran (YieldsList-from_filter _ (λ w. nat_lt 0 (length w)) (YieldsList-at c.filter.ensures.source (YieldsList-from_slice_split _ parts_words c.args.part.now c.split.ensures.rest c.split.ensures.done c.split.ensures.closure (λ x r q k. search (rules, tests)))) c.filter.ensures.closure (λ x r q k. search (rules, tests))) (λ x b q k. search (rules, tests))
