use Rattle.ls_family.proofs.Vocabulary.{◌∙◌, Some, YieldsList-at, YieldsList-from_filter, ap, fold, fold_from_yields_List, length, nat_lt, parts_words, rules, tests, with_word, words_within}
use Rattle.std.proofs.lemmas.Iterator.Splits.{YieldsList-from_slice_split}
use Rattle.ls_family.proofs.Words.{words-known}
use Rattle.ls_family.proofs.set_line.items_known.Goals as goal

pub returns : goal.returns
returns c =
    let names = c.args.d.now in
    let words = words_within c.args.part.now in
    fold_from_yields_List _ (with_word names) _ _ c.fold.ensures.ran (YieldsList-from_filter _ (λ w. nat_lt 0 (length w)) (YieldsList-at c.filter.ensures.source (YieldsList-from_slice_split _ parts_words c.args.part.now c.split.ensures.rest c.split.ensures.done c.split.ensures.closure (λ x r q k. search (rules, tests)))) c.filter.ensures.closure (λ x r q k. search (rules, tests))) (λ set x b q k. search (rules, tests))
    ∙ ap (λ s. fold (with_word names) (Some s) words) c.empty.ensures
    ∙ words-known names words
