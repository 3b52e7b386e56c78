use Rattle.std.proofs.Common.{◌∙◌, ap, fold, length, nat_lt, rules, sym, tests}
use Rattle.std.proofs.lemmas.Iterator.{YieldsList-from_slice}
use Rattle.std.proofs.lemmas.Iterator.Consumers.{YieldsList-at, YieldsList-from_filter}
use Rattle.std.proofs.lemmas.Iterator.Consumers.{fold_from_yields_List}
use Rattle.std.proofs.lemmas.Iterator.Search.{any_from_yields_List}
use Rattle.std.proofs.lemmas.Iterator.Splits.{YieldsList-from_slice_split}
use Rattle.ls_cutting.specs.Lines.{parts_words, runs}
use Rattle.ls_cutting.proofs.Runs.{stands_alone}
use Rattle.ls_order.specs.declared.met.Met.TheVariants.{Nothing}
use Rattle.ls_order.specs.Words.{line_met, with_word}
use Rattle.ls_order.proofs.LineWords.{marked-bad, runs-unmarked, words-worded}
use Rattle.ls_order.proofs.reading.read_body.Goals as goal

pub returns-then-any : goal.returns-then-any
returns-then-any c =
    let body = c.args.body.now in
    let told = any_from_yields_List stands_alone _ _ c.any.result c.any.ensures.ran
    (YieldsList-from_slice body cc) (λ x b q k. search (rules, tests)) in
    sym (marked-bad c.args.d.now body (sym told ∙ c.if-any.true))

pub returns : goal.returns
returns c =
    let names = c.args.d.now in
    let body = c.args.body.now in
    let told = any_from_yields_List stands_alone _ _ c.any.result c.any.ensures.ran
    (YieldsList-from_slice body cc) (λ x b q k. search (rules, tests)) in
    let met = fold_from_yields_List _ (with_word names) Nothing c.fold-met.result
    c.fold-met.ensures.ran
    (YieldsList-from_filter _ (λ w. nat_lt 0 (length w))
    (YieldsList-at c.filter.ensures.source
    (YieldsList-from_slice_split _ parts_words body c.split.ensures.rest c.split.ensures.done
    c.split.ensures.closure (λ x r q k. search (rules, tests)))) c.filter.ensures.closure
    (λ x r q k. search (rules, tests))) (λ line x b q k. search (rules, tests)) in
    c.line_met.ensures
    ∙ ap line_met (met ∙ ap (fold (with_word names) Nothing)
    (runs-unmarked body (sym told ∙ c.if-any.false)))
    ∙ words-worded names (runs body)
