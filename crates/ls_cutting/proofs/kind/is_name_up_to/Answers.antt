use Rattle.ls_cutting.proofs.Vocabulary.{YieldsList-from_slice, all_from_yields_List, arith, is_name_byte, nat_tests, rules, tests}
use Rattle.ls_cutting.proofs.kind.is_name_up_to.Goals as goal

pub returns-then-contains : goal.returns-then-contains
returns-then-contains c =
    let bytes = all_from_yields_List is_name_byte _ _ c.all.result c.all.ensures.ran (YieldsList-from_slice c.args.word.now cc) (λ x b q k. search (rules, tests)) in
    grind (arith, nat_tests)
