use Rattle.ls_family.proofs.Vocabulary.{YieldsList-from_slice, all_from_yields_List, is_blank, rules, tests}
use Rattle.ls_family.proofs.set_line.are_blank.Goals as goal

pub returns : goal.returns
returns c = all_from_yields_List is_blank _ _ c.all.result c.all.ensures.ran (YieldsList-from_slice c.args.bytes.now cc) (λ x b q k. search (rules, tests))
