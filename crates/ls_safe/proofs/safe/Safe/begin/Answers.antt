use Rattle.std.proofs.Common.{◌∙◌, sym, rules}
use Rattle.ls_safe.proofs.Interviews.{begun}
use Rattle.ls_safe.proofs.safe.Safe.begin.Goals as goal

pub returns-in_ok-copy-in-Learning-clause-ok : goal.returns-in_ok-copy-in-Learning-clause-ok
returns-in_ok-copy-in-Learning-clause-ok c =
    begun c.args.b.now
    (record {
      base = c.in_ok-copy-in-Learning.field-0;
      answers = c.new.result.items;
      witnesses = c.new-in-Learning.result.items;
    }) c.in_ok-copy-in-Learning.ensures c.new.ensures.items
    (search rules) c.requires.space (sym c.test_base.ensures.verdict ∙ c.in-Learning.is)
