use Rattle.ls_rules.proofs.Vocabulary.{◌∙◌, ap, arith, length, with_items_is}
use Rattle.std.proofs.lemmas.Result.{on_ok_weaker}
use Rattle.ls_rules.proofs.Indexing.{spare_within-from}
use Rattle.ls_rules.proofs.index.Index.reserve.Goals as goal

pub returns-clause-ok : goal.returns-clause-ok
returns-clause-ok c =
    let had = ap length c.deref_mut.ensures.value ∙ c.in_ok-widen.ensures.ok in
    let has_all = c.reserve_each.ensures.len ∙ had in
    rw (with_items_is c.widen.new.lists c.reserve_each.new.lists (omega arith))
    (on_ok_weaker c.reserve_each.result (λ each m a. spare_within-from c.args.n c.reserve_each.new.lists m has_all (λ i l. each i (rw had l)) a) c.reserve_each.ensures.ok)
