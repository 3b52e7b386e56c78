use Rattle.ls_base.proofs.Vocabulary.{subst, sym}
use Rattle.ls_base.proofs.OwnItems.{IsTold, told-none}
use Rattle.ls_base.proofs.own.own_items.Goals as goal

pub own_items_but-requires-clause-known : goal.own_items_but-requires-clause-known
own_items_but-requires-clause-known c = λ _.
    subst (λ known. IsTold c.args.set known c.args.sets.now) (sym c.empty.ensures)
    (told-none c.args.set c.args.sets.now)
