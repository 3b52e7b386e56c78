use Rattle.std.proofs.Common.{fold, rules, tests}
use Rattle.std.proofs.lemmas.Iterator.Consumers.{YieldsList-from_first, fold_from_yields_List}
use Rattle.ls_rules.proofs.Vocabulary.{◌∙◌, ◌≡◌, Items, ap₂, items, minus, refl, set_at, union, ℕ}
use Rattle.ls_rules.proofs.Alone.{lost-all, lost-no_other, lost_of}
use Rattle.ls_rules.proofs.waking.lost_outside.Goals as goal

lost-is : (c : goal.After-fold) → c.fold.result ≡ lost_of c.args.singles.now (minus c.items.result c.args.set)
lost-is c =
    let joined = λ (s : Items) (i : ℕ). union s (set_at c.args.singles.now i) in
    fold_from_yields_List _ joined c.empty.result c.fold.result c.fold.ensures.ran (YieldsList-from_first (λ x. x) items (items c.items-2.result) refl) (λ a x b q k. search (rules, tests))
    ∙ ap₂ (λ (s t : Items). fold joined s (items t)) c.empty.ensures (c.items-2.ensures ∙ c.minus-outside.ensures)

pub returns-clause-all : goal.returns-clause-all
returns-clause-all c = rw (lost-is c) (lost-all c.items.result c.args.singles.now c.args.set c.items.ensures)

pub returns-clause-no_other : goal.returns-clause-no_other
returns-clause-no_other c = rw (lost-is c) (lost-no_other c.items.result c.args.singles.now c.args.set)
