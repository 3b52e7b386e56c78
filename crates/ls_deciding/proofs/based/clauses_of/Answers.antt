use Rattle.ls_deciding.proofs.Vocabulary.{◌∙◌, Items, List, ap, ap₂, sym}
use Rattle.std.specs.Prelude.{map}
use Rattle.ls_set.specs.{set_of}
use Rattle.ls_theory.specs.{atom_items, clauses_at}
use Rattle.ls_deciding.proofs.BaseAtoms.{base-atoms, base-clauses}
use Rattle.ls_deciding.proofs.based.clauses_of.Goals as goal

pub invariant_of-result : goal.invariant_of-result
invariant_of-result c =
    c.in_ok-atoms.ensures ∙ base-atoms c.args.base.now c.sets.ensures.base
    ∙ ap (λ (ks : List Items). map (λ k. set_of (atom_items ks k)) ks)
    (sym (c.in_ok-base.ensures ∙ c.sets.ensures.value))

pub returns : goal.returns
returns c =
    ap₂ clauses_at c.items-items.ensures.count (c.in_ok-base.ensures ∙ c.sets.ensures.value)
    ∙ base-clauses c.args.base.now c.sets.ensures.base c.args.base.now.item_count
