use Rattle.std.proofs.Common.{◌∙◌, [], ◌∷◌, ◌++◌, ap, sym, append_assoc, arith}
use Rattle.ls_set.specs.ItemSet.{items, with}
use Rattle.ls_mesh.proofs.Joined.{outside-below, single-next}
use Rattle.ls_mesh.proofs.side.side_sets.Goals as goal

pub with-requires : goal.with-requires
with-requires c =
    let few = c.requires in
    let small =
    outside-below c.args.n c.args.part c.loop-item.yielded c.in-Some.item _
    (ap (λ l. c.loop-item.yielded ++ l) (sym c.in-Some.ensures.steps) ∙
    c.loop-item.invariant.split) in
    omega arith

pub loop-item-preserved : goal.loop-item-preserved
loop-item-preserved c = record {
  made =
      c.in_ok-push.ensures.items ∙ single-next c.args.sets.now c.loop-item.side.items
      c.loop-item.yielded c.in-Some.item c.with.result c.loop-item.invariant.made
      (c.with.ensures ∙ ap (λ s. with s c.in-Some.item) c.empty.ensures);
  split =
      append_assoc c.loop-item.yielded (c.in-Some.item ∷ []) (items c.next.new.self) ∙ ap
      (λ l. c.loop-item.yielded ++ l) (sym c.in-Some.ensures.steps) ∙ c.loop-item.invariant.split;
}
