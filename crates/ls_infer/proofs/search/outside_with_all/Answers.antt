use Rattle.ls_infer.proofs.Vocabulary.{◌∙◌, ap, arith, least-cases, least-none_left, minus, outside_of, sym}
use Rattle.ls_infer.proofs.Outside.{all_went, none_went, outside-further_of}
use Rattle.ls_infer.proofs.Sharing.{fewer-hit, left-hit}
use Rattle.ls_set.specs.{union}
use Rattle.ls_infer.proofs.search.outside_with_all.Goals as goal

pub loop-item-init : goal.loop-item-init
loop-item-init g c = record {
  left = λ i h. h;
  within = c.requires.within;
  value = λ a same. same ∙ ap (outside_of (g.I.Interior.item_count c.args.f.now) (g.I.Interior.members c.args.f.now)) (sym (none_went a c.args.more));
  cost = omega arith;
}

pub loop-item-smaller : goal.loop-item-smaller
loop-item-smaller g c = fewer-hit c.loop-item.left c.without-left.result c.in-Some.item c.in-Some.ensures.value c.without-left.ensures

pub loop-item-preserved : goal.loop-item-preserved
loop-item-preserved g c =
    let n = g.I.Interior.item_count c.args.f.now in
    let f = g.I.Interior.members c.args.f.now in
    let v = c.loop-item.invariant in
    let item = c.in-Some.item in
    let here = (least-cases c.loop-item.left item (sym c.in-Some.ensures.value)).0 in
    record {
      left = left-hit c.args.more c.loop-item.left c.without-left.result item v.left c.without-left.ensures;
      within = c.outside_with-outside.ensures.within;
      value = λ a same.
          outside-further_of n f a c.args.more c.loop-item.left c.outside_with-outside.result item v.left here (c.outside_with-outside.ensures.value (union a (minus c.args.more c.loop-item.left)) (v.value a same))
          ∙ ap (λ s. outside_of n f (union a (minus c.args.more s))) (sym c.without-left.ensures);
      cost = omega (arith, v.cost, c.outside_with-outside.ensures.cost, fewer-hit c.loop-item.left c.without-left.result item c.in-Some.ensures.value c.without-left.ensures);
    }

pub returns-clause-value : goal.returns-clause-value
returns-clause-value g c = λ a same.
    c.loop-item.invariant.value a same
    ∙ ap (outside_of (g.I.Interior.item_count c.args.f.now) (g.I.Interior.members c.args.f.now)) (all_went a c.args.more c.loop-item.left (λ j. least-none_left c.loop-item.left j (sym c.least.ensures.value ∙ c.in_default.is)))
