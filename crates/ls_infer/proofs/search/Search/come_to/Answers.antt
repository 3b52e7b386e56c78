use Rattle.ls_infer.proofs.Vocabulary.{◌-◌, ◌∙◌, ◌≤◌, ap, arith, len, outside_of, refl, sym}
use Rattle.ls_infer.proofs.Outside.{outside-of_within, with_part}
use Rattle.ls_set.specs.{union}
use Rattle.ls_infer.proofs.search.Search.come_to.Goals as goal

pub outside_with_all-requires : goal.outside_with_all-requires
outside_with_all-requires g c = record {
  within = outside-of_within (g.I.Interior.item_count c.args.f.now) (g.I.Interior.members c.args.f.now) c.least_alone-first.result c.moved-self.result.items c.moved-self.ensures.outside.items;
}

pub returns-clause-search : goal.returns-clause-search
returns-clause-search g c =
    let out = outside_of (g.I.Interior.item_count c.args.f.now) (g.I.Interior.members c.args.f.now) in
    let first = c.least_alone-first.result in
    record {
      first = record { few = c.moved-self.ensures.outside.few; set = refl; items = c.moved-self.ensures.outside.items ∙ ap out (sym c.moved-self.ensures.outside.set) };
      others = record {
        few = c.moved-self.ensures.outside.few;
        set = refl;
        items = c.outside_with_all.ensures.value first c.moved-self.ensures.outside.items ∙ ap out (ap (union first) c.minus.ensures ∙ with_part first c.args.others c.least_alone-first.ensures.within);
      };
    }

pub returns-clause-cost : goal.returns-clause-cost
returns-clause-cost g c =
    let more : len c.minus.result ≤ len c.args.others - 1 = rw c.minus.ensures c.least_alone-first.ensures.less in
    omega (arith, c.moved-self.ensures.cost, c.outside_with_all.ensures.cost)
