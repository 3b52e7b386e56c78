use Rattle.ls_infer.proofs.Vocabulary.{◌∙◌, ap, outside_of, refl, sym}
use Rattle.ls_infer.proofs.search.Search.new.Goals as goal

pub returns-clause-search : goal.returns-clause-search
returns-clause-search g c =
    let out = outside_of (g.I.Interior.item_count c.args.f.now) (g.I.Interior.members c.args.f.now) in
    let e = c.new-others.ensures.outside in
    let items = e.items ∙ ap out (sym e.set) in
    record {
      first = record { few = e.few; set = refl; items = items };
      others = record { few = e.few; set = refl; items = items };
    }
