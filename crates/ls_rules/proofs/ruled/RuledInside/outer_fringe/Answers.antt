use Rattle.ls_rules.proofs.Vocabulary.{◌∙◌, ◌≡◌, among-filter, and_parts, ap, arith, barred, breaks_none, eqb-true, is_among, length, minus, nil_from_length, sym}
use Rattle.ls_rules.proofs.Barred.{ruled-outer}
use Rattle.ls_rules.proofs.Reaching.{without_rules}
use Rattle.ls_rules.proofs.ruled.RuledInside.outer_fringe.Goals as goal

pub returns-then-is_empty : goal.returns-then-is_empty
returns-then-is_empty g c =
    let f = g.F.Inside.members c.self.inside.inner in
    let rules = c.self.inside.rules.items in
    let none = nil_from_length rules (let none : length rules ≡ 0 = omega (arith, eqb-true _ 0 (sym c.is_empty.ensures ∙ c.if-is_empty.true)) in none) in
    rw (← c.self.view_is, without_rules rules f none) c.outer_fringe-fringe.ensures

pub returns : goal.returns
returns g c =
    let n = g.F.Inside.item_count c.self.inside.inner in
    let f = g.F.Inside.members c.self.inside.inner in
    let rules = c.self.inside.rules.items in
    let k = c.args.member in
    let found = rw c.deref.ensures.value at c.not_barred.ensures in
    rw (← c.self.view_is) (record {
      value = λ m.
          let inner = c.outer_fringe-fringe.ensures.value (and_parts (is_among f k) (breaks_none rules k) (sym (among-filter (breaks_none rules) f k) ∙ m)).0 in
          found ∙ ap (λ s. minus s (barred rules k)) inner ∙ ruled-outer n f rules k (g.met.F.Inside.is_family c.self.inside.inner) c.self.invariant.good m;
    })
