use Rattle.ls_weight.proofs.Vocabulary.{◌∙◌, Reply, StateList, ap, arith, refl, sym, with_items_is}
use Rattle.ls_weight.proofs.Kept.{kept-grows}
use Rattle.ls_weight.proofs.Replied.{IsNext, mass-part, next-bound, next-total, next-mass, next-mass-le, next-weights, next-heaviest, next-kept}
use Rattle.ls_weight.proofs.weights.Weights.reply.Goals as goal

pub weigh-requires-clause-fits : goal.weigh-requires-clause-fits
weigh-requires-clause-fits c = kept-grows _ _ _ c.ratio_for-ratio.result c.self.invariant c.ratio_for-ratio.ensures.range

pub weigh-requires-clause-masses : goal.weigh-requires-clause-masses
weigh-requires-clause-masses c = λ q l.
    let next : IsNext (record { settings = c.self.inside.settings; states = c.self.inside.rows.value.states; replies = c.self.inside.replies.items }) (record { q = c.args.q; right = c.args.right }) c.ratio_for-ratio.result = record {
      item = rw (← c.self.view_is) at c.requires.item;
      budget = rw (← c.self.view_is) at c.requires.budget;
      own = c.ratio_for-ratio.ensures.value;
      range = c.ratio_for-ratio.ensures.range;
    } in
    let count = ap (λ (s : StateList). s.item_count) c.deref-2.ensures ∙ c.self.invariant.items in
    let mass = next-mass _ _ _ _ _ q _ c.self.invariant next (rw count at l) refl in
    let bound = next-mass-le _ _ _ _ _ q _ c.self.invariant next mass in
    rw (c.deref_mut-2.ensures.value, c.deref-2.ensures, c.deref_mut.ensures.value) (omega arith)

pub agreeing_of-agreeing-requires : goal.agreeing_of-agreeing-requires
agreeing_of-agreeing-requires c =
    let item = rw (← c.self.view_is) at c.requires.item in
    mass-part _ _ _ c.args.q c.index.result.now c.self.invariant item c.index.ensures

pub sum_after-self-inside-requires-clause-fits : goal.sum_after-self-inside-requires-clause-fits
sum_after-self-inside-requires-clause-fits c =
    let next : IsNext (record { settings = c.self.inside.settings; states = c.self.inside.rows.value.states; replies = c.self.inside.replies.items }) (record { q = c.args.q; right = c.args.right }) c.ratio_for-ratio.result = record {
      item = rw (← c.self.view_is) at c.requires.item;
      budget = rw (← c.self.view_is) at c.requires.budget;
      own = c.ratio_for-ratio.ensures.value;
      range = c.ratio_for-ratio.ensures.range;
    } in
    let after = next-total _ _ _ _ _ c.index.result.now c.agreeing_of-agreeing.result c.self.invariant next c.index.ensures c.agreeing_of-agreeing.ensures in
    let bound = next-bound _ _ _ _ _ c.self.invariant next in
    omega (arith, after, bound)

pub heaviest_after-self-inside-requires-clause-stays : goal.heaviest_after-self-inside-requires-clause-stays
heaviest_after-self-inside-requires-clause-stays c = λ e.
    let next : IsNext (record { settings = c.self.inside.settings; states = c.self.inside.rows.value.states; replies = c.self.inside.replies.items }) (record { q = c.args.q; right = c.args.right }) c.ratio_for-ratio.result = record {
      item = rw (← c.self.view_is) at c.requires.item;
      budget = rw (← c.self.view_is) at c.requires.budget;
      own = c.ratio_for-ratio.ensures.value;
      range = c.ratio_for-ratio.ensures.range;
    } in
    let new = c.deref-3.ensures.value ∙ with_items_is c.self.inside.weights c.weigh.new.weights (omega arith) in
    let each = rw (c.deref-2.ensures, c.deref_mut.ensures.value) at c.weigh.ensures.weights in
    let agree = rw c.deref.ensures at (sym c.agrees-stays.ensures ∙ e) in
    rw new (next-heaviest _ _ _ _ _ c.weigh.new.weights c.self.invariant next (omega arith) each agree)

pub invariant_of-self : goal.invariant_of-self
invariant_of-self c =
    let next : IsNext (record { settings = c.self.inside.settings; states = c.self.inside.rows.value.states; replies = c.self.inside.replies.items }) (record { q = c.args.q; right = c.args.right }) c.ratio_for-ratio.result = record {
      item = rw (← c.self.view_is) at c.requires.item;
      budget = rw (← c.self.view_is) at c.requires.budget;
      own = c.ratio_for-ratio.ensures.value;
      range = c.ratio_for-ratio.ensures.range;
    } in
    let r : Reply = record { q = c.args.q; right = c.args.right } in
    let weights = with_items_is c.self.inside.weights c.weigh.new.weights (omega arith) in
    let masses = with_items_is c.self.inside.masses c.weigh.new.masses (omega arith) in
    let each = rw (c.deref-2.ensures, c.deref_mut.ensures.value) at c.weigh.ensures.weights in
    let after = rw (c.deref-2.ensures, c.deref_mut-2.ensures.value, c.deref_mut.ensures.value) at c.weigh.ensures.masses in
    rw (weights, masses, c.push_reserved.ensures.items) (
    next-kept _ _ _ _ r c.ratio_for-ratio.result c.self.invariant next
    (next-weights _ _ _ _ _ c.weigh.new.weights c.self.invariant next (omega arith) each)
    (omega arith)
    (λ q l. after q (omega (arith, c.self.invariant.items)) ∙ next-mass _ _ _ _ _ q _ c.self.invariant next l refl)
    (c.sum_after-self-inside.ensures ∙ next-total _ _ _ _ _ c.index.result.now c.agreeing_of-agreeing.result c.self.invariant next c.index.ensures c.agreeing_of-agreeing.ensures)
    (rw (c.deref-3.ensures.value, weights) at c.heaviest_after-self-inside.ensures)
    c.weigh.ensures.cells
    c.push_reserved.ensures.capacity)
