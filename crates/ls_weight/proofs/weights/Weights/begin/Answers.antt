use Rattle.ls_weight.proofs.Vocabulary.{◌*◌, ◌∙◌, ◌≡◌, Items, StateList, ℕ, [], ap, arith, count_by, has, length, length-map-range_with_len, map, range_with_len, refl, replicate, table_cells, width_of}
use Rattle.ls_weight.proofs.Kept.{ones-are, count-is, counts-are, first-one}
use Rattle.ls_weight.proofs.weights.Weights.begin.Goals as goal

pub invariant_of-result : goal.invariant_of-result
invariant_of-result c =
    let f = c.args.rows.value.states in
    let n = c.args.rows.value.item_count in
    let counts = λ (s : StateList). map (λ (q : ℕ). count_by (λ (k : Items). has k q) s.states) (range_with_len 0 s.item_count) in
    let none : c.in_ok-replies.replies.items ≡ [] = c.in_ok-replies.ensures.items in
    let settings = c.in_ok-settings.ensures in
    let items = rw (← settings) at c.requires.items in
    let count : length c.states-count.result.now ≡ length f = ap length (c.states-count.ensures.value ∙ ap (λ (s : StateList). s.states) c.deref.ensures) in
    let weights : c.in_ok-weights.weights.items ≡ replicate (length f) 1 =
    c.in_ok-weights.ensures.items_if_clones_equal (λ y e. e) ∙ ap (λ m. replicate m 1) count in
    let masses : c.in_ok-masses.masses.items ≡ counts c.args.rows.value =
    c.in_ok-masses.ensures.items ∙ c.counts.ensures ∙ ap counts c.deref-2.ensures in
    let width : c.width.result ≡ width_of n = c.width.ensures ∙ ap (λ (s : StateList). width_of s.item_count) c.deref-3.ensures in
    record {
      items = items;
      weighable = rw settings c.requires.weighable;
      allowed = rw (← c.settings.view_is) c.settings.invariant;
      light = rw settings c.requires.light;
      budget = rw none (omega arith);
      on_items = rw none refl;
      room = rw (c.in_ok-replies.ensures.exact, settings) (omega (arith, c.budget.ensures));
      weights = rw none (weights ∙ ones-are c.in_ok-settings.settings.ratios f);
      each_mass = rw masses (length-map-range_with_len (λ q. count_by (λ k. has k q) f) 0 n ∙ items);
      masses = λ q l. rw (none, masses) (counts-are c.in_ok-settings.settings.ratios f n q (omega (arith, items)));
      total = rw none (count ∙ count-is c.in_ok-settings.settings.ratios f);
      heaviest = rw weights (first-one (length f) c.requires.weighable.some_states);
      cells = c.in_ok-tables.ensures ∙ ap (λ m. table_cells * m) (width ∙ ap width_of items);
    }
