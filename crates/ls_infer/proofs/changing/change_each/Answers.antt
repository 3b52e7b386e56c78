use Rattle.ls_infer.proofs.Vocabulary.{◌<◌, ◌∙◌, ◌≡◌, ◌≤◌, Items, List, No, ap, arith, common_steps, get_or, images-end, is_kept, length, length-map, list_all-set, list_all_at, map, standing, sym, true, true_from_ne_false, true≢false}
use Rattle.ls_infer.proofs.Standing.{standing-at, standing-next, unreached}
use Rattle.ls_infer.proofs.changing.change_each.Goals as goal
use Rattle.ls_infer.proofs.changing.change_each.Goals.{then-can_change, else-can_change}

pub loop-s-preserved : goal.loop-s-preserved
loop-s-preserved g c =
    let n = g.I.Interior.item_count c.args.f.now in
    let after = g.I.Interior.members c.args.f.now in
    let ys = c.loop-s.kept in
    let i = c.loop-s.s-index in
    let x = get_or ys i c.s-item.result in
    let v = c.loop-s.invariant in
    let placed = λ (before : List Items) (nos : List No) (e : c.args.kept.now ≡ map (standing n before) nos).
    let l : i < length nos = omega (arith, c.loop-s-test.true, ap length e, length-map nos (standing n before)) in l in
    let is_one_kept : is_kept n x ≡ true = true_from_ne_false (is_kept n x) (λ h. true≢false (sym v.kept ∙ list_all_at (is_kept n) ys i c.s-item.result (omega (arith, c.loop-s-test.true, c.loop-s.auto.kept)) h)) in
    elim c.if-can_change.branch [
      | then-can_change w ↦ rw (w.kept-is, w.witnesses-is, w.steps-is) (record {
        kept = list_all-set (is_kept n) ys i w.after.result v.kept w.after.ensures.kept;
        made = λ before k nos change closed states e.
            let so = v.made before k nos change closed states e in
            let new = w.after.ensures.value before change (standing-at n before after nos ys i x (placed before nos e) so.0 (ap (get_or ys i) c.s-item.is)) so.1 in
            (standing-next n before after nos ys i x w.after.result (placed before nos e) so.0 (ap (get_or ys i) c.s-item.is) (λ _. new.1 k closed), new.0);
        cost = grind (arith, common_steps, v.cost, w.after.ensures.cost);
      })
      | else-can_change w ↦ rw (w.kept-is, w.witnesses-is, w.steps-is) (record {
        kept = list_all-set (is_kept n) ys i x v.kept is_one_kept;
        made = λ before k nos change closed states e.
            let so = v.made before k nos change closed states e in (
              standing-next n before after nos ys i x x (placed before nos e) so.0 (ap (get_or ys i) c.s-item.is)
                  (λ old. unreached n before after c.args.r.now x c.args.change change (g.met.I.Interior.is_family c.args.f.now) c.requires.good is_one_kept old (sym c.can_change.ensures ∙ w.if-can_change.false)),
              so.1,
            );
        cost = grind (arith, common_steps, v.cost);
      })
    ]

pub returns-clause-each : goal.returns-clause-each
returns-clause-each g c = λ before k nos change closed states e.
    let n = g.I.Interior.item_count c.args.f.now in
    let i = c.loop-s.s-index in
    let past : length nos ≤ i = omega (arith, c.loop-s-test.false, ap length e, length-map nos (standing n before)) in
    let so = c.loop-s.invariant.made before k nos change closed states e in
    (so.0 ∙ images-end (standing n (g.I.Interior.members c.args.f.now)) (standing n before) nos i past, so.1)
