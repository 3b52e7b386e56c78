use Rattle.ls_columns.proofs.Vocabulary.{ap, arith, empty, get-in, length, length-replicate, most_items, refl, replicate, slice_get_read, with_items_is, ◌∙◌}
use Rattle.ls_columns.proofs.Falls.{IsFalling-first}
use Rattle.ls_columns.proofs.falling.falling_of.Goals as goal

pub loop-rule-init : goal.loop-rule-init
loop-rule-init c =
    let none = c.in_ok-falling.ensures.items_if_clones_equal (λ y e. e) ∙ ap (replicate most_items) c.empty.ensures in
    record {
      sound = IsFalling-first c.args.rules.now c.in_ok-falling.falling.items none;
      count = ap length none ∙ length-replicate most_items empty;
    }

pub loop-rule-preserved : goal.loop-rule-preserved
loop-rule-preserved c =
    let rs = c.args.rules.now in
    let k = c.loop-rule.rule-index in
    let r = c.rule-item.result in
    let before = c.loop-rule.falling in
    let in_rules = get-in rs k r (slice_get_read rs (length rs) k r refl c.loop-rule-test.true c.rule-item.is) in
    let items = with_items_is before c.add_rule.new.falling (omega (arith, c.add_rule.ensures.count, c.loop-rule.invariant.count)) in
    let sound = rw c.deref_mut.ensures.value at c.add_rule.ensures.sound in
    rw items (record { sound = sound rs in_rules c.loop-rule.invariant.sound; count = c.add_rule.ensures.count })
