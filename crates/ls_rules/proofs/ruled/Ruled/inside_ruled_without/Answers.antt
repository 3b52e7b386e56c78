use Rattle.ls_rules.proofs.Vocabulary.{Decides-is_same, Some, among-filter, and_parts, ap, breaks_none, is_among, is_same, meet, minus, not-true, sym, without, ◌∙◌}
use Rattle.ls_rules.proofs.Reaching.{none_alone, none_under, nothing_woken, without_settled}
use Rattle.ls_rules.proofs.ruled.Ruled.inside_ruled_without.Goals as goal

pub returns-then-ne-clause-value : goal.returns-then-ne-clause-value
unfolding is_same
returns-then-ne-clause-value g c =
    let n = g.F.Inside.item_count c.self.inside.inner in
    let f = g.F.Inside.members c.self.inside.inner in
    let family = g.met.F.Inside.is_family c.self.inside.inner in
    let some = not-true (is_same c.meet.result c.empty.result) (sym c.ne.ensures ∙ c.if-ne.true) in
    let falls = rw (c.meet.ensures, c.of.ensures, c.empty.ensures) at some in
    rw (← c.self.view_is) (λ _. none_alone n f c.self.inside.rules.items c.self.inside.singles c.args.member c.args.keep c.args.item family c.self.invariant.singles_are falls)

pub returns-in_err-next-clause-value : goal.returns-in_err-next-clause-value
returns-in_err-next-clause-value g c =
    let n = g.F.Inside.item_count c.self.inside.inner in
    let f = g.F.Inside.members c.self.inside.inner in
    let rules = c.self.inside.rules.items in
    let family = g.met.F.Inside.is_family c.self.inside.inner in
    rw (← c.self.view_is, c.from_residual.ensures) (λ h.
    let p = and_parts (is_among f c.args.member) (breaks_none rules c.args.member) (sym (among-filter (breaks_none rules) f c.args.member) ∙ h) in
    none_under n f rules (without c.args.member c.args.item) c.args.keep family (c.in_err-next.ensures.value p.0))

pub returns-then-eq-clause-value : goal.returns-then-eq-clause-value
unfolding is_same
returns-then-eq-clause-value g c =
    let n = g.F.Inside.item_count c.self.inside.inner in
    let f = g.F.Inside.members c.self.inside.inner in
    let rules = c.self.inside.rules.items in
    let woken = rw (← c.self.view_is) at c.waking_items.ensures in
    let family = g.met.F.Inside.is_family c.self.inside.inner in
    let next = c.in_ok-next.next in
    let fallen = c.meet-fallen.ensures ∙ ap (λ s. meet s c.waking_items.result) c.minus.ensures in
    let none = sym fallen ∙ (Decides-is_same c.meet-fallen.result c.empty-2.result).0 (sym c.eq.ensures ∙ c.if-eq.true) ∙ c.empty-2.ensures in
    rw (← c.self.view_is) (without_settled n f rules c.waking_items.result c.args.member (without c.args.member c.args.item) c.args.keep next (Some next) family woken
    c.in_ok-next.ensures.value c.in_ok-next.ensures.part (λ here a w. nothing_woken n f rules c.args.keep next (meet (minus c.args.member next) c.waking_items.result) family none here a w))

pub returns-clause-value : goal.returns-clause-value
returns-clause-value g c =
    let n = g.F.Inside.item_count c.self.inside.inner in
    let f = g.F.Inside.members c.self.inside.inner in
    let rules = c.self.inside.rules.items in
    let woken = rw (← c.self.view_is) at c.waking_items.ensures in
    let family = g.met.F.Inside.is_family c.self.inside.inner in
    let settles = rw (← c.self.view_is, c.meet-fallen.ensures, c.minus.ensures) at c.settle_within.ensures.value in
    rw (← c.self.view_is) (without_settled n f rules c.waking_items.result c.args.member (without c.args.member c.args.item) c.args.keep c.in_ok-next.next c.settle_within.result family woken
    c.in_ok-next.ensures.value c.in_ok-next.ensures.part settles)
