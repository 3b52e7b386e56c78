use Rattle.ls_columns.proofs.Vocabulary.{among-filter, and_parts, ap, arith, breaks_none, empty, false, get_or_default, is_among, is_same, length, meet, not-true, set_at, sym, without, ◌<◌, ◌∙◌, ◌≡◌}
use Rattle.ls_columns.proofs.Rounds.{falls_keep, none_under, without_settled}
use Rattle.ls_columns.proofs.columns.ColumnsInside.inside_without.Goals as goal

pub returns-then-ne-clause-value : goal.returns-then-ne-clause-value
unfolding is_same
returns-then-ne-clause-value g c =
    let s = c.self.inside.family.now in
    let a = c.self.invariant in
    let sets = c.self.inside.falling.items in
    let item = c.args.item in
    let keep = c.args.keep in
    let bound : item < length sets = omega (arith, c.requires.item, a.whole) in
    let read = c.meet.ensures ∙ ap (λ x. meet x keep) (c.index.ensures ∙ get_or_default sets item c.index.result.now empty bound) in
    let some = not-true (is_same c.meet.result c.empty.result) (sym c.ne.ensures ∙ c.if-ne.true) in
    let met : is_same (meet (set_at sets item) keep) empty ≡ false = rw (read, c.empty.ensures) at some in
    rw (← c.self.view_is) (λ _. falls_keep (g.F.Inside.item_count s.inner) (g.F.Inside.members s.inner) s.rules sets c.args.member keep item (g.met.F.Inside.is_family s.inner) a.sound met)

pub returns-in_err-kept-clause-value : goal.returns-in_err-kept-clause-value
returns-in_err-kept-clause-value g c =
    let s = c.self.inside.family.now in
    let f = g.F.Inside.members s.inner in
    let none = rw c.inner.ensures at c.in_err-kept.ensures.value in
    rw (← c.self.view_is, c.from_residual.ensures) (λ h.
    let p = and_parts (is_among f c.args.member) (breaks_none s.rules c.args.member) (sym (among-filter (breaks_none s.rules) f c.args.member) ∙ h) in
    none_under (g.F.Inside.item_count s.inner) f s.rules (without c.args.member c.args.item) c.args.keep (g.met.F.Inside.is_family s.inner) (none p.0))

pub returns-clause-value : goal.returns-clause-value
returns-clause-value g c =
    let s = c.self.inside.family.now in
    let f = g.F.Inside.members s.inner in
    let given = rw c.inner.ensures at c.in_ok-kept.ensures.value in
    let settles = rw (← c.self.view_is, c.minus.ensures) at c.settle_within.ensures.value in
    rw (← c.self.view_is)
    (without_settled (g.F.Inside.item_count s.inner) f s.rules c.args.member (without c.args.member c.args.item) c.args.keep c.in_ok-kept.kept c.settle_within.result (g.met.F.Inside.is_family s.inner) given c.in_ok-kept.ensures.part settles)
