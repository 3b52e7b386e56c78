use Rattle.ls_columns.proofs.Vocabulary.{Decides-is_same, arith, empty, false, interior-within, is_same, minus-within, most_items, not-true, sym, ◌∙◌, ◌≡◌, ◌≤◌}
use Rattle.std.proofs.lemmas.Bool.{not-false}
use Rattle.ls_columns.proofs.Rounds.{Narrows-inside, Narrows-minus, Narrows-whole}
use Rattle.ls_columns.proofs.columns.Columns.narrowed.Goals as goal

pub returns-then-ne-clause-narrows : goal.returns-then-ne-clause-narrows
unfolding is_same
returns-then-ne-clause-narrows g c =
    let s = c.self.inside.family.now in
    let n = g.F.Inside.item_count s.inner in
    let few : n ≤ most_items = omega (arith, c.self.invariant.counted, c.self.invariant.few) in
    let test = not-true (is_same c.broken-out.result c.empty.result) (sym c.ne.ensures ∙ c.if-ne.true) in
    let some : is_same c.broken-out.result empty ≡ false = rw c.empty.ensures at test in
    let small = rw (← c.self.view_is) at c.requires.small in
    let all = rw (← c.self.view_is) at c.broken-out.ensures.all in
    let only = rw (← c.self.view_is) at c.broken-out.ensures.only in
    rw (← c.self.view_is, c.minus.ensures)
    (λ _. Narrows-minus n (g.F.Inside.members s.inner) s.rules c.args.fallen c.args.kept c.broken-out.result few small c.broken-out.ensures.part all only some)

pub returns-then-ne-clause-within : goal.returns-then-ne-clause-within
returns-then-ne-clause-within g c = rw c.minus.ensures (minus-within c.args.kept c.broken-out.result)

pub returns-then-is_within-clause-narrows : goal.returns-then-is_within-clause-narrows
unfolding is_same
returns-then-is_within-clause-narrows g c =
    let s = c.self.inside.family.now in
    let n = g.F.Inside.item_count s.inner in
    let few : n ≤ most_items = omega (arith, c.self.invariant.counted, c.self.invariant.few) in
    let gone = (Decides-is_same c.broken-out.result c.empty.result).0 (not-false _ (sym c.ne.ensures ∙ c.if-ne.false)) ∙ c.empty.ensures in
    let small = rw (← c.self.view_is) at c.requires.small in
    let all = rw (← c.self.view_is) at c.broken-out.ensures.all in
    rw (← c.self.view_is)
    (λ member. Narrows-whole n (g.F.Inside.members s.inner) s.rules c.args.set c.args.fallen c.args.kept c.broken-out.result few small c.requires.part (sym c.is_within.ensures ∙ c.if-is_within.true) member all gone)

pub returns-else-is_within-clause-narrows : goal.returns-else-is_within-clause-narrows
unfolding is_same
returns-else-is_within-clause-narrows g c =
    let s = c.self.inside.family.now in
    let n = g.F.Inside.item_count s.inner in
    let few : n ≤ most_items = omega (arith, c.self.invariant.counted, c.self.invariant.few) in
    let gone = (Decides-is_same c.broken-out.result c.empty.result).0 (not-false _ (sym c.ne.ensures ∙ c.if-ne.false)) ∙ c.empty.ensures in
    let small = rw (← c.self.view_is) at c.requires.small in
    let all = rw (← c.self.view_is) at c.broken-out.ensures.all in
    rw (← c.self.view_is, c.inside.ensures, c.inner.ensures)
    (λ _. Narrows-inside n n (g.F.Inside.members s.inner) s.rules c.args.fallen c.args.kept c.broken-out.result (g.met.F.Inside.is_family s.inner) few small all gone)

pub returns-else-is_within-clause-within : goal.returns-else-is_within-clause-within
returns-else-is_within-clause-within g c = rw c.inside.ensures (interior-within _ c.args.kept)
