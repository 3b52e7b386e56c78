use Rattle.ls_rules.proofs.Vocabulary.{◌∙◌, Decides-is_same, empty-within, interior-is, interior-within, is_same, sym}
use Rattle.ls_rules.proofs.Reaching.{inside_settled, inside_whole}
use Rattle.ls_rules.proofs.ruled.Ruled.inside_ruled.Goals as goal

pub returns-then-eq : goal.returns-then-eq
unfolding is_same
returns-then-eq g c =
    let n = g.F.Inside.item_count c.self.inside.inner in
    let f = g.F.Inside.members c.self.inside.inner in
    let rules = c.self.inside.rules.items in
    let family = g.met.F.Inside.is_family c.self.inside.inner in
    let first = rw (c.deref.ensures.value, c.inside-member.ensures) at c.begin-first.ensures.settling in
    let whole = rw c.inside-member.ensures at c.begin-first.ensures.whole in
    let none = (Decides-is_same c.begin-first.result.fallen c.empty.result).0 (sym c.eq.ensures ∙ c.if-eq.true) ∙ c.empty.ensures in
    rw (← c.self.view_is) (c.inside-member.ensures ∙ inside_whole n f rules c.args.s c.begin-first.result family first whole none)

pub settle_within-requires : goal.settle_within-requires
settle_within-requires g c =
    let f = g.F.Inside.members c.self.inside.inner in
    let first = rw c.inside-member.ensures at c.begin-first.ensures.settling in
    λ i h. c.requires i (interior-within f c.args.s i (first.within i h))

pub returns : goal.returns
returns g c =
    let n = g.F.Inside.item_count c.self.inside.inner in
    let f = g.F.Inside.members c.self.inside.inner in
    let rules = c.self.inside.rules.items in
    let family = g.met.F.Inside.is_family c.self.inside.inner in
    let first = rw (c.deref.ensures.value, c.inside-member.ensures) at c.begin-first.ensures.settling in
    let settles = rw (← c.self.view_is, c.inside-member.ensures, c.empty-2.ensures) at c.settle_within.ensures.value in
    let member = (interior-is f family.holds_empty family.holds_unions c.args.s).member in
    rw (← c.self.view_is) (c.unwrap_or.ensures ∙ inside_settled n f rules c.args.s c.empty-3.result c.settle_within.result family (settles member first (empty-within c.begin-first.result.kept)))
