use Rattle.ls_rules.proofs.Vocabulary.{◌∙◌, ◌≡◌, IsWithin-from, arith, false, interior, interior-within, is_within, len-within, sym, true}
use Rattle.ls_rules.proofs.Reaching.{none_settled, none_inside, nothing_fell, nothing_lost, fewer_kept, Going-settled, Going-more}
use Rattle.ls_rules.proofs.ruled.Ruled.settle_within.Goals as goal

pub returns-in_err-kept-clause-value : goal.returns-in_err-kept-clause-value
returns-in_err-kept-clause-value g c =
    let n = g.F.Inside.item_count c.self.inside.inner in
    let f = g.F.Inside.members c.self.inside.inner in
    let rules = c.self.inside.rules.items in
    let invariant = rw (← c.self.view_is) at c.rounds.invariant in
    let settled = rw c.deref.ensures.value at c.in_err-kept.ensures.value in
    rw (← c.self.view_is, c.from_residual.ensures) (λ a b k.
    let going = invariant.going a b k in
    none_settled n f rules c.args.member c.args.keep c.rounds.member c.rounds.round (g.met.F.Inside.is_family c.self.inside.inner) going
    (settled c.rounds.member going.settling going.keeps))

pub returns-then-is_within-clause-value : goal.returns-then-is_within-clause-value
returns-then-is_within-clause-value g c =
    let n = g.F.Inside.item_count c.self.inside.inner in
    let f = g.F.Inside.members c.self.inside.inner in
    let rules = c.self.inside.rules.items in
    let invariant = rw (← c.self.view_is) at c.rounds.invariant in
    let settled = rw c.deref.ensures.value at c.in_ok-kept.ensures.value in
    let test : is_within c.rounds.member c.in_ok-kept.kept ≡ true = sym c.is_within.ensures ∙ c.if-is_within.true in
    rw (← c.self.view_is) (λ a b k.
    let going = invariant.going a b k in
    nothing_fell n f rules c.args.member c.args.keep c.rounds.member c.in_ok-kept.kept c.rounds.round (g.met.F.Inside.is_family c.self.inside.inner) going
    (settled c.rounds.member going.settling going.keeps) test)

pub returns-then-is_within-2-clause-value : goal.returns-then-is_within-2-clause-value
returns-then-is_within-2-clause-value g c =
    let n = g.F.Inside.item_count c.self.inside.inner in
    let f = g.F.Inside.members c.self.inside.inner in
    let rules = c.self.inside.rules.items in
    let invariant = rw (← c.self.view_is) at c.rounds.invariant in
    let settled = rw c.deref.ensures.value at c.in_ok-kept.ensures.value in
    let test : is_within c.in_ok-kept.kept c.inside-next.result ≡ true = sym c.is_within-in-rounds.ensures ∙ c.if-is_within-2.true in
    let test_in = rw c.inside-next.ensures at test in
    rw (← c.self.view_is) (λ a b k.
    let going = invariant.going a b k in
    nothing_lost n f rules c.args.member c.args.keep c.rounds.member c.in_ok-kept.kept c.rounds.round (g.met.F.Inside.is_family c.self.inside.inner) going
    (settled c.rounds.member going.settling going.keeps) test_in)

pub returns-then-not-is_within-clause-value : goal.returns-then-not-is_within-clause-value
returns-then-not-is_within-clause-value g c =
    let n = g.F.Inside.item_count c.self.inside.inner in
    let f = g.F.Inside.members c.self.inside.inner in
    let rules = c.self.inside.rules.items in
    let invariant = rw (← c.self.view_is) at c.rounds.invariant in
    let settled = rw c.deref.ensures.value at c.in_ok-kept.ensures.value in
    let test : is_within c.args.keep c.inside-next.result ≡ false = sym c.is_within-in-rounds-2.ensures ∙ c.if-not-is_within.true in
    let test_in = rw c.inside-next.ensures at test in
    rw (← c.self.view_is) (λ a b k.
    let going = invariant.going a b k in
    let reaches = Going-settled f rules c.args.member c.args.keep c.rounds.member c.in_ok-kept.kept c.rounds.round going (settled c.rounds.member going.settling going.keeps).0 in
    none_inside n f rules c.args.member c.args.keep c.in_ok-kept.kept (g.met.F.Inside.is_family c.self.inside.inner) reaches test_in)

pub rounds-smaller : goal.rounds-smaller
rounds-smaller g c =
    let f = g.F.Inside.members c.self.inside.inner in
    let test : is_within c.in_ok-kept.kept c.inside-next.result ≡ false = sym c.is_within-in-rounds.ensures ∙ c.if-is_within-2.false in
    let less = fewer_kept f c.in_ok-kept.kept (rw c.inside-next.ensures at test) in
    let part = len-within c.in_ok-kept.kept c.rounds.round.kept c.in_ok-kept.ensures.part in
    rw c.inside-next.ensures (omega arith)

pub rounds-preserved : goal.rounds-preserved
rounds-preserved g c =
    let n = g.F.Inside.item_count c.self.inside.inner in
    let f = g.F.Inside.members c.self.inside.inner in
    let rules = c.self.inside.rules.items in
    let invariant = rw (← c.self.view_is) at c.rounds.invariant in
    let settled = rw c.deref.ensures.value at c.in_ok-kept.ensures.value in
    let kept = c.in_ok-kept.kept in
    let woken = rw (← c.self.view_is) at c.waking_items.ensures in
    let test : is_within c.args.keep c.inside-next.result ≡ true = sym c.is_within-in-rounds-2.ensures ∙ c.if-not-is_within.false in
    let test_in = rw c.inside-next.ensures at test in
    rw (← c.self.view_is, c.meet.ensures, c.minus.ensures, c.inside-next.ensures) (record {
      going = λ a b k.
          let going = invariant.going a b k in
          let reaches = Going-settled f rules c.args.member c.args.keep c.rounds.member kept c.rounds.round going (settled c.rounds.member going.settling going.keeps).0 in
          Going-more n f rules c.waking_items.result c.args.member c.args.keep kept (g.met.F.Inside.is_family c.self.inside.inner) woken reaches (IsWithin-from c.args.keep (interior f kept) test_in);
      part = λ i h. invariant.part i (c.in_ok-kept.ensures.part i (interior-within f kept i h));
    })
