use Rattle.ls_base.proofs.Vocabulary.{◌+◌, ◌-◌, ◌∙◌, All, All-weaker, AreAskable, Entry, IfSome, IsAskable, IsTrail, ap, arith, option_map_or, followed_count, set, subst, sym, take}
use Rattle.ls_base.proofs.Trails.{last-read, last-same, last-set, last-push, trail-set, trail-push}
use Rattle.ls_base.proofs.trail.follow_next.Goals as goal

pub returns-then-is_unchanged-clause-trail : goal.returns-then-is_unchanged-clause-trail
returns-then-is_unchanged-clause-trail c = λ n start yeses t at.
    let es = c.args.entries.now.items in
    let i = c.len-place.result - 1 in
    let e = c.index-last.result.now in
    let x = c.index_mut.result.now in
    let last = last-read es i e c.requires.begun (omega arith) c.index-last.ensures in
    let same = last-same es e x last (last-read es i x c.requires.begun (omega arith) c.index_mut.ensures.value) in
    subst (λ (y : Entry). let z : Entry = record { first = y.first; last = e.last + 1; followed = y.followed } in IsTrail n start yeses (set es i z)) same
    (trail-set n start yeses es i e c.args.r.now last t at (λ h. c.is_unchanged.ensures.followed n start (take e.last yeses) h c.if-is_unchanged.true))

pub returns-then-is_unchanged-clause-askable : goal.returns-then-is_unchanged-clause-askable
returns-then-is_unchanged-clause-askable c = λ yeses h.
    let es = c.args.entries.now.items in
    let i = c.len-place.result - 1 in
    let x = c.index_mut.result.now in
    let all = subst (λ o. IfSome o (λ (e : Entry). All (IsAskable e.followed) yeses)) (last-read es i x c.requires.begun (omega arith) c.index_mut.ensures.value) h in
    subst (λ o. IfSome o (λ (e : Entry). All (IsAskable e.followed) yeses)) (sym (last-set es i (record { first = x.first; last = c.index-last.result.now.last + 1; followed = x.followed }) c.requires.begun (omega arith))) all

pub returns-then-is_unchanged-clause-reached : goal.returns-then-is_unchanged-clause-reached
returns-then-is_unchanged-clause-reached c =
    let es = c.args.entries.now.items in
    let i = c.len-place.result - 1 in
    let e = c.index-last.result.now in
    let x = c.index_mut.result.now in
    ap (λ o. option_map_or (λ (e : Entry). e.last) o 0) (last-set es i (record { first = x.first; last = e.last + 1; followed = x.followed }) c.requires.begun (omega arith))
    ∙ ap (λ o. option_map_or (λ (e : Entry). e.last) o 0 + 1) (sym (last-read es i e c.requires.begun (omega arith) c.index-last.ensures))

pub after_yes-requires : goal.after_yes-requires
after_yes-requires c =
    let es = c.args.entries.now.items in
    let e = c.index-last.result.now in
    subst (λ o. IfSome o (λ (e : Entry). IsAskable e.followed c.args.r.now)) (last-read es (c.len-place.result - 1) e c.requires.begun (omega arith) c.index-last.ensures) c.requires.askable

pub returns-clause-trail : goal.returns-clause-trail
returns-clause-trail c = λ n start yeses t at.
    let es = c.args.entries.now.items in
    let e = c.index-last.result.now in
    let last = last-read es (c.len-place.result - 1) e c.requires.begun (omega arith) c.index-last.ensures in
    subst (IsTrail n start yeses) (sym c.in_ok-push.ensures.items)
    (trail-push n start yeses es e c.args.r.now c.in_ok-followed.followed last t at (λ h l. c.in_ok-followed.ensures.followed n start (take e.last yeses) h l))

pub returns-clause-askable : goal.returns-clause-askable
returns-clause-askable c = λ yeses h.
    let es = c.args.entries.now.items in
    let e = c.index-last.result.now in
    let f = c.in_ok-followed.followed in
    let z : Entry = record { first = e.last + 1; last = e.last + 1; followed = f } in
    let all = subst (λ o. IfSome o (λ (e : Entry). All (IsAskable e.followed) yeses)) (last-read es (c.len-place.result - 1) e c.requires.begun (omega arith) c.index-last.ensures) h in
    subst (AreAskable yeses) (sym c.in_ok-push.ensures.items)
    (subst (λ o. IfSome o (λ (e : Entry). All (IsAskable e.followed) yeses)) (sym (last-push es z)) (All-weaker (IsAskable e.followed) (IsAskable f) (λ s a. c.in_ok-followed.ensures.askable s a) yeses all))

pub returns-clause-reached : goal.returns-clause-reached
returns-clause-reached c =
    let es = c.args.entries.now.items in
    let e = c.index-last.result.now in
    let z : Entry = record { first = e.last + 1; last = e.last + 1; followed = c.in_ok-followed.followed } in
    ap followed_count c.in_ok-push.ensures.items
    ∙ ap (λ o. option_map_or (λ (e : Entry). e.last) o 0) (last-push es z)
    ∙ ap (λ o. option_map_or (λ (e : Entry). e.last) o 0 + 1) (sym (last-read es (c.len-place.result - 1) e c.requires.begun (omega arith) c.index-last.ensures))
