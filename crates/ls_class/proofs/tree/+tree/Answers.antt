use Rattle.ls_class.proofs.Vocabulary.{◌++◌, ◌∙◌, ◌∷◌, ◌≡◌, IfOk, Items, Replay, [], ap, false, filter, has, length, length-filter, length-map, map, not, replay_from, subst, sym, true}
use Rattle.ls_weight.specs.Weighings.{Weighing}
use Rattle.ls_class.proofs.Parts.{none_left}
use Rattle.ls_class.proofs.Turns.{all_right, all_wrong, only_right, only_wrong, over_all}
use Rattle.ls_class.proofs.tree.+tree.Goals as goal

pub replay_all-returns-in-Over : goal.replay_all-returns-in-Over
replay_all-returns-in-Over t c =
    let p = c.args.pupil in
    let rights = c.args.rights.now in
    let same = ap (λ (x : Replay). map (λ (k : Items). x) rights) c.ended.ensures ∙ over_all p.settings p.states p.replies c.in-Over.reason rights (sym c.question.ensures.value ∙ c.in-Over.is) in
    subst (λ l. IfOk c.for_each.result (λ v. v.items ≡ l)) same c.for_each.ensures

pub replay_parted-returns-then-is_empty : goal.replay_parted-returns-then-is_empty
replay_parted-returns-then-is_empty t c =
    let p = c.args.pupil in
    let none = sym c.requires.missed ∙ none_left c.args.missed.now (sym c.is_empty.ensures ∙ c.if-is_empty.true) in
    subst (λ l. IfOk c.replay_after.result (λ v. v.items ≡ l)) (only_right p.settings p.states p.replies c.args.q c.args.rights.now c.requires.asked c.requires.room none) c.replay_after.ensures

pub replay_parted-returns-then-is_empty-2 : goal.replay_parted-returns-then-is_empty-2
replay_parted-returns-then-is_empty-2 t c =
    let p = c.args.pupil in
    let none = sym c.requires.got ∙ none_left c.args.got.now (sym c.is_empty-2.ensures ∙ c.if-is_empty-2.true) in
    subst (λ l. IfOk c.replay_after-then-is_empty-2.result (λ v. v.items ≡ l)) (only_wrong p.settings p.states p.replies c.args.q c.args.rights.now c.requires.asked c.requires.room none) c.replay_after-then-is_empty-2.ensures

pub replay_parted-merged-requires-clause-got : goal.replay_parted-merged-requires-clause-got
replay_parted-merged-requires-clause-got t c =
    let q = c.args.q in
    let rights = c.args.rights.now in
    let after = λ (w : Weighing). replay_from w.settings w.states (w.replies ++ record { q = q; right = true } ∷ []) in
    ap length (c.deref.ensures.value ∙ c.in_ok-after_right.ensures ∙ ap (map (after c.in_ok-copy.copy)) c.requires.got)
    ∙ length-map (filter (λ k. has k q) rights) (after c.in_ok-copy.copy) ∙ length-filter (λ k. has k q) rights

pub replay_parted-merged-requires-clause-missed : goal.replay_parted-merged-requires-clause-missed
replay_parted-merged-requires-clause-missed t c =
    let q = c.args.q in
    let rights = c.args.rights.now in
    let after = λ (w : Weighing). replay_from w.settings w.states (w.replies ++ record { q = q; right = false } ∷ []) in
    ap length (c.deref-2.ensures.value ∙ c.in_ok-after_wrong.ensures ∙ ap (map (after c.args.pupil)) c.requires.missed)
    ∙ length-map (filter (λ k. not (has k q)) rights) (after c.args.pupil) ∙ length-filter (λ k. not (has k q)) rights

pub replay_parted-returns : goal.replay_parted-returns
replay_parted-returns t c =
    let q = c.args.q in
    let p = c.args.pupil in
    let rights = c.args.rights.now in
    let after = λ (w : Weighing). replay_from w.settings w.states (w.replies ++ record { q = q; right = true } ∷ []) in
    let missed_after = λ (w : Weighing). replay_from w.settings w.states (w.replies ++ record { q = q; right = false } ∷ []) in
    let got = c.deref.ensures.value ∙ c.in_ok-after_right.ensures
    ∙ ap (λ (w : Weighing). map (after w) c.args.got.now) c.in_ok-copy.ensures ∙ ap (map (after p)) c.requires.got
    ∙ all_right p.settings p.states p.replies q rights c.requires.asked c.requires.room in
    let missed = c.deref-2.ensures.value ∙ c.in_ok-after_wrong.ensures ∙ ap (map (missed_after p)) c.requires.missed
    ∙ all_wrong p.settings p.states p.replies q rights c.requires.asked c.requires.room in
    c.merged.ensures (replay_from p.settings p.states p.replies) got missed
