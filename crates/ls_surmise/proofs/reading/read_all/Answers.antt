use Rattle.ls_surmise.proofs.Vocabulary.{◌++◌, ◌+◌, ◌∙◌, ◌∷◌, ◌≡◌, [], ap, ap₂, arith, map, map-append, numbers_from, numbers_last, read_own, sym, view}
use Rattle.ls_surmise.proofs.reading.read_all.Goals as goal

pub loop-q-preserved : goal.loop-q-preserved
loop-q-preserved c =
    let h = read_own c.args.d.now (view c.args.value.now) in
    let q = c.loop-q.q in
    c.in_ok-push.ensures.items
    ∙ ap₂ (λ xs a. xs ++ a ∷ []) c.loop-q.invariant (c.in_ok-own.ensures ∙ ap h (let e : q ≡ 0 + q = omega arith in e))
    ∙ sym (ap (map h) (numbers_last 0 q) ∙ map-append h (numbers_from 0 q) ((0 + q) ∷ []))
