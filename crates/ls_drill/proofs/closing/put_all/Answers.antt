use Rattle.ls_drill.proofs.Vocabulary.{◌+◌, ◌-◌, ◌<◌, ◌≡◌, IsPair, ℕ, arith, drop, empty, get_or, has, length, has_chain, subst, sym}
use Rattle.ls_drill.proofs.Closures.{none-reached, put-next}
use Rattle.ls_drill.proofs.closing.put_all.Goals as goal

pub loop-place-init : goal.loop-place-init
loop-place-init c a q lt = none-reached c.args.pairs.now c.args.after.now a q (c.requires.none a q)

pub loop-place-preserved : goal.loop-place-preserved
loop-place-preserved c =
    let place = c.loop-place.place - 1 in
    let e : c.loop-place.place ≡ place + 1 = omega arith in
    put-next c.loop-place.after c.put_before.new.after c.args.pairs.now place (omega arith)
    (subst (λ (m : ℕ). IsPair m (get_or c.args.pairs.now place (0, 0))) (sym c.loop-place.auto.after) (c.requires.pairs place (0, 0) (omega arith)))
    (subst (λ (p : ℕ). (a q : ℕ) → a < length c.loop-place.after → has (get_or c.loop-place.after a empty) q ≡ has_chain (drop p c.args.pairs.now) a q) e c.loop-place.invariant)
    c.put_before.ensures
