use Rattle.ls_infer.proofs.Vocabulary.{◌∙◌, at_drop_all, filter, forces, map, sym}
use Rattle.ls_infer.proofs.Least.{least_with, least_with-first}
use Rattle.ls_infer.proofs.forcing.forcing.Goals as goal

pub returns : goal.returns
returns c =
    sym (at_drop_all (λ xs. least_with c.loop-s.least (map (λ s. s.no.number) (filter (forces c.args.r.now) xs))) c.args.standing.now c.loop-s.s-index c.loop-s-test.false)
    ∙ c.loop-s.invariant ∙ least_with-first (λ s. s.no.number) (filter (forces c.args.r.now) c.args.standing.now)
