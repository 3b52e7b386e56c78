use Rattle.ls_deciding.proofs.Vocabulary.{◌∙◌, BaseVerdict, Items, List, ap, ap₂, base_verdict}
use Rattle.ls_meaning.specs.declared.response.Response.TheVariants as response
use Rattle.ls_meaning.specs.declared.response.Shown.TheVariants as shown
use Rattle.ls_deciding.proofs.OnBases.{projected-family}
use Rattle.ls_deciding.proofs.based.projected_base.Goals as goal

pub returns : goal.returns
returns c =
    let b = c.args.base.now in
    let p = c.in_ok-projected.projected in
    let sets = c.in_ok-base.ensures ∙ c.sets.ensures.value ∙ c.in_ok-projected.ensures.sets in
    let verdict = c.test_base-verdict.ensures.verdict ∙ ap base_verdict (projected-family b p c.args.part c.in_ok-projected.ensures.item_count c.in_ok-projected.ensures.sets) in
    ap₂ (λ (ks : List Items) (v : BaseVerdict). response.Shown (shown.ProjectedBase ks v)) sets verdict
