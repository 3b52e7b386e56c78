use Rattle.std.proofs.Common.{[], ◌∙◌, ◌≡◌, List, Ok, Result, ap, ap₂, length, subst, sym, ℕ}
use Rattle.ls_set.specs.{Items}
use Rattle.ls_laws.specs.Spans.{AreOn}
use Rattle.ls_origins.specs.Skills.{any}
use Rattle.ls_origins.specs.declared.skill_fault.SkillFault.{SkillFault}
use Rattle.ls_base.proofs.Spanned.{base-on}
use Rattle.ls_skill.proofs.Skilled.{any-spanned}
use Rattle.ls_files.specs.SkillFiles.{Skill, item_sets}
use Rattle.ls_meaning.specs.SkillRows.{delineated, delineated_by}
use Rattle.ls_meaning.specs.declared.response.Response.TheVariants.{Shown}
use Rattle.ls_meaning.specs.declared.response.Shown.{Shown as Showing}
use Rattle.ls_deciding.proofs.Delineated.{delineated-same}
use Rattle.ls_deciding.proofs.skills.delineate.Goals as goal

pub page_of-requires : goal.page_of-requires
page_of-requires c =
    let base = c.in_ok-base-in-Ok.base in
    let items =
    c.in_ok-base-in-Ok.ensures.item_count ∙ c.in-Ok.ensures.item_count ∙ sym c.count.ensures.value in
    subst (AreOn c.count.result) (sym (c.in_ok-sets-in-Ok.ensures ∙ c.sets.ensures.value))
    (subst (λ n. AreOn n base.sets) items (base-on base.item_count base.sets c.sets.ensures.base))

pub returns-in_ok-sets-in-Ok : goal.returns-in_ok-sets-in-Ok
returns-in_ok-sets-in-Ok c =
    let model = c.args.model in
    let n = length c.args.domain.now in
    let skills = item_sets c.in-Ok.map.skills in
    let base = c.in_ok-base-in-Ok.base in
    let m = base.item_count in
    let items : m ≡ n = c.in_ok-base-in-Ok.ensures.item_count ∙ c.in-Ok.ensures.item_count in
    let page = λ (k : ℕ) (ks : List Items). delineated k model ks c.args.count c.args.after in
    let same : any m base.sets ≡ any m skills =
    any-spanned m base.sets (base-on m base.sets c.sets.ensures.base)
    ∙ c.in_ok-base-in-Ok.ensures.family
    ∙ ap (λ k. any k skills) (sym c.in_ok-base-in-Ok.ensures.item_count) in
    ap (λ (x : Showing). Shown x)
    (c.page_of.ensures
    ∙ ap₂ page (c.count.ensures.value ∙ sym items)
    (c.in_ok-sets-in-Ok.ensures ∙ c.sets.ensures.value)
    ∙ delineated-same m base.sets skills same c.args.count c.args.after model
    ∙ ap (λ k. page k skills) items)
    ∙ ap
    (λ (reading : Result (List Skill) SkillFault). delineated_by model n c.args.count c.args.after []
    reading) (sym c.in-Ok.ensures.skills)
