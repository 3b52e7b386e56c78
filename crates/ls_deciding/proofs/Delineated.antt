-- Sets with the same disjunctive states delineate the same by either reading.
use Rattle.std.proofs.Common.{◌∙◌, ◌≡◌, List, Option, ap, sym, ℕ}
use Rattle.ls_set.specs.{Items}
use Rattle.ls_origins.specs.Skills.{all, any, duals}
use Rattle.ls_skill.proofs.Skilled.{all-complements}
use Rattle.ls_meaning.specs.SkillRows.{delineated}
use Rattle.ls_meaning.specs.StateLists.{states_on}
use Rattle.ls_meaning.specs.declared.request.SkillModel.{SkillModel}
use Rattle.ls_meaning.specs.declared.request.SkillModel.TheVariants.{Disjunctive, Conjunctive}
use Rattle.ls_meaning.specs.declared.response.Shown.TheVariants.{Duals, Unions}

module _ (n : ℕ) (sets skills : List Items) (same : any n sets ≡ any n skills) (count : ℕ)
    (after : Option Items) where
  all-same : all n sets ≡ all n skills
  all-same =
      all-complements n sets ∙ ap (duals n) same ∙ sym (all-complements n skills)

  pub delineated-same : (model : SkillModel)
      → delineated n model sets count after ≡ delineated n model skills count after
  delineated-same Disjunctive =
      ap (λ (f : List Items). Unions (states_on n f) count after) same
  delineated-same Conjunctive =
      ap (λ (f : List Items). Duals (states_on n f) count after) all-same
