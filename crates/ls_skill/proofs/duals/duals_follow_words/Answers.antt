use Rattle.ls_skill.proofs.Skilled.{among-duals, duals-in_order}
use Rattle.ls_skill.proofs.Dual.{first-dual, next-dual}
use Rattle.ls_skill.proofs.duals.duals_follow_words.Goals as goal

pub returns : goal.returns
returns c =
    record
    { members = among-duals; in_order = duals-in_order; first = first-dual; next = next-dual }
