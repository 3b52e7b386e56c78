use Rattle.ls_skill.proofs.Skilled.{any-again, all-again}
use Rattle.ls_skill.proofs.skills.bases_give_the_same_states.Goals as goal

pub returns : goal.returns
returns c = record { any = any-again; all = all-again }
