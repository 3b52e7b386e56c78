use Rattle.ls_domain.proofs.NamedSets.{set-back, set-all_named}
use Rattle.ls_domain.proofs.laws.sets_are_read_back.Goals as goal

pub returns : goal.returns
returns c = record {
  set = λ names s domain. set-back names domain.are_names.distinct s;
  named = λ names s domain. set-all_named names domain.are_names.distinct s;
}
