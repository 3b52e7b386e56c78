use Rattle.ls_laws.proofs.Interiors.{space-from}
use Rattle.ls_laws.proofs.Climbs.{graded_by_atoms}
use Rattle.ls_laws.proofs.WellGraded.{is_well_graded-decides}
use Rattle.ls_laws.proofs.Judged.{graded-space}
use Rattle.ls_laws.proofs.gradation.graded_by_atoms.Goals as goal

pub returns : goal.returns
returns c = record {
  test = graded-space;
  items = λ whole f h. let s = space-from whole f h in graded_by_atoms f s.holds_empty s.holds_unions;
  search = is_well_graded-decides;
}
