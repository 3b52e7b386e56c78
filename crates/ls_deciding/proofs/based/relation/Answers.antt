use Rattle.ls_deciding.proofs.Vocabulary.{subst}
use Rattle.ls_surmise.specs.Surmises.{IsFromFaultOf, surmised}
use Rattle.ls_deciding.proofs.Spanning.{never-missing}
use Rattle.ls_deciding.proofs.based.relation.Goals as goal

pub unreachable-requires : goal.unreachable-requires
unreachable-requires c =
    let b = c.args.base.now in
    never-missing b c.sets.ensures.base c.requires c.in-Err-NotSpanning.field-0-0 (subst (IsFromFaultOf (surmised b)) c.in-Err-NotSpanning.field-0-is c.in-Err-NotSpanning.ensures.fault)
