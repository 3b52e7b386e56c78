use Rattle.ls_infer.proofs.Vocabulary.{ap, arith, len, len-within, meet}
use Rattle.ls_infer.proofs.Sharing.{meet-left}
use Rattle.ls_infer.proofs.narrowing.Rest.leave.Goals as goal

pub overflow_sub-len : goal.overflow_sub-len
overflow_sub-len c =
    let items = c.args.self.now.items in
    omega (arith, c.len.ensures, c.len-2.ensures, ap len c.meet-left.ensures, len-within (meet items c.args.set) items (meet-left items c.args.set))

pub returns-clause-fewer : goal.returns-clause-fewer
returns-clause-fewer c =
    let items = c.args.self.now.items in
    omega (arith, c.saturating_add-self.ensures, c.len.ensures, c.len-2.ensures, ap len c.meet-left.ensures, len-within (meet items c.args.set) items (meet-left items c.args.set))
