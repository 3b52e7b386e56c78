use Rattle.ls_expert.proofs.inquiry.Inquiry.unopposed.Goals as goal

pub returns-then-not-has_no-clause-ok : goal.returns-then-not-has_no-clause-ok
returns-then-not-has_no-clause-ok g c = rw c.if-yes.true (c.has_no.ensures.none c.if-not-has_no.true c.args.query.now c.requires)
