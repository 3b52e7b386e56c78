use Rattle.ls_pupils.proofs.asking.report.Goals as goal

pub report_of-requires-clause-case : goal.report_of-requires-clause-case
report_of-requires-clause-case c = c.in-Some.ensures.case c.args.n c.requires
