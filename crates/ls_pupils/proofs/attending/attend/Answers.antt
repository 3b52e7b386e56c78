use Rattle.ls_pupils.proofs.attending.attend.Goals as goal

pub returns-in-Reply-clause-pupils : goal.returns-in-Reply-clause-pupils
returns-in-Reply-clause-pupils g c = c.reply.ensures.pupils c.args.inquiry.now.count c.requires.pupils

pub returns-in-Close-clause-pupils : goal.returns-in-Close-clause-pupils
returns-in-Close-clause-pupils g c = c.close.ensures.pupils c.args.inquiry.now.count c.requires.pupils
