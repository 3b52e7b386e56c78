use Rattle.ls_codecs.proofs.Vocabulary.{good-from}
use Rattle.ls_codecs.proofs.queries.AnswerToValue.to_value.Goals as goal

pub to_value-requires-clause-fine : goal.to_value-requires-clause-fine
to_value-requires-clause-fine c = (good-from c.args.n c.args.self.now.query c.requires.fine).small
