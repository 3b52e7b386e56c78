use Rattle.ls_codecs.proofs.Vocabulary.{arith}
use Rattle.ls_codecs.proofs.WrittenStarts.{cursor-utf8}
use Rattle.ls_codecs.proofs.single.ItemSetToValue.to_value.Goals as goal

pub unwrap-requires : goal.unwrap-requires
unwrap-requires c = grind (arith, cursor-utf8 c.args.n c.args.self.now)
