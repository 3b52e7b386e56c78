use Rattle.ls_cutting.proofs.Vocabulary.{IsUtf8-from_ascii, arith}
use Rattle.ls_cutting.proofs.word.Word.from_ascii.Goals as goal

pub unwrap-requires : goal.unwrap-requires
unwrap-requires c = grind (arith, IsUtf8-from_ascii c.args.bytes.now c.requires)
