use Rattle.ls_weight.proofs.Vocabulary.{bit_at}
use Rattle.std.proofs.Common.{w64}
use Rattle.std.proofs.lemmas.Nat.Bits.{bit_at-lt, bit_at_not}
use Rattle.ls_weight.proofs.Marks.{other-digit}
use Rattle.ls_weight.proofs.columns.agreeing.Goals as goal

pub returns-else-right : goal.returns-else-right
returns-else-right c = λ j l. rw c.if-right.false (other-digit (bit_at c.args.word j) _ (bit_at-lt c.args.word j) (bit_at_not w64 c.args.word j c.ranges.word.fits l))
