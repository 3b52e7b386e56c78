use Rattle.ls_codecs.proofs.Vocabulary.{◌≡◌, None, Some, arith, block_codec, numbers, rules, view}
use Rattle.ls_codecs.proofs.BlockSizes.{block-none}
use Rattle.ls_codecs.proofs.blocks.read_block.Goals as goal

pub returns-then-number-from : goal.returns-then-number-from
returns-then-number-from c =
    let d = view c.in_ok-value.value.now in
    let read : numbers.read d ≡ Some c.in_ok-number.number = search rules in
    let none : (block_codec c.args.n).read d ≡ None = block-none c.args.n c.in_ok-number.number d read c.requires.few (omega arith) in
    search rules
