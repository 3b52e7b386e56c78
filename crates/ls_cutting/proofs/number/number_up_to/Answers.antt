use Rattle.ls_cutting.proofs.Vocabulary.{◌≡◌, Err, IsUtf8-from_ascii, arith, rules, sym}
use Rattle.ls_cutting.proofs.Numbers.{is_decimal-ascii, parsed, past_most}
use Rattle.ls_cutting.proofs.number.number_up_to.Goals as goal

pub unwrap-requires : goal.unwrap-requires
unwrap-requires c = grind (arith, IsUtf8-from_ascii c.args.word.now (is_decimal-ascii c.args.word.now (sym c.if-not-is_decimal.ensures)))

pub returns-in-Err : goal.returns-in-Err
returns-in-Err c =
    let decimal = sym c.if-not-is_decimal.ensures in
    let text : c.unwrap.result.now ≡ c.args.word.now = search rules in
    past_most c.args.most c.args.word.now (omega arith) decimal (parsed c.args.word.now (Err c.in-Err.field-0) (rw text at c.in-Err.ensures.value.0) decimal)
