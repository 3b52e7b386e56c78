use Rattle.std.proofs.Common.{◌≡◌, ◌∙◌, true, arith, rules}
use Rattle.ls_cutting.specs.{greatest_number, is_of}
use Rattle.ls_cutting.specs.declared.kind.Kind.TheVariants as kind
use Rattle.ls_words.proofs.Parsed.{number_parsed}
use Rattle.ls_words.proofs.reading.read_number.Goals as goal

pub returns-clause-value : goal.returns-clause-value
unfolding is_of
returns-clause-value c =
    let taken : is_of kind.Number c.args.word.now ≡ true = search rules in
    c.ok.ensures.value ∙ number_parsed greatest_number c.args.word.now c.parse.result (omega arith) taken c.parse.ensures.value.0
