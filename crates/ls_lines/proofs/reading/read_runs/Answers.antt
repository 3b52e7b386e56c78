use Rattle.ls_lines.proofs.Vocabulary.{◌≡◌, arith, length, nat_tests, rules, runs, sym}
use Rattle.ls_lines.proofs.Choosing.{no_words}
use Rattle.ls_lines.proofs.reading.read_runs.Goals as goal

pub returns-then-is_empty-clause-read : goal.returns-then-is_empty-clause-read
returns-then-is_empty-clause-read c =
    let all : c.push_runs.new.tokens.items ≡ runs c.args.line.now = search rules in
    let none : length c.push_runs.new.tokens.items ≡ 0 = grind (arith, nat_tests, c.is_empty.ensures, c.if-is_empty.true) in
    sym (no_words (runs c.args.line.now) (rw all at none))
