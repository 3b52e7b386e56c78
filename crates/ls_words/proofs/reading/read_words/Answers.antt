use Rattle.std.proofs.Common.{◌≡◌, None, arith}
use Rattle.ls_words.specs.Modes.{mode_of}
use Rattle.ls_words.proofs.Counted.{texts, of_none, of_two, of_four, of_others}
use Rattle.ls_words.proofs.reading.read_words.Goals.{in_default-via-then-words-lt2, in_default-via-else-words-lt2+else-words-lt3+then-words-lt4, in_default-via-else-words-lt2+else-words-lt3+else-words-lt4+else-words-lt5}
use Rattle.ls_words.proofs.reading.read_words.Goals as goal

pub returns-in-empty-clause-read : goal.returns-in-empty-clause-read
returns-in-empty-clause-read c = of_none c.args.words.now c.in-empty.len_below

pub returns-in-empty-clause-usage : goal.returns-in-empty-clause-usage
returns-in-empty-clause-usage c = rw (of_none c.args.words.now c.in-empty.len_below) (grind arith)

pub returns-in-len2-clause-read : goal.returns-in-len2-clause-read
returns-in-len2-clause-read c =
    rw (of_two c.args.words.now c.in-len2.len_at_least c.in-len2.len_below) c.read_option.ensures.read

pub returns-in-len2-clause-usage : goal.returns-in-len2-clause-usage
returns-in-len2-clause-usage c =
    rw (of_two c.args.words.now c.in-len2.len_at_least c.in-len2.len_below) c.read_option.ensures.usage

pub returns-in-len4-clause-read : goal.returns-in-len4-clause-read
returns-in-len4-clause-read c =
    rw (of_four c.args.words.now c.in-len4.len_at_least c.in-len4.len_below) c.read_options.ensures.read

pub returns-in-len4-clause-usage : goal.returns-in-len4-clause-usage
returns-in-len4-clause-usage c =
    rw (of_four c.args.words.now c.in-len4.len_at_least c.in-len4.len_below) c.read_options.ensures.usage

pub returns-in_default-clause-usage : goal.returns-in_default-clause-usage
returns-in_default-clause-usage c =
    let none : mode_of (texts c.args.words.now) ≡ None = elim c.in_default.branch [
      | in_default-via-then-words-lt2 w ↦ of_others c.args.words.now (λ e. grind arith) (λ e. grind arith) (λ e. grind arith)
      | in_default-via-else-words-lt2+else-words-lt3+then-words-lt4 w ↦ of_others c.args.words.now (λ e. grind arith) (λ e. grind arith) (λ e. grind arith)
      | in_default-via-else-words-lt2+else-words-lt3+else-words-lt4+else-words-lt5 w ↦ of_others c.args.words.now (λ e. grind arith) (λ e. grind arith) (λ e. grind arith)
    ] in
    rw none (grind arith)
