use Rattle.ls_lines.proofs.Vocabulary.{◌∙◌, ◌≡◌, Some, YieldsList-from_slice, YieldsList-from_take_while, ap, count_from_yields_List, fits, front, length-prefix_len, rules, sym, tests}
use Rattle.ls_lines.proofs.Ascii.{front_many, front_first, front-within, front-ascii}
use Rattle.ls_lines.proofs.reading.front.Goals as goal

pub returns-in-Many : goal.returns-in-Many
returns-in-Many c =
    let part = c.args.part in
    let words = c.args.words.now in
    let counted = count_from_yields_List c.take_while.result _ c.count.ensures.ran (YieldsList-from_take_while _ (fits part) (YieldsList-from_slice words cc) c.take_while.ensures.closure c.take_while.ensures.done (λ x b q k. search (rules, tests))) ∙ length-prefix_len (fits part) words in
    let value : front part words ≡ Some c.count.result = front_many part c.in-Many.field-0 words c.in-Many.is ∙ ap Some (sym counted) in
    record {
      value = sym value;
      within = front-within part words c.count.result value;
      ascii = front-ascii part words c.count.result value;
    }

pub returns-in-Some : goal.returns-in-Some
returns-in-Some c =
    let part = c.args.part in
    let words = c.args.words.now in
    let value : front part words ≡ Some 1 = front_first part words c.in-Some.word.now c.in-Fixed.is (sym c.in-Some.ensures.value) (sym c.if-fits.ensures) in
    record {
      value = sym value;
      within = front-within part words 1 value;
      ascii = front-ascii part words 1 value;
    }
