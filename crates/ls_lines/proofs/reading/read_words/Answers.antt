use Rattle.ls_lines.proofs.Vocabulary.{◌∙◌, sym}
use Rattle.ls_lines.proofs.Initials.{reading_starts, form_fails, few_parts}
use Rattle.ls_lines.proofs.reading.read_words.Goals as goal

pub loop-form-init : goal.loop-form-init
loop-form-init c = record { value = rw (c.with_initial-forms.ensures, c.initial.ensures) (reading_starts c.args.words.now c.requires.some) }

pub new-requires : goal.new-requires
new-requires c = rw c.parts.ensures (few_parts _)

pub loop-form-preserved : goal.loop-form-preserved
loop-form-preserved c =
    let none = rw c.parts.ensures at c.in_default.ensures.words in
    record { value = form_fails c.with_initial-forms.result.now c.loop-form.form-index _ c.args.words.now c.loop-form-test.true (sym none) ∙ c.loop-form.invariant.value }
