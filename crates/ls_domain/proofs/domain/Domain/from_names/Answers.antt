use Rattle.ls_domain.proofs.Vocabulary.{◌+◌, ◌<◌, ◌∙◌, ◌≡◌, ◌≤◌, IsDomainFault, IsNameFault, Some, ap, arith, common_steps, drop, get_or, length, map, name_fault, names_from, names_of_words, refl, subst, sym}
use Rattle.ls_domain.proofs.Rows.{loop-next, loop-fault, loop-end, some_rows, words_read, not_none}
use Rattle.ls_domain.proofs.domain.Domain.from_names.Goals as goal

pub returns-in_err-add-clause-fault : goal.returns-in_err-add-clause-fault
returns-in_err-add-clause-fault c =
    let words = c.args.names.now in
    let some = not_none (length words) c.if-is_empty.ensures in
    let lt : c.loop-word.word-index < length words = rw (← c.as_slice-word-items.ensures) c.loop-word-test.true in
    let at : c.word-item.result ≡ get_or words c.loop-word.word-index c.word-item.result = c.word-item.is ∙ ap (λ l. get_or l c.loop-word.word-index c.word-item.result) c.as_slice-word-items.ensures in
    let text = c.as_bytes.ensures.value ∙ c.as_str.ensures in
    let told : IsDomainFault (names_of_words words) c.in_err-add.field-0.0 =
    loop-fault Some words c.loop-word.word-index c.word-item.result lt at c.loop-word.list c.word-item.result (names_of_words words) c.in_err-add.field-0.0 refl (words_read words some ∙ c.loop-word.invariant)
    (subst (λ w. IsNameFault (name_fault c.loop-word.list w) c.in_err-add.field-0.0) text c.in_err-add.ensures.fault) in
    grind (arith, common_steps, told)

pub loop-word-preserved : goal.loop-word-preserved
loop-word-preserved c =
    let words = c.args.names.now in
    let lt : c.loop-word.word-index < length words = rw (← c.as_slice-word-items.ensures) c.loop-word-test.true in
    let at : c.word-item.result ≡ get_or words c.loop-word.word-index c.word-item.result = c.word-item.is ∙ ap (λ l. get_or l c.loop-word.word-index c.word-item.result) c.as_slice-word-items.ensures in
    let text = c.as_bytes.ensures.value ∙ c.as_str.ensures in
    c.loop-word.invariant
    ∙ loop-next Some words c.loop-word.word-index c.word-item.result lt at c.loop-word.list c.as_bytes.result.now (ap Some (sym text)) c.in_ok-add.ensures.sound
    ∙ ap (λ l. names_from l (map Some (drop (c.loop-word.word-index + 1) words))) (sym c.in_ok-add.ensures.ok)

pub invariant_of-result : goal.invariant_of-result
invariant_of-result c =
    let words = c.args.names.now in
    let end : length words ≤ c.loop-word.word-index = rw (← c.as_slice-word-items.ensures) c.loop-word-test.false in
    some_rows Some words c.loop-word.word-index c.loop-word.list end c.loop-word.invariant (not_none (length words) c.if-is_empty.ensures)

pub returns-clause-read : goal.returns-clause-read
returns-clause-read c =
    let words = c.args.names.now in
    let end : length words ≤ c.loop-word.word-index = rw (← c.as_slice-word-items.ensures) c.loop-word-test.false in
    loop-end Some words c.loop-word.word-index c.loop-word.list (names_of_words words) end (words_read words (not_none (length words) c.if-is_empty.ensures) ∙ c.loop-word.invariant)
