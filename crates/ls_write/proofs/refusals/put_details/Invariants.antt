use Rattle.ls_write.proofs.Vocabulary.{Says, detail_of, detail_word, names_in, option_copied, spaced, take}
use Rattle.ls_write.proofs.refusals.put_details.Given as goal

abbrev pub invariant-loop-detail : goal.invariant-loop-detail
invariant-loop-detail g l =
    let names = names_in (option_copied l.texts) in
    Says (g.K.Sink.written l.fn.out) (g.K.Sink.faults l.fn.out) l.fn.room (g.K.Sink.written l.out) (g.K.Sink.faults l.out) l.room (spaced (λ d. detail_word names (detail_of d)) (take l.detail-index l.details))
