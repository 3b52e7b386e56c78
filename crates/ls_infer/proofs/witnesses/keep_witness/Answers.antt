use Rattle.ls_infer.proofs.Vocabulary.{◌∙◌, all-at, ap, is_among, list_all, list_all-set, sym}
use Rattle.ls_infer.proofs.witnesses.keep_witness.Goals as goal

pub returns-then-place-kept : goal.returns-then-place-kept
returns-then-place-kept c = λ f h member.
    let are = list_all (is_among f) in
    let kept = c.args.kept.now in
    let old = all-at are kept c.args.item c.index-kept-place.result h c.if-place-kept.true c.index-kept-place.is in
    list_all-set are kept c.args.item c.keep.new.self h (c.keep.ensures f (ap are (sym c.index-kept-place.is) ∙ old) member)
