use Rattle.ls_infer.proofs.Vocabulary.{◌∙◌, ◌≡◌, Some, ap, has, has-empty, slice_get, slice_get-get_or, sym, true≢false}
use Rattle.ls_infer.proofs.Places.{closed-alone}
use Rattle.ls_infer.proofs.entailing.closed_alone.Goals as goal

pub returns-in-Some : goal.returns-in-Some
returns-in-Some c n k f l made i h =
    let found = c.in-Some.ensures.lookup.3 in
    let closed = c.in-Some.closed.now in
    let at : slice_get c.args.closures.now c.args.item ≡ Some closed = slice_get-get_or c.args.closures.now c.args.item closed found.0 ∙ ap Some (sym (found.1 closed)) in
    ap (λ s. has s i) (sym (closed-alone n k c.args.item f c.args.closures.now closed l made at)) ∙ h

pub returns-in-None : goal.returns-in-None
returns-in-None c n k f l made i h = absurd (true≢false (sym h ∙ ap (λ s. has s i) c.empty.ensures ∙ has-empty i))
