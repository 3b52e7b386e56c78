use Rattle.ls_infer.proofs.Vocabulary.{◌&&◌, ◌∙◌, ap, has, has-minus, not, sym}
use Rattle.ls_infer.proofs.standing_no.StandingNo.unforced.Goals as goal

pub returns-then-is_within : goal.returns-then-is_within
returns-then-is_within c q =
    let s = c.args.self.now in
    ap (λ t. has t q) c.minus.ensures
    ∙ has-minus c.args.undecided s.enough q
    ∙ ap (λ b. has c.args.undecided q && not (b && has s.enough q)) (sym (sym c.is_within.ensures ∙ c.if-is_within.true))
