use Rattle.ls_space.proofs.Vocabulary.{◌∙◌, NotGraded, ap, ap₂, least, refl, sym, unwrap_or}
use Rattle.ls_space.proofs.Judging.{two-least, none-least}
use Rattle.ls_space.proofs.gradation.not_graded.Goals as goal

pub returns-in-Some : goal.returns-in-Some
returns-in-Some c = let two = two-least c.args.own c.in-Some.first (sym c.in-Some.ensures.value) in
    let second = c.unwrap_or.ensures ∙ ap (λ o. unwrap_or o 0) (c.least-in-Some.ensures.value ∙ ap least c.without.ensures) in
    ap₂ (NotGraded c.args.set) (sym two.0) (second ∙ sym two.1)

pub returns-in-None : goal.returns-in-None
returns-in-None c = let none = none-least c.args.own (sym c.in-None.ensures.value) in rw none refl
