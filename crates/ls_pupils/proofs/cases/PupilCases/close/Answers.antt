use Rattle.ls_pupils.proofs.Vocabulary.{◌∙◌, ◌≡◌, IsOwnCase, List, PupilCase, Some, ap, get_or, slice_get-get_or, subst, sym}
use Rattle.ls_pupils.proofs.cases.PupilCases.close.Goals as goal

pub invariant_of-self : goal.invariant_of-self
invariant_of-self c = λ x e.
    let same : c.remove.result ≡ x = cc e in
    let item : get_or c.args.self.now c.args.place c.remove.result ≡ c.remove.result = ap (λ (l : List PupilCase). get_or l c.args.place c.remove.result) (sym c.self.view_is) ∙ sym c.remove.ensures.value in
    subst IsOwnCase same (c.requires.case c.remove.result (slice_get-get_or c.args.self.now c.args.place c.remove.result c.requires.place ∙ ap (λ (x : PupilCase). Some x) item))
