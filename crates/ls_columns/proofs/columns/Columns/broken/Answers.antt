use Rattle.ls_columns.proofs.Vocabulary.{ap, fallen_by, joined, ◌∙◌}
use Rattle.ls_columns.proofs.Rounds.{out-all, out-apart, out-part}
use Rattle.ls_columns.proofs.columns.Columns.broken.Goals as goal

pub returns-clause-part : goal.returns-clause-part
returns-clause-part g c = rw c.meet.ensures (out-part c.union.result c.args.kept)

pub returns-clause-all : goal.returns-clause-all
returns-clause-all g c =
    let fallen = c.args.fallen in
    let kept = c.args.kept in
    let by = c.broken_in.ensures ∙ ap (λ bs. fallen_by (joined bs) fallen kept) c.deref-2.ensures.value ∙ ap (λ rs. fallen_by rs fallen kept) c.self.invariant.all in
    rw (← c.self.view_is, c.meet.ensures, c.union.ensures) (out-all c.falling_with-with.result c.broken_in.result (fallen_by c.self.inside.family.now.rules fallen kept) kept by)

pub returns-clause-only : goal.returns-clause-only
returns-clause-only g c =
    let fallen = c.args.fallen in
    let kept = c.args.kept in
    let by = c.broken_in.ensures ∙ ap (λ bs. fallen_by (joined bs) fallen kept) c.deref-2.ensures.value ∙ ap (λ rs. fallen_by rs fallen kept) c.self.invariant.all in
    let from = rw c.deref.ensures.value at c.falling_with-with.ensures in
    rw (← c.self.view_is, c.meet.ensures, c.union.ensures)
    (λ t u w apart. out-apart c.self.inside.family.now.rules c.self.inside.falling.items fallen kept c.falling_with-with.result c.broken_in.result t c.self.invariant.sound from by u w apart)
