use Rattle.std.proofs.Common.{◌≡◌, sym, ◌∙◌, subst}
use Rattle.ls_set.specs.{IsWithin, full}
use Rattle.ls_set.proofs.Cursors.{only}
use Rattle.ls_resolve.proofs.views.read_after.Goals as goal

pub returns-in_ok-from_cursor-in-Some-clause-on : goal.returns-in_ok-from_cursor-in-Some-clause-on
returns-in_ok-from_cursor-in-Some-clause-on c = λ x e.
    let set = c.in_ok-from_cursor-in-Some.field-0 in
    let same : set ≡ x = cc in
    let read = sym c.from_cursor.ensures ∙ c.in_ok-from_cursor-in-Some.was in
    subst (λ s. IsWithin s (full c.args.n)) same (only c.args.n _ set read).0
