use Rattle.std.proofs.Common.{◌∙◌, List, sym, subst}
use Rattle.ls_set.specs.ItemSet.{Items}
use Rattle.ls_theory.specs.Bases.{base}
use Rattle.ls_laws.specs.Spans.{AreOn, spanned}
use Rattle.ls_base.specs.Bases.{IsPastOf}
use Rattle.ls_mesh.proofs.SetParts.{side-on}
use Rattle.ls_mesh.proofs.Meant.{side-made, side-spanned, side-few, side-wide}
use Rattle.ls_mesh.proofs.side.side_base.Goals as goal

pub spanned_by-requires-clause-is_on : goal.spanned_by-requires-clause-is_on
spanned_by-requires-clause-is_on c =
    let n = c.args.n in
    subst (λ (g : List Items). AreOn n g)
    (sym
    (side-made n c.args.sets.now c.in_ok-side.side.items c.args.part c.requires.part
    c.in_ok-side.ensures)) (side-on n c.args.sets.now c.requires.on)

pub returns-in-Ok-clause-sets : goal.returns-in-Ok-clause-sets
returns-in-Ok-clause-sets c =
    c.in-Ok.ensures.sets ∙ side-spanned c.args.n c.args.sets.now c.in_ok-side.side.items
    (side-made c.args.n c.args.sets.now c.in_ok-side.side.items c.args.part c.requires.part
    c.in_ok-side.ensures)

pub returns-in-Ok-clause-none : goal.returns-in-Ok-clause-none
returns-in-Ok-clause-none c =
    side-few c.args.n c.args.number c.args.sets.now
    (base (spanned c.args.n c.in_ok-side.side.items))
    (side-spanned c.args.n c.args.sets.now c.in_ok-side.side.items
    (side-made c.args.n c.args.sets.now c.in_ok-side.side.items c.args.part c.requires.part
    c.in_ok-side.ensures))
    c.in-Ok.ensures.few

pub returns-in-Err-Past-clause-wide : goal.returns-in-Err-Past-clause-wide
returns-in-Err-Past-clause-wide c =
    side-wide c.args.n c.args.number c.args.sets.now
    (base (spanned c.args.n c.in_ok-side.side.items)) c.in-Err-Past.count
    (side-spanned c.args.n c.args.sets.now c.in_ok-side.side.items
    (side-made c.args.n c.args.sets.now c.in_ok-side.side.items c.args.part c.requires.part
    c.in_ok-side.ensures))
    (subst (IsPastOf (base (spanned c.args.n c.in_ok-side.side.items))) c.in-Err-Past.field-0-is
    c.in-Err-Past.ensures.past)
