use Rattle.std.proofs.Common.{◌≡◌, ◌∙◌, sym, true}
use Rattle.ls_laws.proofs.Families.{spanned-IsFamily}
use Rattle.ls_set.specs.ItemSet.{is_among}
use Rattle.ls_base.specs.Bases.{family}
use Rattle.ls_safe.proofs.GoneOver.{over-within}
use Rattle.ls_safe.proofs.Witnesses.{witness-waits}
use Rattle.ls_safe.proofs.trying.is_over.Goals as goal

pub returns-then-is_member-clause-over : goal.returns-then-is_member-clause-over
returns-then-is_member-clause-over c = λ few.
    let b = c.args.b.now in
    let a = c.args.answer.now in
    let member : is_among (family b) c.args.witness ≡ true =
    sym c.is_member.ensures ∙ c.if-is_member.true in
    over-within b.item_count (family b) a
    (witness-waits b.item_count (family b) a.query c.args.witness
    (spanned-IsFamily b.item_count b.sets) (c.requires.witness c.if-answer.false) member)
    (c.has_few_sets.ensures few)
