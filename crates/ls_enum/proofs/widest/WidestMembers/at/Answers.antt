use Rattle.ls_enum.proofs.Vocabulary.{◌-◌, ◌≡◌, AreWidest, IsWidest, Items, List, Some, length, slice_get, subst, sym}
use Rattle.std.proofs.lemmas.Option.{slice_get_within, get_or_from_slice_get}
use Rattle.ls_enum.specs.declared.widest.WidestMember.{WidestMember}
use Rattle.ls_enum.proofs.widest.WidestMembers.at.Goals as goal

-- the one at a place
one-widest : (f : List Items) (members held : List WidestMember) (one : WidestMember) → held ≡ members → slice_get held (length held - 1) ≡ Some one → AreWidest f members → IsWidest f one.place one.member
one-widest f members held one same e are =
    let all = subst (AreWidest f) (sym same) are in
    subst (λ (x : WidestMember). IsWidest f x.place x.member) (get_or_from_slice_get held (length held - 1) one one e) (all (length held - 1) one (slice_get_within held (length held - 1) one e))

pub returns-then-eq-clause-widest : goal.returns-then-eq-clause-widest
returns-then-eq-clause-widest c = λ f are.
    let widest = c.in_ok-last.field-0.now in
    one-widest f c.drop_above.new.self.held.items c.as_slice.result.now widest c.as_slice.ensures.value (sym c.in_ok-last.ensures.value) (c.drop_above.ensures f are)
