use Rattle.ls_write.proofs.Vocabulary.{◌++◌, ◌<◌, ◌∙◌, ◌≡◌, ◌≤◌, [], arith, atoms_at, clause_text, comma_if, drop, false, filter, is_atom_at, length, listed, refl, sym}
use Rattle.ls_room.proofs.Saying.{says_as, says_nothing, says_then, says_void}
use Rattle.ls_write.proofs.Listed.{taken, passed, filter-end}
use Rattle.ls_write.proofs.Atoms.{atom-told}
use Rattle.ls_write.proofs.surmise.put_atoms.Goals as goal
use Rattle.ls_write.proofs.surmise.put_atoms.Goals.{then-has, else-has}

pub loop-place-init : goal.loop-place-init
loop-place-init g c = ([], record { said = says_nothing _ _ _; left = refl })

pub returns-then-has_failed : goal.returns-then-has_failed
returns-then-has_failed g c =
    let before = c.loop-place.invariant.1 in
    let rest = listed (clause_text c.args.texts.now) c.loop-place.later (filter (is_atom_at c.args.sets.now c.args.item) (drop c.loop-place.place c.args.sets.now)) in
    says_as before.left (says_then before.said (says_void rest (sym c.has_failed.ensures ∙ c.if-has_failed.true)))

pub loop-place-preserved : goal.loop-place-preserved
loop-place-preserved g c =
    let text = clause_text c.args.texts.now in
    let sets = c.args.sets.now in
    let p = is_atom_at sets c.args.item in
    let i = c.loop-place.place in
    let set = c.index-sets-place.result in
    let whole = listed text false (atoms_at sets c.args.item) in
    let given = c.loop-place.invariant.0 in
    let before = c.loop-place.invariant.1 in
    let test : i < length sets = omega arith in
    let is_atom : is_atom_at sets c.args.item set ≡ c.has.result =
    sym (c.has.ensures ∙ atom-told sets c.args.atoms.now i c.args.item set c.index-atoms-place.result test c.requires.atoms c.index-sets-place.is c.index-atoms-place.is) in
    elim c.if-has.branch [
      | then-has w ↦ rw (w.out-is, w.room-is, w.later-is) (
        given ++ (comma_if c.loop-place.later ++ text set),
        record {
          said = says_then before.said (says_then w.put_comma.ensures w.put_clause.ensures);
          left = taken text given whole c.loop-place.later sets i p set test c.index-sets-place.is (is_atom ∙ w.if-has.true) before.left;
        },
      )
      | else-has w ↦ rw (w.out-is, w.room-is, w.later-is) (
        given,
        record {
          said = before.said;
          left = passed text given whole c.loop-place.later sets i p set test c.index-sets-place.is (is_atom ∙ w.if-has.false) before.left;
        },
      )
    ]

pub returns : goal.returns
returns g c =
    let text = clause_text c.args.texts.now in
    let sets = c.args.sets.now in
    let before = c.loop-place.invariant.1 in
    let test : length sets ≤ c.loop-place.place = omega arith in
    says_as (filter-end text c.loop-place.invariant.0 (listed text false (atoms_at sets c.args.item)) c.loop-place.later sets c.loop-place.place (is_atom_at sets c.args.item) test before.left) before.said
