use Rattle.std.proofs.Common.{◌<◌, ◌≤◌, length, refl, rules, subst}
use Rattle.std.proofs.lemmas.Result.{err_from_is_err_and}
use Rattle.ls_safe.specs.Interviews.{IsTried}
use Rattle.ls_safe.proofs.Steps.{going-begins, going-over, going-waits, going-same, going-left}
use Rattle.ls_safe.proofs.Steps.{going-past, going-ends, going-good, going-many, going-witness}
use Rattle.ls_safe.proofs.turning.pass.Goals as goal
use Rattle.ls_safe.proofs.turning.pass.Goals.{then-not-is_over+in_ok-witness+in-Waits}
use Rattle.ls_safe.proofs.turning.pass.Goals.{then-not-is_over+in_ok-witness+in-Same}
use Rattle.ls_safe.proofs.turning.pass.Goals.{else-not-is_over}

pub loop-place-init : goal.loop-place-init
loop-place-init c =
    going-begins c.args.b.now c.args.answers.now.items c.args.witnesses.now.items
    c.requires.learning c.requires.good c.requires.witnesses

pub index-requires-in-loop-place : goal.index-requires-in-loop-place
index-requires-in-loop-place c =
    let g = c.loop-place.invariant in
    let many = going-many c.args.b.now c.args.answers.now.items c.loop-place.answers.items
    c.loop-place.witnesses.items c.loop-place.place g in
    let less : c.loop-place.place < length c.args.answers.now.items = search rules in
    search (rules, many, less)

pub is_over-requires-clause-good : goal.is_over-requires-clause-good
is_over-requires-clause-good c =
    let less : c.loop-place.place < length c.args.answers.now.items = search rules in
    going-good c.args.b.now c.args.answers.now.items c.loop-place.answers.items
    c.loop-place.witnesses.items c.loop-place.place c.index.result.now c.loop-place.invariant less
    c.index.ensures

pub is_over-requires-clause-witness : goal.is_over-requires-clause-witness
is_over-requires-clause-witness c =
    let less : c.loop-place.place < length c.args.answers.now.items = search rules in
    going-witness c.args.b.now c.args.answers.now.items c.loop-place.answers.items
    c.loop-place.witnesses.items c.loop-place.place c.index.result.now
    c.index-in-loop-place.result.now c.loop-place.invariant less c.index.ensures
    c.index-in-loop-place.ensures

pub try_query-requires-clause-good : goal.try_query-requires-clause-good
try_query-requires-clause-good c =
    let less : c.loop-place.place < length c.args.answers.now.items = search rules in
    going-good c.args.b.now c.args.answers.now.items c.loop-place.answers.items
    c.loop-place.witnesses.items c.loop-place.place c.index.result.now c.loop-place.invariant less
    c.index.ensures

pub returns-in_err-witness-clause-past : goal.returns-in_err-witness-clause-past
returns-in_err-witness-clause-past c =
    let less : c.loop-place.place < length c.args.answers.now.items = search rules in
    let p = err_from_is_err_and c.from_residual.result c.from_residual.ensures.1 in
    rw (p.1, p.2)
    (going-past c.args.b.now c.args.answers.now.items c.loop-place.answers.items
    c.loop-place.witnesses.items c.loop-place.place c.index.result.now c.in_err-witness.field-0.0
    c.loop-place.invariant less c.index.ensures
    (c.if-not-is_over.ensures.waits refl) c.in_err-witness.ensures.past)

pub index_mut-requires : goal.index_mut-requires
index_mut-requires c =
    let g = c.loop-place.invariant in
    let many = going-many c.args.b.now c.args.answers.now.items c.loop-place.answers.items
    c.loop-place.witnesses.items c.loop-place.place g in
    let less : c.loop-place.place < length c.args.answers.now.items = search rules in
    search (rules, many, less)

pub returns-in-Left-clause-passed : goal.returns-in-Left-clause-passed
returns-in-Left-clause-passed c =
    let less : c.loop-place.place < length c.args.answers.now.items = search rules in
    going-left c.args.b.now c.in-Left.next c.args.answers.now.items c.loop-place.answers.items
    c.loop-place.witnesses.items c.loop-place.place c.index.result.now
    c.index_mut-in-Left.result.now c.loop-place.invariant less c.index.ensures
    c.index_mut-in-Left.ensures.value (c.if-not-is_over.ensures.waits refl)
    (subst (IsTried c.args.b.now c.index.result.now.query) c.in-Left.is
    c.in_ok-witness.ensures.tried)
    c.in_ok-witness.ensures.few

pub loop-place-preserved : goal.loop-place-preserved
loop-place-preserved c =
    let b = c.args.b.now in
    let old = c.args.answers.now.items in
    let now = c.loop-place.answers.items in
    let ks = c.loop-place.witnesses.items in
    let place = c.loop-place.place in
    let g = c.loop-place.invariant in
    let a = c.index.result.now in
    let less : place < length old = search rules in
    elim c.if-not-is_over.branch [
      | then-not-is_over+in_ok-witness+in-Waits w ↦
          let made = subst (IsTried b a.query) w.in-Waits.is w.in_ok-witness.ensures.tried in
          let h = going-waits b old now ks place a w.in-Waits.witness g less c.index.ensures made
          w.in_ok-witness.ensures.few in
          rw (w.answers-is, w.witnesses-is) h
      | then-not-is_over+in_ok-witness+in-Same w ↦
          let made = subst (IsTried b a.query) w.in-Same.is w.in_ok-witness.ensures.tried in
          let h = going-same b old now ks place a w.index_mut-in-Same.result.now g less
          c.index.ensures w.index_mut-in-Same.ensures.value (w.if-not-is_over.ensures.waits refl)
          made w.in_ok-witness.ensures.few in
          rw (w.answers-is, w.witnesses-is) h
      | else-not-is_over w ↦
          let h = going-over b old now ks place a g less c.index.ensures
          (w.if-not-is_over.ensures.over refl) in
          rw (w.answers-is, w.witnesses-is) h
    ]

pub returns-clause-passed : goal.returns-clause-passed
returns-clause-passed c =
    let all : length c.args.answers.now.items ≤ c.loop-place.place = search rules in
    going-ends c.args.b.now c.args.answers.now.items c.loop-place.answers.items
    c.loop-place.witnesses.items c.loop-place.place c.loop-place.invariant all
