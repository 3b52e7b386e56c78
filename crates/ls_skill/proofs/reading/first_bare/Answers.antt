use Rattle.std.proofs.Common.{◌<◌, ◌==◌, ◌∙◌, List, [], arith, ap, length, sym}
use Rattle.serde_json.specs.View.{view}
use Rattle.ls_cutting.specs.Lines.{Text}
use Rattle.ls_lists.proofs.Places.{moved-zero, moved-here, moved-next, moved-none}
use Rattle.ls_files.specs.SkillFiles.{first_bare}
use Rattle.ls_skill.specs.Gathering.{rows_read}
use Rattle.ls_skill.proofs.Tables.{read-length, row-at}
use Rattle.ls_skill.proofs.reading.first_bare.Goals as goal

pub loop-q-init : goal.loop-q-init
loop-q-init c = sym (moved-zero (first_bare (rows_read c.args.d.now (view c.args.value.now))))

pub returns-then-is_bare-clause-value : goal.returns-then-is_bare-clause-value
returns-then-is_bare-clause-value c =
    let names = c.args.d.now in
    let value = view c.args.value.now in
    let q = c.loop-q.q in
    let small : q < length names = omega (arith, c.loop-q-test.true, c.count-q-end.ensures.value) in
    sym
    (moved-here (λ (row : List Text). length row == 0) (rows_read names value) q []
    (omega (arith, small, read-length names value))
    (ap (λ row. length row == 0) (row-at names value q small) ∙ sym c.is_bare.ensures ∙
    c.if-is_bare.true))
    ∙ c.loop-q.invariant

pub loop-q-preserved : goal.loop-q-preserved
loop-q-preserved c =
    let names = c.args.d.now in
    let value = view c.args.value.now in
    let q = c.loop-q.q in
    let small : q < length names = omega (arith, c.loop-q-test.true, c.count-q-end.ensures.value) in
    sym
    (moved-next (λ (row : List Text). length row == 0) (rows_read names value) q []
    (omega (arith, small, read-length names value))
    (ap (λ row. length row == 0) (row-at names value q small) ∙ sym c.is_bare.ensures ∙
    c.if-is_bare.false))
    ∙ c.loop-q.invariant

pub returns-clause-value : goal.returns-clause-value
returns-clause-value c =
    let names = c.args.d.now in
    let value = view c.args.value.now in
    sym
    (moved-none (λ (row : List Text). length row == 0) (rows_read names value) c.loop-q.q
    (omega (arith, read-length names value, c.loop-q-test.false, c.count-q-end.ensures.value)))
    ∙ c.loop-q.invariant
