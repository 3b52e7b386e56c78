use Rattle.ls_class.proofs.Vocabulary.{◌+◌, ◌<◌, ◌∙◌, ◌≡◌, ap, arith, common_steps, drop, fields_of, is_name-utf8, length, marked, most_class_pupils, slice_get_within, sym}
use Rattle.ls_class.proofs.Headers.{field_at-get}
use Rattle.ls_class.proofs.Kept.{named-rows}
use Rattle.ls_class.proofs.Rows.{next_row-no_field, next_row-no_name, next_row-no_marks, next_row-some, next_name-none, next_name-full, next_name-again, next_name-new}
use Rattle.ls_class.proofs.class_table.ClassTable.add.Goals as goal
use Rattle.ls_class.proofs.class_table.ClassTable.add.Goals.{then-not-takes-via-then-not-takes, then-not-takes-via-else-not-takes+then-len-eq-MOST_CLASS_PUPILS}

pub returns-in_default-clause-fault : goal.returns-in_default-clause-fault
returns-in_default-clause-fault c =
    let fields = fields_of c.args.fields.now in
    (next_row-no_field c.args.columns.now c.args.self.now fields (c.in_default.ensures.value ∙ field_at-get fields 0), ap (λ n. n + 2) c.len.ensures.value)

pub returns-then-not-takes-clause-fault : goal.returns-then-not-takes-clause-fault
returns-then-not-takes-clause-fault c =
    let fields = fields_of c.args.fields.now in
    let first = c.in-Some.ensures.value ∙ field_at-get fields 0 in
    let bad = next_row-no_name c.args.columns.now c.args.self.now fields c.in-Some.name.now first in
    elim c.then-not-takes.branch [
      | then-not-takes-via-then-not-takes w ↦ (bad (next_name-none c.args.self.now c.in-Some.name.now (sym w.if-not-takes.ensures)), ap (λ n. n + 2) c.len.ensures.value)
      | then-not-takes-via-else-not-takes+then-len-eq-MOST_CLASS_PUPILS w ↦ (bad (next_name-full c.args.self.now c.in-Some.name.now (sym w.len-else-not-takes.ensures.value ∙ w.if-len-eq-MOST_CLASS_PUPILS.true)), ap (λ n. n + 2) c.len.ensures.value)
    ]

pub unwrap-name-requires : goal.unwrap-name-requires
unwrap-name-requires c =
    grind (arith, is_name-utf8 c.in-Some.name.now (sym c.if-not-takes.ensures))

pub returns-then-contains_key-clause-fault : goal.returns-then-contains_key-clause-fault
returns-then-contains_key-clause-fault c =
    let fields = fields_of c.args.fields.now in
    let first = c.in-Some.ensures.value ∙ field_at-get fields 0 in
    let same : c.unwrap-name.result.now ≡ c.in-Some.name.now = (rw c.unwrap-name.ensures at c.from_utf8.ensures.cases).0 in
    let named = sym (named-rows c.self.inside.pupils.entries c.unwrap-name.result.now c.args.self.now c.self.view_is) ∙ sym c.if-contains_key.ensures in
    (next_row-no_name c.args.columns.now c.args.self.now fields c.in-Some.name.now first (next_name-again c.args.self.now c.in-Some.name.now (rw same at named)), ap (λ n. n + 2) c.len.ensures.value)

pub read_marks-requires-clause-fields : goal.read_marks-requires-clause-fields
read_marks-requires-clause-fields c =
    let fields = fields_of c.args.fields.now in
    slice_get_within fields 0 c.in-Some.name.now (sym (c.in-Some.ensures.value ∙ field_at-get fields 0))

pub returns-in_default-read_marks-clause-fault : goal.returns-in_default-read_marks-clause-fault
returns-in_default-read_marks-clause-fault c =
    let fields = fields_of c.args.fields.now in
    (next_row-no_marks c.args.columns.now c.args.self.now fields (c.in_default-read_marks.ensures ∙ ap (λ columns. marked columns (drop 1 fields)) c.as_slice.ensures), ap (λ n. n + 2) c.len.ensures.value)

pub push-requires-clause-new : goal.push-requires-clause-new
push-requires-clause-new c =
    sym (named-rows c.self.inside.pupils.entries c.unwrap-name.result.now c.args.self.now c.self.view_is) ∙ sym c.if-contains_key.ensures

pub returns-clause-ok : goal.returns-clause-ok
returns-clause-ok c =
    let fields = fields_of c.args.fields.now in
    let earlier = c.args.self.now in
    let first = c.in-Some.ensures.value ∙ field_at-get fields 0 in
    let same : c.unwrap-name.result.now ≡ c.in-Some.name.now = (rw c.unwrap-name.ensures at c.from_utf8.ensures.cases).0 in
    let named = sym (named-rows c.self.inside.pupils.entries c.unwrap-name.result.now c.args.self.now c.self.view_is) ∙ sym c.if-contains_key.ensures in
    let room : length earlier < most_class_pupils = omega (arith, c.len-else-not-takes.ensures.value, c.len-else-not-takes.ensures.few, c.if-len-eq-MOST_CLASS_PUPILS.false) in
    let next = next_name-new earlier c.unwrap-name.result.now (rw same (sym c.if-not-takes.ensures)) named room in
    let marks = c.in-Some-read_marks.ensures ∙ ap (λ columns. marked columns (drop 1 fields)) c.as_slice.ensures in
    let row = next_row-some c.args.columns.now earlier fields c.unwrap-name.result.now c.in-Some-read_marks.right (rw same first) next marks in
    grind (arith, common_steps, row)
