use Rattle.ls_domain.proofs.Vocabulary.{◌<◌, ◌∙◌, ◌≤◌, PLACES, ap, arith, common_steps, length, number_of, sym}
use Rattle.ls_domain.proofs.Numbers.{is_name-utf8, is_named-none}
use Rattle.ls_domain.proofs.Rows.{fault-again, fault-many, fault-none}
use Rattle.ls_domain.proofs.names.Names.add.Goals as goal

pub unwrap-name-requires : goal.unwrap-name-requires
unwrap-name-requires c = grind (arith, is_name-utf8 c.args.name.now (sym c.if-not-takes.ensures))

pub returns-in-Some-clause-fault : goal.returns-in-Some-clause-fault
returns-in-Some-clause-fault c =
    let same = (rw c.unwrap-name.ensures at c.from_utf8.ensures.cases).0 in
    fault-again c.args.self.now c.args.name.now c.len-row.result c.in-Some.first (sym c.if-not-takes.ensures) (c.in-Some.ensures.value ∙ ap (number_of c.args.self.now) same) c.len-row.ensures.value

pub returns-then-row-gt-PLACES-clause-fault : goal.returns-then-row-gt-PLACES-clause-fault
returns-then-row-gt-PLACES-clause-fault c =
    let same = (rw c.unwrap-name.ensures at c.from_utf8.ensures.cases).0 in
    let new = is_named-none c.args.self.now c.args.name.now (sym (c.in_default.ensures.value ∙ ap (number_of c.args.self.now) same)) in
    let full : PLACES ≤ length c.args.self.now = omega (arith, c.len-row.ensures.value, c.if-row-gt-PLACES.true) in
    fault-many c.args.self.now c.args.name.now (sym c.if-not-takes.ensures) new full

pub push-requires : goal.push-requires
push-requires c =
    let same = (rw c.unwrap-name.ensures at c.from_utf8.ensures.cases).0 in record {
      name = rw same (sym c.if-not-takes.ensures);
      new = is_named-none c.args.self.now c.unwrap-name.result.now (sym c.in_default.ensures.value);
      room = omega (arith, c.len-row.ensures.value, c.if-row-gt-PLACES.false);
    }

pub returns-clause-sound : goal.returns-clause-sound
returns-clause-sound c =
    let same = (rw c.unwrap-name.ensures at c.from_utf8.ensures.cases).0 in
    let new = is_named-none c.args.self.now c.args.name.now (sym (c.in_default.ensures.value ∙ ap (number_of c.args.self.now) same)) in
    let room : length c.args.self.now < PLACES = omega (arith, c.len-row.ensures.value, c.if-row-gt-PLACES.false) in
    let sound = fault-none c.args.self.now c.args.name.now (sym c.if-not-takes.ensures) new room in
    grind (arith, common_steps, sound)
