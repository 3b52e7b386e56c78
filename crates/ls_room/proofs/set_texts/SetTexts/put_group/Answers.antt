use Rattle.ls_room.proofs.Vocabulary.{◌∙◌, [], ap, arith, drop, drop_of_length-le, length, sym}
use Rattle.std.proofs.Common.{length-take-le}
use Rattle.ls_room.proofs.Parts.{front-left}
use Rattle.ls_room.proofs.Saying.{says_as, says_nothing}
use Rattle.ls_room.proofs.Groups.{group_text-of_set, group_text-none}
use Rattle.ls_room.proofs.set_texts.SetTexts.put_group.Goals as goal

pub returns-then-pattern-eq0-clause-says : goal.returns-then-pattern-eq0-clause-says
returns-then-pattern-eq0-clause-says g c =
    let none = group_text-none c.args.self.now c.args.s c.args.group c.group-pattern.result c.group-pattern.ensures c.if-pattern-eq0.true in
    says_as (sym (drop_of_length-le [] (omega arith)) ∙ ap (drop c.args.skipped) (sym none)) (says_nothing _ _ _)

pub returns-then-pattern-eq0-clause-skipped : goal.returns-then-pattern-eq0-clause-skipped
returns-then-pattern-eq0-clause-skipped g c =
    let none = group_text-none c.args.self.now c.args.s c.args.group c.group-pattern.result c.group-pattern.ensures c.if-pattern-eq0.true in
    omega (arith, ap length none)

pub returns-clause-says : goal.returns-clause-says
returns-clause-says g c =
    let pattern = c.group-pattern in
    let from = c.group_from-count in
    let start = c.min-start in
    let is = group_text-of_set c.args.self.now c.args.s c.args.group pattern.result pattern.ensures in
    let left = front-left from.result.0.now from.result.1 c.args.skipped start.result
    from.ensures.within start.ensures in
    says_as (left ∙ ap (drop c.args.skipped) (from.ensures.text ∙ is)) c.put_front.ensures

pub returns-clause-skipped : goal.returns-clause-skipped
returns-clause-skipped g c =
    let pattern = c.group-pattern in
    let from = c.group_from-count in
    let is = group_text-of_set c.args.self.now c.args.s c.args.group pattern.result pattern.ensures in
    let long = length-take-le from.result.1 from.result.0.now from.ensures.within in
    omega (arith, ap length (from.ensures.text ∙ is), long, c.min-start.ensures)
