use Rattle.ls_room.proofs.Vocabulary.{◌*◌, ◌++◌, ◌<◌, ◌∙◌, ◌≡◌, ap, arith, drop, group_items, has, length, min, numbers_from, spaced_names}
use Rattle.ls_room.proofs.Saying.{says_as, says_nothing, says_then}
use Rattle.ls_room.proofs.Groups.{names_before, names_before-none, names_before-dropped, dropped-next, length-names_before, all-spaced}
use Rattle.ls_room.proofs.set_texts.SetTexts.put_spaced.Goals as goal

pub loop-group-init : goal.loop-group-init
loop-group-init g c = record {
  said = says_as (names_before-dropped c.args.self.now c.args.s c.args.skipped) (says_nothing _ _ _);
  left = omega (arith, ap length (names_before-none c.args.self.now c.args.s));
}

pub loop-group-preserved : goal.loop-group-preserved
loop-group-preserved g c =
    let names = c.args.self.now in
    let group = c.loop-group.group in
    let before = names_before names c.args.s group in
    let here = spaced_names names (has c.args.s) (group_items (length names) group) in
    let lt : 8 * group < length names = omega (arith, ap length c.self.view_is, c.count.ensures.value) in
    record {
      said = says_as (ap (λ k. drop c.args.skipped before ++ drop k here) c.loop-group.invariant.left ∙ dropped-next names c.args.s group c.args.skipped lt) (says_then c.loop-group.invariant.said c.put_group-left.ensures.says);
      left = omega (arith, c.put_group-left.ensures.skipped, c.loop-group.invariant.left, length-names_before names c.args.s group lt);
    }

pub returns : goal.returns
returns g c =
    let names = c.args.self.now in
    let all : min (length names) (8 * c.loop-group.group) ≡ length names = omega (arith, ap length c.self.view_is, c.count.ensures.value) in
    says_as (ap (λ n. drop c.args.skipped (spaced_names names (has c.args.s) (numbers_from 0 n))) all ∙ ap (drop c.args.skipped) (all-spaced names c.args.s)) c.loop-group.invariant.said
