use Rattle.std.proofs.Common.{◌+◌, ◌<◌, ◌==◌, List, None, Some, ℕ, arith, length, rules, subst}
use Rattle.std.proofs.Common.{tests}
use Rattle.std.proofs.lemmas.Iterator.{YieldsList-from_slice}
use Rattle.std.proofs.lemmas.Iterator.Search.{position_from_yields_List}
use Rattle.std.proofs.lemmas.List.{length-drop, take_rest}
unfoldable use Rattle.ls_cutting.specs.{lines}
use Rattle.ls_cutting.proofs.Cuts.{split_uncut, split_first}
use Rattle.ls_order.proofs.pair_rows.first_line.Goals as goal

pub returns-in-None : goal.returns-in-None
unfolding lines
returns-in-None c =
    let text = c.args.text.now in
    split_uncut (λ b. b == 10) text
    (position_from_yields_List (λ b. b == 10) _ _ None c.in-None.ensures.ran
    (YieldsList-from_slice text cc) (λ x b q k. search (rules, tests)))

pub returns-in-Some : goal.returns-in-Some
unfolding lines
returns-in-Some c =
    let text = c.args.text.now in
    let end = c.in-Some.end in
    let at = position_from_yields_List (λ b. b == 10) _ _ (Some end) c.in-Some.ensures.ran
    (YieldsList-from_slice text cc) (λ x b q k. search (rules, tests)) in
    let within : end < length text =
    subst (λ (b : List ℕ). end < length b) c.iter.ensures.rest c.in-Some.ensures.bound in
    rw (take_rest text (end + 1))
    (split_first (λ b. b == 10) text end at, omega (arith, length-drop (end + 1) text))
