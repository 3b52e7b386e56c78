use Rattle.ls_lines.proofs.Vocabulary.{◌∙◌, ◌≡◌, Form, YieldsList-from_map, YieldsList-from_slice, ℕ, ap, arith, begun_length, max_of_map, parts, reduce_from_yields_List, rules, tests, unwrap_or}
use Rattle.ls_lines.proofs.Places.{most_begun}
use Rattle.ls_lines.proofs.Initials.{fault_place-tried}
use Rattle.ls_lines.proofs.reading.fault_place.Goals as goal

pub returns-clause-place : goal.returns-clause-place
returns-clause-place c =
    let words = c.args.words.now in
    let begun : Form → ℕ = λ f. begun_length (parts f) words in
    let fs = c.with_initial.result.now in
    let most : c.unwrap_or-begun.result ≡ most_begun words 0 fs =
    c.unwrap_or-begun.ensures ∙ ap (λ o. unwrap_or o 0) (reduce_from_yields_List _ c.map.result _ c.max.ensures.ran (YieldsList-from_map _ begun (YieldsList-from_slice fs cc) c.map.ensures.closure (λ x b q k. search (rules, tests)))) ∙ max_of_map begun fs in
    let same = rw (c.with_initial.ensures, c.initial.ensures) at most in
    omega (arith, same, fault_place-tried words)
