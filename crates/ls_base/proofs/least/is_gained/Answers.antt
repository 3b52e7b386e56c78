use Rattle.ls_base.proofs.Vocabulary.{◌&&◌, ◌∙◌, ◌≤◌, ap₂, arith, joins, le-leb, least_size, len, not, sym}
use Rattle.ls_base.proofs.Joins.{any-joins, none-below}
use Rattle.ls_base.proofs.least.is_gained.Goals as goal

pub returns-then-len-least : goal.returns-then-len-least
returns-then-len-least c =
    let js = joins c.args.sets.now c.args.near.now in
    let few : len c.args.k ≤ least_size 4294967295 js = omega (arith, c.requires, c.len.ensures, c.if-len-least.true) in
    le-leb c.len.result c.args.least c.if-len-least.true
    ∙ ap₂ (λ a b. not a && not b) (sym c.if-not-has_within.true ∙ c.has_within.ensures) (sym (none-below c.args.k 4294967295 js few))

pub returns-else-len-least : goal.returns-else-len-least
returns-else-len-least c =
    ap₂ (λ a b. not a && not b) (sym c.if-not-has_within.true ∙ c.has_within.ensures) (c.has_join_below.ensures ∙ any-joins c.args.k c.args.sets.now c.args.near.now)
