use Rattle.ls_surmise.proofs.Vocabulary.{◌<◌, ◌∙◌, ◌≡◌, ◌≤◌, Items, Some, Wide, all_clauses, ap, arith, is_among, length, most_base_sets, rules}
use Rattle.ls_surmise.proofs.Orderings.{put-is, wide-many, wide-few, based-members}
use Rattle.ls_surmise.proofs.ordering.base_of_clauses.Goals as goal

pub returns-then-len-gt-MOST_BASE_SETS-clause-fault : goal.returns-then-len-gt-MOST_BASE_SETS-clause-fault
returns-then-len-gt-MOST_BASE_SETS-clause-fault c =
    let put = c.put_in_order.new.sets.items in
    let all : c.in_ok-all.all.items ≡ all_clauses c.args.clauses.now = search rules in
    let is = put-is c.args.n (all_clauses c.args.clauses.now) put c.put_in_order.ensures.in_order (λ k. c.put_in_order.ensures.same k ∙ ap (λ g. is_among g k) all) c.requires.is_on in
    let many : most_base_sets < length put = omega (arith, c.len.ensures, c.if-len-gt-MOST_BASE_SETS.true) in
    let count : length put ≡ c.len-then-len-gt-MOST_BASE_SETS.result = search rules in
    wide-many c.args.n c.args.clauses.now put is many ∙ ap (λ m. Some (Wide m)) count

pub returns-in-Ok-clause-few : goal.returns-in-Ok-clause-few
returns-in-Ok-clause-few c =
    let put = c.put_in_order.new.sets.items in
    let all : c.in_ok-all.all.items ≡ all_clauses c.args.clauses.now = search rules in
    let is = put-is c.args.n (all_clauses c.args.clauses.now) put c.put_in_order.ensures.in_order (λ k. c.put_in_order.ensures.same k ∙ ap (λ g. is_among g k) all) c.requires.is_on in
    let few : length put ≤ most_base_sets = omega (arith, c.len.ensures, c.if-len-gt-MOST_BASE_SETS.false) in
    wide-few c.args.n c.args.clauses.now put is few

pub returns-in-Ok-clause-members : goal.returns-in-Ok-clause-members
returns-in-Ok-clause-members c =
    let all : c.in_ok-all.all.items ≡ all_clauses c.args.clauses.now = search rules in
    let same = λ (k : Items). ap (λ g. is_among g k) c.deref.ensures.value ∙ c.put_in_order.ensures.same k ∙ ap (λ g. is_among g k) all in
    based-members c.args.n (all_clauses c.args.clauses.now) c.deref.result.now c.in-Ok.base same c.in-Ok.ensures.based c.in-Ok.ensures.item_count
