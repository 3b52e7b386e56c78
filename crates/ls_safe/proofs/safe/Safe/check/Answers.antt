use Rattle.std.proofs.Common.{◌≡◌, ◌<◌, ◌≤◌, true, length, Some, None, position, rules}
use Rattle.ls_set.specs.Query.{is_good}
use Rattle.ls_theory.specs.Answering.{is_same_query, most_answers}
use Rattle.ls_safe.proofs.Accepted.{plain-repeat, plain-full, plain-none}
use Rattle.ls_safe.proofs.safe.Safe.check.Goals as goal

pub returns-in-Some-clause-fault : goal.returns-in-Some-clause-fault
returns-in-Some-clause-fault c =
    let s = c.args.self.now in
    let q = c.args.q.now in
    let good : is_good s.base.item_count q ≡ true = search rules in
    let at : position (λ a. is_same_query a.query q) s.answers ≡ Some c.in-Some.place =
    search rules in
    plain-repeat s.base.item_count s.answers q c.in-Some.place good at

pub returns-then-len-ge-MOST_ANSWERS-clause-fault :
    goal.returns-then-len-ge-MOST_ANSWERS-clause-fault
returns-then-len-ge-MOST_ANSWERS-clause-fault c =
    let s = c.args.self.now in
    let q = c.args.q.now in
    let good : is_good s.base.item_count q ≡ true = search rules in
    let at : position (λ a. is_same_query a.query q) s.answers ≡ None = search rules in
    let many : most_answers ≤ length s.answers = search rules in
    plain-full s.base.item_count s.answers q good at many

pub returns-clause-none : goal.returns-clause-none
returns-clause-none c =
    let s = c.args.self.now in
    let q = c.args.q.now in
    let good : is_good s.base.item_count q ≡ true = search rules in
    let at : position (λ a. is_same_query a.query q) s.answers ≡ None = search rules in
    let few : length s.answers < most_answers = search rules in
    plain-none s.base.item_count s.answers q good at few
