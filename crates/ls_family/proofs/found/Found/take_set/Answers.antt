use Rattle.ls_family.proofs.Vocabulary.{◌+◌, ◌<◌, ◌∙◌, ◌≡◌, ◌≤◌, None, Ok, ap, arith, length, most_members, row_found, sym}
use Rattle.ls_family.proofs.FoundSets.{put-inserted, row-at, with_set-repeat, with_set-many, with_set-placed}
use Rattle.ls_family.proofs.found.Found.take_set.Goals as goal

pub returns-in-Some-clause-fault : goal.returns-in-Some-clause-fault
returns-in-Some-clause-fault c =
    let now = c.args.self.now in
    let told = row-at c.self.inside.rows.entries now c.new.result c.args.set c.in-Ok.repeated c.self.view_is c.new.ensures c.in-Ok.ensures.old in
    with_set-repeat now c.args.row c.in-Some.first c.args.set (sym c.in-Some.is ∙ told)

pub returns-then-len-gt-MOST_MEMBERS-clause-fault : goal.returns-then-len-gt-MOST_MEMBERS-clause-fault
returns-then-len-gt-MOST_MEMBERS-clause-fault c =
    let now = c.args.self.now in
    let told = row-at c.self.inside.rows.entries now c.new.result c.args.set c.in-Ok.repeated c.self.view_is c.new.ensures c.in-Ok.ensures.old in
    let more : c.len.result ≡ length now + 1 = c.len.ensures.len ∙ (rw c.in_default-repeated.is at c.in-Ok.ensures.len) ∙ ap (λ f. length f + 1) c.self.view_is in
    let full : most_members ≤ length now = omega (arith, c.if-len-gt-MOST_MEMBERS.true, more) in
    with_set-many now c.args.row c.args.set (sym c.in_default-repeated.is ∙ told) full

pub returns-clause-ok : goal.returns-clause-ok
returns-clause-ok c =
    let now = c.args.self.now in
    let told = row-at c.self.inside.rows.entries now c.new.result c.args.set c.in-Ok.repeated c.self.view_is c.new.ensures c.in-Ok.ensures.old in
    let none : None ≡ row_found now c.args.set = sym c.in_default-repeated.is ∙ told in
    let more : c.len.result ≡ length now + 1 = c.len.ensures.len ∙ (rw c.in_default-repeated.is at c.in-Ok.ensures.len) ∙ ap (λ f. length f + 1) c.self.view_is in
    let room : length now < most_members = omega (arith, c.if-len-gt-MOST_MEMBERS.false, more) in
    with_set-placed now c.args.row c.args.set none room
    ∙ ap (λ f. Ok f) (sym (c.in-Ok.ensures.entries ∙ put-inserted c.self.inside.rows.entries now c.new.result c.args.set c.args.row c.self.view_is c.new.ensures (sym none)))
