use Rattle.ls_drill.proofs.Vocabulary.{◌*◌, ◌+◌, ◌∙◌, ◌≡◌, ◌≤◌, Interview, Query, accepted, ap, arith, drilled, is_good, reply, subst, sym, true}
use Rattle.std.specs.Prelude.{Option, IfSome}
use Rattle.std.proofs.lemmas.Nat.{mul-le}
use Rattle.ls_drill.proofs.Asking.{not-refused}
use Rattle.ls_drill.proofs.CountedQueries.{nothing_left}
use Rattle.ls_drill.proofs.TurnsTaken.{IsAtTurn, first_turn, next_turn, settled_turn, last_turn}
use Rattle.ls_drill.proofs.turns.interview.Goals as goal

pub loop-init : goal.loop-init
loop-init g c = subst (IsAtTurn c.items-n.result c.args.hidden.now.number 0) (sym c.in_ok-inquiry.ensures.begun) (first_turn c.items-n.result c.args.hidden.now.number)

pub returns-in_default : goal.returns-in_default
returns-in_default g c =
    let n = c.items-n.result in
    let number = c.args.hidden.now.number in
    settled_turn n number c.loop.counter c.seek.new.self (subst (IsAtTurn n number c.loop.counter) (sym c.seek.ensures.kept) c.loop.invariant)
    (sym c.find_question.ensures.value ∙ nothing_left c.find_question.result c.in_default.not-Some)
    ∙ ap (λ m. drilled m number) c.items-n.ensures.count

pub reply-yes-requires : goal.reply-yes-requires
reply-yes-requires g c =
    subst (λ m. is_good m c.in-Some.query ≡ true) (ap (λ (i : Interview). i.count) c.seek.ensures.kept ∙ c.loop.invariant.drill.items ∙ c.items-n.ensures.count)
    (subst (λ (o : Option Query). IfSome o (λ (r : Query). is_good c.seek.new.self.count r ≡ true)) c.in-Some.is c.find_question.ensures.good)

pub take-requires : goal.take-requires
take-requires g c =
    let h = subst (IsAtTurn c.items-n.result c.args.hidden.now.number c.loop.counter) (sym c.seek.ensures.kept) c.loop.invariant in
    let most : c.items-n.result * c.items-n.result ≤ 48 * 48 = mul-le c.items-n.result c.items-n.result 48 48 c.items-n.ensures.few c.items-n.ensures.few in
    not-refused c.seek.new.self c.in-Some.query c.reply-yes.result (sym c.find_question.ensures.value ∙ c.in-Some.is)
    (subst (λ (o : Option Query). IfSome o (λ (r : Query). is_good c.seek.new.self.count r ≡ true)) c.in-Some.is c.find_question.ensures.good) (omega arith) (omega arith)

pub loop-preserved : goal.loop-preserved
loop-preserved g c =
    let n = c.items-n.result in
    let number = c.args.hidden.now.number in
    let j = c.seek.new.self in
    let r = c.in-Some.query in
    subst (IsAtTurn n number (c.loop.counter + 1)) (sym (c.in_ok-take.ensures ∙ ap (accepted j r) (c.reply-yes.ensures ∙ ap (λ m. reply m number r) (sym c.items-n.ensures.count))))
    (next_turn n number c.loop.counter j r (subst (IsAtTurn n number c.loop.counter) (sym c.seek.ensures.kept) c.loop.invariant) c.loop-test.true (sym c.find_question.ensures.value ∙ c.in-Some.is))

pub returns : goal.returns
returns g c =
    last_turn c.items-n.result c.args.hidden.now.number c.loop.counter c.loop.inquiry c.loop.invariant c.loop-test.false
    ∙ ap (λ m. drilled m c.args.hidden.now.number) c.items-n.ensures.count
