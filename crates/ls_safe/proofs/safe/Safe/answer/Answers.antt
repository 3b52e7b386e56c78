use Rattle.std.proofs.Common.{◌≡◌, subst, sym, None, rules}
use Rattle.std.proofs.lemmas.Result.{err_from_is_err_and}
use Rattle.ls_safe.specs.Interviews.{SafeState, IsSafeOf, plain_refusal, queries_of}
use Rattle.ls_safe.proofs.Accepted.{accepted, answered, number-is, refused-past, refused-plain}
use Rattle.ls_safe.proofs.Accepted.{safe-after}
use Rattle.ls_safe.proofs.safe.Safe.answer.Goals as goal

pub returns-in_err-check-clause-fault : goal.returns-in_err-check-clause-fault
returns-in_err-check-clause-fault c = λ n f queries i.
    let p = err_from_is_err_and c.from_residual.result c.from_residual.ensures.1 in
    rw (p.1, p.2)
    (refused-plain n f queries c.args.self.now c.args.q c.in_err-check.field-0.0 i
    c.in_err-check.ensures.fault)

pub returns-in_err-turn-clause-fault : goal.returns-in_err-turn-clause-fault
returns-in_err-turn-clause-fault c = λ n f queries i.
    let s : SafeState = record {
      base = c.self.inside.base;
      answers = c.self.inside.answers.items;
      witnesses = c.self.inside.witnesses.items;
    } in
    let plain : plain_refusal s.base.item_count (queries_of s.answers) c.args.q ≡ None =
    subst (λ (x : SafeState). plain_refusal x.base.item_count (queries_of x.answers) c.args.q
    ≡ None) (sym c.self.view_is) c.in_ok-check.ensures.none in
    let p =
    err_from_is_err_and c.from_residual-in_err-turn.result
    c.from_residual-in_err-turn.ensures.1 in
    rw (p.1, p.2)
    (refused-past n f queries s c.args.q c.in_err-turn.field-0.0
    (subst (IsSafeOf n f queries) (sym c.self.view_is) i) plain c.in_err-turn.ensures.past)

pub invariant_of-self-2 : goal.invariant_of-self-2
invariant_of-self-2 c =
    let s : SafeState = record {
      base = c.self.inside.base;
      answers = c.self.inside.answers.items;
      witnesses = c.self.inside.witnesses.items;
    } in
    let t : SafeState = record {
      base = c.turn.new.b;
      answers = c.turn.new.answers.items;
      witnesses = c.turn.new.witnesses.items;
    } in
    safe-after s t c.args.q c.in_ok-turn.ensures.is_base c.in_ok-turn.ensures.turned

pub returns-clause-accepted : goal.returns-clause-accepted
returns-clause-accepted c = λ n f queries i.
    let s : SafeState = record {
      base = c.self.inside.base;
      answers = c.self.inside.answers.items;
      witnesses = c.self.inside.witnesses.items;
    } in
    let t : SafeState = record {
      base = c.turn.new.b;
      answers = c.turn.new.answers.items;
      witnesses = c.turn.new.witnesses.items;
    } in
    let plain : plain_refusal s.base.item_count (queries_of s.answers) c.args.q ≡ None =
    subst (λ (x : SafeState). plain_refusal x.base.item_count (queries_of x.answers) c.args.q
    ≡ None) (sym c.self.view_is) c.in_ok-check.ensures.none in
    accepted n f queries s t c.args.q (subst (IsSafeOf n f queries) (sym c.self.view_is) i) plain
    c.in_ok-turn.ensures.turned

pub returns-clause-number : goal.returns-clause-number
returns-clause-number c = λ n f queries i.
    let s : SafeState = record {
      base = c.self.inside.base;
      answers = c.self.inside.answers.items;
      witnesses = c.self.inside.witnesses.items;
    } in
    let same = number-is n f queries s (subst (IsSafeOf n f queries) (sym c.self.view_is) i) in
    search (rules, same)

pub returns-clause-answered : goal.returns-clause-answered
returns-clause-answered c = λ n f queries i.
    let s : SafeState = record {
      base = c.self.inside.base;
      answers = c.self.inside.answers.items;
      witnesses = c.self.inside.witnesses.items;
    } in
    let t : SafeState = record {
      base = c.turn.new.b;
      answers = c.turn.new.answers.items;
      witnesses = c.turn.new.witnesses.items;
    } in
    answered n f queries s t c.args.q (subst (IsSafeOf n f queries) (sym c.self.view_is) i)
    c.in_ok-turn.ensures.is_base.is_base c.in_ok-turn.ensures.turned
