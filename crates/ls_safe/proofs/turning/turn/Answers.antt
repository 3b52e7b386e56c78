use Rattle.std.proofs.Common.{◌≡◌, ◌∙◌, ◌+◌, ◌∷◌, ◌++◌, [], ap, length, rules, subst, suc, sym}
use Rattle.std.proofs.Common.{false, true}
use Rattle.std.proofs.lemmas.Result.{err_from_is_err_and}
use Rattle.ls_origins.specs.Safe.{coming}
use Rattle.ls_safe.specs.Interviews.{IsOnWay, IsTried}
use Rattle.ls_safe.proofs.GoneOver.{applied_now}
use Rattle.ls_safe.proofs.Steps.{turn-left, turn-past, turn-same, turn-waits}
use Rattle.ls_safe.proofs.Steps.{end-on, fault-on}
use Rattle.ls_safe.proofs.turning.turn.Goals as goal

pub returns-in_err-witness-clause-past : goal.returns-in_err-witness-clause-past
returns-in_err-witness-clause-past c =
    let p = err_from_is_err_and c.from_residual.result c.from_residual.ensures.1 in
    rw (p.1, p.2)
    (turn-past c.args.b.now c.args.answers.now.items c.args.witnesses.now.items c.args.q
    c.in_err-witness.field-0.0 c.requires.begun c.in_err-witness.ensures.past)

pub settle-requires-clause-witnesses : goal.settle-requires-clause-witnesses
settle-requires-clause-witnesses c =
    let b = c.args.b.now in
    let q = c.args.q in
    let old = c.args.answers.now.items in
    let ks = c.args.witnesses.now.items in
    let next = c.in-Left.next in
    let number : c.len.result + 1 ≡ suc (length old) = search rules in
    let made = subst (IsTried b q) c.in-Left.is c.in_ok-witness.ensures.tried in
    let left =
    turn-left b next old ks q c.empty-in-Left.result c.requires.begun made
    c.in_ok-witness.ensures.few in
    let listed : c.put-in-Left.new.answers.items ≡ old ++ applied_now (coming old q) ∷ [] =
    c.in_ok-put-in-Left.ensures.answers
    ∙ ap (λ l. l ++ record { number = c.len.result + 1; query = q; applied = true } ∷ [])
    (c.in_ok-more-in-Left.ensures.items ∙ c.deref.ensures.value)
    ∙ ap (λ m. old ++ record { number = m; query = q; applied = true } ∷ []) number in
    let kept : c.put-in-Left.new.witnesses.items ≡ ks ++ c.empty-in-Left.result ∷ [] =
    c.in_ok-put-in-Left.ensures.witnesses
    ∙ ap (λ l. l ++ c.empty-in-Left.result ∷ [])
    (c.in_ok-kept-in-Left.ensures.items ∙ c.deref-in-Left.ensures.value) in
    rw (listed, kept) left.1

pub returns-in_err-b-in-Left-clause-past : goal.returns-in_err-b-in-Left-clause-past
returns-in_err-b-in-Left-clause-past c =
    let b = c.args.b.now in
    let q = c.args.q in
    let old = c.args.answers.now.items in
    let ks = c.args.witnesses.now.items in
    let next = c.in-Left.next in
    let number : c.len.result + 1 ≡ suc (length old) = search rules in
    let made = subst (IsTried b q) c.in-Left.is c.in_ok-witness.ensures.tried in
    let left =
    turn-left b next old ks q c.empty-in-Left.result c.requires.begun made
    c.in_ok-witness.ensures.few in
    let listed : c.put-in-Left.new.answers.items ≡ old ++ applied_now (coming old q) ∷ [] =
    c.in_ok-put-in-Left.ensures.answers
    ∙ ap (λ l. l ++ record { number = c.len.result + 1; query = q; applied = true } ∷ [])
    (c.in_ok-more-in-Left.ensures.items ∙ c.deref.ensures.value)
    ∙ ap (λ m. old ++ record { number = m; query = q; applied = true } ∷ []) number in
    let p =
    err_from_is_err_and c.from_residual-in_err-b-in-Left.result
    c.from_residual-in_err-b-in-Left.ensures.1 in
    rw (p.1, p.2)
    (fault-on b next (old ++ coming old q ∷ []) c.put-in-Left.new.answers.items
    c.in_err-b-in-Left.field-0.0
    (subst (IsOnWay b (old ++ coming old q ∷ []) next) (sym listed) left.0)
    c.in_err-b-in-Left.ensures.past)

pub returns-in_ok-put-in-Waits-clause-turned : goal.returns-in_ok-put-in-Waits-clause-turned
returns-in_ok-put-in-Waits-clause-turned c =
    let b = c.args.b.now in
    let q = c.args.q in
    let old = c.args.answers.now.items in
    let ks = c.args.witnesses.now.items in
    let number : c.len.result + 1 ≡ suc (length old) = search rules in
    let made = subst (IsTried b q) c.in-Waits.is c.in_ok-witness.ensures.tried in
    let listed : c.put.new.answers.items ≡ old ++ coming old q ∷ [] =
    c.in_ok-put-in-Waits.ensures.answers
    ∙ ap (λ m. old ++ record { number = m; query = q; applied = false } ∷ []) number in
    rw (listed, c.in_ok-put-in-Waits.ensures.witnesses)
    (turn-waits b old ks q c.in-Waits.witness c.requires.begun made c.in_ok-witness.ensures.few)

pub returns-in_ok-put-in-Same-clause-turned : goal.returns-in_ok-put-in-Same-clause-turned
returns-in_ok-put-in-Same-clause-turned c =
    let b = c.args.b.now in
    let q = c.args.q in
    let old = c.args.answers.now.items in
    let ks = c.args.witnesses.now.items in
    let number : c.len.result + 1 ≡ suc (length old) = search rules in
    let made = subst (IsTried b q) c.in-Same.is c.in_ok-witness.ensures.tried in
    let listed : c.put-in-Same.new.answers.items ≡ old ++ applied_now (coming old q) ∷ [] =
    c.in_ok-put-in-Same.ensures.answers
    ∙ ap (λ m. old ++ record { number = m; query = q; applied = true } ∷ []) number in
    rw (listed, c.in_ok-put-in-Same.ensures.witnesses)
    (turn-same b old ks q c.empty.result c.requires.begun made c.in_ok-witness.ensures.few)

pub returns-in_ok-b-in-Left-clause-turned : goal.returns-in_ok-b-in-Left-clause-turned
returns-in_ok-b-in-Left-clause-turned c =
    let b = c.args.b.now in
    let q = c.args.q in
    let old = c.args.answers.now.items in
    let ks = c.args.witnesses.now.items in
    let next = c.in-Left.next in
    let number : c.len.result + 1 ≡ suc (length old) = search rules in
    let made = subst (IsTried b q) c.in-Left.is c.in_ok-witness.ensures.tried in
    let left =
    turn-left b next old ks q c.empty-in-Left.result c.requires.begun made
    c.in_ok-witness.ensures.few in
    let listed : c.put-in-Left.new.answers.items ≡ old ++ applied_now (coming old q) ∷ [] =
    c.in_ok-put-in-Left.ensures.answers
    ∙ ap (λ l. l ++ record { number = c.len.result + 1; query = q; applied = true } ∷ [])
    (c.in_ok-more-in-Left.ensures.items ∙ c.deref.ensures.value)
    ∙ ap (λ m. old ++ record { number = m; query = q; applied = true } ∷ []) number in
    end-on b next c.in_ok-b-in-Left.field-0 (old ++ coming old q ∷ [])
    c.put-in-Left.new.answers.items c.settle.new.answers.items c.settle.new.witnesses.items
    (subst (IsOnWay b (old ++ coming old q ∷ []) next) (sym listed) left.0)
    c.in_ok-b-in-Left.ensures.settled
