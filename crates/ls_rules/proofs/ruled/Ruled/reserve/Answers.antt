use Rattle.ls_rules.proofs.Vocabulary.{arith, refl}
use Rattle.ls_rules.proofs.Indexing.{IsIndexed-reserve}
use Rattle.ls_rules.proofs.ruled.Ruled.reserve.Goals as goal

pub invariant_of-self-in_err-reserve-2 : goal.invariant_of-self-in_err-reserve-2
invariant_of-self-in_err-reserve-2 g c =
    let a = c.self.invariant in
    let s = c.self.inside in
    IsIndexed-reserve _ _ s.wakes s.starts c.reserve.new.self s.starts s.singles s.singles s.heads c.reserve-2.new.self a
    c.reserve.ensures.places (omega (arith, c.reserve.ensures.few, c.items-n.ensures.count)) (λ i. refl) a.few_starts
    (λ i. refl) a.singles_reach
    c.reserve-2.ensures.sets (omega (arith, a.heads_reach, c.reserve-2.ensures.len)) (c.reserve-2.ensures.few a.few_heads)

pub invariant_of-self-in_err-reserve-3 : goal.invariant_of-self-in_err-reserve-3
invariant_of-self-in_err-reserve-3 g c =
    let a = c.self.invariant in
    let s = c.self.inside in
    IsIndexed-reserve _ _ s.wakes s.starts c.reserve.new.self s.starts s.singles c.reserve-3.new.self s.heads c.reserve-2.new.self a
    c.reserve.ensures.places (omega (arith, c.reserve.ensures.few, c.items-n.ensures.count)) (λ i. refl) a.few_starts
    c.reserve-3.ensures.sets (omega (arith, a.singles_reach, c.reserve-3.ensures.len))
    c.reserve-2.ensures.sets (omega (arith, a.heads_reach, c.reserve-2.ensures.len)) (c.reserve-2.ensures.few a.few_heads)

pub invariant_of-self-in_err-reserve-4 : goal.invariant_of-self-in_err-reserve-4
invariant_of-self-in_err-reserve-4 g c =
    let a = c.self.invariant in
    let s = c.self.inside in
    IsIndexed-reserve _ _ s.wakes s.starts c.reserve.new.self c.reserve-4.new.self s.singles c.reserve-3.new.self s.heads c.reserve-2.new.self a
    c.reserve.ensures.places (omega (arith, c.reserve.ensures.few, c.items-n.ensures.count)) c.reserve-4.ensures.places (omega (arith, c.reserve-4.ensures.few, c.items-n.ensures.count))
    c.reserve-3.ensures.sets (omega (arith, c.reserve-4.ensures.few, c.in_ok-reserve-3.ensures.ok))
    c.reserve-2.ensures.sets (omega (arith, c.reserve-4.ensures.few, c.in_ok-reserve-2.ensures.ok)) (c.reserve-2.ensures.few a.few_heads)

pub invariant_of-self-2 : goal.invariant_of-self-2
invariant_of-self-2 g c =
    let a = c.self.invariant in
    let s = c.self.inside in
    rw c.reserve-5.ensures.items
    (IsIndexed-reserve _ _ s.wakes s.starts c.reserve.new.self c.reserve-4.new.self s.singles c.reserve-3.new.self s.heads c.reserve-2.new.self a
    c.reserve.ensures.places (omega (arith, c.reserve.ensures.few, c.items-n.ensures.count)) c.reserve-4.ensures.places (omega (arith, c.reserve-4.ensures.few, c.items-n.ensures.count))
    c.reserve-3.ensures.sets (omega (arith, c.reserve-4.ensures.few, c.in_ok-reserve-3.ensures.ok))
    c.reserve-2.ensures.sets (omega (arith, c.reserve-4.ensures.few, c.in_ok-reserve-2.ensures.ok)) (c.reserve-2.ensures.few a.few_heads))
