use Rattle.ls_base.proofs.Vocabulary.{◌+◌, ◌-◌, ◌∙◌, ◌≡◌, arith, empty, length, subst, sym}
use Rattle.ls_base.proofs.OwnItems.{IsOwn, minus-none, own-all, own-none, own-one, own-taken}
use Rattle.ls_base.proofs.OwnItems.{told-none}
use Rattle.ls_base.proofs.own.own_items_from_end.Goals as goal

pub returns-then-len-eq1 : goal.returns-then-len-eq1
returns-then-len-eq1 c =
    let s = c.args.set in
    let sets = c.args.sets.now in
    own-one s empty s sets (length sets) (own-none s empty s sets (minus-none s))
    (told-none s sets) (sym c.len.ensures ∙ c.if-len-eq1.true) c.requires.needed

pub returns-then-len-eq1-2 : goal.returns-then-len-eq1-2
returns-then-len-eq1-2 c =
    let s = c.args.set in
    let sets = c.args.sets.now in
    own-one s c.args.known c.minus-own.result sets (length sets)
    (own-none s c.args.known c.minus-own.result sets c.minus-own.ensures)
    (c.requires.known (λ e. c.if-len-eq1.false (c.len.ensures ∙ e)))
    (sym c.len-2.ensures ∙ c.if-len-eq1-2.true) c.requires.needed

pub loop-place-init : goal.loop-place-init
loop-place-init c =
    own-none c.args.set c.args.known c.minus-own.result c.args.sets.now c.minus-own.ensures

pub loop-place-preserved-else-len-eq1-3 : goal.loop-place-preserved-else-len-eq1-3
loop-place-preserved-else-len-eq1-3 c =
    let i = c.loop-place.place - 1 in
    let e : c.loop-place.place ≡ i + 1 = omega arith in
    own-taken c.args.set c.args.known c.loop-place.own c.minus-own-then-is_proper.result
    c.index-sets-place.result c.args.sets.now i (omega arith) c.index-sets-place.is
    (subst (IsOwn c.loop-place.own c.args.set c.args.known c.args.sets.now) e
    c.loop-place.invariant)
    (sym c.is_proper.ensures ∙ c.if-is_proper.true) c.minus-own-then-is_proper.ensures

pub returns-then-len-eq1-3 : goal.returns-then-len-eq1-3
returns-then-len-eq1-3 c =
    let s = c.args.set in
    let sets = c.args.sets.now in
    let own = c.minus-own-then-is_proper.result in
    let i = c.loop-place.place - 1 in
    let e : c.loop-place.place ≡ i + 1 = omega arith in
    let left : IsOwn own s c.args.known sets i =
    own-taken s c.args.known c.loop-place.own own c.index-sets-place.result sets i
    (omega arith) c.index-sets-place.is
    (subst (IsOwn c.loop-place.own s c.args.known sets) e c.loop-place.invariant)
    (sym c.is_proper.ensures ∙ c.if-is_proper.true) c.minus-own-then-is_proper.ensures in
    own-one s c.args.known own sets i left
    (c.requires.known (λ e. c.if-len-eq1.false (c.len.ensures ∙ e)))
    (sym c.len-then-is_proper.ensures ∙ c.if-len-eq1-3.true) c.requires.needed

pub returns : goal.returns
returns c =
    let e : c.loop-place.place ≡ 0 = omega arith in
    own-all c.args.set c.args.known c.loop-place.own c.args.sets.now
    (subst (IsOwn c.loop-place.own c.args.set c.args.known c.args.sets.now) e
    c.loop-place.invariant)
    (c.requires.known (λ e. c.if-len-eq1.false (c.len.ensures ∙ e)))
