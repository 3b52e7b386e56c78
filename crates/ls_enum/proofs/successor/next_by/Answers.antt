use Rattle.ls_enum.proofs.Vocabulary.{◌-◌, ◌∙◌, ◌≡◌, IsWithin, arith, full, subst, sym}
use Rattle.ls_enum.proofs.Successors.{none_after}
use Rattle.ls_enum.proofs.Filled.{failed-filled, found-filled, serves-before, small-filled, widest-filled}
use Rattle.ls_enum.proofs.Seeking.{count-passed, count-skipped, none-skipped}
use Rattle.ls_enum.proofs.successor.next_by.Goals as goal

pub loop-i-init : goal.loop-i-init
loop-i-init g c = record { none = c.fill-end.ensures.none; widest = c.fill-end.ensures.widest; serves = tt; cost = c.fill-end.ensures.cost }

pub inside_filled-requires-clause-serves : goal.inside_filled-requires-clause-serves
inside_filled-requires-clause-serves g c = serves-before (g.I.Interior.members c.args.f.now) c.args.word c.loop-i.i (c.loop-i.i - 1) c.loop-i.serving (omega arith) c.loop-i.invariant.serves

pub returns-in-Some-clause-next : goal.returns-in-Some-clause-next
returns-in-Some-clause-next g c =
    let n = g.I.Interior.item_count c.args.f.now in
    let f = g.I.Interior.members c.args.f.now in
    let i = c.loop-i.i - 1 in
    found-filled n f c.args.word c.in-Some.inside i (g.met.I.Interior.is_family c.args.f.now) (sym c.if-has.true ∙ c.has.ensures)
    (λ t m d l. c.loop-i.invariant.none t m d (omega arith)) c.in-Some.ensures.value

pub returns-in-Some-clause-small : goal.returns-in-Some-clause-small
returns-in-Some-clause-small g c = λ k e.
    let n = g.I.Interior.item_count c.args.f.now in
    let f = g.I.Interior.members c.args.f.now in
    let i = c.loop-i.i - 1 in
    let same : c.in-Some.inside ≡ k = cc in
    subst (λ t. IsWithin t (full n)) same (small-filled n f c.args.word c.in-Some.inside i c.requires.small c.in-Some.ensures.value)

pub returns-in-Some-clause-cost : goal.returns-in-Some-clause-cost
returns-in-Some-clause-cost g c = let passed = count-passed c.args.word c.loop-i.i (omega arith) (sym c.has.ensures ∙ c.if-has.true) in omega arith

pub returns-in-Some-clause-widest : goal.returns-in-Some-clause-widest
returns-in-Some-clause-widest g c =
    let n = g.I.Interior.item_count c.args.f.now in
    let f = g.I.Interior.members c.args.f.now in
    let i = c.loop-i.i - 1 in
    c.push.ensures f c.in-Some.ensures.widest (widest-filled n f c.args.word c.in-Some.inside i (g.met.I.Interior.is_family c.args.f.now) c.in-Some.ensures.value)

pub loop-i-preserved-in_default : goal.loop-i-preserved-in_default
loop-i-preserved-in_default g c = record {
  none =
      let n = g.I.Interior.item_count c.args.f.now in
      let f = g.I.Interior.members c.args.f.now in
      let i = c.loop-i.i - 1 in
      failed-filled n f c.args.word i c.inside_filled.result (g.met.I.Interior.is_family c.args.f.now) c.in_default.is c.inside_filled.ensures.value (λ t m d l. c.loop-i.invariant.none t m d (omega arith));
  widest = c.inside_filled.ensures.widest;
  serves = c.inside_filled.ensures.serves;
  cost = let passed = count-passed c.args.word c.loop-i.i (omega arith) (sym c.has.ensures ∙ c.if-has.true) in omega arith;
}

pub loop-i-preserved : goal.loop-i-preserved
loop-i-preserved g c =
    let f = g.I.Interior.members c.args.f.now in
    let lacks = sym c.has.ensures ∙ c.if-has.false in
    record {
      none = none-skipped f c.args.word c.loop-i.i lacks c.loop-i.invariant.none;
      widest = c.loop-i.invariant.widest;
      serves = serves-before f c.args.word c.loop-i.i (c.loop-i.i - 1) c.loop-i.serving (omega arith) c.loop-i.invariant.serves;
      cost = let skipped = count-skipped c.args.word c.loop-i.i (omega arith) lacks in omega (arith, c.loop-i.invariant.cost);
    }

pub returns-clause-next : goal.returns-clause-next
returns-clause-next g c = sym (none_after _ _ (λ t m d l. c.loop-i.invariant.none t m d (omega arith)))
