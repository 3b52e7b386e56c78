use Rattle.ls_enum.proofs.Vocabulary.{◌+◌, ◌∙◌, ◌≡◌, AreWidest, arith, false, find-any, has, rules, subst, sym, true}
use Rattle.ls_enum.specs.declared.widest.WidestMembers.{WidestMembers}
use Rattle.ls_enum.proofs.Successors.{none_from_end}
use Rattle.ls_enum.proofs.Seeking.{IsSought, first-sought, next-has, none-has, next-lacks, none-lacks, none-above, count-has, count-lacks}
use Rattle.ls_enum.proofs.forward.go_forward.Goals as goal
use Rattle.ls_enum.proofs.forward.go_forward.Goals.{then-has+else-not-has, else-has+else-eq+in-Some}

pub loop-i-init : goal.loop-i-init
loop-i-init g c =
    let n = g.I.Interior.item_count c.args.f.now in
    let f = g.I.Interior.members c.args.f.now in
    record {
      sought = first-sought n f c.args.word c.first-member.result (g.met.I.Interior.is_family c.args.f.now) (find-any f ∙ c.first-member.ensures.first);
      widest = c.requires.widest;
      cost = omega arith;
    }

pub returns-then-not-has-clause-none : goal.returns-then-not-has-clause-none
returns-then-not-has-clause-none g c =
    let f = g.I.Interior.members c.args.f.now in
    let lacks : has c.loop-i.member c.loop-i.i ≡ false = cc in
    none-has f c.args.word c.loop-i.member c.loop-i.i c.loop-i.invariant.sought (sym c.has.ensures ∙ c.if-has.true) lacks

pub returns-then-eq-clause-none : goal.returns-then-eq-clause-none
returns-then-eq-clause-none g c =
    none-above (g.I.Interior.members c.args.f.now) c.args.word c.loop-i.i (search rules)

pub returns-in_default-clause-none : goal.returns-in_default-clause-none
returns-in_default-clause-none g c =
    let n = g.I.Interior.item_count c.args.f.now in
    let f = g.I.Interior.members c.args.f.now in
    none-lacks n f c.args.word c.loop-i.member c.keep_before-before.result c.loop-i.i c.interior_without.result (g.met.I.Interior.is_family c.args.f.now) c.loop-i.invariant.sought (sym c.has.ensures ∙ c.if-has.false)
    c.keep_before-before.ensures c.interior_without.ensures.value c.in_default.is

pub loop-i-preserved : goal.loop-i-preserved
loop-i-preserved g c =
    let n = g.I.Interior.item_count c.args.f.now in
    let f = g.I.Interior.members c.args.f.now in
    let i = c.loop-i.i in
    let sought = c.loop-i.invariant.sought in
    elim c.if-has.branch [
      | then-has+else-not-has w ↦
          let here : has c.args.word i ≡ true = sym c.has.ensures ∙ w.if-has.true in
          let held : has c.loop-i.member i ≡ true = cc in
          let more = count-has c.args.word i here in
          let next : IsSought f c.args.word (i + 1) c.if-has.member = subst (IsSought f c.args.word (i + 1)) (sym w.member-is) (next-has f c.args.word c.loop-i.member i sought here held) in
          record { sought = next; widest = subst (λ (x : WidestMembers). AreWidest f x.held.items) (sym w.widest-is) (w.push_at.ensures f c.loop-i.invariant.widest sought.widest); cost = omega arith }
      | else-has+else-eq+in-Some w ↦
          let here : has c.args.word i ≡ false = sym c.has.ensures ∙ w.if-has.false in
          let same = count-lacks c.args.word i here in
          let next : IsSought f c.args.word (i + 1) c.if-has.member = subst (IsSought f c.args.word (i + 1)) (sym w.member-is) (next-lacks n f c.args.word c.loop-i.member w.keep_before-before.result w.in-Some.next i w.interior_without.result (g.met.I.Interior.is_family c.args.f.now) sought here w.keep_before-before.ensures w.interior_without.ensures.value w.in-Some.is) in
          record { sought = next; widest = subst (λ (x : WidestMembers). AreWidest f x.held.items) (sym w.widest-is) c.loop-i.invariant.widest; cost = omega arith }
    ]

pub returns-clause-none : goal.returns-clause-none
returns-clause-none g c = none_from_end _ _ _ _ c.requires.small c.items-n.ensures.count
