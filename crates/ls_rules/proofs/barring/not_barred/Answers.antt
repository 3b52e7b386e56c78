use Rattle.ls_rules.proofs.Vocabulary.{◌∙◌, first_of, several, sym}
use Rattle.ls_rules.proofs.Indexing.{covered, small_items}
use Rattle.ls_rules.proofs.Rounds.{len-without_least}
use Rattle.ls_rules.proofs.Barred.{Barring-first, Barring-none, Barring-more, Barring-done}
use Rattle.ls_rules.proofs.barring.not_barred.Goals as goal
use Rattle.ls_rules.proofs.barring.not_barred.Goals.{then-not-is_within, else-not-is_within}

pub loop-i-init : goal.loop-i-init
loop-i-init c =
    let rules = c.args.rules.now in
    let firsts = covered c.items.result rules (λ r. first_of (several r.a)) c.args.starts.now c.requires.starts c.items.ensures in
    let singles = c.args.singles.now in
    let set = c.args.set in
    elim c.if-not-is_within.branch [
      | then-not-is_within w ↦
          rw (c.minus-left.ensures, w.items-is, w.minus-items.ensures)
          (Barring-first rules singles c.items.result set c.args.items w.lost_outside.result c.requires.singles firsts w.lost_outside.ensures.all w.lost_outside.ensures.no_other)
      | else-not-is_within w ↦
          rw (c.minus-left.ensures, w.items-is)
          (Barring-none rules singles c.items-2.result c.items.result set c.args.items c.requires.singles firsts c.items-2.ensures (sym c.is_within.ensures ∙ w.if-not-is_within.false))
    ]

pub without_barred_from-items-requires-clause-items : goal.without_barred_from-items-requires-clause-items
without_barred_from-items-requires-clause-items c = small_items c.args.n c.args.rules.now c.requires.few c.requires.good

pub loop-i-smaller : goal.loop-i-smaller
loop-i-smaller c = rw c.without-left.ensures (len-without_least c.loop-i.left c.in-Some.i (sym c.least.ensures.value ∙ c.in-Some.is))

pub loop-i-preserved : goal.loop-i-preserved
loop-i-preserved c =
    rw (c.without-left.ensures, c.without_barred_from-items.ensures) (Barring-more c.args.rules.now c.args.starts.now c.args.set c.args.items c.loop-i.left c.loop-i.items c.in-Some.i c.requires.starts c.loop-i.invariant)

pub returns : goal.returns
returns c =
    Barring-done c.args.rules.now c.args.n c.args.set c.args.items c.loop-i.left c.loop-i.items c.requires.good (sym c.least.ensures.value ∙ c.in_default.is) c.loop-i.invariant
