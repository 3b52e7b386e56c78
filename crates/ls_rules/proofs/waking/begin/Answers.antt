use Rattle.ls_rules.proofs.Vocabulary.{◌∙◌, first_of, places_at, refl, several, sym}
use Rattle.ls_rules.proofs.Indexing.{covered, small_items}
use Rattle.ls_rules.proofs.Rounds.{turned, len-without_least}
use Rattle.ls_rules.proofs.Begun.{Started-first, Started-none, Started-more, Started-done, whole}
use Rattle.ls_rules.proofs.waking.begin.Goals as goal
use Rattle.ls_rules.proofs.waking.begin.Goals.{then-not-is_within, else-not-is_within}

pub loop-i-init : goal.loop-i-init
loop-i-init c =
    let rules = c.args.rules.now in
    let firsts = covered c.items.result rules (λ r. first_of (several r.a)) c.args.starts.now c.requires.starts c.items.ensures in
    let singles = c.args.singles.now in
    let set = c.args.set in
    elim c.if-not-is_within.branch [
      | then-not-is_within w ↦
          rw (c.minus-left.ensures, w.round-is, w.lose_all.ensures, c.empty.ensures)
          (Started-first rules singles c.items.result set w.lost_outside.result c.requires.singles firsts w.lost_outside.ensures.all w.lost_outside.ensures.no_other)
      | else-not-is_within w ↦
          rw (c.minus-left.ensures, w.round-is, c.empty.ensures)
          (Started-none rules singles c.items-2.result c.items.result set c.requires.singles firsts c.items-2.ensures (sym c.is_within.ensures ∙ w.if-not-is_within.false))
    ]

pub look_from-requires-clause-items : goal.look_from-requires-clause-items
look_from-requires-clause-items c = small_items c.args.n c.args.rules.now c.requires.few c.requires.good

pub loop-i-smaller : goal.loop-i-smaller
loop-i-smaller c = rw c.without-left.ensures (len-without_least c.loop-i.left c.in-Some.i (sym c.least.ensures.value ∙ c.in-Some.is))

pub loop-i-preserved : goal.loop-i-preserved
loop-i-preserved c =
    let looked = turned c.args.rules.now (λ r. first_of (several r.a)) c.args.starts.now c.in-Some.i (places_at c.args.starts.now c.in-Some.i) c.loop-i.round c.look_from.new.round c.requires.starts refl c.look_from.ensures in
    rw (c.without-left.ensures, looked) (Started-more c.args.rules.now c.args.set c.loop-i.left c.loop-i.round c.in-Some.i c.loop-i.invariant)

pub returns-clause-settling : goal.returns-clause-settling
returns-clause-settling c =
    Started-done c.args.rules.now c.args.n c.args.set c.loop-i.left c.loop-i.round c.requires.good (sym c.least.ensures.value ∙ c.in_default.is) c.loop-i.invariant

pub returns-clause-whole : goal.returns-clause-whole
returns-clause-whole c = whole c.args.set c.loop-i.round c.loop-i.invariant.after
