use Rattle.ls_surmise.proofs.Vocabulary.{◌-◌, ◌∙◌, [], ap, arith, clause_value, list_value, members_from, members_view}
use Rattle.ls_files.proofs.PutMembers.{each-end, each-next}
use Rattle.ls_surmise.proofs.surmise.Surmise.members.Goals as goal

pub loop-q-init : goal.loop-q-init
unfolding members_from
loop-q-init c = ap members_view c.new-members.ensures.empty ∙ each-end (list_value (clause_value c.args.d.now)) c.args.d.now c.args.self.now.clauses c.count-q.result c.count-q.ensures.value

pub loop-q-preserved : goal.loop-q-preserved
unfolding members_from
loop-q-preserved c =
    let value = list_value (clause_value c.args.d.now) in
    let is = c.clauses.ensures.surmise in
    each-next value c.args.d.now c.args.self.now.clauses (c.loop-q.q - 1) c.loop-q.q c.name.result.now [] _ _ _ (omega arith) (omega (arith, c.count-q.ensures.value))
    (omega (arith, c.count-q.ensures.value, c.requires, is.each_item)) c.name.ensures (c.in_ok-clauses.ensures ∙ ap value c.clauses.ensures.value) c.loop-q.invariant c.in_ok-insert_member.ensures
