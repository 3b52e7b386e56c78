use Rattle.ls_order.proofs.MeetClosed.{meet-closed-atoms}
use Rattle.ls_order.proofs.OneEach.{surmise-meets, one-each, clauses-preorder, clauses-again}
use Rattle.ls_order.proofs.OneEach.{clauses-kept, space-kept}
use Rattle.ls_order.proofs.relations.meets_need_one_clause.Goals as goal

pub returns : goal.returns
returns c = record {
  atoms = meet-closed-atoms;
  clauses = surmise-meets;
  each = one-each;
  preorder = clauses-preorder;
  again = clauses-again;
  family = clauses-kept;
  space = space-kept;
}
