use Rattle.ls_order.proofs.Related.{among-kept, preorder-surmise, kept-compat, kept-IsFamily}
use Rattle.ls_order.proofs.Related.{kept-space, kept-meets, kept-atoms}
use Rattle.ls_order.proofs.OneEach.{below-each, first-again, relation-same}
use Rattle.ls_order.proofs.relations.preorders_are_surmise_functions.Goals as goal

pub returns : goal.returns
returns c = record {
  members = among-kept;
  surmise = preorder-surmise;
  one_each = below-each;
  family = kept-compat;
  unions = kept-IsFamily;
  space = kept-space;
  meets = kept-meets;
  atoms = kept-atoms;
  again = first-again;
  same = relation-same;
}
