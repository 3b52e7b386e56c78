use Rattle.ls_query.proofs.Vocabulary.{add-one, block_before, blocks, find-any, find-next, queries, query_before}
use Rattle.ls_query.proofs.BlockOrder.{before-asymmetric}
use Rattle.ls_query.proofs.BlockSets.{sorted-blocks}
use Rattle.ls_query.proofs.QuerySets.{sorted-queries, query_before-asymmetric}
use Rattle.ls_query.proofs.Placed.{position-at, position-get}
use Rattle.ls_query.proofs.turns.each_comes_in_turn.Goals as goal

pub returns : goal.returns
returns c = record {
  first_set = λ n k. find-any (blocks n k);
  next_set = λ n k i a e. rw (add-one i) (find-next block_before (blocks n k) i a (sorted-blocks n k) before-asymmetric e);
  first_query = λ n k. find-any (queries n k);
  next_query = λ n k i r e. rw (add-one i) (find-next query_before (queries n k) i r (sorted-queries n k) query_before-asymmetric e);
  found = λ n k i a e. position-at n k a i e;
  stands = λ n k i a e. position-get n k a i e;
}
