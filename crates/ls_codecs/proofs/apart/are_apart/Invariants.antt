use Rattle.ls_codecs.proofs.Vocabulary.{◌≡◌, Query, are_apart, contains, is_same_query, list_any, query_order, take, true}
use Rattle.ls_codecs.proofs.apart.are_apart.Given as goal

-- the queries so far are seen and no others, and no two of them are the same
abbrev pub invariant-loop-query : goal.invariant-loop-query
invariant-loop-query l = record {
  seen : (r : Query) → contains query_order l.seen r ≡ list_any (is_same_query r) (take l.query-index l.queries);
  apart : are_apart is_same_query (take l.query-index l.queries) ≡ true;
}
