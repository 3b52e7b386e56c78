-- The order of queries as a comparison: by their sets, and then by their items.
use Rattle.std.proofs.Common.{◌≡◌, refl, sym, ◌∙◌}
use Rattle.std.specs.Ordering.{ordering_then, nat_cmp, is_eq, eq_by_cmp, as_partial_cmp}
use Rattle.std.specs.Cmp.{IsEquivalence, IsTotalOrder, IsPartialOrder}
use Rattle.std.specs.Cmp.{partial_order_from_agreeing_total}
use Rattle.std.specs.Cmp.{then_total, on_total, both_tied, nat_cmp_total, unsigned_ties}
use Rattle.std.specs.Cmp.{eq_by_cmp_equiv}
use Rattle.std.specs.declared.cmp.Ordering.{Ordering}
use Rattle.ls_set.specs.declared.query.Query.{Query}
use Rattle.ls_theory.specs.{is_same_query}
use Rattle.ls_clauses.specs.Orderings.{order_of, order_of-total, same-order}

-- how the first stands to the second
abbrev pub query_order : Query → Query → Ordering
query_order r s = ordering_then (order_of r.a s.a) (nat_cmp r.q s.q)

-- the comparison is a total order
pub query_order-total : IsTotalOrder query_order
query_order-total =
    then_total (on_total (λ (r : Query). r.a) order_of-total)
    (on_total (λ (r : Query). r.q) nat_cmp_total)

-- two queries are the same just where they compare as equal
pub same-by_query_order : (r s : Query) → is_same_query r s ≡ is_eq (query_order r s)
same-by_query_order r s =
    both_tied _ _ (order_of r.a s.a) (nat_cmp r.q s.q) (same-order r.a s.a) (unsigned_ties r.q s.q)

-- as a partial comparison, it is in accord with sameness of queries
pub query_order-partial : IsPartialOrder is_same_query (as_partial_cmp query_order)
query_order-partial =
    partial_order_from_agreeing_total query_order query_order-total
    (λ r s. refl) same-by_query_order

-- sameness of queries is an equivalence
pub same_queries : IsEquivalence is_same_query
same_queries = record {
  refl = λ r. same-by_query_order r r ∙ ties.refl r;
  symm = λ r s. same-by_query_order r s ∙ ties.symm r s ∙ sym (same-by_query_order s r);
  congr =
      λ r s t e. same-by_query_order r t ∙ ties.congr r s t
      (sym (same-by_query_order r s) ∙ e) ∙ sym (same-by_query_order s t);
}
  where
    ties : IsEquivalence (eq_by_cmp query_order)
    ties = eq_by_cmp_equiv query_order-total
