use Rattle.ls_pupils.proofs.Vocabulary.{◌==◌, ◌≡◌, Decides, Decides-is_same, Items, Query, ℕ, and_from, and_parts, ap, ap₂, eq-eqb, eqb-true, is_same, is_same_query, slice_eq-Decides}
use Rattle.ls_pupils.proofs.beginning.are_same_queries.Goals as goal

-- queries are the same where their sets and their items are
query-Decides : (r s : Query) → Decides (is_same_query r s) (r ≡ s)
query-Decides r s = (
  λ h. let parts = and_parts (is_same r.a s.a) (r.q == s.q) h in
      ap₂ (λ (a : Items) (q : ℕ). let t : Query = record { a = a; q = q } in t) ((Decides-is_same r.a s.a).0 parts.0) (eqb-true r.q s.q parts.1),
  λ e. and_from (is_same r.a s.a) (r.q == s.q) ((Decides-is_same r.a s.a).1 (ap (λ (t : Query). t.a) e)) (eq-eqb r.q s.q (ap (λ (t : Query). t.q) e)),
)

pub returns : goal.returns
unfolding is_same
returns c = λ h. (slice_eq-Decides query-Decides c.args.own.now c.args.other.now c.eq.result c.eq.ensures).0 h
