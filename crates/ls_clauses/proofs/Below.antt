-- Atoms by the union of what lies below a set: the set is an atom at its items that this union lacks.
use Rattle.ls_clauses.proofs.Vocabulary.{◌&&◌, ◌∙◌, ◌≡◌, Bool, IsInOrder, IsWithin-from, Items, List, ℕ, among-filter, and_from, and_parts, ap, arith, atom_items, base, base-needed, both_ways, bound, false, filter, filter_agree, from-interior, has, has-minus, interior-member, is_among, is_atom_at, is_proper, is_same, is_within, items, items-below, list_any, max, minus, needed, not, numbers_from, refl, some-among, some-from, sym, to-interior, true, union_below}
use Rattle.ls_lists.proofs.Filters.{filter-both}
use Rattle.ls_clauses.proofs.SpanningLists.{lesser}

has-below : (f : List Items) (k : Items) (q : ℕ) → has (union_below f k) q ≡ list_any (lesser q k) f
has-below f k q = both_ways (has (union_below f k) q) (list_any (lesser q k) f)
    (λ h.
    let r = from-interior (filter (λ l. is_proper l k) f) k q h in
    let p = and_parts (is_among f r.0) (is_proper r.0 k) (sym (among-filter (λ l. is_proper l k) f r.0) ∙ r.1) in
    let w = and_parts (is_within r.0 k) (not (is_same r.0 k)) p.1 in
    some-among (lesser q k) f r.0 p.0 (and_from (has r.0 q && is_within r.0 k) (not (is_same r.0 k)) (and_from (has r.0 q) (is_within r.0 k) r.3 w.0) w.1))
    (λ h.
    let x = some-from (lesser q k) f h in
    let p = and_parts (has x.0 q && is_within x.0 k) (not (is_same x.0 k)) x.2 in
    let w = and_parts (has x.0 q) (is_within x.0 k) p.0 in
    to-interior (filter (λ l. is_proper l k) f) k x.0 q (among-filter (λ l. is_proper l k) f x.0 ∙ and_from (is_among f x.0) (is_proper x.0 k) x.1 (and_from (is_within x.0 k) (not (is_same x.0 k)) w.1 p.1)) (IsWithin-from x.0 k w.1) w.0)

-- the items at which it is an atom
pub atom-below : (f : List Items) (q : ℕ) (k : Items) → is_atom_at f q k ≡ has (minus k (union_below f k)) q
atom-below f q k = ap (λ b. has k q && not b) (sym (has-below f k q)) ∙ sym (has-minus k (union_below f k) q)

and_again : (p r : Bool) → (p && (p && r)) ≡ (p && r)
and_again true r = refl
and_again false r = refl

pub atom_items-below : (f : List Items) (k : Items) → atom_items f k ≡ items (minus k (union_below f k))
atom_items-below f k =
    let left = minus k (union_below f k) in
    let m = max (bound k) (bound left) in
    ap (filter (λ q. is_atom_at f q k)) (items-below k m (omega arith))
    ∙ filter-both (has k) (λ q. is_atom_at f q k) (numbers_from 0 m)
    ∙ filter_agree (λ q. has k q && is_atom_at f q k) (has left) (λ q. and_again (has k q) (not (list_any (lesser q k) f)) ∙ atom-below f q k) (numbers_from 0 m)
    ∙ sym (items-below left m (omega arith))

-- the base of any list in order, by what lies below its sets
pub base-below : (f : List Items) → IsInOrder f → base f ≡ needed f
base-below f order = base-needed f f order order (λ k c. c) (λ k c. interior-member f k c)
