-- Least sets of a list, and the sets of which the least are the atoms after a Yes.
--     least_sets g      the sets of g within which no other of it lies
--     IsBelow c g      sets of g, one of which lies within each set of g:
--         so the least sets of both are the same
--     having i f, near f r      the sets that have the item;
--         those that have an item of the query's A
--     joined f r gs i      each union of an atom at i that breaks r with a set of gs
--     gained f r gs i      those least of these unions within which no base set with i lies
--         that does not break r
use Rattle.std.specs.Prelude.{ℕ, ◌≡◌, Bool, true, not, List, filter}
use Rattle.std.specs.List.{list_any}
use Rattle.ls_set.specs.{IsWithin, Items, has, is_among, is_within}
use Rattle.ls_set.specs.declared.query.Query.{Query}
use Rattle.ls_theory.specs.{atoms_at, base, breaks}
use Rattle.ls_laws.specs.Spans.{IsPart, is_proper, left_by, touches, joins}

abbrev pub least_sets : List Items → List Items
least_sets g = filter (λ k. not (list_any (λ l. is_proper l k) g)) g

-- no set of the list lies within k
abbrev pub has_none_within : List Items → Items → Bool
has_none_within g k = not (list_any (λ l. is_within l k) g)

pub record IsBelow (c g : List Items) : Type 0 where
  pub part : IsPart c g
  pub within : (k : Items)
      → is_among g k ≡ true
      → (m : Items) × (is_among c m ≡ true) × IsWithin m k

abbrev pub having : ℕ → List Items → List Items
having i f = filter (λ k. has k i) f

abbrev pub near : List Items → Query → List Items
near f r = filter (λ k. touches k r.a) f

abbrev pub joined : List Items → Query → List Items → ℕ → List Items
joined f r gs i = joins (filter (λ k. breaks k r) (atoms_at f i)) gs

-- those least sets of the list within which no set of `staying` lies
abbrev pub least_beside : List Items → List Items → List Items
least_beside staying g = filter (has_none_within staying) (least_sets g)

abbrev pub gained : List Items → Query → List Items → ℕ → List Items
gained f r gs i = least_beside (having i (left_by r (base f))) (joined f r gs i)
