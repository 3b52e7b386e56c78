-- What a list of sets spans, and the sets that a base leaves after a Yes.
use Rattle.std.specs.Prelude.{ℕ, ◌≡◌, Bool, true, not, ◌&&◌, nat_lt, List, [], ◌∷◌, ◌++◌}
use Rattle.std.specs.Prelude.{map, filter, length}
use Rattle.ls_set.specs.{IsWithin, Items, empty, full, is_among, is_same, is_within, meet}
use Rattle.ls_set.specs.{subsets, union}
use Rattle.ls_set.specs.declared.query.Query.{Query}
use Rattle.ls_theory.specs.{atom_items, breaks, interior}

-- each set of the list has items below n alone
abbrev pub AreOn : ℕ → List Items → Type 0
AreOn n f = (k : Items) → is_among f k ≡ true → IsWithin k (full n)

-- each set of the first list is in the second
abbrev pub IsPart : List Items → List Items → Type 0
IsPart f g = (k : Items) → is_among f k ≡ true → is_among g k ≡ true

-- each set of the second list is the union of those sets of the first that lie within it
abbrev pub Spans : List Items → List Items → Type 0
Spans g f = (k : Items) → is_among f k ≡ true → interior g k ≡ k

-- the set is an atom at two items
abbrev pub is_double : List Items → Items → Bool
is_double f k = nat_lt 1 (length (atom_items f k))

-- within t, and not the same
abbrev pub is_proper : Items → Items → Bool
is_proper s t = is_within s t && not (is_same s t)

-- the union of the sets of the list that lie within k and are not k
abbrev pub union_below : List Items → Items → Items
union_below g k = interior (filter (λ l. is_proper l k) g) k

-- the sets of g that are not the union of the other sets of g within them
unfoldable pub needed : List Items → List Items
needed g = filter (λ k. not (is_same (union_below g k) k)) g

-- the sets of items below n that are the union of the sets of g within them
unfoldable pub spanned : ℕ → List Items → List Items
spanned n g = filter (λ k. is_same (interior g k) k) (subsets n)

-- the members that do not break the query
abbrev pub left_by : Query → List Items → List Items
left_by r f = filter (λ k. not (breaks k r)) f

-- the two have an item in common
abbrev pub touches : Items → Items → Bool
touches s t = not (is_same (meet s t) empty)

-- each union of a set of the first list with one of the second
abbrev pub joins : List Items → List Items → List Items
joins [] gs = []
joins (k ∷ ks) gs = map (union k) gs ++ joins ks gs

-- the sets of b that do not break r, and each union of one that breaks it with one
-- that has an item of its A
unfoldable pub after_yes : List Items → Query → List Items
after_yes b r = left_by r b ++ joins (filter (λ k. breaks k r) b) (filter (λ g. touches g r.a) b)
