-- Which lists of sets are families.
use Rattle.ls_laws.proofs.Vocabulary.{◌≡◌, Bool, IsFamily, IsInOrder, Items, List, Query, Start, ℕ, breaks_none, compat, empty, filter, spanned, subsets, subsets_from-in_order, true, union}
use Rattle.ls_laws.proofs.Lists.{IsInOrder-filter}
use Rattle.ls_laws.proofs.Interiors.{IsUnionFamily, subsets-IsUnionFamily, filter-IsUnionFamily}
use Rattle.ls_laws.proofs.Breaks.{breaks_none-empty, breaks_none-union}
use Rattle.ls_laws.proofs.Spans.{spanned-IsUnionFamily, spanned-in_order}
use Rattle.ls_laws.proofs.Compat.{compat-IsUnionFamily, compat-in_order}

-- the same list, its order apart
pub family_sets : (n : ℕ) (f : List Items) → IsFamily n f → IsUnionFamily n f
family_sets n f family = record { small = family.small; holds_empty = family.holds_empty; holds_unions = family.holds_unions }

pub family_in_order : (n : ℕ) (f : List Items) → IsInOrder f → IsUnionFamily n f → IsFamily n f
family_in_order n f order sets = record { in_order = order; small = sets.small; holds_empty = sets.holds_empty; holds_unions = sets.holds_unions }

-- all sets of items below n
pub subsets-IsFamily : (n : ℕ) → IsFamily n (subsets n)
subsets-IsFamily n = family_in_order n (subsets n) (subsets_from-in_order 0 n) (subsets-IsUnionFamily n)

-- the members that pass a test that the empty set and unions pass
pub filter-IsFamily : (n : ℕ) (f : List Items) (p : Items → Bool) → p empty ≡ true → ((s t : Items) → p s ≡ true → p t ≡ true → p (union s t) ≡ true) → IsFamily n f → IsFamily n (filter p f)
filter-IsFamily n f p e u family = family_in_order n (filter p f) (IsInOrder-filter p f family.in_order) (filter-IsUnionFamily n f p e u (family_sets n f family))

-- the members that break no query of a list
pub ruled-IsFamily : {n : ℕ} {f : List Items} (rules : List Query) → IsFamily n f → IsFamily n (filter (breaks_none rules) f)
ruled-IsFamily {n} {f} rules family = filter-IsFamily n f (breaks_none rules) (breaks_none-empty rules) (breaks_none-union rules) family

-- the sets that a list spans
pub spanned-IsFamily : (n : ℕ) (g : List Items) → IsFamily n (spanned n g)
spanned-IsFamily n g = family_in_order n (spanned n g) (spanned-in_order n g) (spanned-IsUnionFamily n g)

-- the compatible sets
pub compat-IsFamily : (n : ℕ) (start : Start) (yeses : List Query) → IsFamily n (compat n start yeses)
compat-IsFamily n start yeses = family_in_order n (compat n start yeses) (compat-in_order n start yeses) (compat-IsUnionFamily n start yeses)
