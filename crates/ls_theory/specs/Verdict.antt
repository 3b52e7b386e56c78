-- Well-gradedness, learning spaces, and the verdict on a family.
use Rattle.std.specs.Prelude.{ℕ, zero, suc, Bool, not, ◌&&◌, ◌==◌, nat_lt, if◌then◌else◌, List}
use Rattle.std.specs.Prelude.{filter, find, length, slice_index, Option, Some, None, unwrap_or}
use Rattle.std.specs.List.{list_any, list_all}
use Rattle.ls_set.specs.{Items, differing, empty, is_among, is_same, len, union}
use Rattle.ls_theory.specs.declared.verdict.Verdict.{Verdict}
use Rattle.ls_theory.specs.declared.verdict.Verdict.TheVariants.{NoEmpty, NoFull, NotClosed}
use Rattle.ls_theory.specs.declared.verdict.Verdict.TheVariants.{NotGraded, Learning}
use Rattle.ls_theory.specs.declared.verdict.BaseVerdict.{BaseVerdict}
use Rattle.ls_theory.specs.declared.verdict.BaseVerdict.TheVariants as base_verdict_of
use Rattle.ls_theory.specs.Words.{pairs}
use Rattle.ls_theory.specs.Families.{is_space}
use Rattle.ls_theory.specs.Bases.{atom_items, base}

-- the members that differ from K in one item
abbrev pub neighbours : List Items → Items → List Items
neighbours f k = filter (λ l. len (differing k l) == 1) f

-- a list of members leads from K to L in m steps, each to a neighbour
unfoldable pub is_joined : List Items → ℕ → Items → Items → Bool
is_joined f zero k l = is_same k l
is_joined f (suc m) k l = list_any (λ j. is_joined f m j l) (neighbours f k)

-- well graded: any two members are joined in as many steps as there are items
-- in exactly one of them
unfoldable pub is_well_graded : List Items → Bool
is_well_graded f = list_all (λ k. list_all (λ l. is_joined f (len (differing k l)) k l) f) f

-- a learning space: a space that is well graded
abbrev pub is_learning_space : Items → List Items → Bool
is_learning_space whole f = is_space whole f && is_well_graded f

-- the first two members whose union is missing: the least such left one, and its least right one
abbrev pub unclosed_pair : List Items → Option (Items × Items)
unclosed_pair f = find (λ p. not (is_among f (union p.0 p.1))) (pairs f)

-- the first base set that is an atom at two items (a space that is not well graded has one)
abbrev pub double_atom : List Items → Items
double_atom f = unwrap_or (find (λ k. nat_lt 1 (length (atom_items f k))) (base f)) empty

-- whether a space is a learning space; if not, a base set with the two least items
-- at which it is an atom
abbrev pub base_verdict : List Items → BaseVerdict
base_verdict f =
    let k = double_atom f in
    if is_well_graded f
    then base_verdict_of.Learning
    else base_verdict_of.NotGraded k
    (slice_index (atom_items f k) 0)
    (slice_index (atom_items f k) 1)

-- the verdict on a space with the base b
abbrev pub with_base : List Items → BaseVerdict → Verdict
with_base b base_verdict_of.Learning = Learning b
with_base b (base_verdict_of.NotGraded k i j) = NotGraded k i j

-- the verdict on gradation
abbrev pub graded_verdict : List Items → Verdict
graded_verdict f = with_base (base f) (base_verdict f)

-- the verdict on unions, and then on gradation
abbrev pub verdict_from : List Items → Option (Items × Items) → Verdict
verdict_from f (Some p) = NotClosed p.0 p.1
verdict_from f None = graded_verdict f

-- the verdict on a family on the items of `whole`: the first that holds, in this order
unfoldable pub verdict : Items → List Items → Verdict
verdict whole f =
    if not (is_among f empty) then NoEmpty
    else (if not (is_among f whole) then NoFull
    else verdict_from f (unclosed_pair f))
