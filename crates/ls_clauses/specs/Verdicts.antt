-- The verdict on a family, by the unions of what lies below its members.
use Rattle.std.specs.Prelude.{not, nat_lt, if◌then◌else◌, List, find, slice_index, Option}
use Rattle.std.specs.Option.{option_map_or}
use Rattle.ls_set.specs.{Items, empty, is_among, items, len, minus}
use Rattle.ls_theory.specs.declared.verdict.Verdict.{Verdict}
use Rattle.ls_theory.specs.declared.verdict.Verdict.TheVariants.{NoEmpty, NoFull, NotClosed}
use Rattle.ls_theory.specs.declared.verdict.BaseVerdict.{BaseVerdict}
use Rattle.ls_theory.specs.declared.verdict.BaseVerdict.TheVariants.{NotGraded, Learning}
use Rattle.ls_theory.specs.{with_base}
use Rattle.ls_laws.specs.Spans.{union_below, needed}
use Rattle.ls_clauses.specs.Unions.{unclosed_pair_by}

-- the items of k that the smaller sets of the list within it lack: those at which it is an atom
abbrev pub own_by : List Items → Items → Items
own_by g k = minus k (union_below g k)

-- the first of the sets with two such items
abbrev pub first_double : List Items → List Items → Option Items
first_double g sets = find (λ k. nat_lt 1 (len (own_by g k))) sets

-- a set with two items of its own, and the two least of them
abbrev pub not_graded : List Items → Items → BaseVerdict
not_graded g k = let own = items (own_by g k) in NotGraded k (slice_index own 0) (slice_index own 1)

-- whether a space with the base b is a learning space, by any list that spans it
abbrev pub graded_by : List Items → List Items → BaseVerdict
graded_by g b = option_map_or (not_graded g) (first_double g b) Learning

-- the verdict on any family: its base are the members that are not the union of smaller ones
abbrev pub verdict_by_unions : Items → List Items → Verdict
verdict_by_unions whole f =
    let b = needed f in
    if not (is_among f empty) then NoEmpty
    else (if not (is_among f whole) then NoFull
    else option_map_or (λ p. NotClosed p.0 p.1) (unclosed_pair_by b f)
    (with_base b (graded_by b b)))
