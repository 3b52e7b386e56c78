-- Examples of surmise files, after their bytes were read as a table.
use Rattle.std.proofs.Common.{◌≡◌, refl, ℕ, List, [], ◌∷◌, Ok, Err, Result, codes}
use Rattle.ls_set.specs.{Items, bound, comes_before, differing, empty, full, has, is_same, is_within, items, least, single, union, with}
use Rattle.ls_cutting.specs.{Text}
use Rattle.ls_theory.specs.{flaw}
use Rattle.ls_theory.specs.declared.surmise_fault.SurmiseFault.{SurmiseFault}
use Rattle.ls_theory.specs.declared.surmise_fault.SurmiseFault.TheVariants.{UnknownItem, NoClause, Reflexive, NotClosed, Comparable}
use Rattle.ls_files.specs.SurmiseFiles.{Table, is_table_named, clauses_in, surmise_from, surmise_in}

unfoldable reading : ℕ
unfolding has empty full with union differing single is_same is_within bound items least comes_before flaw is_table_named clauses_in surmise_from
reading = 0

abbrev a : Text
a = codes "a"

abbrev b : Text
b = codes "b"

abbrev c : Text
c = codes "c"

abbrev answer : Table → Result (List (List Items)) SurmiseFault
answer = surmise_in (a ∷ b ∷ c ∷ [])

abbrev set : ℕ → Items
set digits = record { digits = digits }

-- the clauses of each item in the order of sets
two_ways : answer ((c, (c ∷ []) ∷ []) ∷ (b, (c ∷ b ∷ []) ∷ (b ∷ a ∷ []) ∷ []) ∷ (a, (a ∷ a ∷ []) ∷ []) ∷ []) ≡ Ok ((set 1 ∷ []) ∷ (set 3 ∷ set 6 ∷ []) ∷ (set 4 ∷ []) ∷ [])
unfolding reading
two_ways = refl

unknown : answer ((a, []) ∷ (b, (b ∷ codes "z" ∷ []) ∷ []) ∷ []) ≡ Err UnknownItem
unfolding reading
unknown = refl

no_clause : answer ((a, (b ∷ []) ∷ []) ∷ (b, []) ∷ (c, (c ∷ []) ∷ []) ∷ []) ≡ Err (NoClause 1)
unfolding reading
no_clause = refl

-- a clause that lacks its item is told before one that is not closed
lacking : answer ((a, (a ∷ []) ∷ []) ∷ (b, (b ∷ c ∷ []) ∷ (a ∷ []) ∷ []) ∷ (c, (a ∷ c ∷ []) ∷ []) ∷ []) ≡ Err (Reflexive 1 2)
unfolding reading
lacking = refl

unclosed : answer ((a, (a ∷ []) ∷ []) ∷ (b, (b ∷ c ∷ []) ∷ (a ∷ b ∷ []) ∷ []) ∷ (c, (a ∷ c ∷ []) ∷ []) ∷ []) ≡ Err (NotClosed 1 1 2)
unfolding reading
unclosed = refl

comparable : answer ((a, (a ∷ []) ∷ []) ∷ (b, (b ∷ a ∷ []) ∷ (b ∷ []) ∷ []) ∷ (c, (c ∷ []) ∷ []) ∷ []) ≡ Err (Comparable 1 1 2)
unfolding reading
comparable = refl
