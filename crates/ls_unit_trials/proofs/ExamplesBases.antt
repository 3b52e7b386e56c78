-- Examples: the base of listed sets, and a surmise function of five items, of which three share clauses.
use Rattle.std.proofs.Common.{ℕ, ◌≡◌, refl, List, [], ◌∷◌, Ok, Err}
use Rattle.ls_set.specs.{Items, bound, comes_before, differing, empty, full, has, is_same, is_within, items, least, len, meet, minus, set_of, single, union, with, without}
use Rattle.ls_theory.specs.{base, based, compat, interior}
use Rattle.ls_theory.specs.declared.base_fault.BaseFault.TheVariants.{NotSpanning}
use Rattle.ls_laws.specs.Spans.{spanned}
use Rattle.ls_base.specs.Bases.{BaseState}
use Rattle.ls_surmise.specs.Surmises.{surmised}

-- an example that opens this opens each word
unfoldable words : ℕ
unfolding has empty full with without union meet minus single differing is_within is_same bound items len least comes_before interior compat base spanned
words = 0

abbrev set : List ℕ → Items
set is = set_of is

-- a union, a repeat and the empty set are left out; an item that no set has is told
left_out : based 3 (empty ∷ set (1 ∷ 2 ∷ []) ∷ set (0 ∷ 1 ∷ []) ∷ set (1 ∷ []) ∷ set (0 ∷ []) ∷ set (1 ∷ 2 ∷ []) ∷ [])
    ≡ Ok (set (0 ∷ []) ∷ set (1 ∷ 2 ∷ []) ∷ set (1 ∷ []) ∷ [])
unfolding words
left_out = refl

missing : based 3 (set (0 ∷ 1 ∷ []) ∷ set (1 ∷ []) ∷ []) ≡ Err (NotSpanning 2)
unfolding words
missing = refl

abbrev a : Items
a = set (0 ∷ [])

abbrev bd : Items
bd = set (1 ∷ 3 ∷ [])

abbrev abc : Items
abc = set (0 ∷ 1 ∷ 2 ∷ [])

abbrev bce : Items
bce = set (1 ∷ 2 ∷ 4 ∷ [])

abbrev five : BaseState
five = record { item_count = 5; sets = abc ∷ a ∷ bce ∷ bd ∷ [] }

shared_clauses : surmised five ≡ Ok ((a ∷ []) ∷ (abc ∷ bce ∷ bd ∷ []) ∷ (abc ∷ bce ∷ []) ∷ (bd ∷ []) ∷ (bce ∷ []) ∷ [])
unfolding words
shared_clauses = refl
