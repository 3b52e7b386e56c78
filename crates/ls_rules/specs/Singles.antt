-- Rules whose set A is one item alone.
use Rattle.std.specs.Prelude.{ℕ, ◌≡◌, false, List, map, filter}
use Rattle.ls_set.specs.{Items, empty, has, is_same, set_of, single}
use Rattle.ls_set.specs.declared.query.Query.{Query}
use Rattle.ls_rules.specs.Sets.{set_at}

-- the items q of the rules whose set A is {i}
abbrev pub asked_alone : List Query → ℕ → Items
asked_alone rules i = set_of (map (λ r. r.q) (filter (λ r. is_same r.a (single i)) rules))

-- each item has exactly these
abbrev pub AreSingles : List Items → List Query → Type 0
AreSingles singles rules = (i : ℕ) → set_at singles i ≡ asked_alone rules i

-- the items have each item whose set is not empty; they may have more
abbrev pub CoversSets : Items → List Items → Type 0
CoversSets items sets = (i : ℕ) → has items i ≡ false → set_at sets i ≡ empty
