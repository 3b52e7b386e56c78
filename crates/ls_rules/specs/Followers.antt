-- For each item, the items that follow it by a rule: where it falls, so may they.
use Rattle.std.specs.Prelude.{ℕ, ◌≡◌, true, List}
use Rattle.std.specs.List.{AllByRecursion}
use Rattle.ls_set.specs.{Items, has}
use Rattle.ls_set.specs.declared.query.Query.{Query}
use Rattle.ls_rules.specs.Sets.{set_at}

-- the item q follows each item of the set
abbrev pub IsFollower : List Items → Items → ℕ → Type 0
IsFollower sets s q = (i : ℕ) → has s i ≡ true → has (set_at sets i) q ≡ true

-- of each rule the item q follows each item of that part of the rule; others may follow too
abbrev pub AreFollowed : List Items → (Query → Items) → List Query → Type 0
AreFollowed sets part rules = AllByRecursion (λ r. IsFollower sets (part r) r.q) rules

-- no set has lost an item
abbrev pub Grows : List Items → List Items → Type 0
Grows old new = (i j : ℕ) → has (set_at old i) j ≡ true → has (set_at new i) j ≡ true
