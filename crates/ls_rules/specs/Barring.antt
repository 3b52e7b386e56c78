-- Items that rules bar from a set.
use Rattle.std.specs.Prelude.{List, map, filter}
use Rattle.ls_set.specs.{Items, empty, is_same, meet, set_of}
use Rattle.ls_set.specs.declared.query.Query.{Query}

-- the items q of the rules whose sets A have no item of the set. A set that breaks no rule
-- breaks one with an item more, where the item is one of these
abbrev pub barred : List Query → Items → Items
barred rules s = set_of (map (λ r. r.q) (filter (λ r. is_same (meet s r.a) empty) rules))
