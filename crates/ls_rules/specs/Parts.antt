-- Parts of the sets A of rules.
use Rattle.std.specs.Prelude.{if◌then◌else◌}
use Rattle.std.specs.Option.{option_map_or}
use Rattle.ls_set.specs.{Items, empty, is_same, least, with}

-- the least item of the set alone
abbrev pub first_of : Items → Items
first_of a = option_map_or (λ i. with empty i) (least a) empty

-- the set, where it has more than one item; else the empty set
abbrev pub several : Items → Items
several a = if is_same a (first_of a) then empty else a
