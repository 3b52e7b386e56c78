-- The words of a line.
use Rattle.std.specs.Prelude.{if◌then◌else◌, ◌&&◌, not, List}
use Rattle.std.specs.Prelude.{Option, Some, None, is_some, option_map}
use Rattle.std.specs.List.{list_all}
use Rattle.std.specs.Option.{option_and_then}
use Rattle.ls_set.specs.{Items, with}
use Rattle.ls_cutting.specs.{Text}
use Rattle.ls_domain.specs.Domains.{is_name}
use Rattle.ls_domain.specs.Meanings.{first_unnamed, items_of, number_of}

-- the set of the words' items, where each word is a name that an item has
abbrev pub items_known : List Text → List Text → Option Items
items_known names ws =
    if list_all is_name ws && not (is_some (first_unnamed names ws)) then Some (items_of names ws)
    else None

-- a set with the item of one word more, where the word is a name that an item has
abbrev pub with_item : List Text → Items → Text → Option Items
with_item names s w = if is_name w then option_map (with s) (number_of names w) else None

-- the same, where there is a set
abbrev pub with_word : List Text → Option Items → Text → Option Items
with_word names set w = option_and_then (λ s. with_item names s w) set
