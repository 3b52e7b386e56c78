-- Sets in groups by their least items.
use Rattle.std.specs.Prelude.{ℕ, ◌≡◌, filter, length, slice_get, Some, Vec}
use Rattle.std.specs.declared.alloc.Global.{Global}
use Rattle.ls_set.specs.{Items, most_items}
use Rattle.ls_base.specs.Sizes.{Rises, begins_at}
use Rattle.ls_base.specs.declared.groups.Found.{Found}

-- the sets rise, and group i has those of them whose least item is i, in their order
pub record IsGrouped (f : Found) : Type 0 where
  pub rises : Rises f.sets.items
  pub many : length f.groups.items ≡ most_items
  pub grouped : (i : ℕ) (v : Vec Items Global) → slice_get f.groups.items i ≡ Some v →
      v.items ≡ filter (begins_at i) f.sets.items
