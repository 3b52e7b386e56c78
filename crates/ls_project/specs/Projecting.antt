-- What contracts see of a projection.
use Rattle.ls_set.specs.{Items}

-- a family, and the part of its items on which it is projected
pub record TraceState (F : Type 0) : Type 0 where
  pub inner : F
  pub part : Items
