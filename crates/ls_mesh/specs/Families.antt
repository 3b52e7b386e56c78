-- What contracts see of the sets that are in two families.

-- the two families
pub record BothState (F G : Type 0) : Type 0 where
  pub left : F
  pub right : G
