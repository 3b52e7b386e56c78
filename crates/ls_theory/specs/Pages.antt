-- Pages of a listing.
use Rattle.std.specs.Prelude.{ℕ, Bool, true, nat_lt, List, length, take, filter, Option, Some, None}

-- members, and whether a further one follows
pub record Page (X : Type 0) : Type 0 where
  pub members : List X
  pub more : Bool

-- whether it comes after the given one, if one is given
abbrev pub comes_after : {X : Type 0} → (X → X → Bool) → Option X → X → Bool
comes_after before None x = true
comes_after before (Some last) x = before last x

-- the first k members after the given one, or from the start; the given one need not be a member
abbrev pub page : {X : Type 0} → (X → X → Bool) → List X → Option X → ℕ → Page X
page before f last k =
    let rest = filter (comes_after before last) f in
    record { members = take k rest; more = nat_lt k (length rest) }
