-- Widest members: members from which the next ones are found by taking out one item.
--     IsWidest f place member      a member that has each member
--         whose items before the place it has
--     AreWidest f members      each of them is one
--     Serves f word i m      m is one, and before i it agrees with the word
use Rattle.std.specs.Prelude.{ℕ, ◌≡◌, true, List}
use Rattle.std.specs.List.{All}
use Rattle.ls_set.specs.{IsWithin, Items, is_among, keep_before}
use Rattle.ls_enum.specs.declared.widest.WidestMember.{WidestMember}

abbrev pub IsWidest : List Items → ℕ → Items → Type 0
IsWidest f place member =
    (is_among f member ≡ true)
    × ((t : Items)
    → is_among f t ≡ true
    → IsWithin (keep_before t place) member
    → IsWithin t member)

abbrev pub AreWidest : List Items → List WidestMember → Type 0
AreWidest f members = All (λ m. IsWidest f m.place m.member) members

-- the widest member has just the word's items before i
abbrev pub Serves : List Items → Items → ℕ → WidestMember → Type 0
Serves f word i m = IsWidest f m.place m.member × (keep_before m.member i ≡ keep_before word i)
