-- Weights of states after replies: the multiplicative rule, with prior 1.
use Rattle.std.specs.Prelude.{ℕ, Bool, not, if◌then◌else◌, List, map, filter, slice_index_or}
use Rattle.std.specs.Prelude.{sum_by}
use Rattle.ls_set.specs.{Items, has}
use Rattle.ls_theory.specs.declared.ratio.Ratio.{Ratio}
use Rattle.ls_theory.specs.declared.ratio.Ratios.{Ratios}
use Rattle.ls_theory.specs.declared.reply.Reply.{Reply}
use Rattle.ls_theory.specs.Words.{product}

-- a set agrees with right where it has the item, and with wrong where it lacks it
abbrev pub agrees : Items → Reply → Bool
agrees k r = if r.right then has k r.q else not (has k r.q)

-- those of a number that is no item
abbrev pub no_ratios : Ratios
no_ratios = let one : Ratio = record { a = 1; b = 1 } in record { right = one; wrong = one }

-- the item's ratio for the reply
abbrev pub ratio_for : List Ratios → Reply → Ratio
ratio_for ratios r =
    let own = slice_index_or ratios r.q no_ratios in
    if r.right then own.right else own.wrong

-- what one reply multiplies a set's weight by
abbrev pub factor : List Ratios → Items → Reply → ℕ
factor ratios k r = let ratio = ratio_for ratios r in if agrees k r then ratio.a else ratio.b

-- the weight of a set: the product over the whole list of replies
unfoldable pub weight : List Ratios → List Reply → Items → ℕ
weight ratios replies k = product (map (factor ratios k) replies)

-- the total: the weights of all members
abbrev pub total : List Ratios → List Reply → List Items → ℕ
total ratios replies f = sum_by (weight ratios replies) f

-- the mass of q: the weights of the members with q
abbrev pub mass : List Ratios → List Reply → List Items → ℕ → ℕ
mass ratios replies f q = total ratios replies (filter (λ k. has k q) f)
