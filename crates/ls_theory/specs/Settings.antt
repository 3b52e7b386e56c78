-- Settings of assessments: which can be set, how they begin and change,
-- and when they are too heavy.
use Rattle.std.specs.Prelude.{ℕ, suc, ◌*◌, ◌^◌, Bool, ◌&&◌, ◌==◌, nat_lt, nat_le, max}
use Rattle.std.specs.Prelude.{List, [], ◌∷◌, find, length, set, replicate, Option}
use Rattle.std.specs.List.{list_all}
use Rattle.ls_set.specs.{numbers_from}
use Rattle.ls_theory.specs.declared.ratio.Ratio.{Ratio}
use Rattle.ls_theory.specs.declared.ratio.Ratios.{Ratios}

-- the ratios of each item in turn; the most replies; and the share that ends an assessment,
-- in hundredths
pub record Settings : Type 0 where
  pub ratios : List Ratios
  pub budget : ℕ
  pub share : ℕ

-- ---- which can be set

abbrev pub is_between : ℕ → ℕ → ℕ → Bool
is_between low high n = nat_le low n && nat_le n high

-- the first number is from 2 to 64, and the second from 1 to one below the first
abbrev pub is_ratio : Ratio → Bool
is_ratio r = is_between 2 64 r.a && nat_le 1 r.b && nat_lt r.b r.a

abbrev pub are_ratios : Ratios → Bool
are_ratios r = is_ratio r.right && is_ratio r.wrong

-- the most replies are from 1 to 40, and the share is from 51 to 99
abbrev pub are_limits : ℕ → ℕ → Bool
are_limits budget share = is_between 1 40 budget && is_between 51 99 share

-- settings of n items
abbrev pub are_settings : ℕ → Settings → Bool
are_settings n s =
    length s.ratios == n
    && list_all are_ratios s.ratios
    && are_limits s.budget s.share

-- ---- how they begin and change

-- odds are ratios to 1
abbrev pub odds : ℕ → Ratio
odds z = record { a = z; b = 1 }

-- odds 8 and 8 for each of n items, at most 30 replies, and the share 90
abbrev pub standard : ℕ → Settings
standard n = record {
  ratios = replicate n (record { right = odds 8; wrong = odds 8 });
  budget = 30;
  share = 90;
}

-- each item has the ratios
abbrev pub with_all : Settings → Ratios → Settings
with_all s r = record s { ratios = replicate (length s.ratios) r }

-- the item q has the ratios
abbrev pub with_item : Settings → ℕ → Ratios → Settings
with_item s q r = record s { ratios = set s.ratios q r }

abbrev pub with_limits : Settings → ℕ → ℕ → Settings
with_limits s budget share = record s { budget = budget; share = share }

-- ---- which assessments can be followed

-- a pupil has at most so many states
abbrev pub most_states : ℕ
most_states = 65536

-- the greatest first number of the ratios
abbrev pub greatest : List Ratios → ℕ
greatest [] = 0
greatest (r ∷ rs) = max (max r.right.a r.wrong.a) (greatest rs)

-- the total of so many states passes 2 ^ 120 after r replies that all multiply
-- by the greatest number
abbrev pub is_heavy : Settings → ℕ → ℕ → Bool
is_heavy s count r = nat_lt (2 ^ 120) (count * greatest s.ratios ^ r)

-- the least number of replies, up to the budget, after which the total may pass
unfoldable pub heavy_after : Settings → ℕ → Option ℕ
heavy_after s count = find (is_heavy s count) (numbers_from 0 (suc s.budget))
