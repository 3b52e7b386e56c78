-- Some item of a set, and some number of a list.
use Rattle.std.proofs.Common.{ℕ, zero, suc, ◌+◌, ◌<◌, ◌≤◌, ◌≡◌, inl, inr, Bool, true, arith}
use Rattle.std.specs.List.{list_any}
use Rattle.std.proofs.lemmas.Bool.{cases_eq}
use Rattle.ls_lists.specs.Lists.{IsIn}
use Rattle.ls_lists.proofs.Elements.{some-in, in-some, in-filter, filter-in}
use Rattle.ls_set.specs.ItemSet.{Items, has, items, bound, numbers_from}
use Rattle.ls_set.proofs.Ascending.{bound-has}

in-numbers : (i m j : ℕ) → i ≤ j → j < i + m → IsIn j (numbers_from i m)
in-numbers i zero j a b = absurd (omega arith)
in-numbers i (suc m) j a b = elim (cases_eq j i) [
  | inl e ↦ inl e
  | inr d ↦ inr (in-numbers (suc i) m j (omega arith) (omega arith))
]

pub from-items : (p : ℕ → Bool) (s : Items) → list_any p (items s) ≡ true → (i : ℕ)
    × (has s i ≡ true) × (p i ≡ true)
unfolding items
from-items p s h =
    let r = some-in p (items s) h in
    (r.0, (filter-in (has s) (numbers_from 0 (bound s)) r.0 r.1).1, r.2)

pub among-items : (p : ℕ → Bool) (s : Items) (i : ℕ) → has s i ≡ true → p i ≡ true
    → list_any p (items s) ≡ true
unfolding items
among-items p s i h a =
    let l : i < bound s = bound-has s i h in
    in-some
    p (items s)
    i (in-filter (has s) (numbers_from 0 (bound s)) i
    (in-numbers 0 (bound s) i (omega arith) (omega arith)) h) a

pub among-numbers : (p : ℕ → Bool) (n i : ℕ) → i < n → p i ≡ true → list_any p (numbers_from 0 n)
    ≡ true
among-numbers p n i l a =
    in-some p (numbers_from 0 n) i (in-numbers 0 n i (omega arith) (omega arith)) a
