-- Surmise functions: for each item its clauses, of which some one is known
-- to whoever knows the item.
--     IsSurmise n clauses      the clauses of each of the n items make a surmise function
--     IsPutInOrder clauses ordered      the same clauses, those of each item in the order of sets
use Rattle.std.specs.Prelude.{ℕ, ◌<◌, ◌≡◌, ◌≢◌, true, List, [], length}
use Rattle.ls_set.specs.{IsInOrder, Items, has, is_among, is_same, is_within}
use Rattle.ls_theory.specs.{clauses_of, has_clause_within}
use Rattle.ls_laws.specs.Spans.{AreOn}

-- Each of the n items has a clause, and its clauses are in order. Each clause of q has q,
-- and for each item r of its own some clause of r within it. No clause of q lies within another.
pub record IsSurmise (n : ℕ) (clauses : List (List Items)) : Type 0 where
  pub each_item : length clauses ≡ n
  pub has_clause : (q : ℕ) → q < n → clauses_of clauses q ≢ []
  pub in_order : (q : ℕ) → IsInOrder (clauses_of clauses q)
  pub small : (q : ℕ) → AreOn n (clauses_of clauses q)
  pub reflexive : (q : ℕ) (c : Items) → is_among (clauses_of clauses q) c ≡ true → has c q ≡ true
  pub closed : (q : ℕ) (c : Items) (r : ℕ)
      → is_among (clauses_of clauses q) c ≡ true
      → has c r ≡ true
      → has_clause_within clauses r c ≡ true
  pub incomparable : (q : ℕ) (c d : Items)
      → is_among (clauses_of clauses q) c ≡ true
      → is_among (clauses_of clauses q) d ≡ true
      → is_within c d ≡ true
      → is_same c d ≡ true

pub record IsPutInOrder (clauses ordered : List (List Items)) : Type 0 where
  pub as_many : length ordered ≡ length clauses
  pub in_order : (q : ℕ) → IsInOrder (clauses_of ordered q)
  pub same : (q : ℕ) (c : Items)
      → is_among (clauses_of ordered q) c ≡ is_among (clauses_of clauses q) c
