-- Each good query whose A has few enough items is asked in the blocks.
use Rattle.ls_laws.proofs.Vocabulary.{◌<◌, ◌∙◌, ◌≡◌, ◌≤◌, Bool, Decides-is_same, IsIn, Items, Query, ℕ, among-subsets, arith, blocks, cases_eq, empty, eq-eqb, eqb, filter, flat_map, full, in-filter, in-flat_map, in-map, in-some, inl, inr, is_good, is_within, is_within-from, len, list_any, map, numbers_from, queries, refl, subsets, sym, true, true≢false}
pub use Rattle.ls_laws.proofs.Listed.{in-numbers, numbers-in, in-among, among-in}
use Rattle.ls_laws.proofs.Counts.{len-zero}
use Rattle.ls_laws.proofs.Breaks.{IsGood, good-to}

-- ---- the blocks

pub in-blocks : (n k : ℕ) (a : Items) → is_within a (full n) ≡ true → 0 < len a → len a ≤ k → IsIn a (blocks n k)
unfolding blocks
in-blocks n k a w l m =
    in-flat_map (λ size. filter (λ a. eqb (len a) size) (subsets n)) (numbers_from 1 k) (len a) a
    (in-numbers 1 k (len a) (omega arith) (omega arith))
    (in-filter (λ s. eqb (len s) (len a)) (subsets n) a (in-among (subsets n) a (among-subsets n a ∙ w)) (eq-eqb (len a) (len a) refl))

pub in-queries : (n k : ℕ) (r : Query) → IsGood n r → len r.a ≤ k → IsIn r (queries n k)
unfolding queries
in-queries n k r good few =
    let some : 0 < len r.a = elim (cases_eq (len r.a) 0) [
      | inl e ↦ absurd (true≢false (sym ((Decides-is_same r.a empty).1 (len-zero r.a e)) ∙ good.nonempty))
      | inr n ↦ omega arith
    ] in
    let item = good.item in
    in-filter (is_good n) (flat_map (λ a. map (asked_of a) (numbers_from 0 n)) (blocks n k)) r
    (in-flat_map (λ a. map (asked_of a) (numbers_from 0 n)) (blocks n k) r.a r (in-blocks n k r.a (is_within-from r.a (full n) good.small) some few)
    (in-map (asked_of r.a) (numbers_from 0 n) r.q (in-numbers 0 n r.q (omega arith) (omega arith))))
    (good-to n r good)
  where
    asked_of : Items → ℕ → Query
    asked_of a q = record { a = a; q = q }

-- a test that some good query passes finds one in the blocks
pub some_in_blocks : (p : Query → Bool) (n k : ℕ) (r : Query) → IsGood n r → len r.a ≤ k → p r ≡ true → list_any p (queries n k) ≡ true
some_in_blocks p n k r good few h = in-some p (queries n k) r (in-queries n k r good few) h
