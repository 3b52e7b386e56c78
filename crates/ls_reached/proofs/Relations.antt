-- What a file of pairs gives as a start is one: the clauses of a partial order.
use Rattle.ls_reached.proofs.Vocabulary.{ℕ, suc, ◌+◌, ◌∷◌, ◌≡◌, ◌≤◌, AllByRecursion, Err, IsNarrow}
use Rattle.ls_reached.proofs.Vocabulary.{Items, List, None, Ok, Some, Text, [], ap, length, lines}
use Rattle.ls_reached.proofs.Vocabulary.{refl, result_ok, subst, sym}
use Rattle.std.specs.Option.{option_map_or}
use Rattle.ls_set.specs.{most_items}
use Rattle.ls_lists.proofs.Options.{same_Ok, ok-err}
use Rattle.ls_theory.specs.Clauses.{clauses_of}
use Rattle.ls_laws.specs.Spans.{AreOn}
use Rattle.ls_origins.specs.Relations.{clauses_below, first_cycle, relation}
use Rattle.ls_origins.specs.declared.pair_fault.PairFault.TheVariants.{Cycle}
use Rattle.ls_files.specs.SetFiles.{after_ok}
use Rattle.ls_files.specs.PairFiles.{acyclic, line_read, pairs_from, pairs_of_file, relation_of}
use Rattle.ls_files.specs.PairFiles.{with_line}
use Rattle.ls_files.specs.declared.pair_line.PairLine.{PairLine}
use Rattle.ls_files.specs.declared.pair_line.PairLine.TheVariants.{Passed, Bad, Unknown, Pair}
use Rattle.ls_order.specs.Orders.{ArePairs, IsOrder}
use Rattle.ls_order.proofs.PairItems.{IsSmall, line-worded, worded-small}
use Rattle.ls_order.proofs.PairRows.{pairs-more, pairs-none}
use Rattle.ls_order.proofs.Related.{preorder-surmise}
use Rattle.ls_order.proofs.Strict.{own-order}
use Rattle.ls_order.proofs.Surmised.{order-again}
use Rattle.ls_codecs.proofs.Surmises.{narrow-read}
use Rattle.ls_lines.specs.{words}

-- ---- the pairs of a file

line-small : (names : List Text) (line : List ℕ) → IsSmall (length names) (line_read names line)
line-small names line =
    subst (IsSmall (length names)) (sym (line-worded names line)) (worded-small names (words line))

-- the pairs after one line more
with-small : (n : ℕ) (pairs more : List (ℕ × ℕ)) (row : ℕ) (l : PairLine) → ArePairs n pairs
    → IsSmall n l → with_line pairs row l ≡ Ok more → ArePairs n more
with-small n pairs more row Passed small one e = subst (ArePairs n) (same_Ok e) small
with-small n pairs more row Bad small one e = absurd (ok-err (sym e))
with-small n pairs more row Unknown small one e = absurd (ok-err (sym e))
with-small n pairs more row (Pair low high) small one e =
    let below = one low high refl in
    subst (ArePairs n) (same_Ok e) (pairs-more n pairs low high small below.0 below.1)

-- those after further lines
from-small : (names : List Text) (pairs read : List (ℕ × ℕ)) (row : ℕ) (ls : List (List ℕ))
    → ArePairs (length names) pairs → pairs_from names pairs row ls ≡ Ok read
    → ArePairs (length names) read
unfolding pairs_from
from-small names pairs read row [] small e = subst (ArePairs (length names)) (same_Ok e) small
from-small names pairs read row (line ∷ rest) small e =
    let l = line_read names line in
    elim (with_line pairs row l) as (λ r. with_line pairs row l ≡ r
    → after_ok (λ more. pairs_from names more (row + 1) rest) r ≡ Ok read
    → ArePairs (length names) read) [
      | Ok more ↦ λ is e.
          from-small names more read (row + 1) rest
          (with-small (length names) pairs more row l small (line-small names line) is) e
      | Err fault ↦ λ is e. absurd (ok-err (sym e))
    ] refl e

-- ---- their relation

acyclic-order : (n : ℕ) (pairs : List (ℕ × ℕ)) (below : List Items) → ArePairs n pairs
    → acyclic n pairs ≡ Ok below → IsOrder n below
unfolding acyclic
acyclic-order n pairs below small e =
    elim (first_cycle n pairs) as (λ o. first_cycle n pairs ≡ o
    → option_map_or (λ q. Err (Cycle q)) o (Ok (relation n pairs)) ≡ Ok below
    → IsOrder n below) [
      | None ↦ λ none e. own-order n pairs below small none (sym (same_Ok e))
      | Some q ↦ λ some e. absurd (ok-err (sym e))
    ] refl e

read-order : (names : List Text) (bytes : List ℕ) (below : List Items)
    → relation_of names bytes ≡ Ok below → IsOrder (length names) below
unfolding relation_of
read-order names bytes below e =
    let n = length names in
    elim (pairs_of_file names bytes) as (λ r. pairs_of_file names bytes ≡ r
    → after_ok (acyclic n) r ≡ Ok below → IsOrder n below) [
      | Ok pairs ↦ λ read e.
          let small = from-small names [] pairs 1 (lines bytes) (pairs-none n) read in
          acyclic-order n pairs below small e
      | Err fault ↦ λ read e. absurd (ok-err (sym e))
    ] refl e

-- ---- its clauses

each-on : (n : ℕ) (clauses : List (List Items)) → ((q : ℕ) → AreOn n (clauses_of clauses q))
    → AllByRecursion (AreOn n) clauses
each-on n [] small = tt
each-on n (own ∷ clauses) small = (small 0, each-on n clauses (λ q. small (suc q)))

pub relation-start : (names : List Text) (bytes : List ℕ) (below : List Items)
    → length names ≤ most_items → relation_of names bytes ≡ Ok below
    → IsNarrow (length names) (clauses_below below)
relation-start names bytes below few e =
    let n = length names in
    let clauses = clauses_below below in
    let order = read-order names bytes below e in
    let surmise = preorder-surmise n below order.preorder in
    narrow-read n clauses clauses (each-on n clauses surmise.small) surmise.each_item
    (ap result_ok (order-again n below order few))
