-- A loop over the lines of a file of pairs.
use Rattle.std.proofs.Common.{ℕ, suc, ◌+◌, ◌<◌, ◌≤◌, ◌≡◌, ◌∙◌, ◌∷◌, [], Bor, Err, List, None, Ok}
use Rattle.std.proofs.Common.{Option}
use Rattle.std.proofs.Common.{Result, Some, ap, arith, length, refl, subst, sym}
use Rattle.std.specs.Option.{MatchOption}
use Rattle.ls_set.specs.ItemSet.{Items, has}
use Rattle.ls_origins.specs.Relations.{below_of}
use Rattle.ls_cutting.specs.{Text}
unfoldable use Rattle.ls_cutting.specs.{lines}
use Rattle.ls_origins.specs.declared.pair_fault.PairFault.{PairFault}
use Rattle.ls_origins.specs.declared.pair_fault.PairFault.TheVariants.{BadLine, UnknownItem, Cycle}
use Rattle.ls_origins.specs.declared.pair_fault.PairFault.TheVariants.{Memory}
use Rattle.ls_order.specs.Closing.{AreRows}
use Rattle.ls_order.specs.Orders.{ArePairs}
use Rattle.ls_files.specs.PairFiles.{IsPairFaultOf, line_read, pairs_from, pairs_of_file, with_line}
use Rattle.ls_order.specs.Reading.{IsTaken}
use Rattle.ls_files.specs.declared.pair_line.PairLine.{PairLine}

pub from-end : (names : List Text) (pairs : List (ℕ × ℕ)) (row : ℕ)
    → pairs_from names pairs row [] ≡ Ok pairs
unfolding pairs_from
from-end names pairs row = refl

pub from-next : (names : List Text) (pairs more : List (ℕ × ℕ)) (row : ℕ) (line : List ℕ)
    (rest : List (List ℕ)) (l : PairLine) → l ≡ line_read names line
    → with_line pairs row l ≡ Ok more
    → pairs_from names pairs row (line ∷ rest) ≡ pairs_from names more (row + 1) rest
unfolding pairs_from
from-next names pairs more row line rest l is e = rw (← is, e) refl

from-fault : (names : List Text) (pairs : List (ℕ × ℕ)) (row : ℕ) (line : List ℕ)
    (rest : List (List ℕ)) (fault : PairFault) → with_line pairs row (line_read names line)
    ≡ Err fault → pairs_from names pairs row (line ∷ rest) ≡ Err fault
unfolding pairs_from
from-fault names pairs row line rest fault e = rw e refl

-- a fault of the next step is that of the reading
pub fault-told : {X Y : Type 0} (reading : Result X PairFault) (step : Result Y PairFault)
    (e : PairFault) → ((fault : PairFault) → step ≡ Err fault → reading ≡ Err fault)
    → IsPairFaultOf step e → IsPairFaultOf reading e
fault-told reading step (BadLine row) told is = told _ is
fault-told reading step (UnknownItem row) told is = told _ is
fault-told reading step (Cycle q) told is = told _ is
fault-told reading step (Memory e) told is = tt

-- the reading of the rest
abbrev pub read_on : List Text → List (ℕ × ℕ) → ℕ → Option (Bor (List ℕ))
    → Result (List (ℕ × ℕ)) PairFault
read_on names pairs row None = Ok pairs
read_on names pairs row (Some rest) = pairs_from names pairs row (lines rest.now)

-- a number above the bytes that are left
abbrev pub left : Option (Bor (List ℕ)) → ℕ
left None = 0
left (Some rest) = suc (length rest.now)

-- the rows so far
pub record IsReading (names : List Text) (text : List ℕ) (rows : List Items) (row : ℕ)
    (rest : Option (Bor (List ℕ))) : Type 0 where
  pub pairs : List (ℕ × ℕ)
  pub so_far : pairs_of_file names text ≡ read_on names pairs row rest
  pub small : ArePairs (length names) pairs
  pub are_rows : AreRows (length names) pairs rows

-- the first line of a text and what follows it
abbrev pub IsCut : List ℕ → List ℕ → Option (Bor (List ℕ)) → Type 0
IsCut text line more =
    MatchOption more (lines text ≡ line ∷ [])
    (λ m. (lines text ≡ line ∷ lines m.now) × (length m.now < length text))

pub left-less : (text line : List ℕ) (more : Option (Bor (List ℕ))) → IsCut text line more
    → left more ≤ length text
left-less text line None h = omega arith
left-less text line (Some m) h = let l = h.1 in omega (arith, l)

good-line : (names : List Text) (pairs next : List (ℕ × ℕ)) (row : ℕ) (text line : List ℕ)
    (more : Option (Bor (List ℕ))) (l : PairLine) → IsCut text line more → l ≡ line_read names line
    → with_line pairs row l ≡ Ok next
    → pairs_from names pairs row (lines text) ≡ read_on names next (row + 1) more
good-line names pairs next row text line None l h is good =
    ap (pairs_from names pairs row) h ∙ from-next names pairs next row line [] l is good
    ∙ from-end names next (row + 1)
good-line names pairs next row text line (Some m) l h is good =
    ap (pairs_from names pairs row) h.0 ∙ from-next names pairs next row line (lines m.now) l is
    good

pub line-good : (names : List Text) (text line : List ℕ) (rows next : List Items) (row : ℕ)
    (at more : Option (Bor (List ℕ))) (part : Bor (List ℕ)) (l : PairLine)
    (r : IsReading names text rows row at) → at ≡ Some part → IsCut part.now line more
    → l ≡ line_read names line → IsTaken (length names) r.pairs row l next
    → IsReading names text next (row + 1) more
line-good names text line rows next row at more part l r e cut is taken = record {
  pairs = taken.pairs;
  so_far = r.so_far ∙ ap (read_on names r.pairs row) e
      ∙ good-line names r.pairs taken.pairs row part.now line more l cut is taken.read;
  small = taken.small;
  are_rows = taken.are_rows;
}

bad-line : (names : List Text) (pairs : List (ℕ × ℕ)) (row : ℕ) (text line : List ℕ)
    (more : Option (Bor (List ℕ))) (l : PairLine) (fault : PairFault) → IsCut text line more
    → l ≡ line_read names line → with_line pairs row l ≡ Err fault
    → pairs_from names pairs row (lines text) ≡ Err fault
bad-line names pairs row text line None l fault h is bad =
    ap (pairs_from names pairs row) h ∙ from-fault names pairs row line [] fault
    (ap (with_line pairs row) (sym is) ∙ bad)
bad-line names pairs row text line (Some m) l fault h is bad =
    ap (pairs_from names pairs row) h.0 ∙ from-fault names pairs row line (lines m.now) fault
    (ap (with_line pairs row) (sym is) ∙ bad)

pub line-bad : (names : List Text) (text line : List ℕ) (rows : List Items) (row : ℕ)
    (at more : Option (Bor (List ℕ))) (part : Bor (List ℕ)) (l : PairLine) (e : PairFault)
    (r : IsReading names text rows row at) → at ≡ Some part → IsCut part.now line more
    → l ≡ line_read names line → IsPairFaultOf (with_line r.pairs row l) e
    → IsPairFaultOf (pairs_of_file names text) e
line-bad names text line rows row at more part l e r same cut is bad =
    fault-told (pairs_of_file names text) (with_line r.pairs row l) e
    (λ fault f. r.so_far ∙ ap (read_on names r.pairs row) same
    ∙ bad-line names r.pairs row part.now line more l fault cut is f) bad

-- ---- the rows that a call is given

pub given-many : (n : ℕ) (pairs : List (ℕ × ℕ)) (given rows : List Items) → given ≡ rows
    → AreRows n pairs rows → length given ≡ n
given-many n pairs given rows e are = ap length e ∙ are.each_item

pub given-pairs : (n : ℕ) (pairs : List (ℕ × ℕ)) (given rows : List Items) → given ≡ rows
    → AreRows n pairs rows → ArePairs n pairs → ArePairs (length given) pairs
given-pairs n pairs given rows e are =
    subst (λ m. ArePairs m pairs) (sym (given-many n pairs given rows e are))

pub given-rows : (n : ℕ) (pairs : List (ℕ × ℕ)) (given rows : List Items) → given ≡ rows
    → AreRows n pairs rows → AreRows (length given) pairs given
given-rows n pairs given rows e are = record {
  each_item = refl;
  same = λ low high. ap (λ rs. has (below_of rs high) low) e ∙ are.same low high;
}
