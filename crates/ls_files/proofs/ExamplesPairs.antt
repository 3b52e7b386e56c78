-- Examples of files of pairs on the items a b c.
use Rattle.std.proofs.Common.{◌≡◌, refl, ℕ, List, [], ◌∷◌, Ok, Err, Result, codes}
use Rattle.ls_set.specs.ItemSet.{Items, has, empty, with, union, single, is_same}
use Rattle.ls_cutting.specs.Lines.{Text, lines, words}
use Rattle.ls_cutting.specs.Kinds.{is_of}
use Rattle.ls_origins.specs.Relations.{relation, covers}
use Rattle.ls_origins.specs.declared.pair_fault.PairFault.{PairFault}
use Rattle.ls_origins.specs.declared.pair_fault.PairFault.TheVariants.{BadLine, UnknownItem, Cycle}
use Rattle.ls_files.specs.PairFiles.{line_read, pairs_from, acyclic, relation_of, covers_text}

unfoldable reading : ℕ
unfolding has empty with union single is_same lines words is_of relation covers line_read pairs_from
    acyclic relation_of covers_text
reading = 0

abbrev names : List Text
names = codes "a" ∷ codes "b" ∷ codes "c" ∷ []

abbrev answer : List ℕ → Result (List Items) PairFault
answer = relation_of names

abbrev set : ℕ → Items
set digits = record { digits = digits }

abbrev chain : List Items
chain = set 1 ∷ set 3 ∷ set 7 ∷ []

a_chain : answer (codes "a b\nb c\na c\n") ≡ Ok chain
unfolding reading
a_chain = refl

-- notes, empty lines, a line of commas alone, a carriage return, and no line feed at the end
with_notes : answer (codes "# a below b\n\na,b\r\n , ,\n\tb c # no note") ≡ Err (BadLine 5)
unfolding reading
with_notes = refl

passed_over : answer (codes "  # a below b\n\na,b\r\n , ,\n\tb  c ") ≡ Ok chain
unfolding reading
passed_over = refl

none : answer [] ≡ Ok (set 1 ∷ set 2 ∷ set 4 ∷ [])
unfolding reading
none = refl

one_word : answer (codes "a b\nc\n") ≡ Err (BadLine 2)
unfolding reading
one_word = refl

-- a colon is a word
with_colon : answer (codes "a:b") ≡ Err (BadLine 1)
unfolding reading
with_colon = refl

-- at one line a word that is no name stands before one that no item has, and at two lines the first
-- is told
unknown : answer (codes "a b\nz a") ≡ Err (UnknownItem 2)
unfolding reading
unknown = refl

no_name : answer (codes "z {a}\nz b") ≡ Err (BadLine 1)
unfolding reading
no_name = refl

earlier : answer (codes "z b\na") ≡ Err (UnknownItem 1)
unfolding reading
earlier = refl

-- a cycle is told after all lines
a_cycle : answer (codes "a b\nb a\n") ≡ Err (Cycle 0)
unfolding reading
a_cycle = refl

then_bad : answer (codes "a b\nb a\nc\n") ≡ Err (BadLine 3)
unfolding reading
then_bad = refl

repeated : answer (codes "a b\na b\n") ≡ Ok (set 1 ∷ set 3 ∷ set 4 ∷ [])
unfolding reading
repeated = refl

-- the covers of the chain, and what is read of them
chain_covers : covers_text names (covers 3 chain) ≡ codes "a b\nb c\n"
unfolding reading
chain_covers = refl

read_back : answer (covers_text names (covers 3 chain)) ≡ Ok chain
unfolding reading
read_back = refl
