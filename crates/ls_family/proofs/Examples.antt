-- Examples: lines of set files, and the sets and the first faults of files.
use Rattle.ls_family.proofs.Vocabulary.{◌∷◌, ◌≡◌, Bad, BadLine, Err, List, Ok, Passed, Repeat, Set, Text, Unknown, UnknownItem, [], bound, codes, comes_before, differing, empty, found_from, has, is_of, is_same, items, least, line_read, lines, refl, set_of, sets_of, single, union, with}

abbrev names : List Text
names = codes "a" ∷ codes "b" ∷ codes "c" ∷ []

-- ---- lines

parted_anyhow : line_read names (codes " \t{ a,,b\tb }\t\r") ≡ Set (set_of (0 ∷ 1 ∷ []))
unfolding line_read is_of with union single empty
parted_anyhow = refl

empty_set : line_read names (codes "{ , }") ≡ Set empty
unfolding line_read is_of with union single empty
empty_set = refl

empty_line : line_read names (codes " \t\r") ≡ Passed
unfolding line_read
empty_line = refl

note : line_read names (codes "\t# {a}") ≡ Passed
unfolding line_read
note = refl

commas_alone : line_read names (codes ",,") ≡ Bad
unfolding line_read
commas_alone = refl

more_behind : line_read names (codes "{a} b") ≡ Bad
unfolding line_read
more_behind = refl

two_sets : line_read names (codes "{a}{b}") ≡ Bad
unfolding line_read
two_sets = refl

no_name : line_read names (codes "{d a:b}") ≡ Bad
unfolding line_read is_of
no_name = refl

no_item : line_read names (codes "{a d}") ≡ Unknown
unfolding line_read is_of
no_item = refl

-- ---- files

in_order : sets_of names (codes "{b}\n\n# b\n{}\r\n{b a}") ≡ Ok (set_of (1 ∷ 0 ∷ []) ∷ set_of (1 ∷ []) ∷ empty ∷ [])
unfolding sets_of found_from lines line_read is_of with union single empty is_same comes_before least differing items bound has
in_order = refl

no_set : sets_of names (codes "") ≡ Ok []
unfolding sets_of found_from lines line_read
no_set = refl

repeated : sets_of names (codes "{a b}\n# b\n{b}\n{b,a,b}\n{d}") ≡ Err (Repeat 4 1)
unfolding sets_of found_from lines line_read is_of with union single empty is_same comes_before least differing items bound has
repeated = refl

unknown_first : sets_of names (codes "{}\n{d}\n{") ≡ Err (UnknownItem 2)
unfolding sets_of found_from lines line_read is_of with union single empty
unknown_first = refl

bad_first : sets_of names (codes "\na\n{d}") ≡ Err (BadLine 2)
unfolding sets_of found_from lines line_read
bad_first = refl
