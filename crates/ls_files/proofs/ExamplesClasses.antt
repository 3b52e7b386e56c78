-- Examples of class tables, as their records and as their bytes.
use Rattle.csv.proofs.OnLiterals.{csv_on_literals}
use Rattle.std.proofs.Common.{◌≡◌, refl, ℕ, List, [], ◌∷◌, Ok, Err, codes}
use Rattle.ls_set.specs.{empty, full, is_same, single, union, with}
use Rattle.ls_cutting.specs.{Text, is_of}
use Rattle.ls_theory.specs.{Row}
use Rattle.ls_files.specs.ClassTables.{class_in, class_of, columns_of, next_row, rows_from}

unfoldable reading : ℕ
unfolding empty full with union single is_same is_of columns_of next_row rows_from class_in class_of
reading = 0

abbrev names : List Text
names = codes "a" ∷ codes "b" ∷ codes "c" ∷ []

abbrev header : List Text
header = codes "pupil" ∷ codes "b" ∷ codes "c" ∷ codes "a" ∷ []

abbrev marks : Text → Text → Text → Text → List Text
marks name b c a = name ∷ b ∷ c ∷ a ∷ []

abbrev failed : Text
failed = codes "0"

abbrev passed : Text
passed = codes "1"

abbrev ann : List Text
ann = marks (codes "Ann") failed passed passed

abbrev bob : List Text
bob = marks (codes "Bob") failed failed failed

abbrev row : Text → ℕ → Row
row name digits = record { name = name; right = record { digits = digits } }

-- the marks stand in the order of the columns
both : class_in names (header ∷ ann ∷ bob ∷ []) ≡ Ok (row (codes "Ann") 5 ∷ row (codes "Bob") 0 ∷ [])
unfolding reading
both = refl

-- the first record alone
no_pupils : class_in names (header ∷ []) ≡ Ok []
unfolding reading
no_pupils = refl

nothing : class_in names [] ≡ Err 1
unfolding reading
nothing = refl

item_left_out : class_in names ((codes "pupil" ∷ codes "a" ∷ codes "b" ∷ []) ∷ ann ∷ []) ≡ Err 1
unfolding reading
item_left_out = refl

item_twice : class_in names ((codes "pupil" ∷ codes "a" ∷ codes "b" ∷ codes "a" ∷ []) ∷ ann ∷ []) ≡ Err 1
unfolding reading
item_twice = refl

unknown_item : class_in names ((codes "pupil" ∷ codes "a" ∷ codes "b" ∷ codes "d" ∷ []) ∷ ann ∷ []) ≡ Err 1
unfolding reading
unknown_item = refl

one_column_more : class_in names ((codes "pupil" ∷ codes "a" ∷ codes "b" ∷ codes "c" ∷ codes "a" ∷ []) ∷ []) ≡ Err 1
unfolding reading
one_column_more = refl

no_name : class_in names (header ∷ ann ∷ marks (codes "B b") failed failed failed ∷ []) ≡ Err 3
unfolding reading
no_name = refl

pupil_twice : class_in names (header ∷ ann ∷ bob ∷ ann ∷ []) ≡ Err 4
unfolding reading
pupil_twice = refl

no_mark : class_in names (header ∷ marks (codes "Ann") failed (codes "2") passed ∷ bob ∷ []) ≡ Err 2
unfolding reading
no_mark = refl

one_mark_less : class_in names (header ∷ (codes "Ann" ∷ failed ∷ passed ∷ []) ∷ []) ≡ Err 2
unfolding reading
one_mark_less = refl

one_mark_more : class_in names (header ∷ (codes "Ann" ∷ failed ∷ passed ∷ passed ∷ passed ∷ []) ∷ []) ≡ Err 2
unfolding reading
one_mark_more = refl

-- the bytes of a table, after a byte order mark
as_bytes : class_of (codes "a" ∷ codes "b" ∷ []) (239 ∷ 187 ∷ 191 ∷ codes ",b,a\nAnn,1,0\nBob,0,1\n") ≡ Ok (row (codes "Ann") 2 ∷ row (codes "Bob") 1 ∷ [])
unfolding reading csv_on_literals
as_bytes = refl

no_bytes : class_of names [] ≡ Err 1
unfolding reading csv_on_literals
no_bytes = refl
