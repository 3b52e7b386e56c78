-- Examples: the names of tables and of words, and the first fault of those that are no names of items.
use Rattle.std.proofs.Common.{ℕ, ◌≡◌, refl, List, [], ◌∷◌, ◌++◌, map, codes, replicate, Result, Ok, Err}
use Rattle.csv.proofs.OnLiterals.{csv_on_literals}
use Rattle.ls_lines.specs.{Text, is_of}
use Rattle.ls_domain.specs.Domains.{names_from, names_of_words, names_of_table}
use Rattle.ls_domain.specs.declared.domain_fault.DomainFault.{DomainFault}
use Rattle.ls_domain.specs.declared.domain_fault.DomainFault.TheVariants.{NoItems, BadCsv, BadName, Repeat}

unfoldable reading : ℕ
unfolding csv_on_literals is_of names_from
reading = 0

abbrev two_names : Result (List Text) DomainFault
two_names = Ok (codes "add" ∷ codes "sub" ∷ [])

abbrev byte_order_mark : List ℕ
byte_order_mark = 239 ∷ 187 ∷ 191 ∷ []

-- further fields, line ends, empty lines, quotes and bytes that are no text
read : map names_of_table (
    codes "add\nsub\n"
    ∷ codes "add,1\r\nsub,2\r\n"
    ∷ (byte_order_mark ++ codes "add\nsub")
    ∷ codes "\n\nadd\n\nsub\n"
    ∷ codes "\"add\",\"a, b\"\n\"sub\",\"\"\"x\n\""
    ∷ (codes "add," ++ 255 ∷ codes "\nsub," ++ 254 ∷ [])
    ∷ []) ≡ replicate 6 two_names
unfolding reading
read = refl

no_items : map names_of_table ([] ∷ byte_order_mark ∷ []) ≡ Err NoItems ∷ Err NoItems ∷ []
unfolding reading
no_items = refl

-- a record of more fields or of fewer than the first
uneven : map names_of_table (codes "add\nsub,1\nadd" ∷ codes "add,1\nsub,2\nmul\n" ∷ codes "add\n,\nadd\n" ∷ [])
    ≡ Err (BadCsv 2) ∷ Err (BadCsv 3) ∷ Err (BadCsv 2) ∷ []
unfolding reading
uneven = refl

-- the quote of the last table is never closed, so its second name has a line feed in it
no_name : map names_of_table (
    codes "add\na b\n"
    ∷ (codes "add\n" ++ 255 ∷ codes "\n")
    ∷ (byte_order_mark ++ byte_order_mark ++ codes "add\n")
    ∷ codes "add\n\"sub\nmul"
    ∷ []) ≡ Err (BadName 2) ∷ Err (BadName 2) ∷ Err (BadName 1) ∷ Err (BadName 2) ∷ []
unfolding reading
no_name = refl

repeated : names_of_table (codes "add\nsub\nadd\n") ≡ Err (Repeat 3 1)
unfolding reading
repeated = refl

of_words : map names_of_words (
    (codes "b" ∷ codes "a" ∷ codes "c.2" ∷ [])
    ∷ []
    ∷ (codes "a" ∷ codes "b c" ∷ codes "a" ∷ [])
    ∷ (codes "a" ∷ codes "b" ∷ codes "a" ∷ codes "b" ∷ [])
    ∷ []) ≡ Ok (codes "b" ∷ codes "a" ∷ codes "c.2" ∷ []) ∷ Err NoItems ∷ Err (BadName 2) ∷ Err (Repeat 3 1) ∷ []
unfolding reading
of_words = refl
