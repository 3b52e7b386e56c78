-- The text of a surmise function is that of its pieces.
use Rattle.ls_write.proofs.Vocabulary.{◌++◌, ◌∙◌, ◌∷◌, ◌≡◌, IsDomain, Items, List, Text, [], ap}
use Rattle.ls_write.proofs.Vocabulary.{atoms_at, clause_text, clauses_at, clauses_text, codes}
use Rattle.ls_write.proofs.Vocabulary.{compact_text, false, items_by_name, length, line_bytes}
use Rattle.ls_write.proofs.Vocabulary.{line_of, listed, names_of_set, refl, row_text, rows_text}
use Rattle.ls_write.proofs.Vocabulary.{surmise_line, quoted_name, sym}
use Rattle.serde_json.specs.Data.{string}
use Rattle.ls_files.specs.SurmiseFiles.{list_value, clause_value, members_from, surmise_text}
use Rattle.ls_write.proofs.Rows.{array-listed, line-braced, listed-same, rows-listed}

clause-is : (names : List Text) (c : Items) → compact_text (clause_value names c)
    ≡ clause_text names c
clause-is names c = ap (λ l. 91 ∷ l) (array-listed string false (names_of_set names c))

clauses-are : (names : List Text) (own : List Items)
    → compact_text (list_value (clause_value names) own) ≡ clauses_text names own
clauses-are names own =
    ap (λ l. 91 ∷ l) (array-listed (clause_value names) false own
    ∙ ap
    (λ l. l ++ 93 ∷ [])
    (listed-same (λ c. compact_text (clause_value names c)) (clause_text names) false own
    (clause-is names)))

surmise-rows : (names : List Text) (sets : List Items) → IsDomain names
    → surmise_text names (clauses_at (length names) sets) ≡ rows_text names sets
unfolding surmise_text rows_text members_from
surmise-rows names sets is =
    rows-listed names is.are_names.distinct (list_value (clause_value names)) (members_from names)
    refl (λ w ws r rs. refl) (atoms_at sets) (row_text names sets)
    (λ i. ap (λ l. quoted_name names i ++ 58 ∷ l) (clauses-are names (atoms_at sets i)))

pub line-surmise : (names : List Text) (sets : List Items) → IsDomain names
    → (codes "surmise {" ++ listed (row_text names sets) false (items_by_name names)) ++ codes "}\n"
    ≡ line_bytes (surmise_line names (clauses_at (length names) sets))
unfolding line_of rows_text
line-surmise names sets is =
    line-braced (codes "surmise") (listed (row_text names sets) false (items_by_name names))
    ∙ ap (λ t. line_of (codes "surmise" ∷ t ∷ [])) (sym (surmise-rows names sets is))
