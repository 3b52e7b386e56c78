-- Rows, as a map from names keeps them.
use Rattle.ls_class.proofs.Vocabulary.{◌++◌, ◌||◌, ◌∙◌, ◌∷◌, ◌≡◌, Global, Items, List, Row, String, Text, [], ap, bytes_eq, cases_Bool, false, inl, inr, is_named, is_some, list_any, map, refl, string_bytes, true, true≢false}
use Rattle.std.specs.Map.{keys_of, lookup}
use Rattle.std.proofs.lemmas.Map.Made.{is_some-lookup}
use Rattle.std.specs.String.{string_eq}
use Rattle.indexmap.specs.IndexMap.{insert_entry}

abbrev pub Entry : Type 0
Entry = String Global × Items

abbrev pub row_kept : Entry → Row
row_kept e = record { name = string_bytes e.0; right = e.1 }

-- the names of the rows are the keys
named-kept : (es : List Entry) (name : Text) → list_any (λ k. bytes_eq name (string_bytes k)) (keys_of es) ≡ is_named (map (λ row. row.name) (map row_kept es)) name
named-kept [] name = refl
named-kept (e ∷ es) name = ap (λ b. bytes_eq name (string_bytes e.0) || b) (named-kept es name)

-- whether a row has the name
pub named-rows : (es : List Entry) (name : Text) (rows : List Row) → map row_kept es ≡ rows → is_some (lookup (λ k. bytes_eq name (string_bytes k)) es) ≡ is_named (map (λ row. row.name) rows) name
named-rows es name rows is = is_some-lookup (λ k. bytes_eq name (string_bytes k)) es ∙ named-kept es name ∙ ap (λ (rs : List Row). is_named (map (λ row. row.name) rs) name) is

last : (es : List Entry) (text : String Global) (right : Items) → is_named (map (λ row. row.name) (map row_kept es)) (string_bytes text) ≡ false
    → map row_kept (insert_entry string_eq es text right) ≡ map row_kept es ++ row_kept (text, right) ∷ []
last [] text right h = refl
last (e ∷ es) text right h =
    elim (cases_Bool (bytes_eq (string_bytes text) (string_bytes e.0))) [
      | inl again ↦ absurd (let same : true ≡ false = rw again at h in true≢false same)
      | inr new ↦ let others : is_named (map (λ row. row.name) (map row_kept es)) (string_bytes text) ≡ false = rw new at h in rw new (ap (λ rows. row_kept e ∷ rows) (last es text right others))
    ]

-- a row with a new name goes last
pub put_last : (es : List Entry) (text : String Global) (right : Items) (rows : List Row) (name : Text) → map row_kept es ≡ rows → string_bytes text ≡ name → is_named (map (λ row. row.name) rows) name ≡ false
    → map row_kept (insert_entry string_eq es text right) ≡ rows ++ record { name = name; right = right } ∷ []
put_last es text right rows name are is new = rw (← are, ← is) (last es text right (rw (are, is) new))
