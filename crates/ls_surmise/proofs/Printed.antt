-- The names of a clause, as values.
use Rattle.ls_surmise.proofs.Vocabulary.{◌++◌, ◌∙◌, ◌∷◌, ◌≡◌, Global, List, String, Text, Value, ℕ, [], ap, ap₂, map, map_push, name_of, rules, string, string_bytes, sym, the_lemmas, view}
use Rattle.serde_json.specs.declared.value.Value.TheVariants as variant

view-String : (s : String Global) → view (variant.String s) ≡ string (string_bytes s)
view-String s = search (rules, the_lemmas)

-- one more name of a clause
pub name-next : (names : List Text) (done : List ℕ) (i : ℕ) (values more : List Value) (s : String Global) → map view values ≡ map string (map (name_of names) done) → string_bytes s ≡ name_of names i → more ≡ values ++ variant.String s ∷ []
    → map view more ≡ map string (map (name_of names) (done ++ i ∷ []))
name-next names done i values more s so_far is e =
    ap (map view) e ∙ map_push view values (variant.String s)
    ∙ ap₂ (λ ds d. ds ++ d ∷ []) so_far (view-String s ∙ ap string is)
    ∙ sym (ap (map string) (map_push (name_of names) done i) ∙ map_push string (map (name_of names) done) (name_of names i))
