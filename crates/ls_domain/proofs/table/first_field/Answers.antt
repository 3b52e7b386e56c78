use Rattle.ls_domain.proofs.Vocabulary.{◌∙◌, ◌∷◌, ◌≡◌, Bor, List, None, Option, Some, ℕ, [], ap, field_at, first_field, option_map, refl, unwrap_or}
use Rattle.ls_domain.proofs.table.first_field.Goals as goal

at_front : (fields : List (List ℕ)) (o : Option (Bor (List ℕ))) (d : Bor (List ℕ)) → option_map (λ s. s.now) o ≡ field_at fields 0 → d.now ≡ [] → (unwrap_or o d).now ≡ first_field fields
unfolding field_at
at_front [] None d is none = none
at_front [] (Some f) d is none = cc
at_front (x ∷ xs) None d is none = cc
at_front (x ∷ xs) (Some f) d is none = cc

pub returns : goal.returns
returns c = ap (λ s. s.now) c.unwrap_or.ensures ∙ at_front _ c.get.result _ c.get.ensures.value refl
