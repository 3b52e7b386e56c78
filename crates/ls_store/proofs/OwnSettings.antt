-- The settings that an object has.
use Rattle.ls_store.proofs.Vocabulary.{◌∙◌, ◌≡◌, Data, List, None, Option, Ratios, Settings, Some, Version, ℕ, ap, ap₂, length, limits_field, odds_field, option_zip, refl, settings_fields, settings_parts}
use Rattle.ls_codecs.proofs.Inverse.{zip-some}
use Rattle.ls_codecs.proofs.Read.{odds-read}

-- the settings that are read are those of n items
pub settings-count : (v : Version) (n : ℕ) (d : Data) (s : Settings) → (settings_fields v n).find_in d ≡ Some (settings_parts s) → length s.ratios ≡ n
settings-count v n d s e = (odds-read v n d s.ratios (zip-some ((odds_field v n).find_in d) (limits_field.find_in d) (settings_parts s) e).0).0

-- the settings of an object, by its odds and its limits
module _ (v : Version) (n : ℕ) (d : Data) where
  pub settings-read : (ratios : List Ratios) (limits : ℕ × ℕ) → (odds_field v n).find_in d ≡ Some ratios → limits_field.find_in d ≡ Some limits → (settings_fields v n).find_in d ≡ Some (ratios, limits)
  settings-read ratios limits e f = ap₂ option_zip e f

  pub no_odds : (odds_field v n).find_in d ≡ None → (settings_fields v n).find_in d ≡ None
  no_odds e = ap (λ (o : Option (List Ratios)). option_zip o (limits_field.find_in d)) e

  pub no_limits : limits_field.find_in d ≡ None → (settings_fields v n).find_in d ≡ None
  no_limits f = ap (option_zip ((odds_field v n).find_in d)) f ∙ none ((odds_field v n).find_in d)
    where
      none : (o : Option (List Ratios)) → option_zip o (let p : Option (ℕ × ℕ) = None in p) ≡ None
      none None = refl
      none (Some ratios) = refl
