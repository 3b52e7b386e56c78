-- A pupil, from the parts of its object.
use Rattle.ls_store.proofs.Vocabulary.{Bool, Data, List, None, Option, Pupil, Query, Ratios, Reply, Settings, Some, Start, Text, Version, ap, are_apart, cond, false, is_good, is_name, is_pupil, is_same_query, kept_if, list_all, name_field, option_map, option_zip, pupil_codec, pupil_from, refl, replies_field, settings_fields, settings_parts, start_field, true, yes_field, ℕ, ◌&&◌, ◌∙◌, ◌≡◌}
use Rattle.ls_store.proofs.CaseParts.{can_follow}

-- ---- the tests

-- whether the states are not too many and can be weighed, and the replies follow
abbrev pub is_followed : ℕ → Pupil → Bool
is_followed n p = can_follow n p.settings p.start p.yeses p.replies

-- whether the name and the queries are those of a pupil
abbrev pub is_spelled : ℕ → Pupil → Bool
is_spelled n p = is_name p.name && list_all (is_good n) p.yeses && are_apart is_same_query p.yeses

not-spelled : (n : ℕ) (p : Pupil) → is_spelled n p ≡ false → is_pupil n p ≡ false
unfolding is_pupil
not-spelled n p h = rw h refl

when-spelled : (n : ℕ) (p : Pupil) → is_spelled n p ≡ true → is_pupil n p ≡ is_followed n p
unfolding is_pupil
when-spelled n p h = rw h refl

-- ---- the parts

abbrev joined : Option Text → Option (List Ratios × (ℕ × ℕ)) → Option Start → Option (List Query) → Option (List Reply) → Option Pupil
joined name settings start own replies = option_map pupil_from (option_zip (option_zip name settings) (option_zip start (option_zip own replies)))

module _ (v : Version) (n : ℕ) (d : Data) (name : Text) (named : name_field.find_in d ≡ Some name) where
  parted : (name : Option Text) (settings : Option (List Ratios × (ℕ × ℕ))) (start : Option Start) (own : Option (List Query)) (replies : Option (List Reply))
      → name_field.find_in d ≡ name → (settings_fields v n).find_in d ≡ settings → (start_field n).find_in d ≡ start → (yes_field n).find_in d ≡ own → (replies_field n).find_in d ≡ replies
      → (pupil_codec v n).read d ≡ kept_if (is_pupil n) (joined name settings start own replies)
  parted name settings start own replies a b c e f =
      ap (λ x. kept_if (is_pupil n) (joined x ((settings_fields v n).find_in d) ((start_field n).find_in d) ((yes_field n).find_in d) ((replies_field n).find_in d))) a
      ∙ ap (λ x. kept_if (is_pupil n) (joined name x ((start_field n).find_in d) ((yes_field n).find_in d) ((replies_field n).find_in d))) b
      ∙ ap (λ x. kept_if (is_pupil n) (joined name settings x ((yes_field n).find_in d) ((replies_field n).find_in d))) c
      ∙ ap (λ x. kept_if (is_pupil n) (joined name settings start x ((replies_field n).find_in d))) e
      ∙ ap (λ x. kept_if (is_pupil n) (joined name settings start own x)) f

  -- the settings are read
  module _ (s : Settings) (e : (settings_fields v n).find_in d ≡ Some (settings_parts s)) where
    -- all parts are read
    module _ (own : List Query) (rs : List Reply) (start : Start) (f : (yes_field n).find_in d ≡ Some own) (g : (replies_field n).find_in d ≡ Some rs) (h : (start_field n).find_in d ≡ Some start) where
      abbrev pub own_pupil : Pupil
      own_pupil = record { name = name; start = start; yeses = own; settings = s; replies = rs }

      tested : (pupil_codec v n).read d ≡ kept_if (is_pupil n) (Some own_pupil)
      tested = parted (Some name) (Some (settings_parts s)) (Some start) (Some own) (Some rs) named e h f g

      fails : is_pupil n own_pupil ≡ false → (pupil_codec v n).read d ≡ None
      fails t = tested ∙ ap (λ b. cond b (Some own_pupil) None) t

      pub bad_spelling : is_spelled n own_pupil ≡ false → (pupil_codec v n).read d ≡ None
      bad_spelling t = fails (not-spelled n own_pupil t)

      pub not_followed : is_spelled n own_pupil ≡ true → is_followed n own_pupil ≡ false → (pupil_codec v n).read d ≡ None
      not_followed t u = fails (when-spelled n own_pupil t ∙ u)

      pub all_parts : is_spelled n own_pupil ≡ true → is_followed n own_pupil ≡ true → (pupil_codec v n).read d ≡ Some own_pupil
      all_parts t u = tested ∙ ap (λ b. cond b (Some own_pupil) None) (when-spelled n own_pupil t ∙ u)
