-- What is seen of the entries of a map of sets by their names.
use Rattle.std.proofs.Common.{◌≡◌, ◌∷◌, Bool, true, false, List, Ordering, Less, Equal, Greater}
use Rattle.std.proofs.Common.{String, [], ap, bytes_eq, cond, nat_cmp, refl, string_bytes}
use Rattle.std.proofs.Common.{unwrap_or, Some, find, length, suc, map, IsUtf8}
use Rattle.std.proofs.Common.{ℕ, zero, ◌<◌, ◌++◌, get_or, arith}
use Rattle.std.proofs.lemmas.List.{map_push}
use Rattle.std.specs.List.{AllByRecursion}
use Rattle.std.specs.BTreeMap.{insert_entry, is_at}
use Rattle.std.specs.Map.{lookup}
use Rattle.std.specs.Ordering.{match_ordering}
use Rattle.std.specs.Cmp.Lexicographic.{slice_cmp}
use Rattle.std.specs.String.{string_cmp}
use Rattle.std.specs.Option.{option_map_or}
use Rattle.std.proofs.lemmas.Str.{IsUtf8-string_bytes}
use Rattle.std.proofs.lemmas.Map.Text.{is_eq-slice_cmp, text_cmp}
use Rattle.ls_set.specs.ItemSet.{Items, empty}
use Rattle.ls_cutting.specs.Lines.{Text}
use Rattle.ls_files.specs.SkillFiles.{item_sets}
use Rattle.ls_skill.specs.Maps.{skill_names, skills_seen}
use Rattle.ls_skill.specs.Gathering.{held_by, put_skill}

module _ {Z : Type 0} where
  seen-at : (o : Ordering) (k l : String Z) (s t : Items) (es : List (String Z × Items))
      → skills_seen (insert_entry string_cmp es k s) ≡ put_skill (string_bytes k) s (skills_seen es)
      → skills_seen (match_ordering o ((k, s) ∷ (l, t) ∷ es) ((l, s) ∷ es)
      ((l, t) ∷ insert_entry string_cmp es k s))
      ≡ match_ordering o (skills_seen ((k, s) ∷ (l, t) ∷ es)) (skills_seen ((l, s) ∷ es))
      (record { name = string_bytes l; items = t } ∷ put_skill (string_bytes k) s (skills_seen es))
  seen-at Less k l s t es later = refl
  seen-at Equal k l s t es later = refl
  seen-at Greater k l s t es later =
      ap (λ ss. record { name = string_bytes l; items = t } ∷ ss) later

  pub seen-insert : (es : List (String Z × Items)) (k : String Z) (s : Items)
      → skills_seen (insert_entry string_cmp es k s) ≡ put_skill (string_bytes k) s (skills_seen es)
  seen-insert [] k s = refl
  seen-insert ((l, t) ∷ es) k s =
      seen-at (slice_cmp nat_cmp (string_bytes k) (string_bytes l)) k l s t es (seen-insert es k s)

  pub seen-held : (es : List (String Z × Items)) (w : Text)
      → unwrap_or (lookup (is_at (text_cmp w)) es) empty ≡ held_by (skills_seen es) w
  seen-held [] w = refl
  seen-held ((l, t) ∷ es) w =
      rw (is_eq-slice_cmp w (string_bytes l)) (at (bytes_eq w (string_bytes l)) (seen-held es w))
    where
      at : (b : Bool) → unwrap_or (lookup (is_at (text_cmp w)) es) empty
          ≡ held_by (skills_seen es) w
          → unwrap_or (cond b (Some t) (lookup (is_at (text_cmp w)) es)) empty
          ≡ option_map_or (λ s. s.items)
          (cond b (Some (record { name = string_bytes l; items = t }))
          (find (λ s. bytes_eq w s.name) (skills_seen es))) empty
      at true later = refl
      at false later = later

  pub seen-length : (es : List (String Z × Items)) → length (skills_seen es) ≡ length es
  seen-length [] = refl
  seen-length (e ∷ es) = ap suc (seen-length es)

  pub seen-utf8 : (es : List (String Z × Items))
      → AllByRecursion IsUtf8 (skill_names (skills_seen es))
  seen-utf8 [] = tt
  seen-utf8 (e ∷ es) = (IsUtf8-string_bytes e.0, seen-utf8 es)

  pub seen-sets : (es : List (String Z × Items)) → item_sets (skills_seen es) ≡ map (λ e. e.1) es
  seen-sets [] = refl
  seen-sets (e ∷ es) = ap (λ sets. e.1 ∷ sets) (seen-sets es)

  pub seen-place : (es : List (String Z × Items)) (p : ℕ) (x : String Z × Items)
      → p < length (skills_seen es) → get_or (item_sets (skills_seen es)) p empty
      ≡ (get_or es p x).1
  seen-place [] p x l = absurd (omega arith)
  seen-place (e ∷ es) zero x l = refl
  seen-place (e ∷ es) (suc p) x l = seen-place es p x (omega arith)

  pub seen-push : (es : List (String Z × Items)) (e : String Z × Items)
      → skills_seen (es ++ e ∷ []) ≡ skills_seen es
      ++ record { name = string_bytes e.0; items = e.1 } ∷ []
  seen-push es e =
      map_push (λ (x : String Z × Items). record { name = string_bytes x.0; items = x.1 }) es e
