-- The first record, column by column.
use Rattle.ls_class.proofs.Vocabulary.{◌++◌, ◌+◌, ◌<◌, ◌==◌, ◌∙◌, ◌∷◌, ◌≡◌, ◌≢◌, Bool, IsDomain, IsUtf8, Items, List, None, Some, Text, ℕ, [], add-one, ap, ap₂, arith, bytes_eq, cases_Bool, columns_of, drop, eq-eqb, false, field_at, full, get_or, get_or_from_slice_get, inl, inr, is_name, is_name-utf8, is_named, is_named-none, is_named-some, is_same, item_of, item_of-some, items_of, items_of-next, length, list_all, map, mapped-next, name_of-number_of, ne_eqb, none-some, number_of, option_and_then, position-lt, refl, slice_get, slice_get-get_or, slice_get_past, slice_get_within, suc, sym, take, take-next, true, true≢false, with, zero}
use Rattle.std.proofs.Math.Bool.{and-false}
use Rattle.std.proofs.lemmas.List.Folds.{list_all-append}

-- ---- fields

pub field_at-get : (fields : List Text) (i : ℕ) → field_at fields i ≡ slice_get fields i
unfolding field_at
field_at-get [] i = sym (slice_get_past [] i (omega arith))
field_at-get (f ∷ fields) zero = refl
field_at-get (f ∷ fields) (suc i) = field_at-get fields i

behind : (fields : List Text) (i : ℕ) → field_at fields (suc i) ≡ slice_get (drop 1 fields) i
unfolding field_at
behind [] i = sym (slice_get_past [] i (omega arith))
behind (f ∷ fields) i = field_at-get fields i

-- the fields behind the first one
pub field-behind : (fields : List Text) (i : ℕ) → field_at fields (i + 1) ≡ slice_get (drop 1 fields) i
field-behind fields i = ap (field_at fields) (add-one i) ∙ behind fields i

not_all : {X : Type 0} (p : X → Bool) (xs : List X) (i : ℕ) (d : X) → i < length xs → p (get_or xs i d) ≡ false → list_all p xs ≡ false
not_all p [] i d lt e = absurd (omega arith)
not_all p (x ∷ xs) zero d lt e = rw e refl
not_all p (x ∷ xs) (suc i) d lt e = rw (not_all p xs i d (omega arith) e) (and-false (p x))

-- bytes that are no text name no item
pub number_of-bytes : (names : List Text) (w : Text) → IsDomain names → (IsUtf8 w → ⊥) → number_of names w ≡ None
number_of-bytes names w domain no_text =
    elim (number_of names w) as (λ o. number_of names w ≡ o → number_of names w ≡ None) [
      | None ↦ λ e. e
      | Some i ↦ λ e.
          elim (cases_Bool (is_name w)) [
            | inl name ↦ absurd (no_text (is_name-utf8 w name))
            | inr never ↦
                let other : is_name (get_or names i []) ≡ false = ap is_name (name_of-number_of names w i e) ∙ never in
                absurd (true≢false (sym domain.are_names.named ∙ not_all is_name names i [] (position-lt (bytes_eq w) names i e) other))
          ]
    ] refl

-- ---- one column

module _ (names ws : List Text) (i k : ℕ) (found : Some k ≡ option_and_then (number_of names) (slice_get ws i)) where
  word : (w : Text) × (slice_get ws i ≡ Some w) × (number_of names w ≡ Some k)
  word = elim (slice_get ws i) as (λ o. slice_get ws i ≡ o → Some k ≡ option_and_then (number_of names) o → (w : Text) × (slice_get ws i ≡ Some w) × (number_of names w ≡ Some k)) [
    | None ↦ λ e f. absurd (none-some k (sym f))
    | Some w ↦ λ e f. (w, e, sym f)
  ] refl found

  more : take (i + 1) ws ≡ take i ws ++ word.0 ∷ []
  more = ap (λ j. take j ws) (add-one i) ∙ take-next ws i word.0 word.1

  pub next-items : (items : List ℕ) → items ≡ map (item_of names) (take i ws) → items ++ k ∷ [] ≡ map (item_of names) (take (i + 1) ws)
  next-items items is = ap₂ (λ a b. a ++ b ∷ []) is (sym (item_of-some names word.0 k word.2)) ∙ mapped-next (item_of names) ws i word.0 word.1

  pub next-named : list_all (is_named names) (take i ws) ≡ true → list_all (is_named names) (take (i + 1) ws) ≡ true
  next-named h = ap (list_all (is_named names)) more ∙ list_all-append (is_named names) (take i ws) (word.0 ∷ []) ∙ rw (h, is_named-some names word.0 k word.2) refl

  pub next-set : (s : Items) → s ≡ items_of names (take i ws) → with s k ≡ items_of names (take (i + 1) ws)
  next-set s is = items_of-next names ws i word.0 k s (slice_get_within ws i word.0 word.1) (sym (get_or_from_slice_get ws i word.0 word.0 word.1)) word.2 is

pub unnamed : (names ws : List Text) (i : ℕ) → i < length ws → None ≡ option_and_then (number_of names) (slice_get ws i) → list_all (is_named names) ws ≡ false
unnamed names ws i lt none =
    let w : Text = get_or ws i [] in
    let new : None ≡ number_of names w = none ∙ ap (option_and_then (number_of names)) (slice_get-get_or ws i [] lt) in
    not_all (is_named names) ws i [] lt (is_named-none names w (sym new))

-- ---- the record

pub columns_of-length : (names fields : List Text) → length fields ≢ length names + 1 → columns_of names fields ≡ None
unfolding columns_of
columns_of-length names [] ne = refl
columns_of-length names (corner ∷ ws) ne = rw (ne_eqb (length ws) (length names) (λ e. ne (omega (arith, e)))) refl

pub columns_of-unnamed : (names fields : List Text) → list_all (is_named names) (drop 1 fields) ≡ false → columns_of names fields ≡ None
unfolding columns_of
columns_of-unnamed names [] e = refl
columns_of-unnamed names (corner ∷ ws) e = grind (arith, e)

pub columns_of-left_out : (names fields : List Text) → is_same (items_of names (drop 1 fields)) (full (length names)) ≡ false → columns_of names fields ≡ None
unfolding columns_of
columns_of-left_out names [] e = refl
columns_of-left_out names (corner ∷ ws) e = grind (arith, e)

pub columns_of-good : (names fields : List Text) → length fields ≡ length names + 1 → list_all (is_named names) (drop 1 fields) ≡ true → is_same (items_of names (drop 1 fields)) (full (length names)) ≡ true
    → columns_of names fields ≡ Some (map (item_of names) (drop 1 fields))
unfolding columns_of
columns_of-good names [] long named all = absurd (omega (arith, long))
columns_of-good names (corner ∷ ws) long named all =
    let as_many : length ws ≡ length names = omega (arith, long) in
    rw (eq-eqb (length ws) (length names) as_many, named, all) refl

pub is_same-digits : (s t : Items) {b : Bool} → (s.digits == t.digits) ≡ b → is_same s t ≡ b
unfolding is_same
is_same-digits s t e = e
