-- Names and their numbers.
use Rattle.ls_domain.proofs.Vocabulary.{◌++◌, ◌+◌, ◌<◌, ◌∙◌, ◌∷◌, ◌≡◌, ◌≢◌, AllZip, AreNames, IsDistinct, IsUtf8, IsWithin, Items, List, None, OnSome, Option, PLACES, Some, String, Text, ℕ, [], ap, and_parts, ap₂, arith, bytes_eq, cases_Bool, false, full, get_or, has, inl, inr, is_name, is_named, is_some, is_some-position, item_of, items_of, length, length-append, list_all-append, ltb, map, map-append, members, name_of, nat_list_eq_equiv, nat_tests, number_of, position_or_len, refl, same_Some, same_set, set_of, slice_get, string_bytes, suc, sym, take, take_more, true, with, zero, list_all}
use Rattle.std.proofs.lemmas.List.Quantifiers.{position-Some}
use Rattle.std.proofs.lemmas.List.Sums.{position_or_len_is}
use Rattle.std.proofs.lemmas.Map.Keys.{IsDistinct-push}
use Rattle.std.proofs.lemmas.Map.Made.{AllPairs-from_IsDistinct}
use Rattle.std.proofs.lemmas.Slice.Eq.{bytes_eq-Decides}
use Rattle.std.proofs.lemmas.Str.{IsUtf8-from_ascii}
use Rattle.ls_cutting.specs.declared.kind.Kind.TheVariants.{Name}
use Rattle.ls_cutting.proofs.Solid.{is_of-ascii}

-- ---- one to one

differs : (v w : Text) → v ≢ w → bytes_eq w v ≡ false
differs v w ne = elim (cases_Bool (bytes_eq w v)) [ inl e ↦ absurd (ne (sym ((bytes_eq-Decides w v).0 e))) | inr e ↦ e ]

pub number_of-name_of : (names : List Text) (i : ℕ) → IsDistinct bytes_eq names → i < length names → number_of names (name_of names i) ≡ Some i
number_of-name_of names i distinct lt =
    let pairs = AllPairs-from_IsDistinct bytes_eq-Decides names distinct in
    let w : Text = name_of names i in
    let at : position_or_len (bytes_eq w) names ≡ i =
    position_or_len_is (bytes_eq w) names i [] (omega arith) (λ k below. differs (get_or names k []) w (pairs k i [] below lt)) (λ _. (bytes_eq-Decides w w).1 refl) in
    let within : ltb i (length names) ≡ true = grind (arith, nat_tests) in
    rw (at, within) refl

pub name_of-number_of : (names : List Text) (w : Text) (i : ℕ) → number_of names w ≡ Some i → name_of names i ≡ w
name_of-number_of names w i e = sym ((bytes_eq-Decides w (name_of names i)).0 (position-Some (bytes_eq w) names i [] e).1)

-- a word that has a number is a name, and has the item of that number
pub is_named-some : (names : List Text) (w : Text) (i : ℕ) → number_of names w ≡ Some i → is_named names w ≡ true
is_named-some names w i e = sym (is_some-position (bytes_eq w) names) ∙ ap is_some e

pub is_named-none : (names : List Text) (w : Text) → number_of names w ≡ None → is_named names w ≡ false
is_named-none names w e = sym (is_some-position (bytes_eq w) names) ∙ ap is_some e

pub item_of-some : (names : List Text) (w : Text) (i : ℕ) → number_of names w ≡ Some i → item_of names w ≡ i
item_of-some names w i e = rw e refl

-- the item at a place of the texts whose bytes are the names
at_place : {Y : Type 0} (ks : List (String Y)) (i : ℕ) (k : String Y) → Some k ≡ slice_get ks i
    → (i < length (map string_bytes ks)) × (name_of (map string_bytes ks) i ≡ string_bytes k)
at_place [] i k e = cc
at_place (x ∷ ks) zero k e = (omega arith, ap string_bytes (same_Some x k (sym e)))
at_place (x ∷ ks) (suc i) k e = let rest = at_place ks i k e in (omega (arith, rest.0), rest.1)

-- a hint is right where the text at its place is the word
pub hint-right : {Y : Type 0} (ks : List (String Y)) (names : List Text) (i : ℕ) (k : String Y)
    (w : Text) → map string_bytes ks ≡ names → AreNames names → Some k ≡ slice_get ks i
    → string_bytes k ≡ w → number_of names w ≡ Some i
hint-right ks names i k w is are e same =
    let at : (i < length names) × (name_of names i ≡ string_bytes k) =
    rw (← is) (at_place ks i k e) in
    ap (number_of names) (sym same ∙ sym at.1) ∙ number_of-name_of names i are.distinct at.0

-- a word that an item has is a name
named-is_name : (names : List Text) (w : Text) → list_all is_name names ≡ true
    → is_named names w ≡ true → is_name w ≡ true
named-is_name [] w all named = cc
named-is_name (v ∷ names) w all named =
    let parts = and_parts (is_name v) (list_all is_name names) all in
    elim (cases_Bool (bytes_eq w v)) [
      | inl e ↦ ap is_name ((bytes_eq-Decides w v).0 e) ∙ parts.0
      | inr e ↦ named-is_name names w parts.1 (rw e at named)
    ]

pub numbered-is_name : (names : List Text) (w : Text) (r : Option ℕ) → AreNames names
    → r ≡ number_of names w → OnSome r (is_name w ≡ true)
numbered-is_name names w None are e = tt
numbered-is_name names w (Some i) are e =
    named-is_name names w are.named (is_named-some names w i (sym e))

pub numbered-place : (names : List Text) (w : Text) (i : ℕ) → AreNames names
    → number_of names w ≡ Some i → i < PLACES
numbered-place names w i are e =
    let lt = (position-Some (bytes_eq w) names i [] e).0 in
    let few = are.few in
    omega (arith, lt, few)

-- ---- one name more

-- a name is text
pub is_name-utf8 : (w : Text) → is_name w ≡ true → IsUtf8 w
is_name-utf8 w e = IsUtf8-from_ascii w (is_of-ascii Name w e)

-- and what is no text has no number
pub number-none : (names : List Text) (w : Text) → AreNames names → (IsUtf8 w → ⊥)
    → None ≡ number_of names w
number-none names w are other =
    elim (number_of names w) as (λ o. number_of names w ≡ o → None ≡ o) [
      | None ↦ λ e. refl
      | Some i ↦ λ e. absurd (other (is_name-utf8 w (numbered-is_name names w (Some i) are (sym e))))
    ] refl

pub AreNames-nil : AreNames []
unfolding IsDistinct
AreNames-nil = record { few = omega arith; named = refl; distinct = tt }

pub AreNames-push : (names : List Text) (w : Text) → AreNames names → is_name w ≡ true → is_named names w ≡ false → length names < PLACES → AreNames (names ++ w ∷ [])
AreNames-push names w are name new room = record {
  few = omega (arith, length-append names (w ∷ []));
  named = list_all-append is_name names (w ∷ []) ∙ rw (are.named, name) refl;
  distinct = IsDistinct-push nat_list_eq_equiv names w are.distinct new;
}

-- copies of texts have their bytes
pub texts_of_clones : {Y : Type 0} (ks ls : List (String Y)) → AllZip (λ s t. string_bytes t ≡ string_bytes s) ks ls → map string_bytes ls ≡ map string_bytes ks
texts_of_clones [] [] h = refl
texts_of_clones [] (l ∷ ls) h = absurd h
texts_of_clones (k ∷ ks) [] h = absurd h
texts_of_clones (k ∷ ks) (l ∷ ls) h = ap₂ (λ b bs. b ∷ bs) h.0 (texts_of_clones ks ls h.1)

-- ---- sets of items

with-with : (s : Items) (i j : ℕ) → with (with s i) j ≡ with (with s j) i
with-with s i j = same_set _ _ (λ k. grind (arith, members, nat_tests))

set_of-append : (is : List ℕ) (i : ℕ) → set_of (is ++ i ∷ []) ≡ with (set_of is) i
set_of-append [] i = refl
set_of-append (j ∷ is) i = ap (λ s. with s j) (set_of-append is i) ∙ with-with (set_of is) i j

-- the set of the items that one word more names
pub items_of-next : (names words : List Text) (i : ℕ) (w : Text) (item : ℕ) (s : Items) → i < length words → w ≡ get_or words i w → number_of names w ≡ Some item → s ≡ items_of names (take i words)
    → with s item ≡ items_of names (take (i + 1) words)
items_of-next names words i w item s lt at number is =
    let next : take (i + 1) words ≡ take i words ++ w ∷ [] = take_more words i w lt ∙ ap (λ v. take i words ++ v ∷ []) (sym at) in
    ap₂ with is (sym (item_of-some names w item number)) ∙ sym (ap (items_of names) next ∙ ap set_of (map-append (item_of names) (take i words) (w ∷ [])) ∙ set_of-append (map (item_of names) (take i words)) (item_of names w))

pub with-within : (s : Items) (i n : ℕ) → IsWithin s (full n) → i < n → IsWithin (with s i) (full n)
with-within s i n within lt k h = elim (cases_Bool (has s k)) [ inl e ↦ within k e | inr e ↦ grind (arith, members, nat_tests) ]
