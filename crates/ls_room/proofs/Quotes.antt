-- Names in quotes.
use Rattle.ls_room.proofs.Vocabulary.{◌++◌, ◌<◌, ◌∙◌, ◌∷◌, ◌≡◌, IsDomain, List, Text, ℕ, []}
use Rattle.ls_room.proofs.Vocabulary.{and_parts, ap, ap₂, arith, cases_Bool, cases_lt, escape}
use Rattle.ls_room.proofs.Vocabulary.{escape_byte, get_or_past, inl, inr, is_name, is_name_byte}
use Rattle.ls_room.proofs.Vocabulary.{is_of, length, list_all, name_of, nat_tests, quoted_name}
use Rattle.ls_room.proofs.Vocabulary.{refl, sym, true}
use Rattle.std.proofs.lemmas.List.Folds.{list_all_at}

-- a byte of a name stands for itself
plain-byte : (b : ℕ) → is_name_byte b ≡ true → escape_byte b ≡ b ∷ []
unfolding escape_byte
plain-byte b h = grind (arith, nat_tests)

-- and so does one before bytes that stand for themselves
pub plain-next : (b : ℕ) (w : Text) → escape_byte b ≡ b ∷ [] → escape w ≡ w → escape (b ∷ w) ≡ b ∷ w
plain-next b w first rest = ap₂ (λ x y. x ++ y) first rest

plain : (w : Text) → list_all is_name_byte w ≡ true → escape w ≡ w
plain [] h = refl
plain (b ∷ w) h =
    let both = and_parts (is_name_byte b) (list_all is_name_byte w) h in
    plain-next b w (plain-byte b both.0) (plain w both.1)

plain-name : (w : Text) → is_name w ≡ true → escape w ≡ w
unfolding is_of
plain-name w h = plain w (and_parts _ _ h).1

is_name-at : (names : List Text) (i : ℕ) → list_all is_name names ≡ true → i < length names
    → is_name (name_of names i) ≡ true
is_name-at names i all lt =
    elim (cases_Bool (is_name (name_of names i)))
    [ inl e ↦ e | inr e ↦ absurd (cc (all, list_all_at is_name names i [] lt e)) ]

-- and so does the name of any number, which is empty where no item has it
plain-item : (names : List Text) (i : ℕ) → list_all is_name names ≡ true → escape (name_of names i)
    ≡ name_of names i
plain-item names i all =
    elim (cases_lt i (length names)) [
      | inl l ↦ plain-name (name_of names i) (is_name-at names i all l)
      | inr l ↦
          let none : name_of names i ≡ [] = get_or_past names i [] l in
          ap escape none ∙ sym none
    ]

pub quotes : (names : List Text) (i : ℕ) (w : Text) → IsDomain names → w ≡ name_of names i
    → ((34 ∷ []) ++ w) ++ 34 ∷ [] ≡ quoted_name names i
quotes names i w is e =
    ap (λ v. 34 ∷ (v ++ 34 ∷ [])) (e ∙ sym (plain-item names i is.are_names.named))
