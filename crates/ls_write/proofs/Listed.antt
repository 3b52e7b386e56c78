-- Texts that are listed with commas: what was said, and what is left to say.
use Rattle.ls_write.proofs.Vocabulary.{◌++◌, ◌+◌, ◌<◌, ◌∙◌, ◌∷◌, ◌≡◌, ◌≤◌, Bool, List, Text, ℕ, [], ap, append-nil, append_assoc, comma_if, drop, drop-next, drop_all, drop_more, false, filter, get_or, length, listed, map, refl, sym, true}

-- the list that is left is said behind what was given, and that is the whole
abbrev pub Completes : {X : Type 0} → (X → Text) → Text → Bool → List X → Text → Type 0
Completes text given later left whole = given ++ listed text later left ≡ whole

-- images in the list
pub listed-map : {X Y : Type 0} (text : Y → Text) (f : X → Y) (later : Bool) (xs : List X) → listed text later (map f xs) ≡ listed (λ x. text (f x)) later xs
listed-map text f later [] = refl
listed-map text f later (x ∷ xs) = ap (λ l. comma_if later ++ (text (f x) ++ l)) (listed-map text f true xs)

module _ {X : Type 0} (text : X → Text) (given whole : Text) (later : Bool) where
  pub listed-next : (x : X) (left : List X) → Completes text given later (x ∷ left) whole → Completes text (given ++ (comma_if later ++ text x)) true left whole
  listed-next x left h =
      append_assoc given (comma_if later ++ text x) (listed text true left)
      ∙ ap (λ l. given ++ l) (append_assoc (comma_if later) (text x) (listed text true left)) ∙ h

  pub listed-end : (left : List X) → left ≡ [] → Completes text given later left whole → given ≡ whole
  listed-end left e h = sym (append-nil given) ∙ ap (λ l. given ++ listed text later l) (sym e) ∙ h

  module _ (xs : List X) (i : ℕ) where
    pub place-next : (d : X) → i < length xs → Completes text given later (drop i xs) whole → Completes text (given ++ (comma_if later ++ text (get_or xs i d))) true (drop (i + 1) xs) whole
    place-next d lt h = listed-next (get_or xs i d) (drop (i + 1) xs) (ap (λ l. given ++ listed text later l) (sym (drop_more xs i d lt)) ∙ h)

    pub place-end : length xs ≤ i → Completes text given later (drop i xs) whole → given ≡ whole
    place-end le h = listed-end (drop i xs) (drop_all i xs le) h

    module _ (p : X → Bool) where
      pub taken : (x : X) → i < length xs → x ≡ get_or xs i x → p x ≡ true → Completes text given later (filter p (drop i xs)) whole → Completes text (given ++ (comma_if later ++ text x)) true (filter p (drop (i + 1) xs)) whole
      taken x lt at passes h =
          let one : filter p (x ∷ drop (i + 1) xs) ≡ x ∷ filter p (drop (i + 1) xs) = rw passes refl in
          listed-next x (filter p (drop (i + 1) xs)) (ap (λ l. given ++ listed text later l) (sym (ap (filter p) (drop-next xs i x lt at) ∙ one)) ∙ h)

      pub passed : (x : X) → i < length xs → x ≡ get_or xs i x → p x ≡ false → Completes text given later (filter p (drop i xs)) whole → Completes text given later (filter p (drop (i + 1) xs)) whole
      passed x lt at fails h =
          let none : filter p (x ∷ drop (i + 1) xs) ≡ filter p (drop (i + 1) xs) = rw fails refl in
          ap (λ l. given ++ listed text later l) (sym (ap (filter p) (drop-next xs i x lt at) ∙ none)) ∙ h

      pub filter-end : length xs ≤ i → Completes text given later (filter p (drop i xs)) whole → given ≡ whole
      filter-end le h = listed-end (filter p (drop i xs)) (ap (filter p) (drop_all i xs le)) h
