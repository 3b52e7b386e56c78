-- Lists of values, read one after another.
use Rattle.ls_codecs.proofs.Vocabulary.{◌++◌, ◌+◌, ◌<◌, ◌∙◌, ◌∷◌, ◌≡◌, ◌≤◌, Data, List, None, Option, Some, Values, ℕ, [], ap, append-nil, append_assoc, arith, drop, drop-cons, four_values, get_or, items_view, length, option_and_then, option_map, read_each, refl, suc, sym, two_values, view}
use Rattle.std.proofs.lemmas.List.{drop_all}
use Rattle.serde_json.specs.declared.value.Value.{Value}

-- what was read, and the rest, are the whole
abbrev pub IsReadTo : {X : Type 0} → (Data → Option X) → List X → List Value → Option (List X) → Type 0
IsReadTo f xs rest whole = option_map (λ ys. xs ++ ys) (read_each f (items_view rest)) ≡ whole

next-item : (vs : List Value) (i : ℕ) (v : Value) → i < length vs → v ≡ get_or vs i v → drop i vs ≡ v ∷ drop (i + 1) vs
next-item vs i v l e = drop-cons vs i v l ∙ ap (λ y. y ∷ drop (suc i) vs) (sym e) ∙ ap (λ k. v ∷ drop k vs) (let k : suc i ≡ i + 1 = omega arith in k)

moved : {X : Type 0} (xs : List X) (x : X) (o : Option (List X)) → option_map (λ ys. (xs ++ x ∷ []) ++ ys) o ≡ option_map (λ ys. xs ++ ys) (option_map (λ ys. x ∷ ys) o)
moved xs x None = refl
moved xs x (Some ys) = ap Some (append_assoc xs (x ∷ []) ys)

pub read-next : {X : Type 0} (f : Data → Option X) (xs : List X) (x : X) (vs : List Value) (i : ℕ) (v : Value) (whole : Option (List X)) → i < length vs → v ≡ get_or vs i v → f (view v) ≡ Some x
    → IsReadTo f xs (drop i vs) whole → IsReadTo f (xs ++ x ∷ []) (drop (i + 1) vs) whole
read-next f xs x vs i v whole l e is h =
    let rest = read_each f (items_view (drop (i + 1) vs)) in
    moved xs x rest
    ∙ ap (λ o. option_map (λ ys. xs ++ ys) (option_and_then (λ y. option_map (λ ys. y ∷ ys) rest) o)) (sym is)
    ∙ ap (λ ws. option_map (λ ys. xs ++ ys) (read_each f (items_view ws))) (sym (next-item vs i v l e))
    ∙ h

pub read-none : {X : Type 0} (f : Data → Option X) (xs : List X) (vs : List Value) (i : ℕ) (v : Value) (whole : Option (List X)) → i < length vs → v ≡ get_or vs i v → f (view v) ≡ None
    → IsReadTo f xs (drop i vs) whole → None ≡ whole
read-none f xs vs i v whole l e is h =
    let rest = read_each f (items_view (drop (i + 1) vs)) in
    ap (λ o. option_map (λ ys. xs ++ ys) (option_and_then (λ y. option_map (λ ys. y ∷ ys) rest) o)) (sym is)
    ∙ ap (λ ws. option_map (λ ys. xs ++ ys) (read_each f (items_view ws))) (sym (next-item vs i v l e))
    ∙ h

pub read-last : {X : Type 0} (f : Data → Option X) (xs : List X) (vs : List Value) (i : ℕ) (whole : Option (List X)) → length vs ≤ i → IsReadTo f xs (drop i vs) whole → Some xs ≡ whole
read-last f xs vs i whole l h =
    ap Some (sym (append-nil xs)) ∙ ap (λ ws. option_map (λ ys. xs ++ ys) (read_each f (items_view ws))) (sym (drop_all i vs l)) ∙ h

-- ---- lists of two and of four

pub two-none : (o : Option Values) (vs : List Value) → Some (items_view vs) ≡ o → (length vs ≡ 2 → ⊥) → None ≡ option_and_then two_values o
two-none o vs e h = none vs h ∙ ap (option_and_then two_values) e
  where
    none : (vs : List Value) → (length vs ≡ 2 → ⊥) → None ≡ two_values (items_view vs)
    none [] h = refl
    none (v ∷ []) h = refl
    none (v ∷ w ∷ []) h = absurd (h refl)
    none (v ∷ w ∷ x ∷ vs) h = refl

pub four-none : (o : Option Values) (vs : List Value) → Some (items_view vs) ≡ o → (length vs ≡ 4 → ⊥) → None ≡ option_and_then four_values o
four-none o vs e h = none vs h ∙ ap (option_and_then four_values) e
  where
    none : (vs : List Value) → (length vs ≡ 4 → ⊥) → None ≡ four_values (items_view vs)
    none [] h = refl
    none (v ∷ []) h = refl
    none (v ∷ w ∷ []) h = refl
    none (v ∷ w ∷ x ∷ []) h = refl
    none (v ∷ w ∷ x ∷ y ∷ []) h = absurd (h refl)
    none (v ∷ w ∷ x ∷ y ∷ z ∷ vs) h = refl

-- ---- sets of a list
