-- Lists of values and members of an object, read one after another.
use Rattle.ls_surmise.proofs.Vocabulary.{◌++◌, ◌+◌, ◌<◌, ◌∙◌, ◌∷◌, ◌≡◌, Bool, Data, List, Option, Value, ℕ, ap, arith, drop, drop-cons, get_or, is_some, items_view, length, option_map, read_each, suc, sym, view}

-- what was read, and the rest, are the whole
abbrev pub IsRead : {X : Type 0} → (Data → Option X) → List X → List Value → Option (List X) → Type 0
IsRead f xs rest whole = option_map (λ ys. xs ++ ys) (read_each f (items_view rest)) ≡ whole

pub next-item : (vs : List Value) (i : ℕ) (v : Value) → i < length vs → v ≡ get_or vs i v → drop i vs ≡ v ∷ drop (i + 1) vs
next-item vs i v l e = drop-cons vs i v l ∙ ap (λ y. y ∷ drop (suc i) vs) (sym e) ∙ ap (λ k. v ∷ drop k vs) (let k : suc i ≡ i + 1 = omega arith in k)

-- ---- whether there is something to read

-- whether the rest can be read tells whether the whole can
abbrev pub IsReadable : {X : Type 0} → (Data → Option X) → List Value → Bool → Type 0
IsReadable f rest whole = is_some (read_each f (items_view rest)) ≡ whole
