-- The lines of a stream that goes on.
use Rattle.ls_cutting.proofs.Vocabulary.{◌++◌, ◌+◌, ◌==◌, ◌∙◌, ◌∷◌, ◌≡◌, ◌≤◌, Bool, List, None, Some, ℕ, [], ap, ap₂, arith, cases_lt, cond, drop, false, inl, inr, le-ltb, length, lines, lt-ltb, onto_first, position, position_or_len, refl, slice_split, sym, take, true}
use Rattle.std.proofs.lemmas.List.Splits.{slice_split_first}
use Rattle.ls_cutting.specs.Cutting.{ahead}

module _ (p : ℕ → Bool) where
  split_some : (xs : List ℕ) → slice_split p xs ≡ [] → ⊥
  split_some [] e = cc
  split_some (x ∷ xs) e =
      elim (p x) as (λ b. cond b ([] ∷ slice_split p xs) (onto_first x (slice_split p xs)) ≡ [] → ⊥) [
        | true ↦ λ e. cc
        | false ↦ λ e. elim (slice_split p xs) as (λ ys. onto_first x ys ≡ [] → ⊥) [ [] ↦ λ e. cc | y ∷ ys ↦ λ e. cc ] e
      ] e

  pub ahead-nil : (xs : List ℕ) → ahead [] (slice_split p xs) ≡ slice_split p xs
  ahead-nil [] = refl
  ahead-nil (x ∷ xs) =
      elim (p x) as (λ b. ahead [] (cond b ([] ∷ slice_split p xs) (onto_first x (slice_split p xs))) ≡ cond b ([] ∷ slice_split p xs) (onto_first x (slice_split p xs))) [
        | true ↦ refl
        | false ↦ elim (slice_split p xs) as (λ ys. ahead [] (onto_first x ys) ≡ onto_first x ys) [ [] ↦ refl | y ∷ ys ↦ refl ]
      ]

  onto-ahead : (x : ℕ) (front : List ℕ) (parts : List (List ℕ)) → onto_first x (ahead front parts) ≡ ahead (x ∷ front) parts
  onto-ahead x front [] = refl
  onto-ahead x front (part ∷ parts) = refl

  snoc-some : (ended : List (List ℕ)) (pending : List ℕ) → ended ++ pending ∷ [] ≡ [] → ⊥
  snoc-some [] pending e = cc
  snoc-some (l ∷ ls) pending e = cc

  abbrev GoesOn : List ℕ → List ℕ → Type 0
  GoesOn stream more = (ended : List (List ℕ)) (pending : List ℕ) → slice_split p stream ≡ ended ++ pending ∷ [] → slice_split p (stream ++ more) ≡ ended ++ ahead pending (slice_split p more)

  at_end : (x : ℕ) (xs more : List ℕ) → p x ≡ true → GoesOn xs more → GoesOn (x ∷ xs) more
  at_end x xs more t h [] pending e = absurd (split_some xs (let same : [] ∷ slice_split p xs ≡ pending ∷ [] = rw t at e in let s : slice_split p xs ≡ [] = cc in s))
  at_end x xs more t h (l ∷ ended) pending e =
      let same : [] ∷ slice_split p xs ≡ l ∷ ended ++ pending ∷ [] = rw t at e in
      let first : [] ≡ l = cc in
      let rest : slice_split p xs ≡ ended ++ pending ∷ [] = cc in
      rw t (ap₂ (λ a b. a ∷ b) first (h ended pending rest))

  within : (x : ℕ) (xs more : List ℕ) (parts : List (List ℕ)) → p x ≡ false → slice_split p xs ≡ parts → GoesOn xs more → GoesOn (x ∷ xs) more
  within x xs more [] f s h ended pending e = absurd (split_some xs s)
  within x xs more (part ∷ parts) f s h [] pending e =
      let same : (x ∷ part) ∷ parts ≡ pending ∷ [] = rw (f, s) at e in
      let first : x ∷ part ≡ pending = cc in
      let none : parts ≡ [] = cc in
      rw f (ap (onto_first x) (h [] part (s ∙ ap (λ ys. part ∷ ys) none)) ∙ onto-ahead x part (slice_split p more) ∙ ap (λ l. ahead l (slice_split p more)) first)
  within x xs more (part ∷ parts) f s h (l ∷ ended) pending e =
      let same : (x ∷ part) ∷ parts ≡ l ∷ ended ++ pending ∷ [] = rw (f, s) at e in
      let first : x ∷ part ≡ l = cc in
      let rest : parts ≡ ended ++ pending ∷ [] = cc in
      rw f (ap (onto_first x) (h (part ∷ ended) pending (s ∙ ap (λ ys. part ∷ ys) rest)) ∙ ap (λ k. k ∷ ended ++ ahead pending (slice_split p more)) first)

  pub split_goes_on : (stream more : List ℕ) → GoesOn stream more
  split_goes_on [] more [] pending e = let same : [] ≡ pending = cc in sym (ahead-nil more) ∙ ap (λ l. ahead l (slice_split p more)) same
  split_goes_on [] more (l ∷ ended) pending e = absurd (snoc-some ended pending (let rest : ended ++ pending ∷ [] ≡ [] = cc in rest))
  split_goes_on (x ∷ xs) more ended pending e =
      elim (p x) as (λ b. p x ≡ b → slice_split p (x ∷ (xs ++ more)) ≡ ended ++ ahead pending (slice_split p more)) [
        | true ↦ λ t. at_end x xs more t (split_goes_on xs more) ended pending e
        | false ↦ λ f. within x xs more (slice_split p xs) f refl (split_goes_on xs more) ended pending e
      ] refl

  -- ---- the first part, by where the first element that passes is

  uncut : (xs : List ℕ) → length xs ≤ position_or_len p xs → slice_split p xs ≡ xs ∷ []
  uncut [] h = refl
  uncut (x ∷ xs) h =
      elim (p x) as (λ b. p x ≡ b → slice_split p (x ∷ xs) ≡ (x ∷ xs) ∷ []) [
        | true ↦ λ t. let e : position_or_len p (x ∷ xs) ≡ 0 = rw t refl in absurd (omega arith)
        | false ↦ λ f. let e : position_or_len p (x ∷ xs) ≡ 1 + position_or_len p xs = rw f refl in rw f (ap (onto_first x) (uncut xs (omega arith)))
      ] refl

  pub split_uncut : (xs : List ℕ) → None ≡ position p xs → slice_split p xs ≡ xs ∷ []
  split_uncut xs e = elim (cases_lt (position_or_len p xs) (length xs)) [
    | inl l ↦ absurd (let f : None ≡ Some (position_or_len p xs) = rw (lt-ltb _ _ l) at e in cc)
    | inr g ↦ uncut xs g
  ]

  pub split_first : (xs : List ℕ) (i : ℕ) → Some i ≡ position p xs → slice_split p xs ≡ take i xs ∷ slice_split p (drop (i + 1) xs)
  split_first xs i e = elim (cases_lt (position_or_len p xs) (length xs)) [
    | inl l ↦
        let f : Some i ≡ Some (position_or_len p xs) = rw (lt-ltb _ _ l) at e in
        let same : i ≡ position_or_len p xs = cc in
        rw same (slice_split_first p xs 0 l)
    | inr g ↦ absurd (let f : Some i ≡ None = rw (le-ltb _ _ g) at e in cc)
  ]

pub goes_on : (stream more : List ℕ) (ended : List (List ℕ)) (pending : List ℕ) → lines stream ≡ ended ++ pending ∷ [] → lines (stream ++ more) ≡ ended ++ ahead pending (lines more)
unfolding lines
goes_on = split_goes_on (λ b. b == 10)

pub ahead-lines : (xs : List ℕ) → ahead [] (lines xs) ≡ lines xs
unfolding lines
ahead-lines = ahead-nil (λ b. b == 10)
