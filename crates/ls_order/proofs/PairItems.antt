-- The items of the pair that a line of a file is.
use Rattle.std.proofs.Common.{ℕ, ◌<◌, ◌∷◌, ◌≡◌, List, None, Option, Some, [], bytes_eq}
use Rattle.std.proofs.Common.{fold, inl, inr}
use Rattle.std.proofs.Common.{length, refl, subst}
use Rattle.std.proofs.lemmas.Bool.{cases_Bool}
use Rattle.ls_cutting.specs.{Text, words}
use Rattle.ls_lists.proofs.Places.{position-lt}
use Rattle.ls_domain.specs.Domains.{is_name}
use Rattle.ls_domain.specs.Meanings.{number_of}
use Rattle.ls_files.specs.PairFiles.{line_read}
use Rattle.ls_files.specs.declared.pair_line.PairLine.TheVariants as line
use Rattle.ls_order.specs.declared.met.Met.TheVariants.{Nothing}
use Rattle.ls_order.specs.Words.{line_met, line_worded, pair_met, with_word}
use Rattle.ls_order.proofs.LineWords.{from_bad, three-bad, words-worded}

pub line-worded : (names : List Text) (bytes : List ℕ) → line_read names bytes
    ≡ line_worded names (words bytes)
unfolding line_read
line-worded names bytes = refl

-- both items of a pair are below n
abbrev pub IsSmall : ℕ → line.the_data → Type 0
IsSmall n l = (low high : ℕ) → l ≡ line.Pair low high → (low < n) × (high < n)

of-some : (n : ℕ) (a b : Option ℕ) → ((i : ℕ) → a ≡ Some i → i < n)
    → ((i : ℕ) → b ≡ Some i → i < n) → IsSmall n (pair_met a b)
of-some n None b small small' low high e = absurd (cc e)
of-some n (Some i) None small small' low high e = absurd (cc e)
of-some n (Some i) (Some j) small small' low high e =
    let first : i ≡ low = cc in
    let second : j ≡ high = cc in
    (subst (λ k. k < n) first (small i refl), subst (λ k. k < n) second (small' j refl))

met-small : (names : List Text) (u v : Text)
    → IsSmall (length names) (line_met (fold (with_word names) Nothing (u ∷ v ∷ [])))
met-small names u v = elim (cases_Bool (is_name u)) [
  | inr e ↦ rw (e, from_bad names (v ∷ [])) (λ low high e. absurd (cc e))
  | inl e ↦ rw e (elim (cases_Bool (is_name v)) [
    | inr f ↦ rw f (λ low high e. absurd (cc e))
    | inl f ↦ rw f (of-some (length names) (number_of names u) (number_of names v)
        (position-lt (bytes_eq u) names) (position-lt (bytes_eq v) names))
  ])
]

pub worded-small : (names ws : List Text) → IsSmall (length names) (line_worded names ws)
worded-small names ws = subst (IsSmall (length names)) (words-worded names ws) (small ws)
  where
    small : (ws : List Text)
        → IsSmall (length names) (line_met (fold (with_word names) Nothing ws))
    small [] low high = λ e. absurd (cc e)
    small (w ∷ []) low high = elim (cases_Bool (is_name w)) [
      | inl e ↦ rw e (λ e. absurd (cc e))
      | inr e ↦ rw e (λ e. absurd (cc e))
    ]
    small (u ∷ v ∷ []) low high = met-small names u v low high
    small (u ∷ v ∷ w ∷ ws) low high =
        rw (three-bad names u v w ws) (λ e. absurd (cc e))
