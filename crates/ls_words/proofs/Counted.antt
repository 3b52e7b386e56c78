-- The words by how many there are.
use Rattle.std.proofs.Common.{ℕ, ◌≡◌, ◌<◌, ◌≤◌, refl, arith, List, [], ◌∷◌, length, map, slice_index_or, Some, None}
use Rattle.std.specs.Borrow.{Bor}
use Rattle.ls_cutting.specs.{Text}
use Rattle.ls_words.specs.Modes.{mode_of, mode_of_option, mode_of_options}
use Rattle.ls_words.specs.declared.mode.Mode.TheVariants.{Input}

-- the texts of the words, and the text of one of them
abbrev pub texts : List (Bor Text) → List Text
texts ws = map (λ w. w.now) ws

abbrev pub word : List (Bor Text) → ℕ → Text
word ws i = (slice_index_or ws i (record { ref_ptr = (0, 0); now = [] })).now

pub of_none : (ws : List (Bor Text)) → length ws < 1 → mode_of (texts ws) ≡ Some Input
unfolding mode_of
of_none [] most = refl
of_none (a ∷ ws) most = absurd (omega arith)

pub of_two : (ws : List (Bor Text)) → 2 ≤ length ws → length ws < 3 → mode_of (texts ws) ≡ mode_of_option (word ws 0) (word ws 1)
unfolding mode_of
of_two [] least most = absurd (omega arith)
of_two (a ∷ []) least most = absurd (omega arith)
of_two (a ∷ b ∷ []) least most = refl
of_two (a ∷ b ∷ c ∷ ws) least most = absurd (omega arith)

pub of_four : (ws : List (Bor Text)) → 4 ≤ length ws → length ws < 5 → mode_of (texts ws) ≡ mode_of_options (word ws 0) (word ws 1) (word ws 2) (word ws 3)
unfolding mode_of
of_four [] least most = absurd (omega arith)
of_four (a ∷ []) least most = absurd (omega arith)
of_four (a ∷ b ∷ []) least most = absurd (omega arith)
of_four (a ∷ b ∷ c ∷ []) least most = absurd (omega arith)
of_four (a ∷ b ∷ c ∷ d ∷ []) least most = refl
of_four (a ∷ b ∷ c ∷ d ∷ e ∷ ws) least most = absurd (omega arith)

pub of_others : (ws : List (Bor Text)) → (length ws ≡ 0 → ⊥) → (length ws ≡ 2 → ⊥) → (length ws ≡ 4 → ⊥) → mode_of (texts ws) ≡ None
unfolding mode_of
of_others [] h0 h2 h4 = absurd (h0 refl)
of_others (a ∷ []) h0 h2 h4 = refl
of_others (a ∷ b ∷ []) h0 h2 h4 = absurd (h2 refl)
of_others (a ∷ b ∷ c ∷ []) h0 h2 h4 = refl
of_others (a ∷ b ∷ c ∷ d ∷ []) h0 h2 h4 = absurd (h4 refl)
of_others (a ∷ b ∷ c ∷ d ∷ e ∷ ws) h0 h2 h4 = refl
