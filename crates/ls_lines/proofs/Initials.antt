-- The forms that may begin with the first word are all that are tried.
use Rattle.ls_lines.proofs.Vocabulary.{◌+◌, ◌<◌, ◌==◌, ◌∙◌, ◌∷◌, ◌≡◌, ◌≤◌, Command, Fixed, Form, List, Many, None, One, Option, Part, Text, ℕ, [], ap, arith, begun_length, bytes_eq, command, command_of, cond, cut, drop, drop_more, false, fault_place, filter, forms, forms_from, get_or, initial, leb-true, length, max, may_begin, nat_le, nat_tests, option_map, parts, refl, same_text, spelling, sym, true}
use Rattle.std.specs.List.{cons_option, slice_get, slice_index}
use Rattle.ls_lines.proofs.Apart.{each_passes}
use Rattle.ls_lines.proofs.Choosing.{readings}
use Rattle.ls_lines.proofs.Places.{most_begun, fault_place-most}

-- a word with another first byte than the fixed word is not that word
other_word : (v w : Text) → (slice_index v 0 == slice_index w 0) ≡ false → bytes_eq v w ≡ false
other_word v w h =
    elim (bytes_eq v w) as (λ t. bytes_eq v w ≡ t → t ≡ false) [
      | true ↦ λ e. let same = same_text v w (sym e) in let first : slice_index v 0 ≡ slice_index w 0 = ap (λ x. slice_index x 0) same in grind (arith, nat_tests)
      | false ↦ λ e. refl
    ] refl

nothing_at : (ps : List Part) (w : Text) (ws : List Text) → may_begin (slice_index w 0) ps ≡ false → cut ps (w ∷ ws) ≡ None
unfolding cut
nothing_at [] w ws h = refl
nothing_at (Fixed v ∷ ps) w ws h = rw (other_word (spelling v) w h) refl
nothing_at (One k ∷ ps) w ws h = cc
nothing_at (Many k ∷ ps) w ws h = cc

none_begun : (ps : List Part) (w : Text) (ws : List Text) → may_begin (slice_index w 0) ps ≡ false → begun_length ps (w ∷ ws) ≡ 0
unfolding begun_length
none_begun [] w ws h = refl
none_begun (Fixed v ∷ ps) w ws h = rw (other_word (spelling v) w h) refl
none_begun (One k ∷ ps) w ws h = cc
none_begun (Many k ∷ ps) w ws h = cc

-- the forms of a list that may begin with the first word
abbrev tried : Text → List Form → List Form
tried w fs = filter (λ f. may_begin (slice_index w 0) (parts f)) fs

tried-readings : (fs : List Form) (w : Text) (ws : List Text) → readings (tried w fs) (w ∷ ws) ≡ readings fs (w ∷ ws)
tried-readings [] w ws = refl
tried-readings (f ∷ fs) w ws =
    let rest = tried-readings fs w ws in
    elim (may_begin (slice_index w 0) (parts f)) as (λ t. may_begin (slice_index w 0) (parts f) ≡ t → readings (cond t (f ∷ tried w fs) (tried w fs)) (w ∷ ws) ≡ cons_option (option_map (command f) (cut (parts f) (w ∷ ws))) (readings fs (w ∷ ws))) [
      | true ↦ λ e. ap (cons_option (option_map (command f) (cut (parts f) (w ∷ ws)))) rest
      | false ↦ λ e. rw (nothing_at (parts f) w ws e) rest
    ] refl

tried-begun : (fs : List Form) (w : Text) (ws : List Text) (most : ℕ) → most_begun (w ∷ ws) most (tried w fs) ≡ most_begun (w ∷ ws) most fs
tried-begun [] w ws most = refl
tried-begun (f ∷ fs) w ws most =
    elim (may_begin (slice_index w 0) (parts f)) as (λ t. may_begin (slice_index w 0) (parts f) ≡ t → most_begun (w ∷ ws) most (cond t (f ∷ tried w fs) (tried w fs)) ≡ most_begun (w ∷ ws) (max most (begun_length (parts f) (w ∷ ws))) fs) [
      | true ↦ λ e. tried-begun fs w ws (max most (begun_length (parts f) (w ∷ ws)))
      | false ↦ λ e. let same : max most 0 ≡ most = omega arith in rw (none_begun (parts f) w ws e, same) (tried-begun fs w ws most)
    ] refl

-- the command of the words by these forms, from a place on
abbrev pub read_from : List Form → ℕ → List Text → Option Command
read_from fs i ws = slice_get (readings (drop i fs) ws) 0

pub reading_starts : (ws : List Text) → 0 < length ws → read_from (forms_from (initial ws)) 0 ws ≡ command_of ws
unfolding command_of
reading_starts [] lt = absurd (omega arith)
reading_starts (w ∷ ws) lt = ap (λ l. slice_get l 0) (tried-readings forms w ws)

pub form_fails : (fs : List Form) (i : ℕ) (d : Form) (ws : List Text) → i < length fs → cut (parts (get_or fs i d)) ws ≡ None → read_from fs (i + 1) ws ≡ read_from fs i ws
form_fails fs i d ws lt h = rw (drop_more fs i d lt, h) refl

pub fault_place-tried : (ws : List Text) → fault_place ws ≡ most_begun ws 0 (forms_from (initial ws)) + 1
unfolding fault_place forms parts spelling
fault_place-tried [] = refl
fault_place-tried (w ∷ ws) = fault_place-most (w ∷ ws) ∙ ap (λ m. m + 1) (sym (tried-begun forms w ws 0))

-- no form has more parts
pub few_parts : (f : Form) → length (parts f) ≤ 6
unfolding parts forms
few_parts f = leb-true (length (parts f)) 6 (each_passes (λ g. nat_le (length (parts g)) 6) refl f)
