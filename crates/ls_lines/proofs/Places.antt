-- The place of a fault is found from how far each form goes.
use Rattle.ls_lines.proofs.Vocabulary.{◌+◌, ◌-◌, ◌<◌, ◌||◌, ◌∙◌, ◌∷◌, ◌≡◌, ◌≤◌, Bool, Form, List, Many, None, Part, Some, Text, ℕ, [], ap, arith, begins_command, begun_length, cases_lt, cond, drop, false, fault_place, fits, fold, forms, front, inl, inr, is_begun, is_of, least_from, length, list_any, max, min, nat_le, nat_lt, nat_tests, not, option_map_or, parts, prefix_len, prefix_len-le-length, refl, suc, sym, take, true, zero}
use Rattle.std.proofs.lemmas.List.{drop_all, drop-take, length-take, length-drop}
use Rattle.ls_lines.proofs.Ascii.{front-within}

pub begun_by_none : (ps : List Part) → is_begun ps [] ≡ true
unfolding is_begun
begun_by_none [] = refl
begun_by_none (p ∷ ps) = refl

nothing_begun : (p : ℕ) → false ≡ nat_le (suc p) 0
nothing_begun p = grind (arith, nat_tests)

one_more : (p n : ℕ) → nat_le p n ≡ nat_le (suc p) (1 + n)
one_more p n = grind (arith, nat_tests)

prefix_len-take : (test : Text → Bool) (p : ℕ) (ws : List Text) → prefix_len test (take p ws) ≡ min p (prefix_len test ws)
prefix_len-take test zero ws = omega arith
prefix_len-take test (suc p) [] = omega arith
prefix_len-take test (suc p) (w ∷ ws) =
    elim (test w) as (λ t. cond t (1 + prefix_len test (take p ws)) 0 ≡ min (suc p) (cond t (1 + prefix_len test ws) 0)) [
      | true ↦ omega (arith, prefix_len-take test p ws)
      | false ↦ omega arith
    ]

-- the part took m words; p words at the front are begun where they are all of these, or the rest is begun
behind : (ps : List Part) (ws : List Text) (p m : ℕ) → p ≤ length ws → m ≤ length ws →
    ((q : ℕ) → q ≤ length (drop m ws) → is_begun ps (take q (drop m ws)) ≡ nat_le q (begun_length ps (drop m ws))) →
    is_begun ps (drop (min p m) (take p ws)) ≡ nat_le p (m + begun_length ps (drop m ws))
behind ps ws p m le within more =
    elim (cases_lt m p) [
      | inl lt ↦
          let split : p ≡ m + (p - m) = omega arith in
          let least : min p m ≡ m = omega arith in
          let left : drop m (take p ws) ≡ take (p - m) (drop m ws) = ap (λ q. drop m (take q ws)) split ∙ drop-take m (p - m) ws in
          rw (least, left) (more (p - m) (omega (arith, length-drop m ws)) ∙ grind (arith, nat_tests))
      | inr le_m ↦
          let least : min p m ≡ p = omega arith in
          let none : drop p (take p ws) ≡ [] = drop_all p (take p ws) (omega (arith, length-take p ws)) in
          rw (least, none) (begun_by_none ps ∙ grind (arith, nat_tests))
    ]

pub is_begun-take : (ps : List Part) (ws : List Text) (p : ℕ) → p ≤ length ws → is_begun ps (take p ws) ≡ nat_le p (begun_length ps ws)
unfolding is_begun begun_length
is_begun-take ps ws zero le = begun_by_none ps ∙ grind (arith, nat_tests)
is_begun-take [] [] (suc p) le = absurd (omega arith)
is_begun-take [] (w ∷ ws) (suc p) le = nothing_begun p
is_begun-take (part ∷ ps) [] (suc p) le = absurd (omega arith)
is_begun-take (Many k ∷ ps) (w ∷ ws) (suc p) le =
    let m = prefix_len (is_of k) (w ∷ ws) in
    rw (prefix_len-take (is_of k) (suc p) (w ∷ ws)) (behind ps (w ∷ ws) (suc p) m le (prefix_len-le-length (is_of k) (w ∷ ws)) (is_begun-take ps (drop m (w ∷ ws))))
is_begun-take (part ∷ ps) (w ∷ ws) (suc p) le =
    elim (fits part w) as (λ t. option_map_or (λ m. is_begun ps (drop m (w ∷ take p ws))) (cond t (Some 1) None) false ≡ nat_le (suc p) (option_map_or (λ m. m + begun_length ps (drop m (w ∷ ws))) (cond t (Some 1) None) 0)) [
      | true ↦ is_begun-take ps ws p (omega arith) ∙ one_more p (begun_length ps ws)
      | false ↦ nothing_begun p
    ]

begun_length-le : (ps : List Part) (ws : List Text) → begun_length ps ws ≤ length ws
unfolding begun_length
begun_length-le [] ws = omega arith
begun_length-le (part ∷ ps) ws =
    elim (front part ws) as (λ o. front part ws ≡ o → option_map_or (λ m. m + begun_length ps (drop m ws)) o 0 ≤ length ws) [
      | None ↦ λ e. omega arith
      | Some m ↦ λ e. omega (arith, front-within part ws m e, begun_length-le ps (drop m ws), length-drop m ws)
    ] refl

-- the most words that some form begins with
abbrev pub most_begun : List Text → ℕ → List Form → ℕ
most_begun ws most fs = fold (λ m f. max m (begun_length (parts f) ws)) most fs

most_begun-le : (ws : List Text) (most : ℕ) (fs : List Form) → most ≤ length ws → most_begun ws most fs ≤ length ws
most_begun-le ws most [] le = le
most_begun-le ws most (f ∷ fs) le = most_begun-le ws (max most (begun_length (parts f) ws)) fs (omega (arith, begun_length-le (parts f) ws))

either : (p m n : ℕ) (rest : Bool) → (nat_le p n || rest) || nat_le p m ≡ (rest || nat_le p (max m n))
either p m n rest = grind (arith, nat_tests)

begins_by_most : (ws : List Text) (p most : ℕ) (fs : List Form) → p ≤ length ws →
    (list_any (λ f. is_begun (parts f) (take p ws)) fs || nat_le p most) ≡ nat_le p (most_begun ws most fs)
begins_by_most ws p most [] le = refl
begins_by_most ws p most (f ∷ fs) le =
    rw (is_begun-take (parts f) ws p le) (either p most (begun_length (parts f) ws) _ ∙ begins_by_most ws p (max most (begun_length (parts f) ws)) fs le)

least_from-past : (test : ℕ → Bool) (most i n : ℕ) → i ≤ most + 1 → most + 1 ≤ i + n → ((p : ℕ) → i ≤ p → p < i + n → test p ≡ nat_lt most p) → least_from test i n ≡ most + 1
least_from-past test most i zero low high h = omega arith
least_from-past test most i (suc n) low high h =
    elim (test i) as (λ t. test i ≡ t → cond t i (least_from test (suc i) n) ≡ most + 1) [
      | true ↦ λ e. let past : nat_lt most i ≡ true = sym (h i (omega arith) (omega arith)) ∙ e in grind (arith, nat_tests)
      | false ↦ λ e.
          let within : nat_lt most i ≡ false = sym (h i (omega arith) (omega arith)) ∙ e in
          least_from-past test most (suc i) n (grind (arith, nat_tests)) (omega arith) (λ p le lt. h p (omega arith) (omega arith))
    ] refl

unless_none : (p : ℕ) (begins : Bool) → 1 ≤ p → (begins || nat_le p 0) ≡ begins
unless_none p begins le = grind (arith, nat_tests)

beyond : (p most : ℕ) → not (nat_le p most) ≡ nat_lt most p
beyond p most = grind (arith, nat_tests)

pub fault_place-most : (ws : List Text) → fault_place ws ≡ most_begun ws 0 forms + 1
unfolding fault_place
fault_place-most ws =
    let most = most_begun ws 0 forms in
    let most_le = most_begun-le ws 0 forms (omega arith) in
    least_from-past (λ p. not (begins_command (take p ws))) most 1 (length ws) (omega arith) (omega (arith, most_le))
    (λ p low high. ap not (sym (unless_none p _ low) ∙ begins_by_most ws p 0 forms (omega arith)) ∙ beyond p most)
