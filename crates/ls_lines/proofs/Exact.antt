-- `cut` tells exactly the lines of a form, and `is_begun` the words with which some line of it begins.
use Rattle.ls_lines.proofs.Vocabulary.{◌++◌, ◌↔◌, ◌∙◌, ◌∷◌, ◌≡◌, Bool, Completes, Fixed, Form, IsLine, List, Many, None, One, Part, Some, Text, [], ap, append-nil, cut, done, drop, false, fixed, front, inl, inr, is_begun, is_some, nat_list_eq_equiv, never, no_more, one, option_and_then, option_map, option_map_or, parts, refl, spelling, subst, sym, take, true}
use Rattle.ls_lists.proofs.Options.{is_some-mapped, passed, passes}
use Rattle.ls_cutting.proofs.Solid.{sample}
use Rattle.ls_lines.proofs.Places.{begun_by_none}
use Rattle.ls_lines.proofs.Parted.{many_end, forms_end, many_end-rest, joined, parted}

-- the words are a line of the parts, as far as `cut` tells
abbrev is_cut : List Part → List Text → Bool
is_cut ps ws = is_some (cut ps ws)

is_cut-cons : (part : Part) (ps : List Part) (ws : List Text) → is_cut (part ∷ ps) ws ≡ option_map_or (λ m. is_cut ps (drop m ws)) (front part ws) false
unfolding cut
is_cut-cons part ps ws =
    elim (front part ws) as (λ o. is_some (option_and_then (λ m. option_map (λ given. take m ws ∷ given) (cut ps (drop m ws))) o) ≡ option_map_or (λ m. is_cut ps (drop m ws)) o false) [
      | None ↦ refl
      | Some m ↦ is_some-mapped (λ given. take m ws ∷ given) (cut ps (drop m ws))
    ]

cut_sound : (ps : List Part) (ws : List Text) → is_cut ps ws ≡ true → IsLine ps ws
unfolding cut
cut_sound [] [] h = done
cut_sound [] (w ∷ ws) h = never h
cut_sound (part ∷ ps) ws h =
    let here = passed (λ m. is_cut ps (drop m ws)) (front part ws) (sym (is_cut-cons part ps ws) ∙ h) in
    let rest = cut_sound ps (drop here.0 ws) here.2 in
    subst (IsLine (part ∷ ps)) (append-nil ws) (joined part ps ws [] here.0 here.1 (subst (IsLine ps) (sym (append-nil (drop here.0 ws))) rest))

emptied : {part : Part} {ps : List Part} → IsLine (part ∷ ps) [] → IsLine ps []
emptied (no_more h) = h

cut_complete : (ps : List Part) (ws : List Text) → many_end ps ≡ true → IsLine ps ws → is_cut ps ws ≡ true
unfolding cut
cut_complete [] [] p done = refl
cut_complete [] (w ∷ ws) p h = elim h [ ]
cut_complete (Fixed v ∷ ps) [] p h = elim h [ ]
cut_complete (One k ∷ ps) [] p h = elim h [ ]
cut_complete (Many k ∷ ps) [] p (no_more h) = is_cut-cons (Many k) ps [] ∙ cut_complete ps [] (many_end-rest (Many k) ps p) h
cut_complete (part ∷ ps) (w ∷ ws) p h =
    let here = parted part ps w ws [] p (subst (λ l. IsLine (part ∷ ps) (w ∷ l)) (sym (append-nil ws)) h) in
    let q = many_end-rest part ps p in
    is_cut-cons part ps (w ∷ ws) ∙ passes (λ m. is_cut ps (drop m (w ∷ ws))) (front part (w ∷ ws)) here.0 here.1 (elim here.2 [
      | inl nothing ↦ ap (is_cut ps) nothing.0 ∙ cut_complete ps [] q (emptied nothing.1)
      | inr rest ↦ cut_complete ps (drop here.0 (w ∷ ws)) q (subst (IsLine ps) (append-nil (drop here.0 (w ∷ ws))) rest)
    ])

some_line : (ps : List Part) → (ws : List Text) × IsLine ps ws
some_line [] = ([], done)
some_line (Fixed v ∷ ps) = let l = some_line ps in (spelling v ∷ l.0, fixed (nat_list_eq_equiv.refl (spelling v)) l.1)
some_line (One k ∷ ps) = let l = some_line ps in ((sample k).0 ∷ l.0, one (sample k).1 l.1)
some_line (Many k ∷ ps) = let l = some_line ps in (l.0, no_more l.1)

begun_sound : (ps : List Part) (ws : List Text) → is_begun ps ws ≡ true → Completes ps ws
unfolding is_begun
begun_sound ps [] h = some_line ps
begun_sound [] (w ∷ ws) h = never h
begun_sound (part ∷ ps) (w ∷ ws) h =
    let here = passed (λ m. is_begun ps (drop m (w ∷ ws))) (front part (w ∷ ws)) h in
    let rest = begun_sound ps (drop here.0 (w ∷ ws)) here.2 in
    (rest.0, joined part ps (w ∷ ws) rest.0 here.0 here.1 rest.1)

begun_complete : (ps : List Part) (ws more : List Text) → many_end ps ≡ true → IsLine ps (ws ++ more) → is_begun ps ws ≡ true
unfolding is_begun
begun_complete ps [] more p h = begun_by_none ps
begun_complete [] (w ∷ ws) more p h = elim h [ ]
begun_complete (part ∷ ps) (w ∷ ws) more p h =
    let here = parted part ps w ws more p h in
    passes (λ m. is_begun ps (drop m (w ∷ ws))) (front part (w ∷ ws)) here.0 here.1 (elim here.2 [
      | inl nothing ↦ ap (is_begun ps) nothing.0 ∙ begun_by_none ps
      | inr rest ↦ begun_complete ps (drop here.0 (w ∷ ws)) more (many_end-rest part ps p) rest
    ])

pub line_exact : (f : Form) (ws : List Text) → (is_some (cut (parts f) ws) ≡ true) ↔ IsLine (parts f) ws
line_exact f ws = (cut_sound (parts f) ws, cut_complete (parts f) ws (forms_end f))

pub begun_exact : (f : Form) (ws : List Text) → (is_begun (parts f) ws ≡ true) ↔ Completes (parts f) ws
begun_exact f ws = (begun_sound (parts f) ws, λ c. begun_complete (parts f) ws c.0 (forms_end f) c.1)
