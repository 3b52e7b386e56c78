-- Skills that are gathered from rows, the last item and the last text first, are those of the rows.
use Rattle.std.proofs.Common.{ℕ, suc, ◌+◌, ◌≡◌, inl, inr, Bool, true, false, cond, ◌||◌}
use Rattle.std.proofs.Common.{List, [], ◌∷◌, ◌++◌, map, filter, length, get_or, bytes_eq}
use Rattle.std.proofs.Common.{refl, sym, ap, ap₂, ◌∙◌, arith}
use Rattle.std.proofs.Common.{true≢false}
use Rattle.std.specs.List.{list_any, flat_map}
use Rattle.std.proofs.lemmas.Bool.{cases_Bool}
use Rattle.std.proofs.lemmas.Bool.Decides.{nat_tests}
use Rattle.std.proofs.lemmas.Cmp.{nat_list_eq_equiv}
use Rattle.std.proofs.lemmas.List.Folds.{list_any-append}
use Rattle.std.proofs.lemmas.Slice.Eq.{bytes_eq-Decides}
use Rattle.ls_lists.specs.Lists.{IsIn, IsSorted}
use Rattle.ls_set.specs.ItemSet.{Items, empty, with, set_of, numbers_from}
use Rattle.ls_set.proofs.Sets.{members, same_set}
use Rattle.ls_theory.specs.Words.{is_lex_before}
use Rattle.ls_cutting.specs.Lines.{Text}
use Rattle.ls_files.specs.SkillFiles.{Skill, with_text, in_text_order, items_with, skills_in}
use Rattle.ls_skill.specs.Gathering.{held_by, put_skill, with_skill, with_skills, gathered}
use Rattle.ls_skill.proofs.TextOrder.{before, same, after, stands, lex-other, lex-trans}
use Rattle.ls_skill.proofs.TextOrder.{sorted-in_text_order, any-in_order}

-- the texts, each with the items that f gives
abbrev pub skilled : (Text → Items) → List Text → List Skill
skilled f xs = map (λ w. record { name = w; items = f w }) xs

-- the items from i on whose row has the text
abbrev pub own : ℕ → List (List Text) → Text → Items
own i [] w = empty
own i (row ∷ rows) w =
    cond (list_any (bytes_eq w) row) (with (own (suc i) rows w) i) (own (suc i) rows w)

same_skilled : (f g : Text → Items) (xs : List Text) → ((v : Text) → IsIn v xs → f v ≡ g v)
    → skilled f xs ≡ skilled g xs
same_skilled f g [] h = refl
same_skilled f g (x ∷ xs) h =
    ap₂ (λ s ss. s ∷ ss) (ap (λ e. record { name = x; items = e }) (h x (inl refl)))
    (same_skilled f g xs (λ v c. h v (inr c)))

-- ---- one text more

held-skilled : (f : Text → Items) (xs : List Text) (w : Text) → held_by (skilled f xs) w
    ≡ cond (list_any (bytes_eq w) xs) (f w) empty
held-skilled f [] w = refl
held-skilled f (x ∷ xs) w = elim (cases_Bool (bytes_eq w x)) [
  | inl e ↦ rw e (ap f (sym ((bytes_eq-Decides w x).0 e)))
  | inr e ↦ rw e (held-skilled f xs w)
]

put-skilled : (f g : Text → Items) (w : Text) (s : Items) (xs : List Text)
    → IsSorted is_lex_before xs
    → s ≡ g w → ((v : Text) → bytes_eq v w ≡ false → f v ≡ g v) → put_skill w s (skilled f xs)
    ≡ skilled g (with_text w xs)
put-skilled f g w s [] sorted e other = ap (λ i. record { name = w; items = i } ∷ []) e
put-skilled f g w s (x ∷ xs) sorted e other = elim (stands w x) [
  | before a b d ↦ rw (a, d, b)
      (ap₂ (λ i ss. record { name = w; items = i } ∷ ss) e
      (same_skilled f g (x ∷ xs) (λ v c. other v (elim c [
        | inl q ↦ ap (λ y. bytes_eq y w) q ∙ lex-other w x b
        | inr q ↦ lex-other w v (lex-trans w x v b (sorted.0 v q))
      ]))))
  | same a q b ↦ rw (a, b)
      (ap₂ (λ i ss. record { name = x; items = i } ∷ ss) (e ∙ ap g q)
      (same_skilled f g xs (λ v c. other v (ap (bytes_eq v) q ∙ lex-other x v (sorted.0 v c)))))
  | after a b d q ↦ rw (a, q, d)
      (ap₂ (λ i ss. record { name = x; items = i } ∷ ss) (other x (nat_list_eq_equiv.symm x w ∙ q))
      (put-skilled f g w s xs sorted.1 e other))
]

own-none : (i : ℕ) (rows : List (List Text)) (w : Text)
    → list_any (bytes_eq w) (flat_map (λ row. row) rows) ≡ false → own i rows w ≡ empty
own-none i [] w h = refl
own-none i (row ∷ rows) w h = step (list_any (bytes_eq w) row) refl (own-none (suc i) rows w)
  where
    h' : (list_any (bytes_eq w) row || list_any (bytes_eq w) (flat_map (λ row. row) rows)) ≡ false
    h' = sym (list_any-append (bytes_eq w) row (flat_map (λ row. row) rows)) ∙ h

    step : (b : Bool) → list_any (bytes_eq w) row ≡ b
        → (list_any (bytes_eq w) (flat_map (λ row. row) rows) ≡ false → own (suc i) rows w ≡ empty)
        → cond b (with (own (suc i) rows w) i) (own (suc i) rows w) ≡ empty
    step true e later = absurd (let k = rw e at h' in true≢false k)
    step false e later = later (let k = rw e at h' in k)

-- ---- the rows

all_texts : List (List Text) → List Text
all_texts rows = flat_map (λ row. row) rows

with-again : (s : Items) (i : ℕ) → with (with s i) i ≡ with s i
with-again s i = same_set (with (with s i) i) (with s i) (λ k. grind (arith, members, nat_tests))

-- the item with one text more
own-more : (i : ℕ) (w : Text) (ws : List Text) (rows : List (List Text))
    → with (own i (ws ∷ rows) w) i ≡ own i ((w ∷ ws) ∷ rows) w
own-more i w ws rows =
    rw ((bytes_eq-Decides w w).1 refl) (at (list_any (bytes_eq w) ws))
  where
    at : (b : Bool) → with (cond b (with (own (suc i) rows w) i) (own (suc i) rows w)) i
        ≡ with (own (suc i) rows w) i
    at true = with-again (own (suc i) rows w) i
    at false = refl

own-other : (i : ℕ) (w : Text) (ws : List Text) (rows : List (List Text)) (v : Text) → bytes_eq v w
    ≡ false
    → own i (ws ∷ rows) v ≡ own i ((w ∷ ws) ∷ rows) v
own-other i w ws rows v h = rw h refl

with_skills-is : (i : ℕ) (ws : List Text) (rows : List (List Text))
    → gathered (suc i) rows ≡ skilled (own (suc i) rows) (in_text_order (all_texts rows))
    → with_skills i ws (gathered (suc i) rows)
    ≡ skilled (own i (ws ∷ rows)) (in_text_order (ws ++ all_texts rows))
unfolding all_texts
with_skills-is i [] rows h = h
with_skills-is i (w ∷ ws) rows h =
    let texts = ws ++ all_texts rows in
    let f = own i (ws ∷ rows) in
    let g = own i ((w ∷ ws) ∷ rows) in
    let before = with_skills-is i ws rows h in
    let held : held_by (skilled f (in_text_order texts)) w ≡ f w =
    held-skilled f (in_text_order texts) w ∙ ap (λ b. cond b (f w) empty) (any-in_order w texts)
    ∙ at (list_any (bytes_eq w) texts) refl in
    ap (with_skill i w) before
    ∙ put-skilled f g w (with (held_by (skilled f (in_text_order texts)) w) i) (in_text_order texts)
    (sorted-in_text_order texts) (ap (λ s. with s i) held ∙ own-more i w ws rows)
    (own-other i w ws rows)
  where
    at : (b : Bool) → list_any (bytes_eq w) (ws ++ all_texts rows) ≡ b
        → cond b (own i (ws ∷ rows) w) empty ≡ own i (ws ∷ rows) w
    at true e = refl
    at false e = sym (own-none i (ws ∷ rows) w e)

gathered-own : (i : ℕ) (rows : List (List Text)) → gathered i rows
    ≡ skilled (own i rows) (in_text_order (all_texts rows))
unfolding all_texts
gathered-own i [] = refl
gathered-own i (row ∷ rows) = with_skills-is i row rows (gathered-own (suc i) rows)

own-set : (i : ℕ) (rows : List (List Text)) (w : Text) (p : ℕ → Bool)
    → ((k : ℕ) → p (i + k) ≡ list_any (bytes_eq w) (get_or rows k []))
    → own i rows w ≡ set_of (filter p (numbers_from i (length rows)))
own-set i [] w p h = refl
own-set i (row ∷ rows) w p h =
    let here : p i ≡ list_any (bytes_eq w) row =
    ap p (let e : i ≡ i + 0 = omega arith in e) ∙ h 0 in
    let rest =
    own-set (suc i) rows w p
    (λ k. ap p (let e : suc i + k ≡ i + suc k = omega arith in e) ∙ h (suc k)) in
    rw (here, rest) (at (list_any (bytes_eq w) row))
  where
    at : (b : Bool) → cond b (with (set_of (filter p (numbers_from (suc i) (length rows)))) i)
        (set_of (filter p (numbers_from (suc i) (length rows))))
        ≡ set_of (cond b (i ∷ filter p (numbers_from (suc i) (length rows)))
        (filter p (numbers_from (suc i) (length rows))))
    at true = refl
    at false = refl

-- what is gathered are the skills of the rows
pub gathered-is : (rows : List (List Text)) → gathered 0 rows ≡ skills_in rows
unfolding all_texts skills_in
gathered-is rows =
    gathered-own 0 rows
    ∙ same_skilled (own 0 rows) (items_with rows) (in_text_order (all_texts rows))
    (λ v c. own-set 0 rows v (λ q. list_any (bytes_eq v) (get_or rows q []))
    (λ k. ap (λ q. list_any (bytes_eq v) (get_or rows q []))
    (let e : 0 + k ≡ k = omega arith in e)))
