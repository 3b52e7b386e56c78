-- The skills of rows of which each has a text are a map.
use Rattle.std.proofs.Common.{ℕ, zero, suc, ◌+◌, ◌<◌, ◌≤◌, ◌≡◌, ◌==◌, ◌&&◌, inl, inr, true, false}
use Rattle.std.proofs.Common.{List, [], ◌∷◌, length, get_or, bytes_eq, None, leb, ltb, le-leb}
use Rattle.std.proofs.Common.{lt-ltb, ltb-true, is_some, refl, sym, ap, ◌∙◌, subst, arith}
use Rattle.std.proofs.Common.{true≢false}
use Rattle.std.proofs.Common.{IsUtf8}
use Rattle.std.specs.List.{All, AllByRecursion, list_any, flat_map}
use Rattle.std.proofs.lemmas.Bool.{and_parts, and_from, false_from_ne_true}
use Rattle.ls_lists.specs.Lists.{IsIn, IsSorted}
use Rattle.ls_lists.proofs.Elements.{in-some, in-flat_map, flat_map-in}
use Rattle.ls_lists.proofs.Places.{is_some-position}
use Rattle.ls_set.specs.ItemSet.{Items, has, empty, full, is_among, most_items, IsWithin}
use Rattle.ls_set.proofs.Sets.{has-empty, has-full}
use Rattle.ls_set.proofs.Members.{among-here, among-there, among-cases}
use Rattle.ls_set.proofs.Cursors.{has-set_of-filter}
use Rattle.ls_theory.specs.Families.{unions}
use Rattle.ls_laws.proofs.Lists.{some-among}
use Rattle.ls_laws.proofs.Interiors.{has-unions}
use Rattle.ls_theory.specs.Words.{is_lex_before}
use Rattle.ls_cutting.specs.Lines.{Text}
use Rattle.ls_origins.specs.Skills.{most_skills}
use Rattle.ls_files.specs.SkillFiles.{item_sets, first_bare, in_text_order, items_with, skills_in}
use Rattle.ls_skill.specs.Maps.{IsMap, skill_names}
use Rattle.ls_skill.proofs.TextOrder.{sorted-in_text_order, in-order-from, in-order-to, in-any}
use Rattle.ls_skill.proofs.Gathered.{skilled}

pub All-one : (n q : ℕ) → q < n → All (λ q. q < n) (q ∷ [])
All-one n q h zero d l = h
All-one n q h (suc k) d l = absurd (omega arith)

-- ---- places of rows

pub get-in_list : {X : Type 0} (xs : List X) (q : ℕ) (d : X) → q < length xs
    → IsIn (get_or xs q d) xs
get-in_list [] q d l = absurd (omega arith)
get-in_list (x ∷ xs) zero d l = inl refl
get-in_list (x ∷ xs) (suc q) d l = inr (get-in_list xs q d (omega arith))

pub place-in : {X : Type 0} (xs : List X) (x d : X) → IsIn x xs → (q : ℕ) × (q < length xs)
    × (get_or xs q d ≡ x)
place-in [] x d c = absurd c
place-in (y ∷ xs) x d c = elim c [
  | inl e ↦ (0, omega arith, sym e)
  | inr a ↦ let r = place-in xs x d a in let l = r.1 in (suc r.0, omega arith, r.2)
]

-- ---- the items of a text

pub items-has : (rows : List (List Text)) (w : Text) (q : ℕ) → has (items_with rows w) q ≡ true
    → (q < length rows) × (list_any (bytes_eq w) (get_or rows q []) ≡ true)
items-has rows w q h =
    let p = λ (q : ℕ). list_any (bytes_eq w) (get_or rows q []) in
    let a = and_parts (leb 0 q && ltb q (0 + length rows)) (p q)
    (sym (has-set_of-filter p 0 (length rows) q) ∙ h) in
    let b = and_parts (leb 0 q) (ltb q (0 + length rows)) a.0 in
    let l = ltb-true q (0 + length rows) b.1 in
    (omega arith, a.1)

pub has-items : (rows : List (List Text)) (w : Text) (q : ℕ) → q < length rows
    → list_any (bytes_eq w) (get_or rows q []) ≡ true → has (items_with rows w) q ≡ true
has-items rows w q l h =
    let p = λ (q : ℕ). list_any (bytes_eq w) (get_or rows q []) in
    has-set_of-filter p 0 (length rows) q
    ∙ and_from (leb 0 q && ltb q (0 + length rows)) (p q)
    (and_from (leb 0 q) (ltb q (0 + length rows)) (le-leb 0 q (omega arith))
    (lt-ltb q (0 + length rows) (omega arith))) h

-- ---- the sets of skills

pub among-skilled : (f : Text → Items) (xs : List Text) (k : Items)
    → is_among (item_sets (skilled f xs)) k ≡ true → (w : Text) × IsIn w xs × (k ≡ f w)
among-skilled f [] k c = absurd (true≢false (sym c))
among-skilled f (x ∷ xs) k c = elim (among-cases k (f x) (item_sets (skilled f xs)) c) [
  | inl e ↦ (x, inl refl, e)
  | inr a ↦ let r = among-skilled f xs k a in (r.0, inr r.1, r.2)
]

pub skilled-among : (f : Text → Items) (xs : List Text) (w : Text) → IsIn w xs
    → is_among (item_sets (skilled f xs)) (f w) ≡ true
skilled-among f [] w c = absurd c
skilled-among f (x ∷ xs) w c = elim c [
  | inl e ↦ among-here (f w) (f x) (item_sets (skilled f xs)) (ap f e)
  | inr a ↦ among-there (f w) (f x) (item_sets (skilled f xs)) (skilled-among f xs w a)
]

names-skilled : (f : Text → Items) (xs : List Text) → skill_names (skilled f xs) ≡ xs
names-skilled f [] = refl
names-skilled f (x ∷ xs) = ap (λ ys. x ∷ ys) (names-skilled f xs)

-- ---- the map

module _ (rows : List (List Text)) where
  texts_of : List Text
  texts_of = flat_map (λ row. row) rows

  none-empty : is_among (item_sets (skills_in rows)) empty ≡ false
  unfolding skills_in texts_of
  none-empty = false_from_ne_true (is_among (item_sets (skills_in rows)) empty) (λ c.
      let r = among-skilled (items_with rows) (in_text_order texts_of) empty c in
      let f = flat_map-in (λ row. row) rows r.0 (in-order-from texts_of r.0 r.1) in
      let p = place-in rows f.0 [] f.1 in
      let has_it = has-items rows r.0 p.0 p.1
      (in-any r.0 (get_or rows p.0 []) (subst (λ row. IsIn r.0 row) (sym p.2) f.2)) in
      true≢false (sym has_it ∙ ap (λ s. has s p.0) (sym r.2) ∙ has-empty p.0))

  all-within : (k : Items) → is_among (item_sets (skills_in rows)) k ≡ true
      → IsWithin k (full (length rows))
  unfolding skills_in texts_of
  all-within k c q h =
      let r = among-skilled (items_with rows) (in_text_order texts_of) k c in
      let i = items-has rows r.0 q (ap (λ s. has s q) (sym r.2) ∙ h) in
      has-full (length rows) q ∙ lt-ltb q (length rows) i.0

  first-text : (row : List Text) → (length row == 0) ≡ false → (w : Text) × IsIn w row
  first-text [] h = absurd (true≢false h)
  first-text (w ∷ row) h = (w, inl refl)

  not-bare : first_bare rows ≡ None → (q : ℕ) → q < length rows
      → (length (get_or rows q []) == 0) ≡ false
  not-bare e q l = false_from_ne_true (length (get_or rows q []) == 0) (λ h.
      true≢false
      (sym (in-some (λ row. length row == 0) rows (get_or rows q []) (get-in_list rows q [] l) h)
      ∙ sym (is_some-position (λ row. length row == 0) rows) ∙ ap is_some e))

  each-covered : first_bare rows ≡ None → (q : ℕ) → q < length rows
      → has (unions (item_sets (skills_in rows))) q ≡ true
  unfolding skills_in texts_of
  each-covered e q l =
      let row = get_or rows q [] in
      let w = first-text row (not-bare e q l) in
      let there = in-order-to texts_of w.0
      (in-flat_map (λ row. row) rows row w.0 (get-in_list rows q [] l) w.1) in
      has-unions (item_sets (skills_in rows)) q
      ∙ some-among (λ k. has k q) (item_sets (skills_in rows)) (items_with rows w.0)
      (skilled-among (items_with rows) (in_text_order texts_of) w.0 there)
      (has-items rows w.0 q l (in-any w.0 row w.1))

  pub rows-map : (n : ℕ) → length rows ≡ n → n ≤ most_items → first_bare rows ≡ None
      → AllByRecursion IsUtf8 (skill_names (skills_in rows)) → length (skills_in rows) ≤ most_skills
      → IsMap n (skills_in rows)
  unfolding skills_in texts_of
  rows-map n e small none texts few = subst (λ m. IsMap m (skills_in rows)) e (record {
    few_items = omega (arith, e, small);
    texts = texts;
    ascend =
        subst (IsSorted is_lex_before)
        (sym (names-skilled (items_with rows) (in_text_order texts_of)))
        (sorted-in_text_order texts_of);
    none_empty = none-empty;
    cover = record { small = all-within; each_item = each-covered none };
    few = few;
  })
