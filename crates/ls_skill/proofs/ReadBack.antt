-- What is printed of a skill map is read as the same map.
use Rattle.std.proofs.Common.{ℕ, suc, ◌+◌, ◌<◌, ◌≡◌, ◌==◌, inl, inr, Bool, true, false, option_and_then}
use Rattle.std.proofs.Common.{List, [], ◌∷◌, map, filter, length, get_or, Some, None, Ok, IsUtf8}
use Rattle.std.proofs.Common.{cond, eqb-true, ltb-true, refl, sym, ap, ap₂, ◌∙◌, subst, arith}
use Rattle.std.proofs.Common.{true≢false}
use Rattle.std.specs.Prelude.{⊤}
use Rattle.std.specs.Option.{option_map_or}
use Rattle.std.specs.List.{AllByRecursion, list_any, flat_map}
use Rattle.std.proofs.lemmas.Bool.{false_from_ne_true}
use Rattle.std.proofs.lemmas.List.{map-id}
use Rattle.ls_lists.specs.Lists.{IsIn, IsSorted}
use Rattle.ls_lists.proofs.Bools.{same_truth}
use Rattle.ls_lists.proofs.Elements.{in-map, map-in, in-filter, filter-in, in-flat_map, flat_map-in}
use Rattle.ls_lists.proofs.Elements.{some-in}
use Rattle.ls_lists.proofs.Every.{All-given, each, list_all-All}
use Rattle.ls_lists.proofs.Options.{nothing}
use Rattle.ls_lists.proofs.Places.{is_some-position}
use Rattle.ls_set.specs.ItemSet.{Items, has, empty, is_among, numbers_from}
use Rattle.ls_set.specs.ItemSet.{least}
use Rattle.ls_set.proofs.Sets.{same_set, has-empty, has-full}
use Rattle.ls_set.proofs.Members.{among-here, among-there, among-cases}
use Rattle.ls_set.proofs.Listed.{least-none_left, least-is}
use Rattle.ls_theory.specs.Words.{is_lex_before}
use Rattle.ls_laws.proofs.Lists.{some-from}
use Rattle.ls_laws.proofs.Interiors.{has-unions}
use Rattle.ls_cutting.specs.Lines.{Text}
use Rattle.ls_domain.specs.Domains.{IsDomain, is_name}
use Rattle.ls_domain.specs.Meanings.{is_named}
use Rattle.ls_domain.proofs.Numbers.{is_name-utf8}
use Rattle.ls_files.specs.SkillFiles.{Skill, item_sets, has_named_keys, read_table, rows_in}
use Rattle.ls_files.specs.SkillFiles.{table_of, first_bare, in_text_order, items_with, skills_in}
use Rattle.ls_files.specs.SkillFiles.{skills_from, skills_of, own_skills, rows_of, members_from}
use Rattle.ls_files.specs.SkillFiles.{skills_text}
use Rattle.ls_files.proofs.CodecLaws.{lists-back, texts-back}
use Rattle.ls_files.proofs.PutMembers.{object-back}
use Rattle.ls_files.proofs.RowTables.{all-named, rows-back, rows-pass, rows-read, table_of_rows}
use Rattle.ls_skill.specs.Maps.{IsMap, skill_names}
use Rattle.ls_skill.proofs.TextOrder.{lex-same, same_texts, sorted-in_text_order, in-order-from}
use Rattle.ls_skill.proofs.TextOrder.{in-order-to, any-in, in-any}
use Rattle.ls_skill.proofs.Gathered.{skilled}
use Rattle.ls_skill.proofs.Made.{get-in_list, place-in, items-has, has-items}
use Rattle.ls_skill.proofs.Tables.{rows-at, rows-length, of_few}

-- ---- the texts of the rows

own-utf8 : (skills : List Skill) (q : ℕ) → AllByRecursion IsUtf8 (skill_names skills)
    → AllByRecursion IsUtf8 (own_skills skills q)
own-utf8 [] q h = tt
own-utf8 (s ∷ skills) q h = at (has s.items q) (own-utf8 skills q h.1)
  where
    at : (b : Bool) → AllByRecursion IsUtf8 (own_skills skills q)
        → AllByRecursion IsUtf8 (map (λ t. t.name) (cond b (s ∷ filter (λ t. has t.items q) skills)
        (filter (λ t. has t.items q) skills)))
    at true later = (h.0, later)
    at false later = later

rows-utf8 : (skills : List Skill) (ns : List ℕ) → AllByRecursion IsUtf8 (skill_names skills)
    → AllByRecursion (AllByRecursion IsUtf8) (map (own_skills skills) ns)
rows-utf8 skills [] h = tt
rows-utf8 skills (n ∷ ns) h = (own-utf8 skills n h, rows-utf8 skills ns h)

-- ---- the skills of the rows

in-among : (skills : List Skill) (s : Skill) → IsIn s skills → is_among (item_sets skills) s.items
    ≡ true
in-among [] s c = absurd c
in-among (t ∷ skills) s c = elim c [
  | inl e ↦ among-here s.items t.items (item_sets skills) (ap (λ x. x.items) e)
  | inr d ↦ among-there s.items t.items (item_sets skills) (in-among skills s d)
]

among-in : (skills : List Skill) (k : Items) → is_among (item_sets skills) k ≡ true → (s : Skill)
    × IsIn s skills × (k ≡ s.items)
among-in [] k c = absurd (true≢false (sym c))
among-in (t ∷ skills) k c = elim (among-cases k t.items (item_sets skills) c) [
  | inl e ↦ (t, inl refl, e)
  | inr a ↦ let r = among-in skills k a in (r.0, inr r.1, r.2)
]

-- no two skills have one name
same-skill : (skills : List Skill) (s t : Skill) → IsSorted is_lex_before (skill_names skills)
    → IsIn s skills → IsIn t skills → s.name ≡ t.name → s ≡ t
same-skill [] s t sorted c d e = absurd c
same-skill (x ∷ skills) s t sorted c d e = elim c [
  | inl p ↦ elim d [
    | inl q ↦ p ∙ sym q
    | inr q ↦ absurd
        (lex-same s.name
        (ap₂ is_lex_before (ap (λ y. y.name) p) e
        ∙ sorted.0 t.name (in-map (λ y. y.name) skills t q)))
  ]
  | inr p ↦ elim d [
    | inl q ↦ absurd
        (lex-same t.name
        (ap₂ is_lex_before (ap (λ y. y.name) q) (sym e)
        ∙ sorted.0 s.name (in-map (λ y. y.name) skills s p)))
    | inr q ↦ same-skill skills s t sorted.1 p q e
  ]
]

some-item : (s : Items) → (s ≡ empty → ⊥) → (q : ℕ) × (has s q ≡ true)
some-item s h = elim (least s) as (λ o. least s ≡ o → (q : ℕ) × (has s q ≡ true)) [
  | None ↦ λ e. absurd (h (same_set s empty (λ i. least-none_left s i e ∙ sym (has-empty i))))
  | Some q ↦ λ e. (q, ((least-is s q).0 e).0)
] refl

skilled-same : (f : Text → Items) (skills : List Skill)
    → ((s : Skill) → IsIn s skills → f s.name ≡ s.items) → skilled f (skill_names skills) ≡ skills
skilled-same f [] h = refl
skilled-same f (s ∷ skills) h =
    ap₂ (λ x xs. x ∷ xs) (ap (λ i. record { name = s.name; items = i }) (h s (inl refl)))
    (skilled-same f skills (λ t c. h t (inr c)))

module _ (n : ℕ) (skills : List Skill) (is : IsMap n skills) where
  abbrev rows : List (List Text)
  rows = map (own_skills skills) (numbers_from 0 n)

  texts : List Text
  texts = flat_map (λ row. row) rows

  row-is : (q : ℕ) → q < n → get_or rows q [] ≡ own_skills skills q
  row-is q l =
      rows-at (own_skills skills) 0 n q l
      ∙ ap (own_skills skills) (let e : 0 + q ≡ q = omega arith in e)

  row-place : (row : List Text) → IsIn row rows → (q : ℕ) × (q < n) × (row ≡ own_skills skills q)
  row-place row c =
      let p = place-in rows row [] c in
      let l : p.0 < n = omega (arith, p.1, rows-length (own_skills skills) 0 n) in
      (p.0, l, sym p.2 ∙ row-is p.0 l)

  own-from : (v : Text) (q : ℕ) → IsIn v (own_skills skills q) → (s : Skill) × IsIn s skills
      × (has s.items q ≡ true) × (v ≡ s.name)
  own-from v q c =
      let m = map-in (λ t. t.name) (filter (λ t. has t.items q) skills) v c in
      let f = filter-in (λ t. has t.items q) skills m.0 m.1 in
      (m.0, f.0, f.1, m.2)

  own-to : (s : Skill) (q : ℕ) → IsIn s skills → has s.items q ≡ true
      → IsIn s.name (own_skills skills q)
  own-to s q c h =
      in-map (λ t. t.name) (filter (λ t. has t.items q) skills) s
      (in-filter (λ t. has t.items q) skills s c h)

  below : (s : Skill) (q : ℕ) → IsIn s skills → has s.items q ≡ true → q < n
  below s q c h =
      ltb-true q n (sym (has-full n q) ∙ is.cover.small s.items (in-among skills s c) q h)

  texts-from : (v : Text) → IsIn v texts → IsIn v (skill_names skills)
  unfolding texts
  texts-from v c =
      let f = flat_map-in (λ row. row) rows v c in
      let p = row-place f.0 f.1 in
      let s = own-from v p.0 (subst (λ row. IsIn v row) p.2 f.2) in
      subst (λ w. IsIn w (skill_names skills)) (sym s.3) (in-map (λ t. t.name) skills s.0 s.1)

  texts-to : (v : Text) → IsIn v (skill_names skills) → IsIn v texts
  unfolding texts
  texts-to v c =
      let s = map-in (λ t. t.name) skills v c in
      let q = some-item s.0.items (λ e. true≢false
      (sym (in-among skills s.0 s.1) ∙ ap (is_among (item_sets skills)) e ∙ is.none_empty)) in
      let l = below s.0 q.0 s.1 q.1 in
      in-flat_map (λ row. row) rows (get_or rows q.0 []) v
      (get-in_list rows q.0 [] (omega (arith, l, rows-length (own_skills skills) 0 n)))
      (subst (λ row. IsIn v row) (sym (row-is q.0 l))
      (subst (λ w. IsIn w (own_skills skills q.0)) (sym s.2) (own-to s.0 q.0 s.1 q.1)))

  names-back : in_text_order texts ≡ skill_names skills
  names-back =
      same_texts (in_text_order texts) (skill_names skills) (sorted-in_text_order texts) is.ascend
      (λ v c. texts-from v (in-order-from texts v c)) (λ v c. in-order-to texts v (texts-to v c))

  items-back : (s : Skill) → IsIn s skills → items_with rows s.name ≡ s.items
  items-back s c = same_set (items_with rows s.name) s.items (λ q.
      same_truth (has (items_with rows s.name) q) (has s.items q)
      (λ h.
      let i = items-has rows s.name q h in
      let l : q < n = omega (arith, i.0, rows-length (own_skills skills) 0 n) in
      let t = own-from s.name q
      (subst (λ row. IsIn s.name row) (row-is q l) (any-in s.name (get_or rows q []) i.1)) in
      ap (λ x. has x.items q) (same-skill skills s t.0 is.ascend c t.1 t.3) ∙ t.2)
      (λ h.
      let l = below s q c h in
      has-items rows s.name q (omega (arith, l, rows-length (own_skills skills) 0 n))
      (in-any s.name (get_or rows q [])
      (subst (λ row. IsIn s.name row) (sym (row-is q l)) (own-to s q c h)))))

  none-bare : first_bare rows ≡ None
  none-bare = nothing (first_bare rows)
      (is_some-position (λ row. length row == 0) rows
      ∙ false_from_ne_true (list_any (λ row. length row == 0) rows) (λ h.
      let r = some-in (λ row. length row == 0) rows h in
      let p = row-place r.0 r.1 in
      let k = some-from (λ k. has k p.0) (item_sets skills)
      (sym (has-unions (item_sets skills) p.0) ∙ is.cover.each_item p.0 p.1) in
      let s = among-in skills k.0 k.1 in
      bare r.0 s.0.name
      (subst (λ row. IsIn s.0.name row) (sym p.2)
      (own-to s.0 p.0 s.1 (ap (λ i. has i p.0) (sym s.2) ∙ k.2)))
      r.2))
    where
      bare : (row : List Text) (w : Text) → IsIn w row → (length row == 0) ≡ true → ⊥
      bare [] w c h = c
      bare (v ∷ row) w c h = let e = eqb-true (suc (length row)) 0 h in omega (arith, e)

  skills-back : skills_from rows ≡ Ok skills
  unfolding skills_in texts
  skills-back =
      let whole : skills_in rows ≡ skills =
      ap (skilled (items_with rows)) names-back ∙ skilled-same (items_with rows) skills items-back
      in
      of_few rows none-bare (omega (arith, is.few, ap length whole)) ∙ ap Ok whole

-- ---- the whole

table-back : (names : List Text) (skills : List Skill) → IsDomain names
    → AllByRecursion IsUtf8 (skill_names skills)
    → table_of (skills_text names skills)
    ≡ Some (table_of_rows names (rows_of (length names) skills))
unfolding table_of skills_text members_from rows_of
table-back names skills domain texts =
    let rows = rows_of (length names) skills in
    let fine = rows-utf8 skills (numbers_from 0 (length names)) texts in
    let keys = each is_name-utf8 names (list_all-All is_name names domain.are_names.named) in
    ap (option_and_then read_table)
    (object-back (lists-back texts-back) names rows keys fine (omega arith))
    ∙ rows-read (lists-back texts-back) names rows fine

keys-named : (names : List Text) (rows : List (List Text))
    → has_named_keys names (table_of_rows names rows) ≡ true
unfolding has_named_keys
keys-named names rows =
    rows-pass (λ row. is_named names row.0) (λ w. is_named names w ≡ true) (λ row. ⊤) (λ w row a b. a)
    names rows (all-named names) (All-given (λ row. ⊤) (λ row. tt) rows)

pub map-back : (names : List Text) (skills : List Skill) → IsDomain names
    → IsMap (length names) skills → skills_of names (skills_text names skills) ≡ Ok skills
unfolding skills_of rows_in rows_of
map-back names skills domain is =
    let rows = rows_of (length names) skills in
    rw (table-back names skills domain is.texts, keys-named names rows)
    (ap skills_from
    (rows-back (λ o. option_map_or (λ row. row) o []) names rows
    (sym (rows-length (own_skills skills) 0 (length names))) domain.are_names.distinct
    ∙ map-id rows)
    ∙ skills-back (length names) skills is)
