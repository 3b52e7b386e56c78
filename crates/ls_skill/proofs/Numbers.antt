-- Skills that are numbered: one for each set of a base.
use Rattle.std.proofs.Common.{ℕ, suc, ◌+◌, ◌<◌, ◌≤◌, ◌≡◌, ◌||◌, inl, inr, Bool}
use Rattle.std.proofs.Common.{true, false, List, [], ◌∷◌, ◌++◌, length, take, get_or, ltb, lt-ltb}
use Rattle.std.proofs.Common.{eq-eqb, refl, sym, ap, ap₂, ◌∙◌, subst, arith, true≢false, IsUtf8}
use Rattle.std.specs.List.{AllByRecursion}
use Rattle.std.proofs.lemmas.Bool.{cases_order, false_from_ne_true}
use Rattle.std.proofs.lemmas.List.{take_more, length-take-le}
use Rattle.ls_lists.specs.Lists.{IsIn, IsSorted}
use Rattle.ls_set.specs.ItemSet.{Items, empty, full, is_among, most_items}
use Rattle.ls_set.proofs.Sets.{has-empty}
use Rattle.ls_theory.specs.Words.{is_lex_before}
use Rattle.ls_theory.specs.Families.{is_space}
use Rattle.ls_theory.specs.Bases.{base}
use Rattle.ls_laws.specs.Spans.{AreOn}
use Rattle.ls_laws.proofs.Atoms.{base-atom, base-member}
use Rattle.ls_laws.proofs.Families.{spanned-IsFamily}
use Rattle.ls_clauses.specs.Starts.{IsCover}
use Rattle.ls_base.specs.Bases.{BaseState, family}
use Rattle.ls_cutting.specs.Lines.{Text}
use Rattle.ls_origins.specs.Skills.{any, most_skills}
use Rattle.ls_files.specs.SkillFiles.{Skill, item_sets, digit_of, skill_name, numbered_skills}
use Rattle.ls_files.specs.SkillFiles.{base_skills}
use Rattle.ls_skill.specs.Maps.{IsMap, skill_names}
use Rattle.ls_skill.proofs.Skilled.{any-spanned, any-space, fewest-of}

-- ---- names in order

lex-next : (a b : ℕ) (xs ys : Text) → a ≡ b → is_lex_before xs ys ≡ true
    → is_lex_before (a ∷ xs) (b ∷ ys) ≡ true
lex-next a b xs ys e h = rw (eq-eqb a b e, h) (or-true (ltb a b))
  where
    or-true : (t : Bool) → (t || true) ≡ true
    or-true true = refl
    or-true false = refl

lex-here : (a b : ℕ) (xs ys : Text) → a < b → is_lex_before (a ∷ xs) (b ∷ ys) ≡ true
lex-here a b xs ys l = rw (lt-ltb a b l) refl

-- the digits from a power of ten on
abbrev ones : ℕ → Text
ones i = digit_of i 1 ∷ []

abbrev tens : ℕ → Text
tens i = digit_of i 10 ∷ ones i

abbrev hundreds : ℕ → Text
hundreds i = digit_of i 100 ∷ tens i

abbrev thousands : ℕ → Text
thousands i = digit_of i 1000 ∷ hundreds i

ones-ascend : (i j : ℕ) → i < j → j < 10000 → digit_of i 1000 ≡ digit_of j 1000
    → digit_of i 100 ≡ digit_of j 100 → digit_of i 10 ≡ digit_of j 10
    → is_lex_before (ones i) (ones j) ≡ true
ones-ascend i j l small a b d = lex-here (digit_of i 1) (digit_of j 1) [] [] (omega arith)

tens-ascend : (i j : ℕ) → i < j → j < 10000 → digit_of i 1000 ≡ digit_of j 1000
    → digit_of i 100 ≡ digit_of j 100 → is_lex_before (tens i) (tens j) ≡ true
tens-ascend i j l small a b = elim (cases_order (digit_of i 10) (digit_of j 10)) [
  | inr (inl d) ↦ lex-here (digit_of i 10) (digit_of j 10) (ones i) (ones j) d
  | inr (inr d) ↦ absurd (omega arith)
  | inl d ↦ lex-next (digit_of i 10) (digit_of j 10) (ones i) (ones j) d
      (ones-ascend i j l small a b d)
]

hundreds-ascend : (i j : ℕ) → i < j → j < 10000 → digit_of i 1000 ≡ digit_of j 1000
    → is_lex_before (hundreds i) (hundreds j) ≡ true
hundreds-ascend i j l small a = elim (cases_order (digit_of i 100) (digit_of j 100)) [
  | inr (inl d) ↦ lex-here (digit_of i 100) (digit_of j 100) (tens i) (tens j) d
  | inr (inr d) ↦ absurd (omega arith)
  | inl d ↦ lex-next (digit_of i 100) (digit_of j 100) (tens i) (tens j) d
      (tens-ascend i j l small a d)
]

thousands-ascend : (i j : ℕ) → i < j → j < 10000 → is_lex_before (thousands i) (thousands j) ≡ true
thousands-ascend i j l small = elim (cases_order (digit_of i 1000) (digit_of j 1000)) [
  | inr (inl d) ↦ lex-here (digit_of i 1000) (digit_of j 1000) (hundreds i) (hundreds j) d
  | inr (inr d) ↦ absurd (omega arith)
  | inl d ↦ lex-next (digit_of i 1000) (digit_of j 1000) (hundreds i) (hundreds j) d
      (hundreds-ascend i j l small d)
]

digits-name : (i j : ℕ) → i < j → j < 10000 → is_lex_before (skill_name i) (skill_name j) ≡ true
unfolding skill_name
digits-name i j l small =
    lex-next 115 115 (thousands i) (thousands j) refl (thousands-ascend i j l small)

name-in : (i : ℕ) (sets : List Items) (w : Text) → IsIn w (skill_names (numbered_skills i sets))
    → (k : ℕ) × (i ≤ k) × (k < i + length sets) × (w ≡ skill_name k)
name-in i [] w c = absurd c
name-in i (s ∷ sets) w c = elim c [
  | inl e ↦ (i, omega arith, omega arith, e)
  | inr d ↦ let r = name-in (suc i) sets w d in
      let a = r.1 in let b = r.2 in (r.0, omega arith, omega arith, r.3)
]

names-ascend : (i : ℕ) (sets : List Items) → i + length sets ≤ 10000
    → IsSorted is_lex_before (skill_names (numbered_skills i sets))
names-ascend i [] l = tt
names-ascend i (s ∷ sets) l = (
  λ w c.
      let r = name-in (suc i) sets w c in
      let a = r.1 in
      let b = r.2 in
      ap (is_lex_before (skill_name i)) r.3 ∙ digits-name i r.0 (omega arith) (omega arith),
  names-ascend (suc i) sets (omega arith),
)

-- ---- the skills

pub numbered-sets : (i : ℕ) (sets : List Items) → item_sets (numbered_skills i sets) ≡ sets
numbered-sets i [] = refl
numbered-sets i (s ∷ sets) = ap (λ ss. s ∷ ss) (numbered-sets (suc i) sets)

numbered-length : (i : ℕ) (sets : List Items) → length (numbered_skills i sets) ≡ length sets
numbered-length i [] = refl
numbered-length i (s ∷ sets) = ap suc (numbered-length (suc i) sets)

numbered-last : (i : ℕ) (sets : List Items) (s : Items) → numbered_skills i (sets ++ s ∷ [])
    ≡ numbered_skills i sets ++ record { name = skill_name (i + length sets); items = s } ∷ []
numbered-last i [] s =
    ap (λ k. record { name = skill_name k; items = s } ∷ []) (let e : i ≡ i + 0 = omega arith in e)
numbered-last i (t ∷ sets) s =
    ap (λ ss. record { name = skill_name i; items = t } ∷ ss)
    (numbered-last (suc i) sets s
    ∙ ap (λ k. numbered_skills (suc i) sets ++ record { name = skill_name k; items = s } ∷ [])
    (let e : suc i + length sets ≡ i + suc (length sets) = omega arith in e))

-- the skill of one set more
pub base-next : (sets : List Items) (p : ℕ) (s : Items) (w : Text) → p < length sets
    → s ≡ get_or sets p empty → w ≡ skill_name (p + 1)
    → base_skills (take p sets) ++ record { name = w; items = s } ∷ []
    ≡ base_skills (take (p + 1) sets)
base-next sets p s w l e is =
    let count : p + 1 ≡ 1 + length (take p sets) =
    omega (arith, length-take-le p sets (omega arith)) in
    ap₂ (λ v t. base_skills (take p sets) ++ record { name = v; items = t } ∷ [])
    (is ∙ ap skill_name count) e
    ∙ sym (numbered-last 1 (take p sets) (get_or sets p empty))
    ∙ ap (numbered_skills 1) (sym (take_more sets p empty l))

-- ---- the map of a base

module _ (b : BaseState) (is_base : base (family b) ≡ b.sets) where
  sets-on : AreOn b.item_count b.sets
  sets-on k c =
      (spanned-IsFamily b.item_count b.sets).small k
      (base-member (family b) k (ap (λ g. is_among g k) is_base ∙ c))

  sets-held : is_among b.sets empty ≡ false
  sets-held = false_from_ne_true (is_among b.sets empty) (λ c.
      let a = base-atom (family b) empty (ap (λ g. is_among g empty) is_base ∙ c) in
      true≢false (sym a.1.has_q ∙ has-empty a.0))

  pub base-map : is_space (full b.item_count) (family b) ≡ true → b.item_count ≤ most_items
      → length b.sets ≤ most_skills → AllByRecursion IsUtf8 (skill_names (base_skills b.sets))
      → IsMap b.item_count (base_skills b.sets)
  base-map space few_items few texts =
      let same = numbered-sets 1 b.sets in
      record {
        few_items = few_items;
        texts = texts;
        ascend = names-ascend 1 b.sets (omega arith);
        none_empty = ap (λ g. is_among g empty) same ∙ sets-held;
        cover =
            subst (IsCover b.item_count) (sym same)
            ((any-space b.item_count b.sets sets-on).0
            (ap (λ f. is_space (full b.item_count) f) (any-spanned b.item_count b.sets sets-on) ∙
            space));
        few = omega (arith, few, numbered-length 1 b.sets);
      }

  pub base-any : any b.item_count (item_sets (base_skills b.sets)) ≡ family b
  base-any =
      ap (any b.item_count) (numbered-sets 1 b.sets) ∙ any-spanned b.item_count b.sets sets-on

  pub base-fewest : (m : List Skill) → AreOn b.item_count (item_sets m)
      → any b.item_count (item_sets m) ≡ family b → length (base_skills b.sets) ≤ length m
  base-fewest m on e =
      let fewest = fewest-of b.item_count (family b) (item_sets m) on e in
      omega (arith, fewest, numbered-length 1 b.sets, ap length is_base, mapped m)
    where
      mapped : (m : List Skill) → length (item_sets m) ≡ length m
      mapped [] = refl
      mapped (s ∷ m) = ap suc (mapped m)
