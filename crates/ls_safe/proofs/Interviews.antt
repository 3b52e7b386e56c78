-- Safe interviews: how they begin, and what their base is.
use Rattle.std.proofs.Common.{ℕ, ◌≡◌, true, false, cond, ◌&&◌, List, [], refl, sym, ap}
use Rattle.std.proofs.Common.{◌∙◌}
use Rattle.std.specs.Prelude.{slice_index}
use Rattle.std.proofs.lemmas.Bool.{and_from}
use Rattle.ls_set.specs.ItemSet.{Items, full}
use Rattle.ls_set.specs.declared.query.Query.{Query}
use Rattle.ls_theory.specs.Families.{is_space}
use Rattle.ls_theory.specs.Bases.{atom_items, base}
use Rattle.ls_theory.specs.Verdict.{base_verdict, double_atom, is_learning_space, is_well_graded}
use Rattle.ls_theory.specs.declared.verdict.BaseVerdict.TheVariants.{Learning, NotGraded}
use Rattle.ls_laws.proofs.Families.{spanned-IsFamily}
use Rattle.ls_base.specs.Bases.{BaseState, family}
use Rattle.ls_origins.specs.Safe.{is_safe, marked, safe, waiting}
use Rattle.std.proofs.Common.{not}
use Rattle.std.specs.List.{list_all}
use Rattle.ls_safe.proofs.Turns.{safe-ends}
use Rattle.ls_safe.specs.Interviews.{SafeState, IsSafeOf}
use Rattle.ls_safe.proofs.Marked.{marked-safe}

-- a space with the verdict is a learning space
pub learned : (whole : Items) (f : List Items) → is_space whole f ≡ true
    → base_verdict f ≡ Learning → is_learning_space whole f ≡ true
learned whole f space e =
    elim (is_well_graded f) as
    (λ g. cond g Learning (NotGraded (double_atom f)
    (slice_index (atom_items f (double_atom f)) 0) (slice_index (atom_items f (double_atom f)) 1))
    ≡ Learning → (is_space whole f && g) ≡ true) [
      | true ↦ λ _. and_from (is_space whole f) true space refl
      | false ↦ λ e. cc
    ] e

pub begun : (b : BaseState) (s : SafeState) → s.base ≡ b → s.answers ≡ []
    → base (family b) ≡ b.sets → is_space (full b.item_count) (family b) ≡ true
    → base_verdict (family b) ≡ Learning → IsSafeOf b.item_count (family b) [] s
unfolding marked
begun b s same none is_base space e = record {
  items = ap (λ x. x.item_count) same;
  base_sets = ap (λ x. x.sets) same ∙ sym is_base;
  answers = none;
  is_family = spanned-IsFamily b.item_count b.sets;
  learning = learned (full b.item_count) (family b) space e;
}

pub safe-base : (n : ℕ) (f : List Items) (queries : List Query) (s : SafeState)
    → IsSafeOf n f queries s → s.base.sets ≡ base (safe n f queries).family
safe-base n f queries s i = i.base_sets ∙ ap (λ s. base s.family) (marked-safe n f queries)

pub safe-waits : (n : ℕ) (f : List Items) (queries : List Query) (s : SafeState)
    → IsSafeOf n f queries s
    → list_all (λ r. not (is_safe n (safe n f queries).family r)) (waiting s.answers) ≡ true
safe-waits n f queries s i =
    ap (list_all (λ r. not (is_safe n (safe n f queries).family r)))
    (ap waiting i.answers ∙ ap (λ t. t.waiting) (marked-safe n f queries))
    ∙ safe-ends n f queries
