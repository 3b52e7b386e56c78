-- The states of a pupil, listed.
use Rattle.ls_store.proofs.Vocabulary.{Bool, IsWeighable, Items, List, None, Query, Some, Start, StartOn, [], ap, breaks_none, compat, cond, false, filter, kept_if, le-leb, leb, leb-true, length, lt-leb, most_items, refl, subst, sym, true, ℕ, ◌<◌, ◌∙◌, ◌≡◌, ◌≤◌}
use Rattle.ls_theory.specs.Settings.{Settings, most_states}
use Rattle.ls_laws.specs.Families.{IsFamily}
use Rattle.ls_laws.proofs.Families.{compat-IsFamily}
use Rattle.ls_weight.proofs.Weighable.{family-weighable}
use Rattle.ls_standing.proofs.Ruling.{ruled-compat}
use Rattle.ls_pupils.proofs.FewQueries.{few-left}

-- the sets that few queries leave of a start on n items are those that all leave
pub few-states : (inner first : StartOn) (few all : List Query) (n : ℕ) (start : Start) → inner ≡ first → first.item_count ≡ n → first.start ≡ start
    → compat first.item_count first.start few ≡ compat first.item_count first.start all
    → filter (breaks_none few) (compat inner.item_count inner.start []) ≡ compat n start all
few-states inner first few all n start same items starts left =
    few-left inner first few all (compat n start all) same left
    (ruled-compat first.item_count first.start all ∙ ap (λ m. compat m first.start all) items ∙ ap (λ s. compat n s all) starts)

pub states-kept : (sets f : List Items) → sets ≡ f → length sets ≤ most_states → Some sets ≡ kept_if (λ g. leb (length g) most_states) (Some f)
states-kept sets f e few = ap Some e ∙ sym (ap (λ b. cond b (Some f) None) (le-leb (length f) most_states (subst (λ (g : List Items). length g ≤ most_states) e few)))

pub states-many : (sets f : List Items) → sets ≡ f → most_states < length sets → None ≡ kept_if (λ g. leb (length g) most_states) (Some f)
states-many sets f e many = sym (ap (λ b. cond b (Some f) None) (lt-leb (length f) most_states (subst (λ (g : List Items). most_states < length g) e many)))

-- what was kept, and why
pub record AreKept (f sets : List Items) : Type 0 where
  pub same : sets ≡ f
  pub test : leb (length f) most_states ≡ true

pub kept-from : (sets f : List Items) → Some sets ≡ kept_if (λ g. leb (length g) most_states) (Some f) → AreKept f sets
kept-from sets f e = told (leb (length f) most_states) refl e
  where
    told : (b : Bool) → leb (length f) most_states ≡ b → Some sets ≡ cond b (Some f) None → AreKept f sets
    told true t h = record { same = cc h; test = t }
    told false t h = absurd (cc h)

pub weighable : (n : ℕ) (start : Start) (own : List Query) (sets : List Items) (s : Settings) → AreKept (compat n start own) sets → 0 < n → n ≤ most_items → length s.ratios ≡ n → IsWeighable n sets s
weighable n start own sets s kept some few each =
    let family : IsFamily n sets = subst (IsFamily n) (sym kept.same) (compat-IsFamily n start own) in
    family-weighable n sets s family some few each (few_enough (length sets) (ap (λ (g : List Items). leb (length g) most_states) kept.same ∙ kept.test))
  where
    few_enough : (m : ℕ) → leb m most_states ≡ true → m ≤ most_states
    few_enough m t = leb-true m most_states t

-- ---- whether the pupil stands
