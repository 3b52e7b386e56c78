-- The case of a pupil that is read, from the pupil after the replies.
use Rattle.ls_store.proofs.Vocabulary.{◌&&◌, ◌∙◌, ◌≡◌, ◌≤◌, Bool, IfSome, IsCase, IsStartOn, Items, List, None, Option, Pupil, PupilCase, Query, Reply, Some, Start, Weighing, ℕ, [], ap, ap₂, compat, false, follow, is_good, is_none, is_some, leb, leb-true, length, list_all, refl, start_of, subst, sym, true}
use Rattle.ls_theory.specs.Settings.{Settings, most_states, heavy_after}

-- the pupil of the states, after the replies
abbrev pub after : ℕ → Settings → Start → List Query → List Reply → Weighing
after n s start own rs = record { settings = s; states = compat n start own; replies = rs }

-- whether there is such a pupil
abbrev pub can_follow : ℕ → Settings → Start → List Query → List Reply → Bool
can_follow n s start own rs =
    leb (length (compat n start own)) most_states && is_none (heavy_after s (length (compat n start own))) && follow s (compat n start own) [] rs

-- what a pupil that is found tells, or the want of one
module _ (n : ℕ) (s : Settings) (start : Start) (own qs : List Query) (rs replies : List Reply) (found : Option Weighing) (same_queries : qs ≡ own) (same_replies : replies ≡ rs)
    (told : is_some found ≡ can_follow n s start qs replies) where
  answered : can_follow n s start own rs ≡ is_some found
  answered = ap₂ (λ (a : List Query) (b : List Reply). can_follow n s start a b) (sym same_queries) (sym same_replies) ∙ sym told

  pub followed : (w : Weighing) → found ≡ Some w → can_follow n s start own rs ≡ true
  followed w is = answered ∙ ap (λ (o : Option Weighing). is_some o) is

  pub lost : found ≡ None → can_follow n s start own rs ≡ false
  lost is = answered ∙ ap (λ (o : Option Weighing). is_some o) is

  pub is-after : (w : Weighing) → found ≡ Some w → IfSome found (λ p. p ≡ after n s start qs replies) → w ≡ after n s start own rs
  is-after w is h =
      subst (λ (o : Option Weighing). IfSome o (λ p. p ≡ after n s start qs replies)) is h ∙ ap₂ (λ (a : List Query) (b : List Reply). after n s start a b) same_queries same_replies

pub with_replies : (p : Pupil) (w : Weighing) (read : Option Pupil) → w.replies ≡ p.replies → read ≡ Some p → read ≡ Some (record p { replies = w.replies })
with_replies p w read e h = h ∙ sym (ap (λ (rs : List Reply). let q : Pupil = record p { replies = rs } in Some q) e)

-- ---- the case

pub second : (a b c : Bool) → (a && b && c) ≡ true → b ≡ true
second true true c h = refl
second true false c h = h
second false true c h = refl
second false false c h = h

few_states : (a b c : Bool) → (a && b && c) ≡ true → a ≡ true
few_states true b c h = refl
few_states false b c h = h

pub is-case : (n : ℕ) (c : PupilCase) (rs : List Reply) → c.pupil ≡ after n c.settings (start_of c.start) c.yes rs → can_follow n c.settings (start_of c.start) c.yes rs ≡ true
    → length c.settings.ratios ≡ n → IsStartOn n c.start → list_all (is_good n) c.yes ≡ true → IsCase n c
is-case n c rs is can items start good =
    let sets : List Items = compat n (start_of c.start) c.yes in
    let same : c.pupil.states ≡ sets = ap (λ (w : Weighing). w.states) is in
    let few : length sets ≤ most_states = leb-true (length sets) most_states (few_states (leb (length sets) most_states) _ _ can) in
    record {
      states = same;
      few = subst (λ (f : List Items). length f ≤ most_states) (sym same) few;
      settings = ap (λ (w : Weighing). w.settings) is;
      items = items;
      start = start;
      good = good;
    }
