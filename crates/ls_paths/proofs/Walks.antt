-- What a walk has left, once the next growth is looked for.
use Rattle.ls_paths.proofs.Vocabulary.{◌∙◌, ◌≡◌, Bool, Items, List, MatchBool, None, Some, ℕ, ap, empty, false, filter, is_lex_before, is_whole, leaves_below, length, next_growth, paths, paths_left, sym, true, true≢false}
use Rattle.ls_paths.proofs.Growths.{IsLearning}
use Rattle.ls_paths.proofs.Levels.{next-is_whole, next-whole, whole-parts}
use Rattle.ls_paths.proofs.PathOrder.{after-next, after-none, paths-in_order, paths-next}

-- what a walk is after a search for the next growth after an order
pub record Follows (n : ℕ) (f : List Items) (found : Bool) (order new : List ℕ) : Type 0 where
  pub left : paths_left n f found new ≡ filter (is_lex_before order) (paths n f)
  pub whole : found ≡ true → is_whole n f new ≡ true

pub follows : (n : ℕ) (f : List Items) (found : Bool) (order new : List ℕ) (level : ℕ) (R : Type 0) → IsLearning n f → length order ≡ n
    → next_growth n f order empty ≡ leaves_below n f empty order level
    → MatchBool found (leaves_below n f empty order level ≡ Some new) ((leaves_below n f empty order level ≡ None) × R)
    → Follows n f found order new
follows n f true order new level R learning long e h = record {
  left = sym (after-next (paths n f) order new (paths-in_order n f learning.family.holds_empty) (paths-next n f order learning long ∙ e ∙ h));
  whole = λ _. next-is_whole n f order new learning long (e ∙ h);
}
follows n f false order new level R learning long e h = record {
  left = sym (after-none (paths n f) order (paths-next n f order learning long ∙ e ∙ h.0));
  whole = λ z. absurd (true≢false (sym z));
}

-- from a path all its items are taken back
pub follows-path : (n : ℕ) (f : List Items) (level : ℕ) (found : Bool) (order new : List ℕ) (R : Type 0) → IsLearning n f → is_whole n f order ≡ true → level ≡ n
    → MatchBool found (leaves_below n f empty order level ≡ Some new) ((leaves_below n f empty order level ≡ None) × R)
    → Follows n f found order new
follows-path n f level found order new R learning h e found_at =
    let g = whole-parts n f order h in
    follows n f found order new level R learning g.long (next-whole n f empty order g.grown ∙ ap (leaves_below n f empty order) (g.long ∙ sym e)) found_at
