-- The line with the text of two fringes is read as the command that asks for the state with them.
use Rattle.ls_fringe.proofs.Vocabulary.{◌++◌, ◌<◌, ◌∙◌, ◌∷◌, ◌≡◌, AllByRecursion, FringePair, IsWithin, Items, List, Text, ℕ, [], and_from, ap, append-nil, codes, command_of, full, is_of, is_plain, items, laid_out, length, list_all, map, name_of, names_of_set, parts, refl, spelled, spelling, sym, true, words, words_joined, spelled_as}
use Rattle.std.proofs.lemmas.List.Elements.{All-get_or}
use Rattle.std.proofs.lemmas.List.Sums.{AllPass-from_list_all}
use Rattle.ls_cutting.specs.declared.kind.Kind.TheVariants.{Item}
use Rattle.ls_lines.specs.declared.command.Command.TheVariants.{View}
use Rattle.ls_lines.specs.declared.view.ViewCommand.TheVariants.{StateOf}
use Rattle.ls_lines.proofs.ReadBack.{read_back}
use Rattle.ls_domain.specs.Domains.{IsDomain, is_name}
use Rattle.ls_domain.proofs.NamedSets.{items-below, names_of_set-within, set-back, set-all_named}
use Rattle.ls_fringe.specs.FringeTexts.{state_of_line, AsksFor}
use Rattle.ls_fringe.proofs.Bars.{join-first}

-- ---- the command

plain : (ws vs : List Text) → list_all (is_of Item) ws ≡ true → list_all (is_of Item) vs ≡ true → is_plain (View (StateOf ws vs)) ≡ true
unfolding is_plain spelled_as parts
plain ws vs a b = rw (a, b) refl

as_line : (ws vs : List Text) → words_joined (spelled (View (StateOf ws vs))) ≡ codes "state-of " ++ words_joined (ws ++ (124 ∷ []) ∷ vs)
unfolding spelled spelled_as parts laid_out spelling
as_line ws vs = ap (λ l. words_joined (codes "state-of" ∷ (ws ++ (124 ∷ []) ∷ l))) (append-nil vs) ∙ join-first (codes "state-of") ws vs

-- ---- the names

item_name : (w : Text) → is_name w ≡ true → is_of Item w ≡ true
unfolding is_of
item_name w h = h

numbers-names : (names : List Text) → list_all is_name names ≡ true → (is : List ℕ) → AllByRecursion (λ i. i < length names) is → list_all (is_of Item) (map (name_of names) is) ≡ true
numbers-names names h [] below = refl
numbers-names names h (i ∷ is) below =
    and_from (is_of Item (name_of names i)) (list_all (is_of Item) (map (name_of names) is)) (item_name (name_of names i) (All-get_or (λ w. is_name w ≡ true) names i [] below.0 (AllPass-from_list_all is_name names h))) (numbers-names names h is below.1)

set-names : (names : List Text) → list_all is_name names ≡ true → (s : Items) → IsWithin s (full (length names)) → list_all (is_of Item) (names_of_set names s) ≡ true
set-names names h s within =
    ap (list_all (is_of Item)) (names_of_set-within names s within)
    ∙ numbers-names names h (items s) (items-below (length names) s within)

-- ---- the line

pub asks : (names : List Text) (x : FringePair) → IsDomain names → IsWithin x.inner (full (length names)) → IsWithin x.outer (full (length names)) → AsksFor names (state_of_line names x) x
asks names x domain inner outer =
    let ws = names_of_set names x.inner in
    let vs = names_of_set names x.outer in
    let named = domain.are_names.named in
    let distinct = domain.are_names.distinct in
    record {
      inner = ws;
      outer = vs;
      command = ap (λ l. command_of (words l)) (sym (as_line ws vs)) ∙ read_back (View (StateOf ws vs)) (plain ws vs (set-names names named x.inner inner) (set-names names named x.outer outer));
      inner_known = set-all_named names distinct x.inner inner;
      outer_known = set-all_named names distinct x.outer outer;
      inner_set = set-back names distinct x.inner inner;
      outer_set = set-back names distinct x.outer outer;
    }
