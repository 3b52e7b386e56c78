-- Examples: sessions that lines reach.
use Rattle.ls_reached.proofs.Vocabulary.{◌∷◌, ◌≡◌, Called, Free, List, Missing, ℕ, [], accepted, begun, bound, codes, comes_before, command, command_effect, command_of, compat, cut, differing, empty, false, families, fitting_spaces, forms, full, has, interior, is_of, is_same, is_within, items, known, least, len, line_effect, lines, map_of, meet, minus, names_from, None, parts, refl, session_after, single, spelling, standard, started, true, union, with, words}

-- lines whose calls on the folder give no file
abbrev called : List (List ℕ) → List Called
called ls = map_of (λ line. record { line = line; calls = record { file = λ name. Missing; failed = false } }) ls

-- two items, of which who fails the first fails the second; what a file would give changes nothing
reached : session_after (started []) (called (codes "yes a : b" ∷ codes "items a b" ∷ codes "yes a : b" ∷ codes "open s" ∷ []))
    ≡ record { names = codes "a" ∷ codes "b" ∷ []; interview = accepted (begun 2 Free) (record { a = single 0; q = 1 }) true; settings = standard 2; pupils = []; safe = None }
unfolding has empty full with union meet minus single differing is_within is_same bound items least comes_before len families interior compat fitting_spaces known lines words is_of spelling parts command forms cut command_of names_from command_effect line_effect session_after
reached = refl
