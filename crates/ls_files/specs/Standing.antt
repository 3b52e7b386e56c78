-- Which bases, answers and pupils a session can have, as tests.
use Rattle.std.specs.Prelude.{ℕ, ◌+◌, Bool, true, false, not, ◌&&◌, ◌==◌, nat_lt, nat_le, is_none}
use Rattle.std.specs.Prelude.{List, [], ◌∷◌, ◌++◌, map, length, bytes_eq}
use Rattle.std.specs.Option.{option_map_or}
use Rattle.std.specs.Result.{is_ok, result_ok}
use Rattle.std.specs.List.{list_any, list_all}
use Rattle.std.specs.Cmp.Lexicographic.{pointwise}
use Rattle.ls_set.specs.{Items, is_good, is_same}
use Rattle.ls_theory.specs.{Interview, asked, based, is_same_query, made, most_answers, most_number}
use Rattle.ls_theory.specs.{spaces_of}
use Rattle.ls_theory.specs.Settings.{Settings, is_between, most_states, heavy_after}
use Rattle.ls_theory.specs.declared.reply.Reply.{Reply}
use Rattle.ls_theory.specs.declared.asked.Asked.{Asked}
use Rattle.ls_theory.specs.declared.asked.Asked.TheVariants.{Item, Over}
use Rattle.ls_domain.specs.Domains.{is_name}
use Rattle.ls_files.specs.Sessions.{Pupil, pupil_states, most_pupils}

-- ---- lists

-- no two are the same
abbrev pub are_apart : {X : Type 0} → (X → X → Bool) → List X → Bool
are_apart same [] = true
are_apart same (x ∷ xs) = not (list_any (same x) xs) && are_apart same xs

-- each number is below all later ones
abbrev pub is_ascending : List ℕ → Bool
is_ascending [] = true
is_ascending (m ∷ ms) = list_all (nat_lt m) ms && is_ascending ms

-- ---- bases

-- the sets are those of the base that they give, each in its place; so each of the n items is in
-- some set, and there are not too many
abbrev pub is_base : ℕ → List Items → Bool
is_base n sets =
    option_map_or (λ found. pointwise is_same found sets) (result_ok (based n sets)) false

-- ---- interviews

-- blocks of up to k of the n items can be made
abbrev pub are_made : ℕ → ℕ → Bool
are_made n k = is_ok (made n k)

-- the answers stand: an interview goes on from them
unfoldable pub stands : Interview → Bool
stands i =
    not (length (spaces_of i) == 0)
    && list_all (λ a. is_good i.count a.query) i.answers
    && are_apart is_same_query (map (λ a. a.query) i.answers)
    && is_ascending (map (λ a. a.number) i.answers)
    && list_all (λ a. nat_lt a.number i.next) i.answers
    && nat_le (length i.answers) most_answers
    && is_between 1 (most_number + 1) i.next

-- ---- pupils

-- the item is the one that is asked; none is, once an assessment is over
abbrev pub is_asked : Asked → ℕ → Bool
is_asked (Item i) q = i == q
is_asked (Over reason) q = false

-- each of the replies is to the item that is asked after those before it
abbrev pub follow : Settings → List Items → List Reply → List Reply → Bool
follow s f earlier [] = true
follow s f earlier (r ∷ rs) = is_asked (asked s f earlier) r.q && follow s f (earlier ++ r ∷ []) rs

-- Beside its start and its settings: its name is one, its queries are good and differ, its states
-- are not too many and can be
-- weighed, and its replies are to the items that were asked.
unfoldable pub is_pupil : ℕ → Pupil → Bool
is_pupil n p =
    let states = pupil_states n p in
    is_name p.name
    && list_all (is_good n) p.yeses
    && are_apart is_same_query p.yeses
    && nat_le (length states) most_states
    && is_none (heavy_after p.settings (length states))
    && follow p.settings states [] p.replies

-- there are not too many, and their names differ
abbrev pub are_pupils : List Pupil → Bool
are_pupils ps = nat_le (length ps) most_pupils && are_apart bytes_eq (map (λ p. p.name) ps)
