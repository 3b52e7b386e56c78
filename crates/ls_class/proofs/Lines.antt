-- The lines of results, each of a pupil's name and how its assessment ends.
use Rattle.ls_class.proofs.Vocabulary.{◌++◌, ◌+◌, ◌-◌, ◌<◌, ◌∙◌, ◌∷◌, ◌≡◌, Items, List, PupilResult, Replay, Row, Settings, Some, ℕ, [], add-one, ap, ap₂, arith, class_results, ended, get_or, length, line_of, lines_of, map, refl, replay_from, replies_in, slice_get, suc, sym, take, zero}

lines_suc : (rows : List Row) (replays : List Replay) (i : ℕ) (row : Row) (r : Replay) → slice_get rows i ≡ Some row → i < length replays → r ≡ get_or replays i r → lines_of (take (suc i) rows) (take (suc i) replays) ≡ lines_of (take i rows) (take i replays) ++ line_of row.name r ∷ []
lines_suc [] replays i row r e l own = absurd (grind (arith, e))
lines_suc (x ∷ rows) [] i row r e l own = absurd (omega arith)
lines_suc (x ∷ rows) (y ∷ replays) zero row r e l own =
    let same : x ≡ row = grind (arith, e) in
    ap₂ (λ (a : Row) (b : Replay). line_of a.name b ∷ []) same (sym own)
lines_suc (x ∷ rows) (y ∷ replays) (suc i) row r e l own =
    ap (λ lines. line_of x.name y ∷ lines) (lines_suc rows replays i row r e (omega arith) own)

pub lines_next : (rows : List Row) (replays : List Replay) (i : ℕ) (row : Row) (r : Replay) → slice_get rows i ≡ Some row → i < length replays → r ≡ get_or replays i r → lines_of (take (i + 1) rows) (take (i + 1) replays) ≡ lines_of (take i rows) (take i replays) ++ line_of row.name r ∷ []
lines_next rows replays i row r e l own =
    ap (λ n. lines_of (take n rows) (take n replays)) (add-one i) ∙ lines_suc rows replays i row r e l own

rights_suc : (rows : List Row) (i : ℕ) (row : Row) → slice_get rows i ≡ Some row → map (λ (r : Row). r.right) (take i rows) ++ row.right ∷ [] ≡ map (λ (r : Row). r.right) (take (suc i) rows)
rights_suc [] i row e = absurd (grind (arith, e))
rights_suc (x ∷ rows) zero row e =
    let same : x ≡ row = grind (arith, e) in
    ap (λ (a : Row). a.right ∷ []) (sym same)
rights_suc (x ∷ rows) (suc i) row e = ap (λ l. x.right ∷ l) (rights_suc rows i row e)

-- what the next pupil gets right
pub rights_next : (rows : List Row) (i : ℕ) (row : Row) → slice_get rows i ≡ Some row → map (λ (r : Row). r.right) (take i rows) ++ row.right ∷ [] ≡ map (λ (r : Row). r.right) (take (i + 1) rows)
rights_next rows i row e = rights_suc rows i row e ∙ ap (λ n. map (λ (r : Row). r.right) (take n rows)) (sym (add-one i))

less_none : (n : ℕ) → n - 0 ≡ n
less_none n = omega arith

-- the lines of the replays of each pupil are the results of the class
pub lines_are : (s : Settings) (f : List Items) (rows : List Row) → lines_of rows (map (replay_from s f []) (map (λ row. row.right) rows)) ≡ class_results s f rows
unfolding class_results
lines_are s f [] = refl
lines_are s f (row ∷ rows) =
    ap₂ (λ line lines. line ∷ lines) (ap (λ m. line_of row.name (ended s f (replies_in m s f row.right []))) (less_none s.budget)) (lines_are s f rows)

-- each line has the name of its row
pub names_are : (s : Settings) (f : List Items) (rows : List Row) → map (λ (r : PupilResult). r.name) (class_results s f rows) ≡ map (λ (row : Row). row.name) rows
unfolding class_results
names_are s f [] = refl
names_are s f (row ∷ rows) = ap (λ names. row.name ∷ names) (names_are s f rows)
