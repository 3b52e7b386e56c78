-- Examples: the texts of sessions on three items, byte for byte.
use Rattle.ls_codecs.proofs.Vocabulary.{◌++◌, ◌∷◌, ◌≡◌, Clauses, Err, Free, List, Ok, Pupil, Query, Ratio, Ratios, Session, Sets, Settings, Start, ℕ, [], accepted, asked, base, begun, blocks, chars, codes, compat, families, fitting_spaces, flaw, half_split, heavy_after, imbalance, interior, is_of, is_pupil, is_too_wide, is_utf8, leader, length, made, names_from, refl, replicate, session_from, session_of, session_text, stands, surmise_from, true, weight}
use Rattle.std.specs.Fmt.{digits}
use Rattle.json.specs.Print.{escape_byte}
use Rattle.serde_json.proofs.OnLiterals.{serde_json_on_literals}
use Rattle.ls_set.specs.{Items, bound, comes_before, cursor, cursor_set, differing, empty, full, has, is_same, is_within, items, least, len, meet, minus, read_cursor, single, union, with}
use Rattle.ls_files.specs.declared.cause.Cause.TheVariants as cause

-- an example that opens this opens each word
unfoldable saving : ℕ
unfolding digits is_utf8 chars serde_json_on_literals escape_byte has empty full with union meet minus single differing is_within is_same bound items least comes_before len cursor cursor_set read_cursor families interior compat fitting_spaces blocks base flaw surmise_from weight imbalance half_split leader asked heavy_after is_too_wide made is_of names_from stands is_pupil session_text session_from session_of
saving = 0

abbrev set : ℕ → Items
set digits = record { digits = digits }

abbrev standard : Settings
standard = let r : Ratio = record { a = 8; b = 1 } in let rs : Ratios = record { right = r; wrong = r } in record { ratios = replicate 3 rs; budget = 30; share = 90 }

-- the items a b c, and the answer that who fails a fails b
abbrev answered : Session
answered =
    let r : Query = record { a = set 1; q = 1 } in
    record { names = codes "a" ∷ codes "b" ∷ codes "c" ∷ []; interview = accepted (begun 3 Free) r true; settings = standard; pupils = [] }

abbrev text : List ℕ
text = codes "{\"answers\":[[1,true,\"8\",1]],\"block\":1,\"items\":[\"a\",\"b\",\"c\"],\"limits\":[30,90],\"next\":2,\"odds\":[[[8,1],[8,1]],[[8,1],[8,1]],[[8,1],[8,1]]],\"pupils\":[],\"start\":\"free\",\"version\":2}"

abbrev first_text : List ℕ
first_text = codes "{\"answers\":[[1,true,\"8\",1]],\"block\":1,\"items\":[\"a\",\"b\",\"c\"],\"limits\":[30,90],\"next\":2,\"odds\":[[8,8],[8,8],[8,8]],\"pupils\":[],\"start\":\"free\",\"version\":1}"

-- the text of the first version has odds
lengths : (length text ≡ 176) × (length first_text ≡ 152)
lengths = (refl, refl)

written : session_text answered ≡ text
unfolding saving
written = refl

read_ratios : session_of text ≡ Ok answered
unfolding saving
read_ratios = refl

read_odds : session_of first_text ≡ Ok answered
unfolding saving
read_odds = refl

-- ---- causes

-- a text of parts, where the answers, the next number and the block are those of none
abbrev begun_text : (items limits odds start pupils version : List ℕ) → List ℕ
begun_text names limits odds start pupils version =
    codes "{\"answers\":[],\"block\":1,\"items\":" ++ names ++ codes ",\"limits\":" ++ limits ++ codes ",\"next\":1,\"odds\":" ++ odds
    ++ codes ",\"pupils\":" ++ pupils ++ codes ",\"start\":" ++ start ++ codes ",\"version\":" ++ version ++ codes "}"

abbrev abc : List ℕ
abc = codes "[\"a\",\"b\",\"c\"]"

abbrev eights : List ℕ
eights = codes "[[8,8],[8,8],[8,8]]"

abbrev begun_session : Start → Session
begun_session start = record { names = codes "a" ∷ codes "b" ∷ codes "c" ∷ []; interview = begun 3 start; settings = standard; pupils = [] }

no_json : session_of (codes "{\"answers\":") ≡ Err cause.Json
unfolding saving
no_json = refl

no_object : session_of (codes "[]") ≡ Err cause.Json
unfolding saving
no_object = refl

no_version : session_of (codes "{}") ≡ Err cause.Version
unfolding saving
no_version = refl

third_version : session_of (begun_text abc (codes "[30,90]") eights (codes "\"free\"") (codes "[]") (codes "3")) ≡ Err cause.Version
unfolding saving
third_version = refl

repeated_name : session_of (begun_text (codes "[\"a\",\"a\"]") (codes "[30,90]") eights (codes "\"free\"") (codes "[]") (codes "1")) ≡ Err cause.Items
unfolding saving
repeated_name = refl

wide_budget : session_of (begun_text abc (codes "[41,90]") eights (codes "\"free\"") (codes "[]") (codes "1")) ≡ Err cause.Limits
unfolding saving
wide_budget = refl

short_odds : session_of (begun_text abc (codes "[30,90]") (codes "[[8,8],[8,8]]") (codes "\"free\"") (codes "[]") (codes "1")) ≡ Err cause.Odds
unfolding saving
short_odds = refl

even_odds : session_of (begun_text abc (codes "[30,90]") (codes "[[8,8],[1,8],[8,8]]") (codes "\"free\"") (codes "[]") (codes "1")) ≡ Err cause.Odds
unfolding saving
even_odds = refl

odds_for_ratios : session_of (begun_text abc (codes "[30,90]") eights (codes "\"free\"") (codes "[]") (codes "2")) ≡ Err cause.Odds
unfolding saving
odds_for_ratios = refl

-- ---- starts

abbrev start_text : List ℕ → List ℕ
start_text start = begun_text abc (codes "[30,90]") eights start (codes "[]") (codes "1")

free : session_of (start_text (codes "\"free\"")) ≡ Ok (begun_session Free)
unfolding saving
free = refl

a_base : session_of (start_text (codes "{\"base\":[\"e\",\"c\"]}")) ≡ Ok (begun_session (Sets (set 7 ∷ set 3 ∷ [])))
unfolding saving
a_base = refl

not_in_order : session_of (start_text (codes "{\"base\":[\"c\",\"e\"]}")) ≡ Err cause.Start
unfolding saving
not_in_order = refl

not_spanning : session_of (start_text (codes "{\"base\":[\"c\"]}")) ≡ Err cause.Start
unfolding saving
not_spanning = refl

bad_cursor : session_of (start_text (codes "{\"base\":[\"f\"]}")) ≡ Err cause.Start
unfolding saving
bad_cursor = refl

a_surmise : session_of (start_text (codes "{\"surmise\":[[\"8\"],[\"6\",\"c\"],[\"2\"]]}")) ≡ Ok (begun_session (Clauses ((set 1 ∷ []) ∷ (set 3 ∷ set 6 ∷ []) ∷ (set 4 ∷ []) ∷ [])))
unfolding saving
a_surmise = refl

not_reflexive : session_of (start_text (codes "{\"surmise\":[[\"8\"],[\"8\"],[\"2\"]]}")) ≡ Err cause.Start
unfolding saving
not_reflexive = refl

comparable : session_of (start_text (codes "{\"surmise\":[[\"8\"],[\"4\",\"c\"],[\"2\"]]}")) ≡ Err cause.Start
unfolding saving
comparable = refl

-- ---- blocks and answers

abbrev answer_text : (answers block next : List ℕ) → List ℕ
answer_text answers block next =
    codes "{\"answers\":" ++ answers ++ codes ",\"block\":" ++ block ++ codes ",\"items\":[\"a\",\"b\",\"c\"],\"limits\":[30,90],\"next\":" ++ next
    ++ codes ",\"odds\":[[8,8],[8,8],[8,8]],\"pupils\":[],\"start\":\"free\",\"version\":1}"

wide_block : session_of (answer_text (codes "[]") (codes "3") (codes "1")) ≡ Err cause.Block
unfolding saving
wide_block = refl

late_number : session_of (answer_text (codes "[[1,true,\"8\",1]]") (codes "1") (codes "1")) ≡ Err cause.Answers
unfolding saving
late_number = refl

bad_query : session_of (answer_text (codes "[[1,true,\"8\",0]]") (codes "1") (codes "2")) ≡ Err cause.Answers
unfolding saving
bad_query = refl

-- a Yes and a No to queries of which the first forces the second
no_space : session_of (answer_text (codes "[[1,true,\"8\",1],[2,false,\"a\",1]]") (codes "2") (codes "3")) ≡ Err cause.Answers
unfolding saving
no_space = refl

-- ---- pupils

abbrev pupil_text : List ℕ → List ℕ
pupil_text replies = codes "{\"limits\":[30,90],\"name\":\"p\",\"odds\":[[8,8],[8,8],[8,8]],\"replies\":" ++ replies ++ codes ",\"start\":\"free\",\"yes\":[[\"8\",1]]}"

abbrev pupils_text : List ℕ → List ℕ
pupils_text pupils = begun_text abc (codes "[30,90]") eights (codes "\"free\"") pupils (codes "1")

-- the item c is asked first
abbrev pupil : Pupil
pupil =
    let r : Query = record { a = set 1; q = 1 } in
    record { name = codes "p"; start = Free; yeses = r ∷ []; settings = standard; replies = record { q = 2; right = true } ∷ [] }

a_pupil : session_of (pupils_text (codes "[" ++ pupil_text (codes "[[2,true]]") ++ codes "]")) ≡ Ok (record (begun_session Free) { pupils = pupil ∷ [] })
unfolding saving
a_pupil = refl

not_asked : session_of (pupils_text (codes "[" ++ pupil_text (codes "[[0,true]]") ++ codes "]")) ≡ Err cause.Pupils
unfolding saving
not_asked = refl

same_pupil : session_of (pupils_text (codes "[" ++ pupil_text (codes "[]") ++ codes "," ++ pupil_text (codes "[]") ++ codes "]")) ≡ Err cause.Pupils
unfolding saving
same_pupil = refl
