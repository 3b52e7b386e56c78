-- Examples: whole scripts, byte for byte.
use Rattle.ls_meaning.proofs.Vocabulary.{◌∷◌, ◌≡◌, Answer, Bytes, Failed, Missing, None, Some, TooLarge, [], asked, base, block_before, blocks, bound, bytes_of, calls_of, class_results, codes, comes_before, command, command_effect, command_of, compat, cursor, cursor_set, cut, decimal, differing, empty, false, families, fault_place, fitting_spaces, forms, full, half_split, has, heavy_after, imbalance, inner_fringe, interior, is_begun, is_joined, is_of, is_same, is_some_refused, is_too_wide, is_well_graded, is_within, items, known, leader, least, len, line_effect, line_of, lines, made, meet, minus, names_from, names_of_set, next_question, opposed, orders_of, outer_fringe, parts, paths, peak, queries, query_before, read_cursor, refl, refusal_words, refuse_fault, refuses, replicate, replies, replies_in, reply_of, single, spelling, started, state_of, transcript, true, union, verdict, weight, with, without, words}
use Rattle.std.specs.Fmt.{digits}
use Rattle.std.specs.Prelude.{ℕ, List, map as map_of}
use Rattle.ls_theory.specs.declared.known.Known.{Known}
use Rattle.ls_files.specs.SetFiles.{line_read, found_from, sets_of}
use Rattle.ls_files.specs.SurmiseFiles.{surmise_text, members_from, surmise_from}
use Rattle.std.specs.Str.{is_utf8, chars}
use Rattle.serde_json.proofs.OnLiterals.{serde_json_on_literals}
use Rattle.csv.proofs.OnLiterals.{csv_on_literals}
use Rattle.ls_files.specs.ClassTables.{columns_of, next_row, rows_from, class_in, class_of}
use Rattle.ls_files.specs.{is_pupil, session_from, session_of, session_text, stands}
use Rattle.ls_origins.specs.Safe.{marked, opened as opened_safe, safe, safe_refusal}
use Rattle.ls_origins.specs.Skills.{any}
use Rattle.ls_meaning.specs.Sessions.{saved}
use Rattle.std.specs.FinMap as map
use Rattle.json.specs.Print.{escape_byte}

-- an example that opens this opens each word
unfoldable answering : ℕ
unfolding weight half_split imbalance leader asked heavy_after escape_byte minus interior line_read found_from sets_of surmise_text members_from digits has empty full with without union meet single differing is_within is_same bound items least comes_before cursor cursor_set read_cursor compat lines words is_of spelling parts command forms cut is_begun command_of fault_place line_of bytes_of names_of_set names_from command_effect line_effect replies refuses serde_json_on_literals csv_on_literals is_utf8 chars surmise_from stands is_pupil session_text session_from session_of columns_of next_row rows_from class_in class_of replies_in class_results is_too_wide made blocks len families fitting_spaces known next_question queries query_before block_before base peak verdict is_well_graded is_joined inner_fringe outer_fringe state_of orders_of paths
answering = 0

-- three items, the answer that who fails a fails b, and the six states that it leaves
first : transcript map.empty (codes "items a b c\nyes a : b\nstates\n") ≡ codes "ok 3\nok 1\nset e {a b c}\nset c {a b}\nset a {a c}\nset 8 {a}\nset 2 {c}\nset 0 {}\nmore no\n"
unfolding answering
first = refl

not_refused : is_some_refused map.empty (codes "items a b c\nyes a : b\nstates\n") ≡ false
unfolding answering
not_refused = refl

refused : transcript map.empty (codes "items a a\nitems a b\nitems c\nyes a : a\nyes z : a\nsave s") ≡ codes "no 12 repeat 2 1\nok 2\nno 11\nno 18\nno 15 2\nok 144\n"
unfolding answering
refused = refl

some_refused : is_some_refused map.empty (codes "items a a\nitems a b\nitems c\nyes a : a\nyes z : a\nsave s") ≡ true
unfolding answering
some_refused = refl

-- a whole interview of two items: a Yes, a No that is known at once, and what neither tells
interviewed : transcript map.empty (codes "ask\nitems a b\nask\nyes a : b\nyes a : b\nno a : b\nask\nknown b : a\nno b : a\nask\nknown b : a\nknown a : b\nyes b : a\nno a : b\nknown a : a\nknown z : a\nstates")
    ≡ codes "no 15 0\nok 2\nask a : b\nok 1\nno 19 1\nno 19 1\nask b : a\nknown open\nok 2\nsettled\nknown no 2\nknown yes\nno 19 2\nno 19 1\nno 18\nno 15 2\nset c {a b}\nset 8 {a}\nset 0 {}\nmore no\n"
unfolding answering
interviewed = refl

-- an answer is taken back, once; its number is not given again
taken_back : transcript map.empty (codes "retract 1\nitems a b\nyes a : b\nretract 2\nretract 1\nretract 1\nyes b : a\nstates") ≡ codes "no 15 0\nok 2\nok 1\nno 23\nok 1\nno 23\nok 2\nset c {a b}\nset 4 {b}\nset 0 {}\nmore no\n"
unfolding answering
taken_back = refl

-- the base of all sets, and after answers
bases : transcript map.empty (codes "base\nitems a b\nbase\nyes a : b\nbase") ≡ codes "no 15 0\nok 2\nset 8 {a}\nset 4 {b}\nbase 2\nok 1\nset c {a b}\nset 8 {a}\nbase 2\n"
unfolding answering
bases = refl

joined_base : transcript map.empty (codes "items a b c\nyes a b : c\nbase") ≡ codes "ok 3\nok 1\nset a {a c}\nset 8 {a}\nset 6 {b c}\nset 4 {b}\nbase 4\n"
unfolding answering
joined_base = refl

-- one item: nothing is asked
alone : transcript map.empty (codes "items a\nask") ≡ codes "ok 1\nsettled\n"
unfolding answering
alone = refl

-- what answers force rules the other reply out
forced : map_of (refusal_words []) (refuse_fault Answer (opposed Known.Yes false)) ≡ (codes "20" ∷ []) ∷ []
unfolding digits
forced = refl

opposed_by : map_of (refusal_words []) (refuse_fault Answer (opposed (Known.No 2) true)) ≡ (codes "21" ∷ decimal 2 ∷ []) ∷ []
unfolding digits
opposed_by = refl

-- blocks of three items
blocked : transcript map.empty (codes "blocks 1\nitems a b c\nblocks 2\nblocks 3\nblocks 0") ≡ codes "no 15 0\nok 3\nok 6\nno 17\nno 17\n"
unfolding answering
blocked = refl

-- no domain, no names, notes, carriage returns, and an item named after a command
others : transcript map.empty (codes "states\nfoo\nyes a b\nitems\n\n# note\nitems yes no\r\nyes yes : no\nyes yes,yes:no\nyes no : maybe\nyes : no") ≡ codes "no 15 0\nno 10 1\nno 10 4\nno 12 none\nok 2\nok 1\nno 19 1\nno 15 4\nno 18\n"
unfolding answering
others = refl

nothing : transcript map.empty [] ≡ []
unfolding answering
nothing = refl

one_item : transcript map.empty (codes "items a\nstates") ≡ codes "ok 1\nset 8 {a}\nset 0 {}\nmore no\n"
unfolding answering
one_item = refl

-- a line of more bytes than are read
long : reply_of (line_effect (started []) (calls_of map.empty false) (replicate 65537 97)) ≡ codes "no 10 long 65537\n"
unfolding answering
long = refl

-- pages from a cursor, also from a set that is no state, and what is no cursor
pages : transcript map.empty (codes "items a b c\nyes a : b\nstates 2\nstates 2 after c\nstates 1 after 6\nstates 0\nstates 5 after 0") ≡ codes "ok 3\nok 1\nset e {a b c}\nset c {a b}\nmore yes\nset a {a c}\nset 8 {a}\nmore yes\nset 2 {c}\nmore yes\nmore yes\nmore no\n"
unfolding answering
pages = refl

no_cursors : transcript map.empty (codes "states 1 after 0\nitems a b c\nstates 5 after 00\nstates 5 after g\nstates 5 after 1\nstates 5 before 0\nstates x") ≡ codes "no 15 0\nok 3\nno 24 length 2\nno 24 digit 1\nno 24 spare\nno 10 3\nno 10 2\n"
unfolding answering
no_cursors = refl

-- a session is stored where a domain stands
kept : transcript map.empty (codes "save s\nclass t\nitems a b c\nyes a : b\nsave s\nload-items a b") ≡ codes "no 15 0\nno 15 0\nok 3\nok 1\nok 176\nno 10 3\n"
unfolding answering
kept = refl

stored : (line_effect (started (codes "a" ∷ [])) (record { file = λ name. Missing; failed = false }) (codes "save s")).stored ≡ Some (codes "s", codes "{\"answers\":[],\"block\":1,\"items\":[\"a\"],\"limits\":[30,90],\"next\":1,\"odds\":[[[8,1],[8,1]]],\"pupils\":[],\"start\":\"free\",\"version\":2}")
unfolding answering
stored = refl

abbrev saved_file : List ℕ
saved_file = codes "{\"answers\":[[1,true,\"8\",1]],\"block\":1,\"items\":[\"a\",\"b\",\"c\"],\"limits\":[30,90],\"next\":2,\"odds\":[[[8,1],[8,1]],[[8,1],[8,1]],[[8,1],[8,1]]],\"pupils\":[],\"start\":\"free\",\"version\":2}"

-- what is opened takes the place of what stands
abbrev opened_over : List ℕ → List ℕ → List ℕ
opened_over bytes line = reply_of (line_effect (started (codes "z" ∷ [])) (record { file = λ name. Bytes bytes; failed = false }) line)

opened : opened_over saved_file (codes "open s") ≡ codes "ok 3\n"
unfolding answering
opened = refl

not_opened : opened_over (codes "{}") (codes "open s") ≡ codes "no 42 version\n"
unfolding answering
not_opened = refl

-- a call that fails stores nothing
store_failed : (line_effect (started (codes "a" ∷ [])) (record { file = λ name. Missing; failed = true }) (codes "save s")).stored ≡ None
unfolding answering
store_failed = refl

-- a class of two pupils, of one item each of whose states is left
abbrev class_reply : List ℕ → List ℕ
class_reply bytes = reply_of (line_effect (started (codes "a" ∷ codes "b" ∷ [])) (record { file = λ name. Bytes bytes; failed = false }) (codes "class t"))

class_shown : class_reply (codes "pupil,b,a\nann,1,0\nbob,0,0\n") ≡ codes "result ann 4 share {b}\nresult bob 4 share {}\nclass 2\n"
unfolding answering
class_shown = refl

class_refused : class_reply (codes "pupil,b,a\nann,1,0\nbob,2,0\n") ≡ codes "no 41 3\n"
unfolding answering
class_refused = refl

no_class : class_reply (codes "pupil,b,a") ≡ codes "class 0\n"
unfolding answering
no_class = refl

-- a file that is missing, is too large, or can't be fetched; and one that isn't looked for
missing : reply_of (line_effect (started []) (record { file = λ name. Missing; failed = false }) (codes "load-items none")) ≡ codes "no 26\n"
unfolding answering
missing = refl

too_large : reply_of (line_effect (started []) (record { file = λ name. TooLarge 16777217; failed = false }) (codes "load-items i")) ≡ codes "no 28 16777217\n"
unfolding answering
too_large = refl

failed : reply_of (line_effect (started []) (record { file = λ name. Failed; failed = true }) (codes "load-items i")) ≡ codes "no 27\n"
unfolding answering
failed = refl

standing : reply_of (line_effect (started (codes "a" ∷ [])) (record { file = λ name. Failed; failed = true }) (codes "load-items i")) ≡ codes "no 11\n"
unfolding answering
standing = refl

-- an interview that begins with a base file: how many sets the base has; and what is wrong with such a file
abbrev start_reply : List ℕ → List ℕ
start_reply bytes = reply_of (line_effect (started (codes "a" ∷ codes "b" ∷ codes "c" ∷ [])) (record { file = λ name. Bytes bytes; failed = false }) (codes "start base f"))

started_by_sets : start_reply (codes "{a b}\n# a note\n{a b c}\n") ≡ codes "ok 2\n"
unfolding answering
started_by_sets = refl

not_spanning : start_reply (codes "{a b}\n{}") ≡ codes "no 14 not-spanning c\n"
unfolding answering
not_spanning = refl

repeated : start_reply (codes "{a b}\n{c}\n{b,a}") ≡ codes "no 14 repeat 3 1\n"
unfolding answering
repeated = refl

-- the file isn't looked at without a domain, nor where an answer stands
not_started : transcript map.empty (codes "start base none\nitems a b\nyes a : b\nstart surmise none") ≡ codes "no 15 0\nok 2\nok 1\nno 13\n"
unfolding answering
not_started = refl

-- the clauses of what the answers leave, under keys in the order of their bytes
clauses_shown : transcript map.empty (codes "items b a\nyes a : b\nsurmise") ≡ codes "ok 2\nok 1\nsurmise {\"a\":[[\"a\"]],\"b\":[[\"b\",\"a\"]]}\n"
unfolding answering
clauses_shown = refl

-- a learning space, its projections, its fringes and its learning paths
learned : transcript map.empty (codes "learning\nitems a b c\nyes a : b\nlearning\nproject 10 : b c\nproject 9 :\nproject 1 after 6 : b c\nproject-base b c")
    ≡ codes "no 15 0\nok 3\nok 1\nlearning yes\nset 6 {b c}\nset 4 {b}\nset 2 {c}\nset 0 {}\nmore no\nset 0 {}\nmore no\nset 4 {b}\nmore yes\nset 4 {b}\nset 2 {c}\nbase 2\nlearning yes\n"
unfolding answering
learned = refl

fringed : transcript map.empty (codes "items a b c\nyes a : b\nfringes a\nstate-of a | b c\nstate-of c | b c\nfringes\nstate-of | a c\nfringes b\nfringes z\nstate-of a | z")
    ≡ codes "ok 3\nok 1\nfringes a | b c\nstate {a}\nno 32\nfringes | a c\nstate {}\nno 30\nno 15 2\nno 15 4\n"
unfolding answering
fringed = refl

learned_in_order : transcript map.empty (codes "items a b c\nyes a : b\npaths 10\npaths 1 after b a c\npaths 1 after a b\npaths 0\npaths 1 after a z\nproject 1 : z\nproject 1 after 0 : z")
    ≡ codes "ok 3\nok 1\npath a b c\npath a c b\npath c a b\nmore no\npath c a b\nmore no\nno 33\nmore yes\nno 15 5\nno 15 4\nno 15 6\n"
unfolding answering
learned_in_order = refl

-- the space of two items that are always known together is no learning space
together : transcript map.empty (codes "items a b\nyes a : b\nyes b : a\nlearning\nstate-of | a\npaths 1\nproject-base a\nproject-base a b")
    ≡ codes "ok 2\nok 1\nok 2\nlearning no {a b} a b\nno 31 {a b} a b\nno 31 {a b} a b\nset 8 {a}\nbase 1\nlearning yes\nset c {a b}\nbase 1\nlearning no {a b} a b\n"
unfolding answering
together = refl

-- the verdicts on the family of a file
abbrev test_reply : List ℕ → List ℕ
test_reply bytes = reply_of (line_effect (started (codes "a" ∷ codes "b" ∷ codes "c" ∷ [])) (record { file = λ name. Bytes bytes; failed = false }) (codes "test f"))

not_graded : test_reply (codes "{}\n{a b}\n{a b c}\n") ≡ codes "test not-graded {a b} a b\n"
unfolding answering
not_graded = refl

not_closed : test_reply (codes "{}\n{a}\n{b}\n{a b c}\n") ≡ codes "test not-closed {a} {b}\n"
unfolding answering
not_closed = refl

no_empty : test_reply (codes "{a b c}\n") ≡ codes "test no-empty\n"
unfolding answering
no_empty = refl

no_full : test_reply (codes "{}\n") ≡ codes "test no-full\n"
unfolding answering
no_full = refl

a_learning_space : test_reply (codes "{a b c}\n{a b}\n{a c}\n{a}\n{c}\n{}\n") ≡ codes "test learning 3\n"
unfolding answering
a_learning_space = refl

repeated_in_test : test_reply (codes "{a}\n{a}\n") ≡ codes "no 29 repeat 2 1\n"
unfolding answering
repeated_in_test = refl

-- a pupil of six states: c is asked, and then a, where b is as far from the half
pupil : transcript map.empty (codes "items a b c\nyes a : b\npupil p\nquestion p\nreply p c right\nquestion p\nreply p b right\nreport p\npupil p\nclose p\nreport p\n") ≡ codes "ok 3\nok 1\nok 6\nquestion c\nok 1\nquestion a\nno 40 a\nreport {a b c} 8 27 1\nfringes b c |\nno 37\nok\nno 38\n"
unfolding answering
pupil = refl

-- one that is wrong four times: the empty state has its share
share : transcript map.empty (codes "items a b c\nyes a : b\npupil r\nreply r c wrong\nreply r a wrong\nreply r a wrong\nreply r c wrong\nquestion r\nreply r a right\nreport r\n") ≡ codes "ok 3\nok 1\nok 6\nok 1\nok 2\nok 3\nok 4\nover share\nno 39 share\nreport {} 4096 4290 4\nfringes | a c\n"
unfolding answering
share = refl

-- ratios 3 to 2
ratios : transcript map.empty (codes "items a b c\nyes a : b\nratio 3 2 3 2\npupil p\nreply p c right\nquestion p\nreport p\n") ≡ codes "ok 3\nok 1\nok\nok 6\nok 1\nquestion c\nreport {a b c} 3 15 1\nfringes b c |\n"
unfolding answering
ratios = refl

-- settings that are out of range, or of no item; a pupil keeps those with which it began
settings : transcript map.empty (codes "items a\nratio 8 8 8 1\nratio z 3 2 3 2\nratio a 9 2 5 4\nodds 1 8\nlimits 41 90\nlimits 1 99\npupil p\nlimits 30 90\nreply p a right\nquestion p\nquestion a\nreply p z right") ≡ codes "ok 1\nno 43\nno 15 2\nok\nno 43\nno 43\nok\nok 2\nok\nok 1\nover budget\nno 38\nno 15 3\n"
unfolding answering
settings = refl

-- 40 replies of odds 64 may be too many for 128 bits
heavy : transcript map.empty (codes "items a\nodds 64 64\nlimits 19 90\npupil p\nlimits 20 90\npupil r") ≡ codes "ok 1\nok\nok\nok 2\nok\nno 35 20\n"
unfolding answering
heavy = refl

-- an answer of the safe interview waits, and is applied after a later one; it isn't accepted twice
safely : transcript map.empty (codes "safe-open\nitems a b c\nsafe a : b\nsafe-open\nsafe-open\nsafe z : a\nsafe a : a\nsafe a : b\nsafe b c : a\nsafe-list\nsafe c : a\nsafe-states 10\nsafe-states 1 after a\nsafe c : a\nsafe-close\nsafe-list")
    ≡ codes "no 15 0\nok 3\nno 51\nok 3\nno 50\nno 15 2\nno 18\nok 1 applied 1 pending 0\nok 2 applied 1 pending 1\nanswer 1 applied\nanswer 2 pending\nsafe 1 1\nok 3 applied 3 pending 0\nset e {a b c}\nset a {a c}\nset 2 {c}\nset 0 {}\nmore no\nset 2 {c}\nmore yes\nno 52 3\nok\nno 51\n"
unfolding answering safe marked safe_refusal any
safely = refl

-- it is no part of what is saved: a session with one has the text of one without
unsaved : session_text (saved (record (started (codes "a" ∷ codes "b" ∷ [])) { safe = Some (opened_safe (started (codes "a" ∷ codes "b" ∷ [])).interview) })) ≡ session_text (saved (started (codes "a" ∷ codes "b" ∷ [])))
unsaved = refl

-- and `safe-open` is refused where the states are no learning space
unsafe : transcript map.empty (codes "items a b\nyes a : b\nyes b : a\nsafe-open") ≡ codes "ok 2\nok 1\nok 2\nno 31 {a b} a b\n"
unfolding answering
unsafe = refl
