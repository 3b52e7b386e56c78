-- Lines, from the pieces in which they are said.
use Rattle.ls_room.proofs.Vocabulary.{◌++◌, ◌+◌, ◌<◌, ◌∙◌, ◌∷◌, ◌≡◌, Items, Line, List, Text, ℕ, []}
use Rattle.ls_room.proofs.Vocabulary.{ap, append-nil, append_assoc, arith, bytes_of, codes, cursor}
use Rattle.ls_room.proofs.Vocabulary.{decimal, flat_map-append, get_or, join-spaced}
use Rattle.ls_room.proofs.Vocabulary.{join-spaced-one, join_with_byte, joined_names, length}
use Rattle.ls_room.proofs.Vocabulary.{length-append, line, line_bytes, line_of, line_words}
use Rattle.ls_room.proofs.Vocabulary.{lines_bytes, map, map-append, map-id, refl, set_line, spaced}
use Rattle.ls_room.proofs.Vocabulary.{spaced-next, sym, take, take_more}
use Rattle.ls_meaning.specs.Heads as head

-- ---- several lines

pub lines-one : (l : Line) → line_bytes l ≡ lines_bytes (l ∷ [])
lines-one l = sym (append-nil (line_bytes l))

lines-append : (ls ks : List Line) → lines_bytes (ls ++ ks) ≡ lines_bytes ls ++ lines_bytes ks
lines-append ls ks = flat_map-append line_bytes ls ks

pub lines-last : (ls : List Line) (l : Line) → lines_bytes ls ++ line_bytes l ≡ lines_bytes (ls ++ l ∷ [])
lines-last ls l = ap (λ bytes. lines_bytes ls ++ bytes) (lines-one l) ∙ sym (lines-append ls (l ∷ []))

-- one more image of a list
pub lines-next : {X : Type 0} (f : X → Line) (xs : List X) (i : ℕ) (d : X) → i < length xs
    → lines_bytes (map f (take i xs)) ++ line_bytes (f (get_or xs i d)) ≡ lines_bytes (map f (take (i + 1) xs))
lines-next f xs i d h =
    lines-last (map f (take i xs)) (f (get_or xs i d))
    ∙ sym (ap lines_bytes (ap (map f) (take_more xs i d h) ∙ map-append f (take i xs) (get_or xs i d ∷ [])))

-- lines as they are, and by their words
pub lines-words : (ls : List Line) → lines_bytes ls ≡ bytes_of (map line_words ls)
unfolding bytes_of
lines-words [] = refl
lines-words (l ∷ ls) = ap (λ bytes. line_bytes l ++ bytes) (lines-words ls)

pub bytes_of-one : (ws : List Text) → bytes_of (ws ∷ []) ≡ line_of ws
unfolding bytes_of
bytes_of-one ws = append-nil (line_of ws)

pub bytes_of-none : [] ≡ bytes_of []
unfolding bytes_of
bytes_of-none = refl

-- ---- one line

-- words, and then the images of a list, each behind a space
pub line-spaced : {X : Type 0} (ws : List Text) (f : X → Text) (xs : List X) → 0 < length ws
    → (join_with_byte 32 ws ++ spaced f xs) ++ 10 ∷ [] ≡ line_of (ws ++ map f xs)
unfolding line_of
line-spaced ws f xs some = ap (λ l. l ++ 10 ∷ []) (join-spaced ws f xs some)

-- words, and then a whole end
pub line-ended : (ws vs : List Text) → 0 < length ws
    → join_with_byte 32 ws ++ (spaced (λ w. w) vs ++ 10 ∷ []) ≡ line_of (ws ++ vs)
line-ended ws vs some =
    sym (append_assoc (join_with_byte 32 ws) (spaced (λ w. w) vs) (10 ∷ []))
    ∙ line-spaced ws (λ w. w) vs some ∙ ap (λ l. line_of (ws ++ l)) (map-id vs)

-- a set and two names, which end a line
pub end-double : (set first second : Text)
    → (((32 ∷ set) ++ (32 ∷ first)) ++ (32 ∷ second)) ++ 10 ∷ [] ≡ spaced (λ w. w) (set ∷ first ∷ second ∷ []) ++ 10 ∷ []
end-double set first second =
    ap (λ l. l ++ 10 ∷ []) (append_assoc (32 ∷ set) (32 ∷ first) (32 ∷ second)
    ∙ ap (λ l. (32 ∷ set) ++ ((32 ∷ first) ++ l)) (sym (append-nil (32 ∷ second))))

-- a word behind another
pub line-one : (w v : Text) → (w ++ (32 ∷ v)) ++ 10 ∷ [] ≡ line_of (w ∷ v ∷ [])
unfolding line_of
line-one w v = refl

-- two lists with a bar between
pub line-barred : (w : Text) (vs us : List Text)
    → (((w ++ spaced (λ v. v) vs) ++ codes " |") ++ spaced (λ v. v) us) ++ 10 ∷ [] ≡ line_of (w ∷ vs ++ codes "|" ∷ us)
unfolding line_of
line-barred w vs us =
    let all = λ (ws : List Text). join_with_byte 32 ws in
    let front = w ∷ vs in
    let behind = front ++ codes "|" ∷ [] in
    ap (λ l. l ++ 10 ∷ [])
    (ap (λ l. (l ++ codes " |") ++ spaced (λ v. v) us) (join-spaced-one w (λ v. v) vs ∙ ap (λ l. all (w ∷ l)) (map-id vs))
    ∙ ap (λ l. l ++ spaced (λ v. v) us) (join-spaced front (λ v. v) (codes "|" ∷ []) (omega arith))
    ∙ join-spaced behind (λ v. v) us (omega (arith, length-append front (codes "|" ∷ [])))
    ∙ ap all (ap (λ l. behind ++ l) (map-id us) ∙ append_assoc front (codes "|" ∷ []) us))

-- ---- the lines of their kinds

pieces : (c j : List ℕ) → (((codes "set " ++ c) ++ codes " {") ++ j) ++ codes "}\n"
    ≡ join_with_byte 32 (codes "set" ∷ c ∷ (123 ∷ j ++ 125 ∷ []) ∷ []) ++ 10 ∷ []
pieces c j = simp append_assoc

pub line-set : (names : List Text) (s : Items) (digits : List ℕ) → digits ≡ cursor (length names) s
    → (((codes "set " ++ digits) ++ codes " {") ++ joined_names names s) ++ codes "}\n"
    ≡ line_bytes (set_line names s)
unfolding line_of
line-set names s digits e =
    ap (λ d. (((codes "set " ++ d) ++ codes " {") ++ joined_names names s) ++ codes "}\n") e
    ∙ pieces (cursor (length names) s) (joined_names names s)

pub line-question : (set name : Text)
    → (((codes "ask " ++ set) ++ codes " :") ++ (32 ∷ name)) ++ 10 ∷ [] ≡ line_bytes (line head.Ask (set ∷ codes ":" ∷ name ∷ []))
unfolding line_of
line-question set name = simp append_assoc

pub line-not_closed : (left right : Text)
    → ((codes "test not-closed" ++ (32 ∷ left)) ++ (32 ∷ right)) ++ 10 ∷ [] ≡ line_bytes (line head.Test (codes "not-closed" ∷ left ∷ right ∷ []))
unfolding line_of
line-not_closed left right = ap (λ l. l ++ 10 ∷ []) (append_assoc (codes "test not-closed") (32 ∷ left) (32 ∷ right))

pub line-outcome : (set : Text) (numbers : List ℕ)
    → ((codes "report" ++ (32 ∷ set)) ++ spaced decimal numbers) ++ 10 ∷ [] ≡ line_bytes (line head.Report (set ∷ map decimal numbers))
line-outcome set numbers = line-spaced (codes "report" ∷ set ∷ []) decimal numbers (omega arith)

pub line-result : (name count reason set : Text)
    → ((((((codes "result " ++ name) ++ 32 ∷ []) ++ count) ++ 32 ∷ []) ++ reason) ++ 32 ∷ set) ++ 10 ∷ [] ≡ line_bytes (line head.Result (name ∷ count ∷ reason ∷ set ∷ []))
unfolding line_of
line-result name count reason set = simp append_assoc

pub line-accepted : (number applied pending : Text)
    → ((((((codes "ok " ++ number) ++ codes " applied ") ++ applied) ++ codes " pending ") ++ pending) ++ 10 ∷ []) ≡ line_of (codes "ok" ∷ number ∷ codes "applied" ∷ applied ∷ codes "pending" ∷ pending ∷ [])
unfolding line_of
line-accepted number applied pending = simp append_assoc

pub line-answered : (number mark : Text)
    → (((codes "answer " ++ number) ++ 32 ∷ []) ++ mark) ++ 10 ∷ [] ≡ line_bytes (line head.Answer (number ∷ mark ∷ []))
unfolding line_of
line-answered number mark = simp append_assoc

-- ---- images of a list behind a first word

pub line-images : {X : Type 0} (w : Text) (f : X → Text) (xs : List X) → (w ++ spaced f xs) ++ 10 ∷ [] ≡ line_of (w ∷ map f xs)
line-images w f xs = line-spaced (w ∷ []) f xs (omega arith)

-- one more image
pub images-next : {X : Type 0} (w : Text) (f : X → Text) (xs : List X) (i : ℕ) (d : X) → i < length xs
    → (w ++ spaced f (take i xs)) ++ (32 ∷ f (get_or xs i d)) ≡ w ++ spaced f (take (i + 1) xs)
images-next w f xs i d h =
    let front = spaced f (take i xs) in
    append_assoc w front (32 ∷ f (get_or xs i d)) ∙ ap (λ l. w ++ l) (sym (append_assoc front (32 ∷ []) (f (get_or xs i d))) ∙ spaced-next f xs i d h)
