-- The text of the covers of a partial order is read as the order.
use Rattle.std.proofs.Common.{ℕ, ◌+◌, ◌<◌, ◌==◌, ◌&&◌, ◌≡◌, ◌∙◌, ◌∷◌, ◌++◌, [], List}
use Rattle.std.proofs.Common.{Ok, ap, append-nil, append_assoc, arith, eq-eqb, eqb, false}
use Rattle.std.proofs.Common.{inl, length, not, refl, sym, true}
use Rattle.std.specs.List.{All, flat_map, list_all}
use Rattle.std.proofs.lemmas.Bool.{and_from, and_parts, or_left, or_right}
use Rattle.std.proofs.lemmas.Bool.Decides.{nat_tests}
use Rattle.std.proofs.lemmas.List.Elements.{All-append, All-cons, All-from_recursion}
use Rattle.std.proofs.lemmas.List.Splits.{slice_split_at}
use Rattle.ls_lists.proofs.Every.{each, list_all-All}
use Rattle.ls_set.specs.ItemSet.{Items}
use Rattle.ls_cutting.specs.{Text}
unfoldable use Rattle.ls_cutting.specs.{is_of, lines, words}
use Rattle.ls_cutting.specs.Lines.{is_blank}
use Rattle.ls_cutting.specs.Kinds.{is_cursor_byte, is_from_to, is_name_byte, longest_name}
use Rattle.ls_cutting.specs.declared.kind.Kind.TheVariants.{Name}
use Rattle.ls_cutting.proofs.Rewords.{begins, words-line}
use Rattle.ls_cutting.proofs.Solid.{IsSolid, kind-solid}
use Rattle.ls_domain.specs.Domains.{IsDomain, is_name}
use Rattle.ls_domain.specs.Texts.{name_of}
use Rattle.ls_domain.proofs.Numbers.{number_of-name_of}
use Rattle.ls_origins.specs.Relations.{covers}
use Rattle.ls_files.specs.PairFiles.{covers_text, line_read, pair_line, pairs_from, relation_of}
use Rattle.ls_files.specs.declared.pair_line.PairLine.TheVariants as line
use Rattle.ls_order.specs.Orders.{ArePairs, IsOrder, has_pair}
use Rattle.ls_order.specs.Words.{line_worded}
use Rattle.ls_order.proofs.Covered.{covers-acyclic, covers-generate, covers-pairs}
use Rattle.ls_order.proofs.LineWords.{words-worded}
use Rattle.ls_order.proofs.Lines.{from-end, from-next}
use Rattle.ls_order.proofs.PairItems.{line-worded}
use Rattle.ls_order.proofs.Refused.{cycles}
use Rattle.ls_order.proofs.Texts.{relation-ok}

-- ---- names

named-at : (names : List Text) (i : ℕ) → list_all is_name names ≡ true → i < length names
    → is_name (name_of names i) ≡ true
named-at names i h l =
    All-from_recursion (λ w. is_name w ≡ true) names (list_all-All is_name names h) i [] l

-- a name begins neither with a blank nor with `#`
byte-begins : (b : ℕ) → is_name_byte b ≡ true → (not (is_blank b) && not (b == 35)) ≡ true
byte-begins b h = grind (arith, nat_tests)

name-begins : (w : Text) (ws : List Text) → IsSolid w → is_name w ≡ true → begins (w ∷ ws) ≡ true
unfolding is_of
name-begins [] ws s h = let l = s.long in absurd (omega arith)
name-begins (b ∷ w) ws s h =
    let bytes =
    (and_parts (is_from_to 1 longest_name (length (b ∷ w))) (list_all is_name_byte (b ∷ w)) h).1 in
    byte-begins b (and_parts (is_name_byte b) (list_all is_name_byte w) bytes).0

-- no byte of it is a line feed
byte-no_feed : (b : ℕ) → is_cursor_byte b ≡ true → (b == 10) ≡ false
byte-no_feed b h = grind (arith, nat_tests)

no_feed : (w : Text) → IsSolid w → All (λ b. (b == 10) ≡ false) w
no_feed w s =
    All-from_recursion (λ b. (b == 10) ≡ false) w
    (each byte-no_feed w (list_all-All is_cursor_byte w s.bytes))

-- ---- the line of two names

abbrev two_words : Text → Text → List ℕ
two_words u v = u ++ 32 ∷ v

words-two : (u v : Text) → is_name u ≡ true → is_name v ≡ true → words (two_words u v) ≡ u ∷ v ∷ []
words-two u v h k =
    let s = kind-solid Name u h in
    words-line (u ∷ v ∷ []) (inl s, (inl (kind-solid Name v k), tt)) (name-begins u (v ∷ []) s h)

lines-two : (u v : Text) (rest : List ℕ) → is_name u ≡ true → is_name v ≡ true
    → lines ((u ++ 32 ∷ v ++ 10 ∷ []) ++ rest) ≡ two_words u v ∷ lines rest
unfolding lines
lines-two u v rest h k =
    let none = λ (b : ℕ). (b == 10) ≡ false in
    ap lines (append_assoc (two_words u v) (10 ∷ []) rest)
    ∙ slice_split_at (λ b. b == 10) (two_words u v) 10 rest
    (All-append none u (32 ∷ v) (no_feed u (kind-solid Name u h))
    (All-cons none 32 v refl (no_feed v (kind-solid Name v k)))) refl

-- two names of items are their pair
read-two : (names : List Text) (low high : ℕ) → IsDomain names → low < length names
    → high < length names
    → line.Pair low high ≡ line_read names (two_words (name_of names low) (name_of names high))
read-two names low high d l k =
    let u = name_of names low in
    let v = name_of names high in
    let named = d.are_names.named in
    let apart = d.are_names.distinct in
    let name = named-at names low named l in
    let other = named-at names high named k in
    sym (line-worded names (two_words u v) ∙ ap (line_worded names) (words-two u v name other)
    ∙ sym (words-worded names (u ∷ v ∷ []))
    ∙ rw (name, other, number_of-name_of names low apart l, number_of-name_of names high apart k)
    refl)

-- ---- all lines

last-line : (names : List Text) → line.Passed ≡ line_read names []
unfolding line_read words
last-line names = refl

pairs-back : (names : List Text) (before pairs : List (ℕ × ℕ)) (row : ℕ) → IsDomain names
    → ArePairs (length names) pairs
    → pairs_from names before row (lines (flat_map (pair_line names) pairs)) ≡ Ok (before ++ pairs)
unfolding lines
pairs-back names before [] row d small =
    from-next names before before row [] [] line.Passed (last-line names) refl
    ∙ from-end names before (row + 1) ∙ ap Ok (sym (append-nil before))
pairs-back names before (p ∷ pairs) row d small =
    let held : has_pair (p ∷ pairs) p.0 p.1 ≡ true =
    or_left (eqb p.0 p.0 && eqb p.1 p.1) (has_pair pairs p.0 p.1)
    (and_from (eqb p.0 p.0) (eqb p.1 p.1) (eq-eqb p.0 p.0 refl) (eq-eqb p.1 p.1 refl)) in
    let within = small p.0 p.1 held in
    let named = d.are_names.named in
    let u = name_of names p.0 in
    let v = name_of names p.1 in
    let rest = flat_map (pair_line names) pairs in
    ap (pairs_from names before row)
    (lines-two u v rest (named-at names p.0 named within.0) (named-at names p.1 named within.1))
    ∙ from-next names before (before ++ p ∷ []) row (two_words u v) (lines rest)
    (line.Pair p.0 p.1) (read-two names p.0 p.1 d within.0 within.1) refl
    ∙ pairs-back names (before ++ p ∷ []) pairs (row + 1) d (λ low high h.
    small low high (or_right (eqb p.0 low && eqb p.1 high) (has_pair pairs low high) h))
    ∙ ap Ok (append_assoc before (p ∷ []) pairs)

pub covers-back : (names : List Text) (below : List Items) → IsDomain names
    → IsOrder (length names) below
    → relation_of names (covers_text names (covers (length names) below)) ≡ Ok below
unfolding covers_text lines
covers-back names below d o =
    let n = length names in
    let pairs = covers n below in
    relation-ok names (covers_text names pairs) pairs below
    (pairs-back names [] pairs 1 d (covers-pairs n below))
    ((cycles n pairs).1 (covers-acyclic n below o)) (sym (covers-generate n below o))
