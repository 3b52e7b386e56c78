-- Objects with a member for each item, piece by piece, in the order of the items' names.
use Rattle.ls_write.proofs.Vocabulary.{◌++◌, ◌+◌, ◌<◌, ◌∙◌, ◌∷◌, ◌≡◌, ◌≢◌, All, All-head, All-tail}
use Rattle.ls_write.proofs.Vocabulary.{Bool, Equal, Greater, IsDistinct, Less, List, Text, ℕ, []}
use Rattle.ls_write.proofs.Vocabulary.{ap, append_assoc, ap₂, arith, by_name, bytes_eq-Decides}
use Rattle.ls_write.proofs.Vocabulary.{codes, comma_if, compact_text, cond, false, get_or}
use Rattle.ls_write.proofs.Vocabulary.{insert_by_name, items_by_name, items_text, length, line_of}
use Rattle.ls_write.proofs.Vocabulary.{listed, map, members_text, name_of, numbers_from}
use Rattle.ls_write.proofs.Vocabulary.{quoted_name, refl, slice_cmp, suc, sym, true, zero}
use Rattle.std.specs.Ordering.{nat_cmp, is_lt, is_eq, match_ordering}
use Rattle.std.specs.Str.{bytes_eq}
use Rattle.std.proofs.lemmas.Map.Made.{AllPairs-from_IsDistinct}
use Rattle.std.proofs.lemmas.Map.Text.{is_eq-slice_cmp}
use Rattle.serde_json.specs.Data.{Data, object, Members, no_members, member, put}
use Rattle.serde_json.specs.View.{items_of as values_of}
use Rattle.ls_room.proofs.NameOrder.{numbers-All, by_name-All}

-- ---- arrays

pub listed-same : {X : Type 0} (text other : X → Text) (later : Bool) (xs : List X)
    → ((x : X) → text x ≡ other x) → listed text later xs ≡ listed other later xs
listed-same text other later [] same = refl
listed-same text other later (x ∷ xs) same =
    ap₂ (λ t l. comma_if later ++ (t ++ l)) (same x) (listed-same text other true xs same)

-- what ends a list may stand behind its last text
behind : (comma text rest end : List ℕ) → comma ++ (text ++ (rest ++ end))
    ≡ (comma ++ (text ++ rest)) ++ end
behind comma text rest end =
    ap (λ l. comma ++ l) (sym (append_assoc text rest end)) ∙ sym
    (append_assoc comma (text ++ rest) end)

pub array-listed : {X : Type 0} (value : X → Data) (later : Bool) (xs : List X)
    → items_text later (values_of (map value xs)) ≡ listed (λ x. compact_text (value x)) later xs
    ++ 93 ∷ []
array-listed value later [] = refl
array-listed value later (x ∷ xs) =
    ap (λ l. comma_if later ++ (compact_text (value x) ++ l)) (array-listed value true xs)
    ∙ behind (comma_if later) (compact_text (value x))
    (listed (λ y. compact_text (value y)) true xs) (93 ∷ [])

-- ---- objects

module _ (names : List Text) where
  module _ (value : ℕ → Data) where
    -- members in the order of a list of items
    abbrev members : List ℕ → Members
    members [] = no_members
    members (i ∷ is) = member (name_of names i) (value i) (members is)

    abbrev Apart : ℕ → ℕ → Type 0
    Apart i j = slice_cmp nat_cmp (name_of names i) (name_of names j) ≢ Equal

    put-insert : (i : ℕ) (js : List ℕ) → All (Apart i) js
        → put (name_of names i) (value i) (members js) ≡ members (insert_by_name names i js)
    put-insert i [] apart = refl
    put-insert i (j ∷ js) apart =
        let compared = slice_cmp nat_cmp (name_of names i) (name_of names j) in
        elim
        compared
        as (λ o. compared
        ≡ o
        → match_ordering o (members (i ∷ j ∷ js))
        (member (name_of names j) (value i) (members js))
        (member (name_of names j) (value j) (put (name_of names i) (value i) (members js)))
        ≡ members (cond (is_lt o) (i ∷ j ∷ js) (j ∷ insert_by_name names i js))) [
          | Less ↦ λ _. refl
          | Equal ↦ λ e. absurd (All-head (Apart i) j js apart e)
          | Greater ↦ λ _. ap (member (name_of names j) (value j))
              (put-insert i js (All-tail (Apart i) j js apart))
        ] refl

    members-listed : (later : Bool) (is : List ℕ) → members_text later (members is)
        ≡ listed (λ i. quoted_name names i ++ 58 ∷ compact_text (value i)) later is ++ 125 ∷ []
    members-listed later [] = refl
    members-listed later (i ∷ is) =
        let rest = listed (λ j. quoted_name names j ++ 58 ∷ compact_text (value j)) true is in
        ap (λ l. comma_if later ++ (quoted_name names i ++ 58 ∷ (compact_text (value i) ++ l)))
        (members-listed true is)
        ∙ ap (λ l. comma_if later ++ l)
        (sym
        (append_assoc (quoted_name names i) (58 ∷ compact_text (value i)) (rest ++ 125 ∷ [])))
        ∙ behind (comma_if later) (quoted_name names i ++ 58 ∷ compact_text (value i)) rest
        (125 ∷ [])

-- ---- a member for each item

-- a list, by its places
by_place : {X : Type 0} (f : ℕ → X) (d : X) (i : ℕ) (xs : List X)
    → ((k : ℕ) → k < length xs → f (i + k) ≡ get_or xs k d) → map f (numbers_from i (length xs))
    ≡ xs
by_place f d i [] same = refl
by_place f d i (x ∷ xs) same =
    ap₂ (λ y ys. y ∷ ys) (ap f (let e : i ≡ i + 0 = omega arith in e) ∙ same 0 (omega arith))
    (by_place
    f d
    (suc i)
    xs (λ k h. ap f (let e : suc i + k ≡ i + suc k = omega arith in e) ∙ same (suc k)
    (omega arith)))

module _ (names : List Text) (distinct : IsDistinct bytes_eq names) where
  apart : (i j : ℕ) → i < j → j < length names
      → slice_cmp nat_cmp (name_of names i) (name_of names j) ≢ Equal
  apart i j less within e =
      let same : bytes_eq (name_of names i) (name_of names j) ≡ true =
      sym (is_eq-slice_cmp (name_of names i) (name_of names j)) ∙ ap is_eq e in
      AllPairs-from_IsDistinct bytes_eq-Decides names distinct i j [] less within
      ((bytes_eq-Decides (name_of names i) (name_of names j)).0 same)

  -- an object that is made from its last row on
  module _ {R : Type 0} (row_value : R → Data) (from : List Text → List R → Members)
      (none : from [] [] ≡ no_members)
      (next : (w : Text) (ws : List Text) (r : R) (rs : List R) → from (w ∷ ws) (r ∷ rs)
      ≡ put w (row_value r) (from ws rs))
      (row : ℕ → R) where
    abbrev value : ℕ → Data
    value i = row_value (row i)

    rows-by_name : (i m : ℕ) → i + m ≡ length names
        → from (map (name_of names) (numbers_from i m)) (map row (numbers_from i m))
        ≡ members names value (by_name names (numbers_from i m))
    unfolding by_name
    rows-by_name i zero e = none
    rows-by_name i (suc m) e =
        let later = numbers_from (suc i) m in
        next (name_of names i) (map (name_of names) later) (row i) (map row later)
        ∙ ap (put (name_of names i) (value i)) (rows-by_name (suc i) m (omega arith))
        ∙ put-insert names value i (by_name names later)
        (by_name-All names (Apart names value i) later
        (numbers-All (Apart names value i) (suc i) m
        (λ j l h. apart i j (omega arith) (omega arith))))

    -- its text, by those of its rows
    pub rows-listed : (text : ℕ → Text)
        → ((i : ℕ) → quoted_name names i ++ 58 ∷ compact_text (value i) ≡ text i)
        → compact_text (object (from names (map row (numbers_from 0 (length names))))) ≡ 123
        ∷ listed text false (items_by_name names) ++ 125 ∷ []
    rows-listed text same =
        let n = length names in
        let is = items_by_name names in
        let all : map (name_of names) (numbers_from 0 n) ≡ names =
        by_place (name_of names) [] 0 names
        (λ k h. ap (name_of names) (let e : 0 + k ≡ k = omega arith in e)) in
        let rows : from names (map row (numbers_from 0 n)) ≡ members names value is =
        ap (λ ws. from ws (map row (numbers_from 0 n))) (sym all) ∙ rows-by_name 0 n (omega arith)
        in
        ap (λ ms. 123 ∷ members_text false ms) rows
        ∙ ap
        (λ l. 123 ∷ l)
        (members-listed names value false is ∙ ap (λ l. l ++ 125 ∷ [])
        (listed-same (λ i. quoted_name names i ++ 58 ∷ compact_text (value i)) text false is
        same))

-- ---- the line

pub line-braced : (w rows : Text) → ((w ++ codes " {") ++ rows) ++ codes "}\n"
    ≡ line_of (w ∷ (123 ∷ rows ++ 125 ∷ []) ∷ [])
unfolding line_of
line-braced w rows = simp append_assoc
