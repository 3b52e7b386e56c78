-- Queries of which no two are the same, one more at a time.
use Rattle.ls_codecs.proofs.Vocabulary.{◌&&◌, ◌++◌, ◌+◌, ◌<◌, ◌||◌, ◌∙◌, ◌∷◌, ◌≡◌, Bool, List, Query, ℕ, [], ap, are_apart, cond, drop, drop-next, false, get_or, is_same_query, length, list_any, not, query_order, refl, same-by_query_order, same_queries, sym, take, take-append-drop, take_more, true}
use Rattle.std.specs.Ordering.{is_eq}
use Rattle.std.proofs.Math.Bool.{and-false}
use Rattle.std.proofs.lemmas.List.Folds.{list_any-append}
use Rattle.std.proofs.lemmas.Map.Keys.{IsDistinct-push}
use Rattle.ls_codecs.proofs.WrittenAnswers.{apart-from}
use Rattle.ls_codecs.proofs.Sound.{apart-distinct}

-- one more, which none of the others is
one-more : (queries : List Query) (r : Query) → are_apart is_same_query queries ≡ true → list_any (is_same_query r) queries ≡ false
    → are_apart is_same_query (queries ++ r ∷ []) ≡ true
one-more queries r apart none =
    apart-from is_same_query (queries ++ r ∷ []) (IsDistinct-push same_queries queries r (apart-distinct is_same_query queries apart) none)

then-among : (r : Query) (queries : List Query) (s : Query) (later : List Query) → is_same_query r s ≡ true → list_any (is_same_query r) (queries ++ s ∷ later) ≡ true
then-among r [] s later e = rw e refl
then-among r (t ∷ queries) s later e = elim (is_same_query r t) as (λ b. (b || list_any (is_same_query r) (queries ++ s ∷ later)) ≡ true) [
  | true ↦ refl
  | false ↦ then-among r queries s later e
]

-- one that was there already
comes-again : (queries : List Query) (r : Query) (later : List Query) → list_any (is_same_query r) queries ≡ true → are_apart is_same_query (queries ++ r ∷ later) ≡ false
comes-again [] r later h = absurd (cc h)
comes-again (s ∷ queries) r later h =
    let rest = queries ++ r ∷ later in
    elim (is_same_query r s) as (λ b. is_same_query r s ≡ b → (b || list_any (is_same_query r) queries) ≡ true → are_apart is_same_query (s ∷ rest) ≡ false) [
      | true ↦ λ e h. ap (λ b. not b && are_apart is_same_query rest) (then-among s queries r later (same_queries.symm s r ∙ e))
      | false ↦ λ e h. ap (λ b. not (list_any (is_same_query s) rest) && b) (comes-again queries r later h) ∙ and-false _
    ] refl h

-- what is seen with one more
more-seen : (queries : List Query) (r s : Query)
    → cond (is_eq (query_order s r)) true (list_any (is_same_query r) queries) ≡ list_any (is_same_query r) (queries ++ s ∷ [])
more-seen queries r s =
    ap (λ b. cond b true (list_any (is_same_query r) queries)) (sym (same_queries.symm r s ∙ same-by_query_order s r))
    ∙ either_way (is_same_query r s) (list_any (is_same_query r) queries)
    ∙ sym (list_any-append (is_same_query r) queries (s ∷ []))
  where
    either_way : (a b : Bool) → cond a true b ≡ (b || (a || false))
    either_way true true = refl
    either_way true false = refl
    either_way false true = refl
    either_way false false = refl

-- ---- by places

next : (queries : List Query) (i : ℕ) (r : Query) → i < length queries → r ≡ get_or queries i r → take (i + 1) queries ≡ take i queries ++ r ∷ []
next queries i r l e = take_more queries i r l ∙ ap (λ s. take i queries ++ s ∷ []) (sym e)

-- the query at the place is none of those before it
pub apart-next : (queries : List Query) (i : ℕ) (r : Query) → i < length queries → r ≡ get_or queries i r
    → are_apart is_same_query (take i queries) ≡ true → list_any (is_same_query r) (take i queries) ≡ false
    → are_apart is_same_query (take (i + 1) queries) ≡ true
apart-next queries i r l e apart none = ap (are_apart is_same_query) (next queries i r l e) ∙ one-more (take i queries) r apart none

-- it is one of those before it
pub again-next : (queries : List Query) (i : ℕ) (r : Query) → i < length queries → r ≡ get_or queries i r
    → list_any (is_same_query r) (take i queries) ≡ true → are_apart is_same_query queries ≡ false
again-next queries i r l e found =
    let split : take i queries ++ r ∷ drop (i + 1) queries ≡ queries =
    ap (λ rest. take i queries ++ rest) (sym (drop-next queries i r l e)) ∙ take-append-drop i queries in
    sym (ap (are_apart is_same_query) split) ∙ comes-again (take i queries) r (drop (i + 1) queries) found

-- what is seen once it is seen too
pub seen-next : (queries : List Query) (i : ℕ) (r : Query) → i < length queries → r ≡ get_or queries i r
    → (seen : Query → Bool) → ((s : Query) → seen s ≡ list_any (is_same_query s) (take i queries))
    → (s : Query) → cond (is_eq (query_order r s)) true (seen s) ≡ list_any (is_same_query s) (take (i + 1) queries)
seen-next queries i r l e seen are s =
    ap (cond (is_eq (query_order r s)) true) (are s) ∙ more-seen (take i queries) s r ∙ sym (ap (list_any (is_same_query s)) (next queries i r l e))
