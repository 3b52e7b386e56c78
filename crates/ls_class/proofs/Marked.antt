-- The marks of a record, mark by mark.
use Rattle.ls_class.proofs.Vocabulary.{◌+◌, ◌<◌, ◌∙◌, ◌∷◌, ◌≡◌, ◌≤◌, Bor, Items, List, None, Option, Some, Text, ℕ, [], ap, ap₂, arith, drop, drop-next, drop_all, eq-eqb, false, field_at, get_or, get_or_default_zero, get_or_from_slice_get, is_mark, is_right, length, list_all, marked, members, nat_tests, none-some, option_map, refl, right_of, same_set, slice_get, slice_get-get_or, sym, true, union, union-empty_right, unwrap_or, with}
use Rattle.ls_class.proofs.Headers.{field-behind}

union-with : (s t : Items) (i : ℕ) → union s (with t i) ≡ union (with s i) t
union-with s t i = same_set _ _ (λ k. grind (arith, members, nat_tests))

module _ (columns : List ℕ) (marks : List Text) (i item : ℕ) (mark : Text) (at : drop i columns ≡ item ∷ drop (i + 1) columns) (is : drop i marks ≡ mark ∷ drop (i + 1) marks) where
  -- the marks from this one on
  rest : right_of (drop i columns) (drop i marks) ≡ right_of (item ∷ drop (i + 1) columns) (mark ∷ drop (i + 1) marks)
  rest = ap₂ right_of at is

  pub next-right : (s : Items) → is_right mark ≡ true → union s (right_of (drop i columns) (drop i marks)) ≡ union (with s item) (right_of (drop (i + 1) columns) (drop (i + 1) marks))
  next-right s e = ap (union s) (rest ∙ rw e refl) ∙ union-with s (right_of (drop (i + 1) columns) (drop (i + 1) marks)) item

  pub next-wrong : (s : Items) → is_right mark ≡ false → union s (right_of (drop i columns) (drop i marks)) ≡ union s (right_of (drop (i + 1) columns) (drop (i + 1) marks))
  next-wrong s e = ap (union s) (rest ∙ rw e refl)

  pub next-mark : is_mark mark ≡ true → list_all is_mark (drop i marks) ≡ list_all is_mark (drop (i + 1) marks)
  next-mark e = ap (list_all is_mark) is ∙ rw e refl

  pub no_mark : is_mark mark ≡ false → list_all is_mark (drop i marks) ≡ false
  no_mark e = ap (list_all is_mark) is ∙ rw e refl

pub marked-bad : (columns : List ℕ) (marks : List Text) → list_all is_mark marks ≡ false → marked columns marks ≡ None
marked-bad columns marks e = grind (arith, e)

pub marked-good : (columns : List ℕ) (marks : List Text) → length marks ≡ length columns → list_all is_mark marks ≡ true → marked columns marks ≡ Some (right_of columns marks)
marked-good columns marks long e = rw (eq-eqb (length marks) (length columns) long, e) refl

-- the field at a place is the first of the marks from there on
pub mark-at : (fields : List Text) (i : ℕ) (mark : Bor Text) (got : Option (Bor Text)) (default : Bor Text) → mark ≡ unwrap_or got default → option_map (λ s. s.now) got ≡ field_at fields (i + 1) → i < length (drop 1 fields)
    → drop i (drop 1 fields) ≡ mark.now ∷ drop (i + 1) (drop 1 fields)
mark-at fields i mark None default is e lt = absurd (none-some _ (e ∙ field-behind fields i ∙ slice_get-get_or (drop 1 fields) i [] lt))
mark-at fields i mark (Some other) default is e lt =
    let found : slice_get (drop 1 fields) i ≡ Some mark.now = sym (field-behind fields i) ∙ sym e ∙ ap (λ (m : Bor Text). Some m.now) (sym is) in
    drop-next (drop 1 fields) i mark.now lt (sym (get_or_from_slice_get (drop 1 fields) i mark.now mark.now found))

pub column-at : (columns : List ℕ) (i : ℕ) → i < length columns → drop i columns ≡ get_or columns i 0 ∷ drop (i + 1) columns
column-at columns i lt = drop-next columns i (get_or columns i 0) lt (sym (get_or_default_zero columns i (get_or columns i 0) lt))

-- after the last column
pub right-end : (columns : List ℕ) (marks : List Text) (i : ℕ) (s : Items) → length columns ≤ i → union s (right_of (drop i columns) (drop i marks)) ≡ s
right-end columns marks i s end = ap (λ l. union s (right_of l (drop i marks))) (drop_all i columns end) ∙ union-empty_right s

pub marks-end : (marks : List Text) (i : ℕ) → length marks ≤ i → list_all is_mark (drop i marks) ≡ true
marks-end marks i end = ap (list_all is_mark) (drop_all i marks end)
