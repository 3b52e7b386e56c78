-- Words that name items, one after another; and tables whose names are items.
use Rattle.ls_surmise.proofs.Vocabulary.{◌&&◌, ◌+◌, ◌<◌, ◌∙◌, ◌∷◌, ◌≡◌, ◌≤◌, Bool, Items, List, None, Option, Some, Text, Value, Values, ℕ, ap, arith, as_str, bytes_eq, cond, drop, drop_all, empty, false, get_or, is_named-none, is_named-some, is_some, is_some-position, item_of-some, items_view, length, list_all, members, named_set, nat_tests, option_and_then, option_map, read_each, refl, same_set, sym, true, union, union-empty_left, view, with}
use Rattle.ls_domain.specs.Meanings.{is_named, number_of, item_of, items_of}
use Rattle.ls_surmise.proofs.Walks.{next-item}

-- a word has a number where it is a name
pub number_named : (names : List Text) (w : Text) → is_some (number_of names w) ≡ is_named names w
number_named names w = is_some-position (bytes_eq w) names

-- ---- the set of a clause

-- the set so far, and that of the rest, are the whole
abbrev pub IsNamed : List Text → Items → List Value → Option Items → Type 0
IsNamed names s rest whole = option_map (union s) (option_and_then (named_set names) (read_each as_str (items_view rest))) ≡ whole

pub named-first : (names : List Text) (s : Items) (vs : List Value) (o : Option Values) → s ≡ empty → Some (items_view vs) ≡ o → IsNamed names s vs (option_and_then (named_set names) (option_and_then (read_each as_str) o))
named-first names s vs o empty_is e = same s empty_is (option_and_then (named_set names) (read_each as_str (items_view vs))) ∙ ap (λ p. option_and_then (named_set names) (option_and_then (read_each as_str) p)) e
  where
    same : (s : Items) → s ≡ empty → (o : Option Items) → option_map (union s) o ≡ o
    same s e None = refl
    same s e (Some t) = ap Some (ap (λ u. union u t) e ∙ union-empty_left t)

with-union : (s t : Items) (q : ℕ) → union s (with t q) ≡ union (with s q) t
with-union s t q = same_set _ _ (λ i. grind (arith, members, nat_tests))

one_more : (names : List Text) (w : Text) (q : ℕ) (s : Items) (o : Option (List Text)) → number_of names w ≡ Some q
    → option_map (union s) (option_and_then (named_set names) (option_map (λ ws. w ∷ ws) o)) ≡ option_map (union (with s q)) (option_and_then (named_set names) o)
one_more names w q s None e = refl
one_more names w q s (Some ws) e =
    ap (λ b. option_map (union s) (cond (b && list_all (is_named names) ws) (Some (with (items_of names ws) (item_of names w))) None)) (is_named-some names w q e)
    ∙ ap (λ i. option_map (union s) (cond (list_all (is_named names) ws) (Some (with (items_of names ws) i)) None)) (item_of-some names w q e)
    ∙ last (list_all (is_named names) ws)
  where
    last : (b : Bool) → option_map (union s) (cond b (Some (with (items_of names ws) q)) None) ≡ option_map (union (with s q)) (cond b (Some (items_of names ws)) None)
    last true = ap Some (with-union s (items_of names ws) q)
    last false = refl

more : (names : List Text) (q : ℕ) (s : Items) (o : Option Text) (r : Option (List Text)) → Some q ≡ option_and_then (number_of names) o
    → option_map (union s) (option_and_then (named_set names) (option_and_then (λ w. option_map (λ ws. w ∷ ws) r) o)) ≡ option_map (union (with s q)) (option_and_then (named_set names) r)
more names q s None r e = absurd (let z : Some q ≡ None = e in cc)
more names q s (Some w) r e = one_more names w q s r (sym e)

pub named-next : (names : List Text) (s : Items) (vs : List Value) (i : ℕ) (v : Value) (q : ℕ) (whole : Option Items) → i < length vs → v ≡ get_or vs i v → Some q ≡ option_and_then (number_of names) (as_str (view v))
    → IsNamed names s (drop i vs) whole → IsNamed names (with s q) (drop (i + 1) vs) whole
named-next names s vs i v q whole l e item h =
    sym (more names q s (as_str (view v)) (read_each as_str (items_view (drop (i + 1) vs))) item)
    ∙ ap (λ ws. option_map (union s) (option_and_then (named_set names) (read_each as_str (items_view ws)))) (sym (next-item vs i v l e))
    ∙ h

no_more : (names : List Text) (w : Text) (s : Items) (o : Option (List Text)) → number_of names w ≡ None → option_map (union s) (option_and_then (named_set names) (option_map (λ ws. w ∷ ws) o)) ≡ None
no_more names w s None e = refl
no_more names w s (Some ws) e = ap (λ b. option_map (union s) (cond (b && list_all (is_named names) ws) (Some (items_of names (w ∷ ws))) None)) (is_named-none names w e)

none : (names : List Text) (s : Items) (o : Option Text) (r : Option (List Text)) → None ≡ option_and_then (number_of names) o
    → option_map (union s) (option_and_then (named_set names) (option_and_then (λ w. option_map (λ ws. w ∷ ws) r) o)) ≡ None
none names s None r e = refl
none names s (Some w) r e = no_more names w s r (sym e)

pub named-none : (names : List Text) (s : Items) (vs : List Value) (i : ℕ) (v : Value) (whole : Option Items) → i < length vs → v ≡ get_or vs i v → None ≡ option_and_then (number_of names) (as_str (view v))
    → IsNamed names s (drop i vs) whole → None ≡ whole
named-none names s vs i v whole l e item h =
    sym (none names s (as_str (view v)) (read_each as_str (items_view (drop (i + 1) vs))) item)
    ∙ ap (λ ws. option_map (union s) (option_and_then (named_set names) (read_each as_str (items_view ws)))) (sym (next-item vs i v l e))
    ∙ h

pub named-last : (names : List Text) (s : Items) (vs : List Value) (i : ℕ) (whole : Option Items) → length vs ≤ i → IsNamed names s (drop i vs) whole → Some s ≡ whole
named-last names s vs i whole l h =
    ap Some (same_set s (union s empty) (λ i. grind (arith, members, nat_tests)))
    ∙ ap (λ ws. option_map (union s) (option_and_then (named_set names) (read_each as_str (items_view ws)))) (sym (drop_all i vs l)) ∙ h
