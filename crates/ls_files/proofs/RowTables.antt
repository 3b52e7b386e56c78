-- Tables, row by row: what is read of members one after another, and the table of members that are put one after another.
use Rattle.std.proofs.Common.{◌&&◌, ◌+◌, ◌∙◌, ◌∷◌, ◌≡◌, Bool, Equal, Greater, Less, List, None, Option, Ordering, Some, [], ap, ap₂, arith, bytes_eq, cond, false, get_or, is_eq, is_some, length, map, nat_cmp, option_and_then, option_map, refl, suc, sym, subst, true, true≢false, unwrap_or, ℕ}
use Rattle.std.specs.List.{AllByRecursion, IsDistinct, list_all}
use Rattle.std.specs.Map.{lookup}
use Rattle.std.specs.Option.{option_map_or}
use Rattle.std.specs.Ordering.{match_ordering}
use Rattle.std.specs.BTreeMap.{insert_entry}
use Rattle.std.specs.Cmp.Lexicographic.{slice_cmp}
use Rattle.std.proofs.lemmas.Bool.{and_from, and_parts, or_right}
use Rattle.std.proofs.lemmas.Cmp.{nat_list_eq_equiv}
use Rattle.std.proofs.lemmas.Map.Text.{is_eq-slice_cmp}
use Rattle.std.proofs.lemmas.Slice.Eq.{bytes_eq-Decides}
use Rattle.serde_json.specs.Data.{Data, null, boolean, number, string, array, object, Members, no_members, member, put}
use Rattle.serde_json.specs.Find.{as_object, get_member}
use Rattle.ls_lists.proofs.Every.{each}
use Rattle.ls_set.specs.{numbers_from}
use Rattle.ls_cutting.specs.{Text}
use Rattle.ls_domain.specs.Meanings.{is_named}
use Rattle.ls_domain.specs.Texts.{name_of}
use Rattle.ls_files.specs.SurmiseFiles.{put_each, read_members, value_of}
use Rattle.ls_files.specs.Codecs.{Codec}
use Rattle.ls_files.proofs.CodecLaws.{IsReadBack}

pub some_same : {X : Type 0} (x y : X) → Some x ≡ Some y → x ≡ y
some_same x y e = ap (λ o. unwrap_or o x) e

-- ---- what is read of members

module _ {X : Type 0} (f : Data → Option X) where
  -- a table of members, as its first row and the rest
  record IsRows (d : Data) (ms : Members) (k : Text) (table : List (Text × X)) : Type 0 where
    first : X
    rest : List (Text × X)
    of_first : f d ≡ Some first
    of_rest : read_members f ms ≡ Some rest
    whole : (k, first) ∷ rest ≡ table

  rows : (k : Text) (d : Data) (ms : Members) (table : List (Text × X)) → read_members f (member k d ms) ≡ Some table → IsRows d ms k table
  rows k d ms table e = step (f d) (read_members f ms) refl refl e
    where
      step : (o : Option X) (r : Option (List (Text × X))) → f d ≡ o → read_members f ms ≡ r → option_and_then (λ x. option_map (λ xs. (k, x) ∷ xs) r) o ≡ Some table → IsRows d ms k table
      step None r a b z = absurd (let y : None ≡ Some table = z in cc)
      step (Some x) None a b z = absurd (let y : None ≡ Some table = z in cc)
      step (Some x) (Some xs) a b z = record { first = x; rest = xs; of_first = a; of_rest = b; whole = some_same ((k, x) ∷ xs) table z }

  -- A test of each member, which its row tells, is that of each row.
  pub each-tested : (test : Text → Data → Bool) (all : Members → Bool) (p : Text × X → Bool) → all no_members ≡ true → ((k : Text) (d : Data) (ms : Members) → all (member k d ms) ≡ (test k d && all ms))
      → ((k : Text) (d : Data) (x : X) → f d ≡ Some x → test k d ≡ p (k, x)) → (ms : Members) (table : List (Text × X)) → read_members f ms ≡ Some table → all ms ≡ list_all p table
  each-tested test all p none next same no_members table e = none ∙ ap (list_all p) (some_same [] table e)
  each-tested test all p none next same (member k d ms) table e =
      let r = rows k d ms table e in
      next k d ms ∙ ap₂ (λ a b. a && b) (same k d r.first r.of_first) (each-tested test all p none next same ms r.rest r.of_rest) ∙ ap (list_all p) r.whole

  module _ {Y : Type 0} (p : Text × X → Bool) (g : Option Data → Y) (h : Option X → Y) (none : g None ≡ h None) (same : (k : Text) (d : Data) (x : X) → f d ≡ Some x → p (k, x) ≡ true → g (Some d) ≡ h (Some x)) where
    -- what is read under a key is what stands there
    under : (ms : Members) (table : List (Text × X)) → read_members f ms ≡ Some table → list_all p table ≡ true → (w : Text) → g (get_member w ms) ≡ h (lookup (bytes_eq w) table)
    under no_members table e all w = none ∙ ap (λ t. h (lookup (bytes_eq w) t)) (some_same [] table e)
    under (member k d ms) table e all w =
        let r = rows k d ms table e in
        let a = and_parts (p (k, r.first)) (list_all p r.rest) (ap (list_all p) r.whole ∙ all) in
        step (slice_cmp nat_cmp w k) (sym (is_eq-slice_cmp w k)) r.first r.rest (same k d r.first r.of_first a.0) (under ms r.rest r.of_rest a.1 w)
        ∙ ap (λ t. h (lookup (bytes_eq w) t)) r.whole
      where
        step : (o : Ordering) → bytes_eq w k ≡ is_eq o → (x : X) (rest : List (Text × X)) → g (Some d) ≡ h (Some x) → g (get_member w ms) ≡ h (lookup (bytes_eq w) rest)
            → g (match_ordering o (get_member w ms) (Some d) (get_member w ms)) ≡ h (lookup (bytes_eq w) ((k, x) ∷ rest))
        step Less q x rest here later = later ∙ ap (λ b. h (cond b (Some x) (lookup (bytes_eq w) rest))) (sym q)
        step Equal q x rest here later = here ∙ ap (λ b. h (cond b (Some x) (lookup (bytes_eq w) rest))) (sym q)
        step Greater q x rest here later = later ∙ ap (λ b. h (cond b (Some x) (lookup (bytes_eq w) rest))) (sym q)

    numbered : (ms : Members) (table : List (Text × X)) → ((w : Text) → g (get_member w ms) ≡ h (lookup (bytes_eq w) table)) → (all names : List Text) (i : ℕ) → ((k : ℕ) → get_or all (i + k) [] ≡ get_or names k [])
        → map (λ q. g (get_member (get_or all q []) ms)) (numbers_from i (length names)) ≡ map (λ w. h (lookup (bytes_eq w) table)) names
    numbered ms table at all [] i is = refl
    numbered ms table at all (w ∷ names) i is =
        ap₂ (λ y ys. y ∷ ys) (ap (λ v. g (get_member v ms)) (ap (λ k. get_or all k []) (let e : i ≡ i + 0 = omega arith in e) ∙ is 0) ∙ at w)
        (numbered ms table at all names (suc i) (λ k. ap (λ j. get_or all j []) (let e : suc i + k ≡ i + suc k = omega arith in e) ∙ is (suc k)))

    -- the same under each name in turn
    pub each-under : (names : List Text) (ms : Members) (table : List (Text × X)) → read_members f ms ≡ Some table → list_all p table ≡ true
        → map (λ q. g (get_member (name_of names q) ms)) (numbers_from 0 (length names)) ≡ map (λ w. h (lookup (bytes_eq w) table)) names
    each-under names ms table e all = numbered ms table (under ms table e all) names names 0 (λ k. ap (λ j. get_or names j []) (let e : 0 + k ≡ k = omega arith in e))

  -- ---- what is read of a value

  -- the members of a value that is a table
  pub record IsTable (d : Data) : Type 0 where
    pub members : Members
    pub table : List (Text × X)
    pub is : d ≡ object members
    pub of_members : read_members f members ≡ Some table

  pub table-from : (d : Data) → is_some (option_and_then (read_members f) (as_object d)) ≡ true → IsTable d
  table-from null h = absurd (true≢false (sym h))
  table-from (boolean b) h = absurd (true≢false (sym h))
  table-from (number n) h = absurd (true≢false (sym h))
  table-from (string s) h = absurd (true≢false (sym h))
  table-from (array ds) h = absurd (true≢false (sym h))
  table-from (object ms) h = step (read_members f ms) refl h
    where
      step : (o : Option (List (Text × X))) → read_members f ms ≡ o → is_some o ≡ true → IsTable (object ms)
      step None e h = absurd (true≢false (sym h))
      step (Some table) e h = record { members = ms; table = table; is = refl; of_members = e }

  -- what is told of the bytes of a file
  module _ {R : Type 0} (tell : List (Text × X) → R) (bad : R) (bytes : List ℕ) where
    abbrev pub told : R
    told = option_map_or tell (option_and_then (λ d. option_and_then (read_members f) (as_object d)) (value_of bytes)) bad

    pub no-value : value_of bytes ≡ None → told ≡ bad
    no-value e = ap (λ v. option_map_or tell (option_and_then (λ d. option_and_then (read_members f) (as_object d)) v) bad) e

    of-value : (d : Data) → value_of bytes ≡ Some d → told ≡ option_map_or tell (option_and_then (read_members f) (as_object d)) bad
    of-value d e = ap (λ v. option_map_or tell (option_and_then (λ c. option_and_then (read_members f) (as_object c)) v) bad) e

    pub no-table : (d : Data) → value_of bytes ≡ Some d → is_some (option_and_then (read_members f) (as_object d)) ≡ false → told ≡ bad
    no-table d e h = of-value d e ∙ step (option_and_then (read_members f) (as_object d)) h
      where
        step : (o : Option (List (Text × X))) → is_some o ≡ false → option_map_or tell o bad ≡ bad
        step None h = refl
        step (Some table) h = absurd (true≢false h)

    pub of-table : (d : Data) → value_of bytes ≡ Some d → (t : IsTable d) → told ≡ tell t.table
    of-table d e t = of-value d e ∙ ap (λ c. option_map_or tell (option_and_then (read_members f) (as_object c)) bad) t.is ∙ ap (λ o. option_map_or tell o bad) t.of_members

-- ---- a row that is put into a table

abbrev insert_row : {X : Type 0} → List (Text × X) → Text → X → List (Text × X)
insert_row rows k x = insert_entry (slice_cmp nat_cmp) rows k x

same_key : (k l : Text) → slice_cmp nat_cmp k l ≡ Equal → k ≡ l
same_key k l e = (bytes_eq-Decides k l).0 (sym (is_eq-slice_cmp k l) ∙ ap is_eq e)

module _ {X : Type 0} where
  read-at : (f : Data → Option X) (o : Ordering) (k l : Text) (d e : Data) (x y : X) (ms : Members) (rows : List (Text × X)) → f d ≡ Some x → f e ≡ Some y → read_members f ms ≡ Some rows → read_members f (put k d ms) ≡ Some (insert_row rows k x)
      → read_members f (match_ordering o (member k d (member l e ms)) (member l d ms) (member l e (put k d ms))) ≡ Some (match_ordering o ((k, x) ∷ (l, y) ∷ rows) ((l, x) ∷ rows) ((l, y) ∷ insert_row rows k x))
  read-at f Less k l d e x y ms rows is was h later = rw (is, was, h) refl
  read-at f Equal k l d e x y ms rows is was h later = rw (is, h) refl
  read-at f Greater k l d e x y ms rows is was h later = rw (was, later) refl

  -- members with one more are read as the rows with one more
  read-put : (f : Data → Option X) (k : Text) (d : Data) (x : X) (ms : Members) (table : List (Text × X)) → f d ≡ Some x → read_members f ms ≡ Some table → read_members f (put k d ms) ≡ Some (insert_row table k x)
  read-put f k d x no_members table is h = rw is (ap (λ rs. Some (insert_row rs k x)) (some_same [] table h))
  read-put f k d x (member l e ms) table is h =
      let r = rows f l e ms table h in
      subst (λ rs. read_members f (put k d (member l e ms)) ≡ Some (insert_row rs k x)) r.whole
      (read-at f (slice_cmp nat_cmp k l) k l d e x r.first ms r.rest is r.of_first r.of_rest (read-put f k d x ms r.rest is r.of_rest))

  here-at : (o : Ordering) (k l : Text) (x y : X) (rows : List (Text × X)) → slice_cmp nat_cmp k l ≡ o → lookup (bytes_eq k) (insert_row rows k x) ≡ Some x
      → lookup (bytes_eq k) (match_ordering o ((k, x) ∷ (l, y) ∷ rows) ((l, x) ∷ rows) ((l, y) ∷ insert_row rows k x)) ≡ Some x
  here-at Less k l x y rows is later = rw ((bytes_eq-Decides k k).1 refl) refl
  here-at Equal k l x y rows is later = rw (sym (is_eq-slice_cmp k l) ∙ ap is_eq is) refl
  here-at Greater k l x y rows is later = rw (sym (is_eq-slice_cmp k l) ∙ ap is_eq is) later

  -- what was put at a key is found there
  lookup-here : (k : Text) (x : X) (rows : List (Text × X)) → lookup (bytes_eq k) (insert_row rows k x) ≡ Some x
  lookup-here k x [] = rw ((bytes_eq-Decides k k).1 refl) refl
  lookup-here k x ((l, y) ∷ rows) = here-at (slice_cmp nat_cmp k l) k l x y rows refl (lookup-here k x rows)

  other-at : (o : Ordering) (q k l : Text) (x y : X) (rows : List (Text × X)) → bytes_eq q k ≡ false → slice_cmp nat_cmp k l ≡ o → lookup (bytes_eq q) (insert_row rows k x) ≡ lookup (bytes_eq q) rows
      → lookup (bytes_eq q) (match_ordering o ((k, x) ∷ (l, y) ∷ rows) ((l, x) ∷ rows) ((l, y) ∷ insert_row rows k x)) ≡ lookup (bytes_eq q) ((l, y) ∷ rows)
  other-at Less q k l x y rows apart is later = rw apart refl
  other-at Equal q k l x y rows apart is later = rw (ap (bytes_eq q) (sym (same_key k l is)) ∙ apart) refl
  other-at Greater q k l x y rows apart is later = ap (λ o. cond (bytes_eq q l) (Some y) o) later

  -- and at other keys what was there
  lookup-other : (q k : Text) (x : X) (rows : List (Text × X)) → bytes_eq q k ≡ false → lookup (bytes_eq q) (insert_row rows k x) ≡ lookup (bytes_eq q) rows
  lookup-other q k x [] apart = rw apart refl
  lookup-other q k x ((l, y) ∷ rows) apart = other-at (slice_cmp nat_cmp k l) q k l x y rows apart refl (lookup-other q k x rows apart)

  each-at : (p : Text × X → Bool) (o : Ordering) (k l : Text) (x y : X) (rows : List (Text × X)) → slice_cmp nat_cmp k l ≡ o → p (k, x) ≡ true → list_all p ((l, y) ∷ rows) ≡ true → list_all p (insert_row rows k x) ≡ true
      → list_all p (match_ordering o ((k, x) ∷ (l, y) ∷ rows) ((l, x) ∷ rows) ((l, y) ∷ insert_row rows k x)) ≡ true
  each-at p Less k l x y rows is h all later = and_from (p (k, x)) (list_all p ((l, y) ∷ rows)) h all
  each-at p Equal k l x y rows is h all later = and_from (p (l, x)) (list_all p rows) (subst (λ w. p (w, x) ≡ true) (same_key k l is) h) (and_parts (p (l, y)) (list_all p rows) all).1
  each-at p Greater k l x y rows is h all later = and_from (p (l, y)) (list_all p (insert_row rows k x)) (and_parts (p (l, y)) (list_all p rows) all).0 later

  -- rows that pass, with one more that does
  each-row : (p : Text × X → Bool) (k : Text) (x : X) (rows : List (Text × X)) → p (k, x) ≡ true → list_all p rows ≡ true → list_all p (insert_row rows k x) ≡ true
  each-row p k x [] h all = and_from (p (k, x)) true h refl
  each-row p k x ((l, y) ∷ rows) h all = each-at p (slice_cmp nat_cmp k l) k l x y rows refl h all (each-row p k x rows h (and_parts (p (l, y)) (list_all p rows) all).1)

-- ---- the table of rows

abbrev pub table_of_rows : {X : Type 0} → List Text → List X → List (Text × X)
table_of_rows [] xs = []
table_of_rows (w ∷ ws) [] = []
table_of_rows (w ∷ ws) (x ∷ xs) = insert_row (table_of_rows ws xs) w x

pub rows-read : {X : Type 0} {c : Codec X} {P : X → Type 0} {m : ℕ} → IsReadBack X c P m → (ws : List Text) (xs : List X) → AllByRecursion P xs → read_members c.read (put_each c.write ws xs) ≡ Some (table_of_rows ws xs)
rows-read h [] xs fine = refl
rows-read h (w ∷ ws) [] fine = refl
rows-read {c = c} h (w ∷ ws) (x ∷ xs) fine = read-put c.read w (c.write x) x (put_each c.write ws xs) (table_of_rows ws xs) (h.back x fine.0) (rows-read h ws xs fine.1)

pub rows-pass : {X : Type 0} (p : Text × X → Bool) (A : Text → Type 0) (B : X → Type 0) → ((w : Text) (x : X) → A w → B x → p (w, x) ≡ true) → (ws : List Text) (xs : List X) → AllByRecursion A ws → AllByRecursion B xs → list_all p (table_of_rows ws xs) ≡ true
rows-pass p A B h [] xs a b = refl
rows-pass p A B h (w ∷ ws) [] a b = refl
rows-pass p A B h (w ∷ ws) (x ∷ xs) a b = each-row p w x (table_of_rows ws xs) (h w x a.0 b.0) (rows-pass p A B h ws xs a.1 b.1)

module _ {X Y : Type 0} (g : Option X → Y) where
  rows-same : (table : List (Text × X)) (w : Text) (x : X) (ws : List Text) → AllByRecursion (λ v. bytes_eq w v ≡ false) ws
      → map (λ v. g (lookup (bytes_eq v) (insert_row table w x))) ws ≡ map (λ v. g (lookup (bytes_eq v) table)) ws
  rows-same table w x [] apart = refl
  rows-same table w x (v ∷ ws) apart = ap₂ (λ y ys. y ∷ ys) (ap g (lookup-other v w x table (nat_list_eq_equiv.symm v w ∙ apart.0))) (rows-same table w x ws apart.1)

  -- what stands under each key in turn
  pub rows-back : (ws : List Text) (xs : List X) → length ws ≡ length xs → IsDistinct bytes_eq ws → map (λ w. g (lookup (bytes_eq w) (table_of_rows ws xs))) ws ≡ map (λ x. g (Some x)) xs
  unfolding IsDistinct
  rows-back [] [] e apart = refl
  rows-back [] (x ∷ xs) e apart = absurd (omega (arith, e))
  rows-back (w ∷ ws) [] e apart = absurd (omega (arith, e))
  rows-back (w ∷ ws) (x ∷ xs) e apart =
      ap₂ (λ y ys. y ∷ ys) (ap g (lookup-here w x (table_of_rows ws xs))) (rows-same (table_of_rows ws xs) w x ws apart.0 ∙ rows-back ws xs (omega (arith, e)) apart.1)

-- each name is one of the names
pub all-named : (names : List Text) → AllByRecursion (λ w. is_named names w ≡ true) names
all-named [] = tt
all-named (w ∷ names) = (rw ((bytes_eq-Decides w w).1 refl) refl, each (λ v h. or_right (bytes_eq v w) (is_named names v) h) names (all-named names))
