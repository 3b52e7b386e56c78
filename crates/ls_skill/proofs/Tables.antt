-- Values that are tables of texts: what is read of them step by step is what they are defined to
-- give.
use Rattle.std.proofs.Common.{ℕ, zero, suc, ◌+◌, ◌<◌, ◌≡◌, Bool, true, false, cond, List, []}
use Rattle.std.proofs.Common.{◌∷◌, map, length, get_or, bytes_eq, is_some, Option, Some, None, Ok}
use Rattle.std.proofs.Common.{Err, option_map, option_and_then, lt-ltb, le-ltb, ◌≤◌, refl, sym, ap}
use Rattle.std.proofs.Common.{◌∙◌, arith}
use Rattle.std.specs.Option.{option_map_or}
use Rattle.serde_json.specs.Data.{Data, object, Items as Values, no_items, item, Members}
use Rattle.serde_json.specs.Find.{as_str, as_array}
use Rattle.ls_lists.proofs.Places.{is_some-position}
use Rattle.ls_set.specs.ItemSet.{numbers_from}
use Rattle.ls_cutting.specs.Lines.{Text}
use Rattle.ls_origins.specs.Skills.{most_skills}
use Rattle.ls_origins.specs.declared.skill_fault.SkillFault.TheVariants.{BadJson, UnknownItem}
use Rattle.ls_origins.specs.declared.skill_fault.SkillFault.TheVariants.{NoSkill, Wide}
use Rattle.ls_domain.specs.Meanings.{number_of}
use Rattle.ls_domain.specs.Meanings.{is_named}
use Rattle.ls_files.specs.SurmiseFiles.{read_each, read_list, read_members, value_of}
use Rattle.ls_files.specs.SkillFiles.{Table, read_table, table_of, has_named_keys}
use Rattle.ls_files.specs.SkillFiles.{rows_in, first_bare, skills_in, skills_from}
use Rattle.ls_files.specs.SkillFiles.{skills_named, skills_of}
use Rattle.ls_files.proofs.RowTables.{IsTable, each-tested, each-under, no-table, no-value, of-table}
use Rattle.ls_files.proofs.RowTables.{some_same, table-from}
use Rattle.ls_skill.specs.Gathering.{texts_in, own_row, rows_read, are_named, are_keys_named}

-- a word has a number where it is a name
pub number_named : (names : List Text) (w : Text) → is_some (number_of names w) ≡ is_named names w
number_named names w = is_some-position (bytes_eq w) names

-- ---- one row

texts-read : (ds : Values) (ws : List Text) → read_each as_str ds ≡ Some ws → texts_in ds ≡ ws
texts-read no_items ws e = some_same [] ws e
texts-read (item d ds) ws e = step (as_str d) (read_each as_str ds) refl e (texts-read ds)
  where
    step : (o : Option Text) (r : Option (List Text)) → read_each as_str ds ≡ r
        → option_and_then (λ w. option_map (λ vs. w ∷ vs) r) o ≡ Some ws
        → ((vs : List Text) → read_each as_str ds ≡ Some vs → texts_in ds ≡ vs)
        → option_map_or (λ w. w ∷ texts_in ds) o (texts_in ds) ≡ ws
    step None r a z later = absurd (let y : None ≡ Some ws = z in cc)
    step (Some w) None a z later = absurd (let y : None ≡ Some ws = z in cc)
    step (Some w) (Some vs) a z later = ap (λ us. w ∷ us) (later vs a) ∙ some_same (w ∷ vs) ws z

row-read : (d : Data) (ws : List Text) → read_list as_str d ≡ Some ws
    → option_map_or texts_in (as_array d) [] ≡ ws
row-read d ws e = step (as_array d) e
  where
    step : (o : Option Values) → option_and_then (read_each as_str) o ≡ Some ws
        → option_map_or texts_in o [] ≡ ws
    step None z = absurd (let y : None ≡ Some ws = z in cc)
    step (Some ds) z = texts-read ds ws z

-- ---- all rows

keys-named : (names : List Text) (ms : Members) (table : Table)
    → read_members (read_list as_str) ms ≡ Some table → are_named names ms
    ≡ has_named_keys names table
unfolding has_named_keys
keys-named names ms table e =
    each-tested (read_list as_str) (λ k d. is_named names k) (are_named names)
    (λ row. is_named names row.0) refl (λ k d ms. refl) (λ k d ws e. refl) ms table e

all-rows : (names : List Text) (ms : Members) (table : Table)
    → read_members (read_list as_str) ms ≡ Some table → has_named_keys names table ≡ true
    → rows_read names (object ms) ≡ rows_in names table
unfolding rows_in has_named_keys
all-rows names ms table e named =
    each-under (read_list as_str) (λ row. is_named names row.0)
    (λ o. option_map_or texts_in (option_and_then as_array o) [])
    (λ o. option_map_or (λ row. row) o []) refl (λ k d ws e a. row-read d ws e) names ms table e named

-- ---- the whole file

pub no_value : (names : List Text) (bytes : List ℕ) → value_of bytes ≡ None
    → skills_of names bytes ≡ Err BadJson
unfolding table_of skills_of
no_value names bytes e = no-value (read_list as_str) (skills_named names) (Err BadJson) bytes e

pub no_table : (names : List Text) (bytes : List ℕ) (d : Data) → value_of bytes ≡ Some d
    → is_some (read_table d) ≡ false → skills_of names bytes ≡ Err BadJson
unfolding table_of skills_of
no_table names bytes d e h =
    no-table (read_list as_str) (skills_named names) (Err BadJson) bytes d e h

-- a table is told by its keys and its rows
told : (names : List Text) (bytes : List ℕ) (d : Data) (b : Bool) → value_of bytes ≡ Some d
    → (t : IsTable (read_list as_str) d) → are_keys_named names d ≡ b
    → (has_named_keys names t.table ≡ b)
    × (skills_of names bytes ≡ cond b (skills_from (rows_in names t.table)) (Err UnknownItem))
unfolding table_of skills_of
told names bytes d b e t h =
    let same : has_named_keys names t.table ≡ b =
    sym (keys-named names t.members t.table t.of_members) ∙ ap (are_keys_named names) (sym t.is) ∙ h
    in (
      same,
      of-table (read_list as_str) (skills_named names) (Err BadJson) bytes d e t
          ∙ ap (λ a. cond a (skills_from (rows_in names t.table)) (Err UnknownItem)) same,
    )

pub not_named : (names : List Text) (bytes : List ℕ) (d : Data) → value_of bytes ≡ Some d
    → is_some (read_table d) ≡ true → are_keys_named names d ≡ false
    → skills_of names bytes ≡ Err UnknownItem
not_named names bytes d e h n =
    (told names bytes d false e (table-from (read_list as_str) d h) n).1

pub all_named : (names : List Text) (bytes : List ℕ) (d : Data) → value_of bytes ≡ Some d
    → is_some (read_table d) ≡ true → are_keys_named names d ≡ true
    → skills_of names bytes ≡ skills_from (rows_read names d)
all_named names bytes d e h n =
    let t = table-from (read_list as_str) d h in
    let k = told names bytes d true e t n in
    k.1
    ∙ ap skills_from
    (sym (all-rows names t.members t.table t.of_members k.0) ∙ ap (rows_read names) (sym t.is))

-- ---- the rows

pub of_bare : (rows : List (List Text)) (q : ℕ) → first_bare rows ≡ Some q
    → skills_from rows ≡ Err (NoSkill q)
unfolding skills_from
of_bare rows q e = rw e refl

pub of_wide : (rows : List (List Text)) → first_bare rows ≡ None
    → most_skills < length (skills_in rows)
    → skills_from rows ≡ Err (Wide (length (skills_in rows)))
unfolding skills_from
of_wide rows e l = rw (e, lt-ltb most_skills (length (skills_in rows)) l) refl

pub of_few : (rows : List (List Text)) → first_bare rows ≡ None
    → length (skills_in rows) ≤ most_skills
    → skills_from rows ≡ Ok (skills_in rows)
unfolding skills_from
of_few rows e l = rw (e, le-ltb most_skills (length (skills_in rows)) l) refl

pub rows-at : (h : ℕ → List Text) (i m k : ℕ) → k < m → get_or (map h (numbers_from i m)) k []
    ≡ h (i + k)
rows-at h i zero k l = absurd (omega arith)
rows-at h i (suc m) zero l = ap h (let e : i ≡ i + 0 = omega arith in e)
rows-at h i (suc m) (suc k) l =
    rows-at h (suc i) m k (omega arith) ∙ ap h (let e : suc i + k ≡ i + suc k = omega arith in e)

pub rows-length : (h : ℕ → List Text) (i m : ℕ) → length (map h (numbers_from i m)) ≡ m
rows-length h i zero = refl
rows-length h i (suc m) = ap suc (rows-length h (suc i) m)

pub read-length : (names : List Text) (d : Data) → length (rows_read names d) ≡ length names
read-length names d = rows-length (own_row names d) 0 (length names)

pub row-at : (names : List Text) (d : Data) (q : ℕ) → q < length names
    → get_or (rows_read names d) q [] ≡ own_row names d q
row-at names d q l =
    rows-at (own_row names d) 0 (length names) q l ∙ ap (own_row names d)
    (let e : 0 + q ≡ q = omega arith in e)
