-- The files of a map in memory, by the bytes of their names.
use Rattle.std.proofs.Common.{◌≡◌, ◌∙◌, ap, sym, cond, ℕ, List, [], ◌∷◌, Bool, true, false, Some, Ok, Err, Vec, length, nat_lt, ◌<◌, ◌≤◌, refl, arith, Bor}
use Rattle.std.proofs.lemmas.Bool.{lt-ltb, le-ltb}
use Rattle.std.proofs.lemmas.Map.Text.{btree_map_updates_text, is_eq-slice_cmp}
use Rattle.std.specs.Cmp.{eq_by_cmp_equiv}
use Rattle.std.specs.Cmp.Lexicographic.{slice_cmp, nat_list_cmp_total}
use Rattle.std.specs.BTreeMap.{BTreeMap, Updates, get_by_text, is_at}
use Rattle.std.specs.FinMap as map
use Rattle.std.specs.Map.{lookup}
use Rattle.std.specs.Option.{option_map, option_copied}
use Rattle.std.specs.Ordering.{nat_cmp, eq_by_cmp}
use Rattle.std.specs.String.{string_bytes, string_cmp}
use Rattle.std.specs.declared.alloc.Global.{Global}
use Rattle.std.specs.declared.option.Option.{Option}
use Rattle.std.specs.declared.string.String.{String}
use Rattle.ls_edge.specs.Files.{longest_file, Folder, folder_of, given}
use Rattle.ls_edge.specs.declared.traits.FetchFault.TheVariants as fetch

map_cond : (b : Bool) (v : Vec ℕ Global) (o : Option (Vec ℕ Global)) → cond b (Some v.items) (option_map (λ w. w.items) o) ≡ option_map (λ w. w.items) (cond b (Some v) o)
map_cond true v o = refl
map_cond false v o = refl

-- the file of a name
get-folder_of : (files : List (String Global × Vec ℕ Global)) (name : List ℕ)
    → map.get (folder_of files) name ≡ option_map (λ v. v.items) (lookup (is_at (λ k. slice_cmp nat_cmp name (string_bytes k))) files)
get-folder_of [] name = map.get-empty _ name
get-folder_of (file ∷ files) name =
    map.get-insert nat_list_cmp_total (folder_of files) (string_bytes file.0) file.1.items name
    ∙ ap (cond (eq_by_cmp (slice_cmp nat_cmp) name (string_bytes file.0)) (Some file.1.items)) (get-folder_of files name)
    ∙ map_cond _ file.1 _

-- what a look-up in the map found is the file of the name
pub file_found : (folder : Folder) (files : BTreeMap (String Global) (Vec ℕ Global)) (name : List ℕ) (result found : Option (Bor (Vec ℕ Global)))
    → folder_of files.entries ≡ folder → option_copied result ≡ get_by_text files name → result ≡ found → map.get folder name ≡ option_map (λ v. v.items) (option_copied found)
file_found folder files name result found is same was =
    ap (λ f. map.get f name) (sym is) ∙ get-folder_of files.entries name ∙ ap (option_map (λ v. v.items)) (sym same ∙ ap option_copied was)

-- a file of more bytes than the limit is too large
pub given_long : (file : Option (List ℕ)) (bytes : List ℕ) (n : ℕ) → file ≡ Some bytes → n ≡ length bytes → longest_file < n → given file ≡ Err (fetch.TooLarge n)
given_long file bytes n is long above =
    let more : nat_lt longest_file (length bytes) ≡ true = lt-ltb _ _ (omega arith) in
    rw (is, more) (ap (λ m. Err (fetch.TooLarge m)) (sym long))

-- a file of no more is given
pub given_short : (file : Option (List ℕ)) (bytes : List ℕ) → file ≡ Some bytes → length bytes ≤ longest_file → given file ≡ Ok bytes
given_short file bytes is within =
    let no_more : nat_lt longest_file (length bytes) ≡ false = le-ltb _ _ within in
    rw (is, no_more) refl

-- a name that is set in the map is set in the folder
pub folder_of-insert : (old new : BTreeMap (String Global) (Vec ℕ Global)) (name : String Global) (v : Vec ℕ Global)
    → Updates string_cmp old new name (Some v) → folder_of new.entries ≡ map.insert (folder_of old.entries) (string_bytes name) v.items
folder_of-insert old new name v set =
    map.same_map nat_list_cmp_total (map.slice_cmp-IsAntisymmetric map.nat_cmp-IsAntisymmetric) _ _ (λ q.
    get-folder_of new.entries q
    ∙ ap (option_map (λ w. w.items)) (btree_map_updates_text (string_bytes name) old new (Some v) set q)
    ∙ sym (map_cond _ v _)
    ∙ ap (cond _ (Some v.items)) (sym (get-folder_of old.entries q))
    ∙ ap (λ b. cond b (Some v.items) (map.get (folder_of old.entries) q)) (sym (is_eq-slice_cmp (string_bytes name) q) ∙ (eq_by_cmp_equiv nat_list_cmp_total).symm (string_bytes name) q)
    ∙ sym (map.get-insert nat_list_cmp_total (folder_of old.entries) (string_bytes name) v.items q))
