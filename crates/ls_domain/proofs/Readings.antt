-- What is read is a domain, and a domain is read from its names.
use Rattle.ls_domain.proofs.Vocabulary.{◌++◌, ◌+◌, ◌<◌, ◌==◌, ◌∙◌, ◌∷◌, ◌≡◌, AllByRecursion, AreNames, FirstField, IsDistinct, IsDomain, List, None, Ok, PLACES, Some, Text, ℕ, [], and_parts, ap, append-nil, append_assoc, ap₂, arith, bytes_eq, cases_Bool, even_field, false, first_field, first_fields, inl, inr, is_name, is_named, length, length-append, list_all, list_all-append, map, map-append, map-id, name_fault, names_from, names_of, names_of_table, names_of_words, nat_list_eq_equiv, none-some, ok-err, refl, same_Ok, same_Some, subst, sym, table_records, field_count}
use Rattle.ls_domain.proofs.Numbers.{AreNames-nil, AreNames-push}
use Rattle.ls_domain.proofs.Rows.{fault-none, free, length-names_from, names_from-bad, names_from-fault, names_from-next, names_from-nil}

-- ---- what is read

-- the names are those of the rows, in their order
pub names_from-rows : (earlier : List Text) (rows : List FirstField) (names : List Text) → AreNames earlier → names_from earlier rows ≡ Ok names → AreNames names × (map Some names ≡ map Some earlier ++ rows)
names_from-rows earlier [] names are e =
    let same : earlier ≡ names = same_Ok (sym (names_from-nil earlier) ∙ e) in (subst AreNames same are, ap (map Some) (sym same) ∙ sym (append-nil (map Some earlier)))
names_from-rows earlier (None ∷ rows) names are e = absurd (ok-err (sym e ∙ names_from-bad earlier rows))
names_from-rows earlier (Some w ∷ rows) names are e =
    elim (name_fault earlier w) as (λ o. name_fault earlier w ≡ o → AreNames names × (map Some names ≡ map Some earlier ++ Some w ∷ rows)) [
      | None ↦ λ f.
          let is = free earlier w f in
          let rest = names_from-rows (earlier ++ w ∷ []) rows names (AreNames-push earlier w are is.name is.new is.room) (sym (names_from-next earlier w rows f) ∙ e) in
          (rest.0, rest.1 ∙ ap (λ l. l ++ rows) (map-append Some earlier (w ∷ [])) ∙ append_assoc (map Some earlier) (Some w ∷ []) rows)
      | Some fault ↦ λ f. absurd (ok-err (sym e ∙ names_from-fault earlier w rows fault f))
    ] refl

names_of-rows : (rows : List FirstField) (names : List Text) → names_of rows ≡ Ok names → IsDomain names × (map Some names ≡ rows)
names_of-rows [] names e = absurd (ok-err (sym e))
names_of-rows (row ∷ rows) names e =
    let all = names_from-rows [] (row ∷ rows) names AreNames-nil e in
    let as_many : length names ≡ 0 + length (row ∷ rows) = length-names_from [] (row ∷ rows) names e in
    (record { some = omega (arith, as_many); are_names = all.0 }, all.1)

-- rows that all have names
named : {X : Type 0} (row : X → FirstField) (name : X → Text) → ((x : X) (w : Text) → Some w ≡ row x → w ≡ name x) → (xs : List X) (names : List Text) → map Some names ≡ map row xs → names ≡ map name xs
named row name told [] [] e = refl
named row name told [] (w ∷ names) e = cc
named row name told (x ∷ xs) [] e = cc
named row name told (x ∷ xs) (w ∷ names) e =
    let head : Some w ≡ row x = cc in
    let tail : map Some names ≡ map row xs = cc in
    ap₂ (λ v vs. v ∷ vs) (told x w head) (named row name told xs names tail)

even_field-name : (width : ℕ) (fields : List Text) (w : Text) → Some w ≡ even_field width fields → w ≡ first_field fields
even_field-name width fields w e =
    elim (cases_Bool (length fields == width)) [
      | inl good ↦ let is : Some w ≡ Some (first_field fields) = rw good at e in same_Some w (first_field fields) is
      | inr bad ↦ let is : Some w ≡ None = rw bad at e in absurd (none-some w (sym is))
    ]

pub names_of_words-read : (ws names : List Text) → names_of_words ws ≡ Ok names → IsDomain names × (names ≡ ws)
names_of_words-read ws names e =
    let all = names_of-rows (map Some ws) names e in (all.0, named Some (λ w. w) (λ x w is. same_Some w x is) ws names all.1 ∙ map-id ws)

pub names_of_table-read : (bytes : List ℕ) (names : List Text) → names_of_table bytes ≡ Ok names → IsDomain names × (names ≡ map first_field (table_records bytes))
names_of_table-read bytes names e =
    let table = table_records bytes in
    let all = names_of-rows (first_fields table) names e in
    (all.0, named (even_field (field_count table)) first_field (even_field-name (field_count table)) table names all.1)

-- ---- a domain's own names

each-at : (P : Text → Type 0) (earlier rest : List Text) (w : Text) → AllByRecursion P (earlier ++ w ∷ rest) → P w
each-at P [] rest w all = all.0
each-at P (v ∷ earlier) rest w all = each-at P earlier rest w all.1

-- a name of distinct ones is none of those before it
absent : (earlier rest : List Text) (w : Text) → IsDistinct bytes_eq (earlier ++ w ∷ rest) → is_named earlier w ≡ false
unfolding IsDistinct
absent [] rest w distinct = refl
absent (v ∷ earlier) rest w distinct =
    let other : bytes_eq w v ≡ false = nat_list_eq_equiv.symm w v ∙ each-at (λ y. bytes_eq v y ≡ false) earlier rest w distinct.0 in
    rw other (absent earlier rest w distinct.1)

names_from-again : (earlier rest : List Text) → AreNames (earlier ++ rest) → names_from earlier (map Some rest) ≡ Ok (earlier ++ rest)
names_from-again earlier [] are = names_from-nil earlier ∙ ap (λ l. Ok l) (sym (append-nil earlier))
names_from-again earlier (w ∷ rest) are =
    let name = (and_parts (is_name w) (list_all is_name rest) (and_parts (list_all is_name earlier) (list_all is_name (w ∷ rest)) (sym (list_all-append is_name earlier (w ∷ rest)) ∙ are.named)).1).0 in
    let room : length earlier < PLACES = omega (arith, length-append earlier (w ∷ rest), are.few) in
    let same = append_assoc earlier (w ∷ []) rest in
    names_from-next earlier w (map Some rest) (fault-none earlier w name (absent earlier rest w are.distinct) room)
    ∙ names_from-again (earlier ++ w ∷ []) rest (subst AreNames (sym same) are)
    ∙ ap (λ l. Ok l) same

pub names_of_words-again : (names : List Text) → IsDomain names → names_of_words names ≡ Ok names
names_of_words-again [] domain = absurd (omega (arith, domain.some))
names_of_words-again (w ∷ names) domain = names_from-again [] (w ∷ names) domain.are_names
