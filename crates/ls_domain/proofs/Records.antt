-- The records that a reader gives in turn are those of the text, or the first of them.
use Rattle.ls_domain.proofs.Vocabulary.{◌++◌, ◌+◌, ◌-◌, ◌∙◌, ◌∷◌, ◌≡◌, ◌≤◌, AreRecords, Bool, List, None, Option, Reached, Some, ℕ, [], ap, append-nil, arith, cond, false, length, none-some, records, records_from, records_next, refl, subst, suc, sym, take, take-append_seam, take_all, true, zero}
use Rattle.csv.specs.Machine.{Read, next_record, step, is_end, ends_at_end, fields_after, field_after}
use Rattle.csv.specs.declared.parser.Config.{Config}
use Rattle.csv.specs.declared.parser.State.{State}
use Rattle.csv.specs.declared.parser.State.TheVariants as st

-- records that were reached come first
reached-records : (cfg : Config) (s s2 : State) (xs ys : List ℕ) (rows : List (List (List ℕ))) (n : ℕ) → Reached cfg s xs rows s2 ys
    → records_from cfg (length rows + n) s xs ≡ rows ++ records_from cfg n s2 ys
unfolding Reached records_from
reached-records cfg s s2 xs ys [] n h =
    let e : 0 + n ≡ n = omega arith in
    ap (λ k. records_from cfg k s xs) e ∙ (ap (λ t. records_from cfg n t xs) h.0 ∙ ap (λ t. records_from cfg n s2 t) h.1)
reached-records cfg s s2 xs ys (r ∷ rs) n h =
    let e : suc (length rs) + n ≡ suc (length rs + n) = omega arith in
    ap (λ k. records_from cfg k s xs) e ∙ (ap (records_next (records_from cfg (length rs + n))) h.1
    ∙ (ap (λ q. q ∷ records_from cfg (length rs + n) h.0.1 h.0.2) (sym h.2) ∙ ap (λ t. r ∷ t) (reached-records cfg h.0.1 s2 h.0.2 ys rs n h.3)))

ended : (b : Bool) (x : Option Read) (a : List (List ℕ)) (t : State) (ys : List ℕ) (p : Read) (n : ℕ) → cond b (Some (a, t, ys)) x ≡ Some p → length ys ≤ n → (x ≡ Some p → length p.2 ≤ n) → length p.2 ≤ n
ended true x a t ys p n h g f = let e : ◌≡◌ {A = Read} (a, t, ys) p = cc in subst (λ (q : Read). length q.2 ≤ n) e g
ended false x a t ys p n h g f = f h

-- a record that begins before the end of the text takes a byte
shorter : (cfg : Config) (s : State) (fields : List (List ℕ)) (field : List ℕ) (c : ℕ) (rest : List ℕ) (p : Read)
    → next_record cfg s fields field (c ∷ rest) ≡ Some p → length p.2 ≤ length rest
unfolding next_record
shorter cfg s fields field c [] p h =
    let t = (step cfg s c).0 in
    let f1 = fields_after (step cfg s c).1 fields field in
    let f2 = f1 ++ field_after (step cfg s c).1 c field ∷ [] in
    ended (is_end (step cfg s c).1) (cond (ends_at_end t) (Some (f2, st.StartRecord, [])) None) f1 t [] p 0 h (omega arith)
    (λ k. ended (ends_at_end t) None f2 st.StartRecord [] p 0 k (omega arith) (λ j. absurd (none-some p j)))
shorter cfg s fields field c (d ∷ r) p h =
    ended (is_end (step cfg s c).1) _ (fields_after (step cfg s c).1 fields field) (step cfg s c).0 (d ∷ r) p (suc (length r)) h (omega arith) (λ k. let i : length p.2 ≤ length r = shorter cfg (step cfg s c).0 (fields_after (step cfg s c).1 fields field) (field_after (step cfg s c).1 c field) d r p k in omega arith)

at_end : (cfg : Config) (b : Bool) (f : List (List ℕ)) (p q : Read) (G : Type 0) → cond b (Some (f, st.StartRecord, [])) None ≡ Some p → next_record cfg p.1 [] [] p.2 ≡ Some q → G
unfolding next_record
at_end cfg true f p q G h k = let e : ◌≡◌ {A = Read} (f, st.StartRecord, []) p = cc in absurd (none-some q (subst (λ (o : Read). next_record cfg o.1 [] [] o.2 ≡ Some q) (sym e) k))
at_end cfg false f p q G h k = absurd (none-some p h)

last : (cfg : Config) (s : State) (p q : Read) (G : Type 0) → next_record cfg s [] [] [] ≡ Some p → next_record cfg p.1 [] [] p.2 ≡ Some q → G
unfolding next_record
last cfg s p q G h k = at_end cfg (ends_at_end s) _ p q G h k

no_more : (cfg : Config) (s : State) (ys : List ℕ) (n : ℕ) → next_record cfg s [] [] ys ≡ None → records_from cfg n s ys ≡ []
unfolding records_from
no_more cfg s ys zero h = refl
no_more cfg s ys (suc n) h = ap (records_next (records_from cfg n)) h

-- a text has at most one record more than it has bytes
few : (cfg : Config) (s s2 : State) (xs ys : List ℕ) (rows : List (List (List ℕ))) → Reached cfg s xs rows s2 ys → length rows ≤ length xs + 1
unfolding Reached
few cfg s s2 xs ys [] h = omega arith
few cfg s s2 [] ys (r ∷ []) h = omega arith
few cfg s s2 [] ys (r ∷ t ∷ rs) h = last cfg s h.0 h.3.0 _ h.1 h.3.1
few cfg s s2 (c ∷ xs) ys (r ∷ rs) h =
    let i : length rs ≤ length h.0.2 + 1 = few cfg h.0.1 s2 h.0.2 ys rs h.3 in
    let j : length h.0.2 ≤ length xs = shorter cfg s [] [] c xs h.0 h.1 in
    omega arith

-- these are the records of the text
are_records : (cfg : Config) (s : State) (xs : List ℕ) (rows : List (List (List ℕ))) → AreRecords cfg s xs rows → rows ≡ records_from cfg (length xs + 1) s xs
are_records cfg s xs rows h =
    let le : length rows ≤ length xs + 1 = few cfg s h.0 xs h.1 rows h.2 in
    let n : ℕ = length xs + 1 - length rows in
    let e : length rows + n ≡ length xs + 1 = omega arith in
    sym (ap (λ k. records_from cfg k s xs) (sym e) ∙ (reached-records cfg s h.0 xs h.1 rows n h.2 ∙ (ap (λ t. rows ++ t) (no_more cfg h.0 h.1 n h.3) ∙ append-nil rows)))

-- all records of a text, of which there are no more than n, are the first n
pub all_records : (cfg : Config) (n : ℕ) (xs : List ℕ) (rows : List (List (List ℕ))) → AreRecords cfg st.StartRecord xs rows → length rows ≤ n → rows ≡ take n (records cfg xs)
all_records cfg n xs rows are le = sym (take_all n rows le) ∙ ap (take n) (are_records cfg st.StartRecord xs rows are)

-- n records that were reached are the first n
pub front_records : (cfg : Config) (n : ℕ) (xs : List ℕ) (rows : List (List (List ℕ))) (s : State) (ys : List ℕ) → Reached cfg st.StartRecord xs rows s ys → length rows ≡ n → rows ≡ take n (records cfg xs)
front_records cfg n xs rows s ys reached is =
    let le : length rows ≤ length xs + 1 = few cfg st.StartRecord s xs ys rows reached in
    let m : ℕ = length xs + 1 - length rows in
    let e : length rows + m ≡ length xs + 1 = omega arith in
    sym (take-append_seam rows (records_from cfg m s ys)) ∙ ap (λ k. take k (rows ++ records_from cfg m s ys)) is
    ∙ ap (take n) (sym (reached-records cfg st.StartRecord s xs ys rows m reached) ∙ ap (λ k. records_from cfg k st.StartRecord xs) e)
