-- Sets put in order, and the base of the clauses that are put in order.
use Rattle.ls_surmise.proofs.Vocabulary.{◌++◌, ◌+◌, ◌<◌, ◌∙◌, ◌∷◌, ◌≡◌, ◌≤◌, BaseState, Bool, Clauses, Err, IsInOrder, IsInOrder-filter, AreOn, IsPutInOrder, IsSurmise, IsSurmiseOf, Items, List, None, Ok, Option, Sets, Some, Wide, ℕ, [], all_clauses, among-all, among-filter, among-subsets, and_from, and_parts, ap, ap₂, arith, base, based, clause-within, clauses_of, compat, compat-spanned, cond, false, family, first_missing, flaw, flawless-ordered, from-all, full, get_or, has_clause_within, in_order, is_among, is_same, is_within-from, le-ltb, length, limited, lt-ltb, map, map-append, most_base_sets, option_map_or, refl, result_ok, same_members, same_truth, spanned, subsets, subsets_from-in_order, subst, suc, sym, take, take_more, true, wide, within-clause, zero}
use Rattle.std.specs.Prelude.{nat_lt, unwrap_or}
use Rattle.std.proofs.lemmas.List.Elements.{filter_agree}
use Rattle.ls_theory.specs.declared.base_fault.BaseFault.TheVariants.{NotSpanning, Past}
use Rattle.ls_laws.proofs.Spans.{spanned-base, spanned-in_order, spanned-IsUnionFamily}
use Rattle.ls_laws.proofs.BaseStarts.{compat-sets}
use Rattle.ls_base.proofs.Below.{interior-same}

-- ---- sets in order

among-in_order : (n : ℕ) (sets : List Items) (k : Items) → AreOn n sets → is_among (in_order n sets) k ≡ is_among sets k
among-in_order n sets k small = same_truth (is_among (in_order n sets) k) (is_among sets k)
    (λ h. (and_parts (is_among (subsets n) k) (is_among sets k) (sym (among-filter (is_among sets) (subsets n) k) ∙ h)).1)
    (λ h. among-filter (is_among sets) (subsets n) k ∙ and_from (is_among (subsets n) k) (is_among sets k) (among-subsets n k ∙ is_within-from k (full n) (small k h)) h)

in_order-ordered : (n : ℕ) (sets : List Items) → IsInOrder (in_order n sets)
in_order-ordered n sets = IsInOrder-filter (is_among sets) (subsets n) (subsets_from-in_order 0 n)

-- the same sets in the order are those that the definition lists
pub put-is : (n : ℕ) (sets put : List Items) → IsInOrder put → ((k : Items) → is_among put k ≡ is_among sets k) → AreOn n sets → put ≡ in_order n sets
put-is n sets put order same small =
    same_members put (in_order n sets) order (in_order-ordered n sets)
    (λ k c. among-in_order n sets k small ∙ sym (same k) ∙ c)
    (λ k c. same k ∙ sym (among-in_order n sets k small) ∙ c)

-- ---- the clauses of each item

next-own : (cs : List (List Items)) (i : ℕ) (own : List Items) → i < length cs → own ≡ get_or cs i own → take (i + 1) cs ≡ take i cs ++ own ∷ []
next-own cs i own l at = take_more cs i own l ∙ ap (λ v. take i cs ++ v ∷ []) (sym at)

pub put-next : (n : ℕ) (cs : List (List Items)) (i : ℕ) (own : List Items) → i < length cs → own ≡ get_or cs i own → map (in_order n) (take i cs) ++ in_order n own ∷ [] ≡ map (in_order n) (take (i + 1) cs)
put-next n cs i own l at = sym (ap (map (in_order n)) (next-own cs i own l at) ∙ map-append (in_order n) (take i cs) (own ∷ []))

own-at : (cs : List (List Items)) (i : ℕ) (own : List Items) → i < length cs → own ≡ get_or cs i own → own ≡ clauses_of cs i
own-at [] i own l at = absurd (omega arith)
own-at (c ∷ cs) zero own l at = at
own-at (c ∷ cs) (suc i) own l at = own-at cs i own (omega arith) at

pub on-at : (n : ℕ) (cs : List (List Items)) (i : ℕ) (own : List Items) → i < length cs → own ≡ get_or cs i own → AreOn n (all_clauses cs) → AreOn n own
on-at n cs i own l at small k c = small k (among-all cs i k (ap (λ (o : List Items). is_among o k) (sym (own-at cs i own l at)) ∙ c))

-- ---- the base of the distinct clauses

pub wide-many : (n : ℕ) (cs : List (List Items)) (put : List Items) → put ≡ in_order n (all_clauses cs) → most_base_sets < length put → wide n cs ≡ Some (Wide (length put))
wide-many n cs put e many = ap (λ (g : List Items). cond (nat_lt most_base_sets (length g)) (Some (Wide (length g))) None) (sym e) ∙ rw (lt-ltb most_base_sets (length put) many) refl

pub wide-few : (n : ℕ) (cs : List (List Items)) (put : List Items) → put ≡ in_order n (all_clauses cs) → length put ≤ most_base_sets → wide n cs ≡ None
wide-few n cs put e few = ap (λ (g : List Items). cond (nat_lt most_base_sets (length g)) (Some (Wide (length g))) None) (sym e) ∙ rw (le-ltb most_base_sets (length put) few) refl

-- a base that there is is that of what the sets span
based-sets : (n : ℕ) (sets g : List Items) → based n sets ≡ Ok g → base (spanned n sets) ≡ g
based-sets n sets g e = step (first_missing n sets) (base (compat n (Sets sets) [])) e (ap base (sym (compat-sets n sets)))
  where
    kept : (b : Bool) (h : List Items) (m : ℕ) → cond b (Err (Past m)) (Ok h) ≡ Ok g → h ≡ g
    kept true h m e = absurd (let z : Err (Past m) ≡ Ok g = e in cc)
    kept false h m e = ap (λ r. unwrap_or (result_ok r) h) e

    step : (o : Option ℕ) (h : List Items) → option_map_or (λ q. Err (NotSpanning q)) o (limited h) ≡ Ok g → base (spanned n sets) ≡ h → base (spanned n sets) ≡ g
    step None h e is = is ∙ kept (nat_lt most_base_sets (length h)) h (length h) e
    step (Some q) h e is = absurd (let z : Err (NotSpanning q) ≡ Ok g = e in cc)

spanned-members : (n : ℕ) (f g : List Items) → ((k : Items) → is_among f k ≡ is_among g k) → spanned n f ≡ spanned n g
unfolding spanned
spanned-members n f g same = filter_agree _ _ (λ k. ap (λ s. is_same s k) (interior-same f g k same)) (subsets n)

pub based-members : (n : ℕ) (all put : List Items) (b : BaseState) → ((k : Items) → is_among put k ≡ is_among all k) → based n put ≡ Ok b.sets → b.item_count ≡ n → family b ≡ spanned n all
based-members n all put b same e count =
    ap₂ spanned count (sym (based-sets n put b.sets e))
    ∙ spanned-base n (spanned n put) (spanned-in_order n put) (spanned-IsUnionFamily n put)
    ∙ spanned-members n put all same

-- ---- clauses without a flaw

length-put : (n : ℕ) (cs : List (List Items)) → length (map (in_order n) cs) ≡ length cs
length-put n [] = refl
length-put n (own ∷ cs) = ap suc (length-put n cs)

order-at : (n : ℕ) (cs : List (List Items)) (q : ℕ) → IsInOrder (clauses_of (map (in_order n) cs) q)
order-at n [] q = tt
order-at n (own ∷ cs) zero = in_order-ordered n own
order-at n (own ∷ cs) (suc q) = order-at n cs q

same-at : (n : ℕ) (cs : List (List Items)) (q : ℕ) → ((p : ℕ) → AreOn n (clauses_of cs p)) → (k : Items) → is_among (clauses_of (map (in_order n) cs) q) k ≡ is_among (clauses_of cs q) k
same-at n [] q small k = refl
same-at n (own ∷ cs) zero small k = among-in_order n own k (small 0)
same-at n (own ∷ cs) (suc q) small k = same-at n cs q (λ p. small (suc p)) k

put-in_order : (n : ℕ) (cs : List (List Items)) → ((q : ℕ) → AreOn n (clauses_of cs q)) → IsPutInOrder cs (map (in_order n) cs)
put-in_order n cs small = record { as_many = length-put n cs; in_order = order-at n cs; same = λ q. same-at n cs q small }

all-same : (cs put : List (List Items)) → IsPutInOrder cs put → (k : Items) → is_among (all_clauses put) k ≡ is_among (all_clauses cs) k
all-same cs put is k = same_truth (is_among (all_clauses put) k) (is_among (all_clauses cs) k)
    (λ c. let o = from-all put k c in among-all cs o.0 k (sym (is.same o.0 k) ∙ o.1))
    (λ c. let o = from-all cs k c in among-all put o.0 k (is.same o.0 k ∙ o.1))

-- put in order they are a surmise function, with the base of all of them
pub put-surmise : (n : ℕ) (cs : List (List Items)) (b : BaseState) → length cs ≡ n → AreOn n (all_clauses cs) → flaw n cs ≡ None
    → b.item_count ≡ n → family b ≡ spanned n (all_clauses cs) → base (family b) ≡ b.sets → IsSurmiseOf b (map (in_order n) cs)
put-surmise n cs b each small none count members is_base =
    let own_small = λ (q : ℕ) (k : Items) (c : is_among (clauses_of cs q) k ≡ true). small k (among-all cs q k c) in
    let put = put-in_order n cs own_small in
    let surmise = flawless-ordered n cs (map (in_order n) cs) each own_small put none in
    record {
      surmise = subst (λ m. IsSurmise m (map (in_order n) cs)) (sym count) surmise;
      same = ap (λ m. compat m (Clauses (map (in_order n) cs)) []) count ∙ compat-spanned n (map (in_order n) cs) surmise ∙ spanned-members n (all_clauses (map (in_order n) cs)) (all_clauses cs) (all-same cs (map (in_order n) cs) put) ∙ sym members;
      is_base = is_base;
    }

-- ---- clauses that are searched in order

pub put-within : (cs put : List (List Items)) → IsPutInOrder cs put → (r : ℕ) (s : Items) → has_clause_within put r s ≡ has_clause_within cs r s
put-within cs put is r s = same_truth (has_clause_within put r s) (has_clause_within cs r s)
    (λ h. let x = clause-within put r s h in within-clause cs r s x.0 (sym (is.same r x.0) ∙ x.1) x.2)
    (λ h. let x = clause-within cs r s h in within-clause put r s x.0 (is.same r x.0 ∙ x.1) x.2)

pub searched : (n : ℕ) (cs put : List (List Items)) → put ≡ map (in_order n) cs → AreOn n (all_clauses cs) → IsPutInOrder cs put
searched n cs put e small = subst (IsPutInOrder cs) (sym e) (put-in_order n cs (λ q k c. small k (among-all cs q k c)))
