-- Surmise functions with one clause for each item, as relations.
use Rattle.std.proofs.Common.{ℕ, zero, suc, ◌<◌, ◌≡◌, Bool, true}
use Rattle.std.proofs.Common.{◌&&◌, eqb, List, [], ◌∷◌, length, get_or, refl, sym, ap, ap₂}
use Rattle.std.proofs.Common.{◌∙◌, subst, arith, true≢false, eqb-true, ltb-true}
use Rattle.std.specs.List.{list_all}
use Rattle.ls_set.specs.ItemSet.{Items, has, empty, full, is_among, numbers_from}
use Rattle.ls_set.specs.ItemSet.{IsWithin}
use Rattle.ls_set.proofs.Sets.{has-empty, has-full}
use Rattle.ls_set.proofs.Members.{among-here}
use Rattle.ls_theory.specs.Starts.{Clauses}
use Rattle.ls_theory.specs.Compatible.{compat}
use Rattle.ls_laws.specs.Families.{IsFamily}
use Rattle.ls_laws.proofs.Interiors.{space-from}
use Rattle.ls_laws.proofs.Families.{compat-IsFamily}
use Rattle.ls_theory.specs.Clauses.{clauses_at, clauses_of}
use Rattle.ls_clauses.specs.Surmise.{IsSurmise}
use Rattle.ls_clauses.proofs.Clauses.{atoms-clauses}
use Rattle.ls_clauses.proofs.Clauses.{clause-within}
use Rattle.ls_clauses.proofs.FamilyClauses.{family-met, family-surmise, surmise-same}
use Rattle.ls_clauses.proofs.Covers.{start-space}
use Rattle.ls_origins.specs.Relations.{below_of, kept_sets, clauses_below, first_clauses}
use Rattle.ls_order.specs.OneEach.{HasOneEach}
use Rattle.ls_order.specs.Orders.{IsPreorder, is_meet_closed}
use Rattle.ls_order.specs.Orders.{has_one_atom}
use Rattle.ls_order.proofs.MeetClosed.{meet-closed-atoms, same-one}
use Rattle.ls_order.proofs.Related.{clause-below, kept-compat, preorder-surmise}
use Rattle.ls_origins.proofs.Numbered.{every-number}

first-of : (clauses : List (List Items)) (q : ℕ) → below_of (first_clauses clauses) q
    ≡ get_or (clauses_of clauses q) 0 empty
first-of [] q = refl
first-of (cs ∷ clauses) zero = refl
first-of (cs ∷ clauses) (suc q) = first-of clauses q

first-among : (cs : List Items) (r : ℕ) → has (get_or cs 0 empty) r ≡ true
    → is_among cs (get_or cs 0 empty) ≡ true
first-among [] r h = absurd (true≢false (sym h ∙ has-empty r))
first-among (c ∷ cs) r h = among-here c c cs refl

first-one : (cs : List Items) → length cs ≡ 1 → get_or cs 0 empty ∷ [] ≡ cs
first-one [] e = absurd (omega arith)
first-one (c ∷ []) e = refl
first-one (c ∷ d ∷ cs) e = absurd (omega arith)

first-clause : (n : ℕ) (clauses : List (List Items)) (q r : ℕ)
    → has (below_of (first_clauses clauses) q) r ≡ true
    → is_among (clauses_of clauses q) (below_of (first_clauses clauses) q) ≡ true
first-clause n clauses q r h =
    ap (is_among (clauses_of clauses q)) (first-of clauses q) ∙ first-among (clauses_of clauses q) r
    (ap (λ s. has s r) (sym (first-of clauses q)) ∙ h)

pub clauses-preorder : (n : ℕ) (clauses : List (List Items)) → HasOneEach n clauses
    → IsPreorder n (first_clauses clauses)
clauses-preorder n clauses each =
    let s = each.surmise in
    let small : (q r : ℕ) → has (below_of (first_clauses clauses) q) r ≡ true → has (full n) r
    ≡ true = λ q r h. s.small q (below_of (first_clauses clauses) q)
    (first-clause n clauses q r h) r h in
    record {
      each_item = as_many clauses ∙ s.each_item;
      small = λ q r h. small q r h;
      reflexive = λ q l.
          let c : is_among (clauses_of clauses q) (get_or (clauses_of clauses q) 0 empty) ≡ true =
          there (clauses_of clauses q) (each.one q l) in
          ap (λ t. has t q) (first-of clauses q) ∙ s.reflexive q
          (get_or (clauses_of clauses q) 0 empty) c;
      transitive = λ q r h.
          let c = first-clause n clauses q r h in
          let d =
          clause-within clauses r (below_of (first_clauses clauses) q)
          (s.closed q (below_of (first_clauses clauses) q) r c h) in
          let l : r < n = ltb-true r n (sym (has-full n r) ∙ small q r h) in
          let e =
          same-one (clauses_of clauses r) d.0 (get_or (clauses_of clauses r) 0 empty)
          (each.one r l) d.1 (there (clauses_of clauses r) (each.one r l)) in
          subst (λ t. IsWithin t (below_of (first_clauses clauses) q))
          (e ∙ sym (first-of clauses r)) d.2;
    }
  where
    as_many : (clauses : List (List Items)) → length (first_clauses clauses) ≡ length clauses
    as_many [] = refl
    as_many (cs ∷ clauses) = ap suc (as_many clauses)

    there : (cs : List Items) → length cs ≡ 1 → is_among cs (get_or cs 0 empty) ≡ true
    there [] e = absurd (omega arith)
    there (c ∷ cs) e = among-here c c cs refl

pub clauses-again : (n : ℕ) (clauses : List (List Items)) → HasOneEach n clauses
    → clauses_below (first_clauses clauses) ≡ clauses
clauses-again n clauses each =
    again clauses (λ q l. each.one q (let e = each.surmise.each_item in omega arith))
  where
    again : (clauses : List (List Items))
        → ((q : ℕ) → q < length clauses → length (clauses_of clauses q) ≡ 1)
        → clauses_below (first_clauses clauses) ≡ clauses
    again [] one = refl
    again (cs ∷ clauses) one =
        ap₂ (λ x xs. x ∷ xs) (first-one cs (one 0 (omega arith)))
        (again clauses (λ q l. one (suc q) (omega arith)))

pub clauses-kept : (n : ℕ) (clauses : List (List Items)) → HasOneEach n clauses
    → kept_sets n (first_clauses clauses) ≡ compat n (Clauses clauses) []
clauses-kept n clauses each =
    kept-compat n (first_clauses clauses) (clauses-preorder n clauses each) ∙ ap
    (λ cs. compat n (Clauses cs) []) (clauses-again n clauses each)

pub surmise-meets : (n : ℕ) (clauses : List (List Items)) → IsSurmise n clauses
    → is_meet_closed (compat n (Clauses clauses) [])
    ≡ list_all (λ q. eqb (length (clauses_of clauses q)) 1) (numbers_from 0 n)
surmise-meets n clauses s =
    meet-closed-atoms n (compat n (Clauses clauses) []) (compat-IsFamily n (Clauses clauses) [])
    (space-from (full n) (compat n (Clauses clauses) [])
    (start-space n (Clauses clauses) [] s refl)).holds_whole
    ∙ same-all (has_one_atom (compat n (Clauses clauses) []))
    (λ q. eqb (length (clauses_of clauses q)) 1) (numbers_from 0 n)
    (λ q. ap (λ cs. eqb (length cs) 1) (atoms-clauses n clauses s q))
  where
    same-all : (p r : ℕ → Bool) (xs : List ℕ) → ((x : ℕ) → p x ≡ r x) → list_all p xs
        ≡ list_all r xs
    same-all p r [] h = refl
    same-all p r (x ∷ xs) h = ap₂ (λ a b. a && b) (h x) (same-all p r xs h)

pub one-each : (n : ℕ) (clauses : List (List Items)) → IsSurmise n clauses
    → is_meet_closed (compat n (Clauses clauses) []) ≡ true → HasOneEach n clauses
one-each n clauses s h = record {
  surmise = s;
  one =
      λ q l. eqb-true (length (clauses_of clauses q)) 1
      (every-number (λ q. eqb (length (clauses_of clauses q)) 1) 0 n q (omega arith) (omega arith)
      (sym (surmise-meets n clauses s) ∙ h));
}

-- the relation of a space that is closed under intersection
pub space-kept : (n : ℕ) (f : List Items) → IsFamily n f → is_among f (full n) ≡ true
    → is_meet_closed f ≡ true → IsPreorder n (first_clauses (clauses_at n f))
    × (kept_sets n (first_clauses (clauses_at n f)) ≡ f)
space-kept n f family whole h =
    let met = family-met n f family in
    let each =
    one-each n (clauses_at n f) (family-surmise n f family whole) (ap is_meet_closed met ∙ h) in
    (clauses-preorder n (clauses_at n f) each, clauses-kept n (clauses_at n f) each ∙ met)

pub first-again : (below : List Items) → first_clauses (clauses_below below) ≡ below
first-again [] = refl
first-again (b ∷ below) = ap (λ l. b ∷ l) (first-again below)

pub below-each : (n : ℕ) (below : List Items) → IsPreorder n below
    → HasOneEach n (clauses_below below)
below-each n below p =
    record
    { surmise = preorder-surmise n below p; one = λ q l. ap length (clause-below n below q p l) }

-- two relations with one family are one
pub relation-same : (n : ℕ) (b c : List Items) → IsPreorder n b → IsPreorder n c → kept_sets n b
    ≡ kept_sets n c → b ≡ c
relation-same n b c p q e =
    sym (first-again b) ∙ ap first_clauses
    (surmise-same n (clauses_below b) (clauses_below c) (preorder-surmise n b p)
    (preorder-surmise n c q) (sym (kept-compat n b p) ∙ e ∙ kept-compat n c q)) ∙ first-again c
