-- Surmise functions, written and read: the clauses of each item are put in order.
use Rattle.ls_codecs.proofs.Vocabulary.{◌||◌, ◌∙◌, ◌∷◌, ◌≡◌, All-given, AllByRecursion, Err, IsNarrow, AreOn, List, None, Ok, Option, Result, Some, ℕ, [], all_clauses, among-append, among-filter, among-subsets, and_from, and_parts, ap, ap₂, clauses_of, flaw, in_order, is_within-from, length, map, option_map_or, option_or, refl, result_ok, subsets_from-in_order, suc, surmise_from, sym, true≢false, wide, zero}
use Rattle.ls_lists.proofs.Bools.{same_truth}
use Rattle.ls_lists.proofs.Filters.{filter-agree}
use Rattle.ls_set.specs.{IsInOrder, Items, full, is_among, subsets}
use Rattle.ls_theory.specs.declared.surmise_fault.SurmiseFault.{SurmiseFault}
use Rattle.ls_laws.proofs.Lists.{IsInOrder-filter, same_members}
use Rattle.ls_clauses.specs.Surmise.{IsPutInOrder}
use Rattle.ls_clauses.proofs.Flaws.{flawless-ordered, surmise-flawless}

-- ---- the clauses of one item

among-in_order : (n : ℕ) (own : List Items) → AreOn n own → (k : Items) → is_among (in_order n own) k ≡ is_among own k
among-in_order n own small k =
    same_truth (is_among (in_order n own) k) (is_among own k)
    (λ h. (and_parts (is_among (subsets n) k) (is_among own k) (sym (among-filter (is_among own) (subsets n) k) ∙ h)).1)
    (λ h. among-filter (is_among own) (subsets n) k ∙ and_from (is_among (subsets n) k) (is_among own k) (among-subsets n k ∙ is_within-from k (full n) (small k h)) h)

ordered : (n : ℕ) (own : List Items) → IsInOrder (in_order n own)
ordered n own = IsInOrder-filter (is_among own) (subsets n) (subsets_from-in_order 0 n)

-- sets in order stay as they are
in_order-again : (n : ℕ) (own : List Items) → AreOn n own → IsInOrder own → in_order n own ≡ own
in_order-again n own small order = same_members (in_order n own) own (ordered n own) order (λ k h. sym (among-in_order n own small k) ∙ h) (λ k h. among-in_order n own small k ∙ h)

-- ---- the clauses of all items

all-again : (n : ℕ) (clauses : List (List Items)) → AllByRecursion (AreOn n) clauses → AllByRecursion IsInOrder clauses → map (in_order n) clauses ≡ clauses
all-again n [] small order = refl
all-again n (own ∷ clauses) small order = ap₂ (λ x xs. x ∷ xs) (in_order-again n own small.0 order.0) (all-again n clauses small.1 order.1)

-- what holds of the clauses of each number
each-clauses : (P : List Items → Type 0) (clauses : List (List Items)) → ((q : ℕ) → P (clauses_of clauses q)) → AllByRecursion P clauses
each-clauses P [] h = tt
each-clauses P (own ∷ clauses) h = (h 0, each-clauses P clauses (λ q. h (suc q)))

own-on : (n : ℕ) (clauses : List (List Items)) → AllByRecursion (AreOn n) clauses → (q : ℕ) → AreOn n (clauses_of clauses q)
own-on n [] small q = λ k h. absurd (true≢false (sym h))
own-on n (own ∷ clauses) small zero = small.0
own-on n (own ∷ clauses) small (suc q) = own-on n clauses small.1 q

put-length : (n : ℕ) (clauses : List (List Items)) → length (map (in_order n) clauses) ≡ length clauses
put-length n [] = refl
put-length n (own ∷ clauses) = ap suc (put-length n clauses)

put-ordered : (n : ℕ) (clauses : List (List Items)) (q : ℕ) → IsInOrder (clauses_of (map (in_order n) clauses) q)
put-ordered n [] q = tt
put-ordered n (own ∷ clauses) zero = ordered n own
put-ordered n (own ∷ clauses) (suc q) = put-ordered n clauses q

put-same : (n : ℕ) (clauses : List (List Items)) → AllByRecursion (AreOn n) clauses → (q : ℕ) (c : Items) → is_among (clauses_of (map (in_order n) clauses) q) c ≡ is_among (clauses_of clauses q) c
put-same n [] small q c = refl
put-same n (own ∷ clauses) small zero c = among-in_order n own small.0 c
put-same n (own ∷ clauses) small (suc q) c = put-same n clauses small.1 q c

put-order : (n : ℕ) (clauses : List (List Items)) → AllByRecursion (AreOn n) clauses → IsPutInOrder clauses (map (in_order n) clauses)
put-order n clauses small = record { as_many = put-length n clauses; in_order = put-ordered n clauses; same = put-same n clauses small }

-- they are as many
all-same : (n : ℕ) (clauses : List (List Items)) → AllByRecursion (AreOn n) clauses → (k : Items) → is_among (all_clauses (map (in_order n) clauses)) k ≡ is_among (all_clauses clauses) k
all-same n [] small k = refl
all-same n (own ∷ clauses) small k =
    among-append (in_order n own) (all_clauses (map (in_order n) clauses)) k
    ∙ ap₂ (λ a b. a || b) (among-in_order n own small.0 k) (all-same n clauses small.1 k)
    ∙ sym (among-append own (all_clauses clauses) k)

wide-same : (n : ℕ) (clauses : List (List Items)) → AllByRecursion (AreOn n) clauses → wide n (map (in_order n) clauses) ≡ wide n clauses
wide-same n clauses small =
    let put = is_among (all_clauses (map (in_order n) clauses)) in
    let had = is_among (all_clauses clauses) in
    rw (filter-agree put had (subsets n) (All-given (λ k. put k ≡ had k) (all-same n clauses small) (subsets n))) refl

-- ---- read, and read back

-- neither condition fails, and the clauses in order are what is answered
record IsAnswered (flawed many : Option SurmiseFault) (put clauses : List (List Items)) : Type 0 where
  flawless : flawed ≡ None
  few : many ≡ None
  same : put ≡ clauses

answered : (flawed many : Option SurmiseFault) (put clauses : List (List Items)) → result_ok (let r : Result (List (List Items)) SurmiseFault = option_map_or Err (option_or flawed many) (Ok put) in r) ≡ Some clauses → IsAnswered flawed many put clauses
answered None None put clauses e = record { flawless = refl; few = refl; same = cc }
answered None (Some m) put clauses e = absurd (let no : ⊥ = cc in no)
answered (Some f) many put clauses e = absurd (let no : ⊥ = cc in no)

pub narrow-read : (n : ℕ) (read clauses : List (List Items)) → AllByRecursion (AreOn n) read → length read ≡ n → result_ok (surmise_from n read) ≡ Some clauses → IsNarrow n clauses
unfolding surmise_from
narrow-read n read clauses small each e =
    let a = answered (flaw n read) (wide n read) (map (in_order n) read) clauses e in
    let made : IsNarrow n (map (in_order n) read) = record {
      surmise = flawless-ordered n read (map (in_order n) read) each (own-on n read small) (put-order n read small) a.flawless;
      few = wide-same n read small ∙ a.few;
    } in
    rw a.same at made

pub narrow-small : (n : ℕ) (clauses : List (List Items)) → IsNarrow n clauses → AllByRecursion (AreOn n) clauses
narrow-small n clauses h = each-clauses (AreOn n) clauses h.surmise.small

pub narrow-again : (n : ℕ) (clauses : List (List Items)) → IsNarrow n clauses → surmise_from n clauses ≡ Ok clauses
unfolding surmise_from
narrow-again n clauses h =
    rw (surmise-flawless n clauses h.surmise, h.few) (ap Ok (all-again n clauses (narrow-small n clauses h) (each-clauses IsInOrder clauses h.surmise.in_order)))
