-- Some space fits after each change that is accepted.
use Rattle.ls_laws.proofs.Vocabulary.{◌++◌, ◌∙◌, ◌∷◌, ◌≡◌, All-list_all, Answer, Bool, Interview, IsPart, IsSound, Items, List, Query, SomeFits, Start, ℕ, [], accepted, and_from, and_parts, ap, begun, breaks, breaks_none, compat, compatible_sets, cond, eqb, false, filter, full, is_compatible, is_forced_no, is_forced_yes, is_good, is_space, is_within, left_by, list_all, list_all-All, map, meets, no_queries, not, not-false, refl, retracted, some_breaks, spaces_of, subst, sym, true, yes_queries}
use Rattle.ls_laws.proofs.Lists.{IsInOrder-filter}
use Rattle.ls_laws.proofs.Interiors.{space-from}
use Rattle.ls_laws.proofs.Breaks.{good-from}
use Rattle.ls_laws.proofs.Closures.{left-IsUnionFamily}
use Rattle.ls_laws.proofs.Compat.{compat-IsUnionFamily, compat-in_order, compat-more, among-compat}
use Rattle.ls_laws.proofs.Fit.{Fits, all_or_none, left-holds_full}
use Rattle.ls_laws.proofs.Search.{fitting_some}
use Rattle.ls_laws.proofs.Answering.{FitsIn, a_space, compatible_fit, forced_yes_unbroken, forced_no_is}

-- ---- the answers of an interview

-- the queries of the answers that pass
abbrev of_kind : (Answer → Bool) → List Answer → List Query
of_kind p answers = map (λ a. a.query) (filter p answers)

kind-more : (p : Answer → Bool) (answers : List Answer) (a : Answer) → p a ≡ true → of_kind p (answers ++ (a ∷ [])) ≡ of_kind p answers ++ (a.query ∷ [])
kind-more p [] a h = rw h refl
kind-more p (x ∷ answers) a h = elim (p x) as (λ b. map (λ a. a.query) (cond b (x ∷ filter p (answers ++ (a ∷ []))) (filter p (answers ++ (a ∷ [])))) ≡ map (λ a. a.query) (cond b (x ∷ filter p answers) (filter p answers)) ++ (a.query ∷ [])) [
  | true ↦ ap (λ l. x.query ∷ l) (kind-more p answers a h)
  | false ↦ kind-more p answers a h
]

kind-same : (p : Answer → Bool) (answers : List Answer) (a : Answer) → p a ≡ false → of_kind p (answers ++ (a ∷ [])) ≡ of_kind p answers
kind-same p [] a h = rw h refl
kind-same p (x ∷ answers) a h = elim (p x) as (λ b. map (λ a. a.query) (cond b (x ∷ filter p (answers ++ (a ∷ []))) (filter p (answers ++ (a ∷ [])))) ≡ map (λ a. a.query) (cond b (x ∷ filter p answers) (filter p answers))) [
  | true ↦ ap (λ l. x.query ∷ l) (kind-same p answers a h)
  | false ↦ kind-same p answers a h
]

-- what all pass, those that are left pass
kind-fewer : (q : Query → Bool) (p kept : Answer → Bool) (answers : List Answer) → list_all q (of_kind p answers) ≡ true → list_all q (of_kind p (filter kept answers)) ≡ true
kind-fewer q p kept [] h = refl
kind-fewer q p kept (x ∷ answers) h = elim (kept x) as (λ k. list_all q (of_kind p (cond k (x ∷ filter kept answers) (filter kept answers))) ≡ true) [
  | true ↦ elim (p x) as (λ b. list_all q (map (λ a. a.query) (cond b (x ∷ filter p answers) (filter p answers))) ≡ true → list_all q (map (λ a. a.query) (cond b (x ∷ filter p (filter kept answers)) (filter p (filter kept answers)))) ≡ true) [
    | true ↦ λ h. let a = and_parts (q x.query) (list_all q (of_kind p answers)) h in and_from (q x.query) (list_all q (of_kind p (filter kept answers))) a.0 (kind-fewer q p kept answers a.1)
    | false ↦ λ h. kind-fewer q p kept answers h
  ] h
  | false ↦ kind-fewer q p kept answers (elim (p x) as (λ b. list_all q (map (λ a. a.query) (cond b (x ∷ filter p answers) (filter p answers))) ≡ true → list_all q (of_kind p answers) ≡ true) [
    | true ↦ λ h. (and_parts (q x.query) (list_all q (of_kind p answers)) h).1
    | false ↦ λ h. h
  ] h)
]

-- ---- the compatible sets after an answer

pub compatible-yes : (i : Interview) (r : Query) → compatible_sets (accepted i r true) ≡ left_by r (compatible_sets i)
compatible-yes i r =
    ap (compat i.count i.start) (kind-more (λ a. a.yes) i.answers (record { number = i.next; query = r; yes = true }) refl)
    ∙ compat-more i.count i.start (yes_queries i.answers) r

pub compatible-no : (i : Interview) (r : Query) → compatible_sets (accepted i r false) ≡ compatible_sets i
compatible-no i r = ap (compat i.count i.start) (kind-same (λ a. a.yes) i.answers (record { number = i.next; query = r; yes = false }) refl)

nos-yes : (i : Interview) (r : Query) → no_queries i.answers ≡ no_queries (accepted i r true).answers
nos-yes i r = sym (kind-same (λ a. not a.yes) i.answers (record { number = i.next; query = r; yes = true }) refl)

nos-no : (i : Interview) (r : Query) → no_queries i.answers ++ (r ∷ []) ≡ no_queries (accepted i r false).answers
nos-no i r = sym (kind-more (λ a. not a.yes) i.answers (record { number = i.next; query = r; yes = false }) refl)

all-more : (q : Query → Bool) (rs : List Query) (r : Query) → list_all q rs ≡ true → q r ≡ true → list_all q (rs ++ (r ∷ [])) ≡ true
all-more q [] r h a = and_from (q r) true a refl
all-more q (x ∷ rs) r h a = let b = and_parts (q x) (list_all q rs) h in and_from (q x) (list_all q (rs ++ (r ∷ []))) b.0 (all-more q rs r b.1 a)

-- where f fits the interview, some space does
some_of : (i : Interview) (f : List Items) → FitsIn i f → SomeFits i
some_of i f a = fitting_some i.count i.start (yes_queries i.answers) (no_queries i.answers) f a

-- ---- a Yes, a No and a retraction

-- the beginning, with a start whose sets are a space
pub begun-sound : (n : ℕ) (start : Start) → is_space (full n) (compat n start []) ≡ true → IsSound (begun n start)
begun-sound n start h = record {
  some_fits = some_of (begun n start) (compat n start []) (record {
    in_order = compat-in_order n start [];
    is_family = compat-IsUnionFamily n start [];
    holds_full = (space-from (full n) (compat n start []) h).holds_whole;
    compatible = λ k c. c;
    broken = tt;
  });
  are_good = refl;
}

-- a Yes to a good query that is not forced No
pub yes_added : (i : Interview) (r : Query) → IsSound i → is_good i.count r ≡ true → is_forced_no (spaces_of i) r ≡ false → IsSound (accepted i r true)
yes_added i r sound good free =
    let n = i.count in
    let f = compatible_sets i in
    let ns = no_queries i.answers in
    let g = compatible_fit i sound.some_fits in
    let left : Fits n (left_by r f) ns (left_by r f) = record {
      in_order = IsInOrder-filter (λ k. not (breaks k r)) f g.in_order;
      is_family = left-IsUnionFamily n f r g.is_family;
      holds_full = left-holds_full n f r (good-from n r good) g.holds_full;
      compatible = λ k c. c;
      broken = all_or_none (left_by r f) ns (sym (forced_no_is i r sound.some_fits good) ∙ free);
    } in
    record {
      some_fits = some_of (accepted i r true) (left_by r f)
          (subst (λ rs. Fits n (compatible_sets (accepted i r true)) rs (left_by r f)) (nos-yes i r) (subst (λ c. Fits n c ns (left_by r f)) (sym (compatible-yes i r)) left));
      are_good = subst (λ rs. list_all (is_good n) rs ≡ true) (nos-yes i r) sound.are_good;
    }

-- a No to a good query that is not forced Yes
pub no_added : (i : Interview) (r : Query) → IsSound i → is_good i.count r ≡ true → is_forced_yes (spaces_of i) r ≡ false → IsSound (accepted i r false)
no_added i r sound good free =
    let n = i.count in
    let f = compatible_sets i in
    let ns = no_queries i.answers in
    let g = compatible_fit i sound.some_fits in
    let more : Fits n f (ns ++ (r ∷ [])) f = record {
      in_order = g.in_order;
      is_family = g.is_family;
      holds_full = g.holds_full;
      compatible = g.compatible;
      broken = list_all-All (some_breaks f) (ns ++ (r ∷ [])) (all-more (some_breaks f) ns r (All-list_all (some_breaks f) ns g.broken) (not-false (some_breaks f r) (sym (forced_yes_unbroken i r sound.some_fits) ∙ free)));
    } in
    record {
      some_fits = some_of (accepted i r false) f
          (subst (λ rs. Fits n (compatible_sets (accepted i r false)) rs f) (nos-no i r) (subst (λ c. Fits n c (ns ++ (r ∷ [])) f) (sym (compatible-no i r)) more));
      are_good = subst (λ rs. list_all (is_good n) rs ≡ true) (nos-no i r) (all-more (is_good n) ns r sound.are_good good);
    }

-- with fewer answers more sets are compatible
pub compatible-fewer : (i : Interview) (number : ℕ) → IsPart (compatible_sets i) (compatible_sets (retracted i number))
compatible-fewer i number k c =
    let kept = λ (a : Answer). not (eqb a.number number) in
    let yeses = yes_queries i.answers in
    let fewer = yes_queries (filter kept i.answers) in
    let a = and_parts (is_within k (full i.count)) (is_compatible i.start yeses k) (sym (among-compat i.count i.start yeses k) ∙ c) in
    let b = and_parts (meets i.start k) (breaks_none yeses k) a.1 in
    among-compat i.count i.start fewer k
    ∙ and_from (is_within k (full i.count)) (is_compatible i.start fewer k) a.0
    (and_from (meets i.start k) (breaks_none fewer k) b.0 (kind-fewer (λ r. not (breaks k r)) (λ a. a.yes) kept i.answers b.1))

-- a retraction
pub taken_out : (i : Interview) (number : ℕ) → IsSound i → IsSound (retracted i number)
taken_out i number sound =
    let kept = λ (a : Answer). not (eqb a.number number) in
    let g = a_space i sound.some_fits in
    let f = g.0 in
    let fits = g.1 in
    record {
      some_fits = some_of (retracted i number) f (record {
        in_order = fits.in_order;
        is_family = fits.is_family;
        holds_full = fits.holds_full;
        compatible = λ k c. compatible-fewer i number k (fits.compatible k c);
        broken = list_all-All (some_breaks f) (no_queries (filter kept i.answers)) (kind-fewer (some_breaks f) (λ a. not a.yes) kept i.answers (All-list_all (some_breaks f) (no_queries i.answers) fits.broken));
      });
      are_good = kind-fewer (is_good i.count) (λ a. not a.yes) kept i.answers sound.are_good;
    }
