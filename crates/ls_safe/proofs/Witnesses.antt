-- Witnesses of answers that wait, and trials whose bases are known to have few sets.
use Rattle.std.proofs.Common.{ℕ, zero, suc, ◌+◌, ◌-◌, ◌*◌, ◌<◌, ◌≤◌, ◌≡◌, Bool, true, false}
use Rattle.std.proofs.Common.{cond, not, List, [], ◌∷◌, ◌++◌, filter, find, length, get_or, Some}
use Rattle.std.proofs.Common.{refl, sym, ap, ◌∙◌, subst, arith, true≢false, le-ltb}
use Rattle.std.specs.Prelude.{slice_index, slice_set, unwrap_or}
use Rattle.std.specs.List.{list_any}
use Rattle.ls_lists.proofs.Finds.{find-some}
use Rattle.ls_set.specs.ItemSet.{Items, empty, is_among}
use Rattle.ls_set.specs.declared.query.Query.{Query}
use Rattle.ls_set.proofs.Members.{among-here, among-there}
use Rattle.ls_theory.specs.Queries.{breaks}
use Rattle.ls_theory.specs.Bases.{atom_items, base, most_base_sets}
use Rattle.ls_theory.specs.Verdict.{base_verdict, double_atom, is_well_graded}
use Rattle.ls_theory.specs.declared.verdict.BaseVerdict.TheVariants.{Learning, NotGraded}
use Rattle.ls_laws.specs.Spans.{is_double}
use Rattle.ls_laws.specs.Families.{IsFamily}
use Rattle.ls_laws.proofs.Atoms.{base-member}
use Rattle.ls_laws.proofs.Breaks.{among-left_parts}
use Rattle.ls_laws.proofs.WellGraded.{is_well_graded-atoms}
use Rattle.ls_laws.specs.LeastSets.{IsBelow, near}
use Rattle.ls_origins.specs.Safe.{trial, is_safe}
use Rattle.ls_origins.specs.declared.safe_answer.SafeAnswer.{SafeAnswer}
use Rattle.ls_safe.specs.Turns.{is_past}
use Rattle.ls_safe.specs.Interviews.{AreWitnesses, IsWitness}
use Rattle.ls_safe.proofs.Turns.{left-family}
use Rattle.ls_safe.proofs.Tries.{double-stays, double-waits, trial-few}

-- ---- one witness

-- it stays one when members are left out
witness-stays : (n : ℕ) (f : List Items) (r q : Query) (k : Items) → IsWitness n f r k
    → IsWitness n (trial q f) r k
witness-stays n f r q k w = record {
  small = w.small;
  double =
      λ c. let p = among-left_parts f q k c in
      let d = w.double p.0 in double-stays f r q k d.0 d.1 p.1;
}

-- while it is a member the answer waits
pub witness-waits : (n : ℕ) (f : List Items) (r : Query) (k : Items) → IsFamily n f
    → IsWitness n f r k → is_among f k ≡ true → is_safe n f r ≡ false
witness-waits n f r k family w c = let d = w.double c in double-waits n f r k family d.0 d.1

found-among : (p : Items → Bool) (f : List Items) (k : Items) → find p f ≡ Some k
    → (is_among f k ≡ true) × (p k ≡ true)
found-among p [] k e = cc
found-among p (x ∷ f) k e =
    elim (p x) as (λ b. p x ≡ b → cond b (Some x) (find p f) ≡ Some k
    → (is_among (x ∷ f) k ≡ true) × (p k ≡ true)) [
      | true ↦ λ h e.
          let same : x ≡ k = cc in (among-here k x f (sym same), ap p (sym same) ∙ h)
      | false ↦ λ h e.
          let r = found-among p f k e in (among-there k x f r.0, r.1)
    ] refl e

-- the set that a verdict names is one
verdict-set : (g : List Items) (k : Items) (i j : ℕ) → base_verdict g ≡ NotGraded k i j
    → (is_well_graded g ≡ false) × (double_atom g ≡ k)
verdict-set g k i j e =
    elim (is_well_graded g) as
    (λ b. cond b Learning (NotGraded (double_atom g)
    (slice_index (atom_items g (double_atom g)) 0)
    (slice_index (atom_items g (double_atom g)) 1))
    ≡ NotGraded k i j → (b ≡ false) × (double_atom g ≡ k)) [
      | true ↦ λ e. cc
      | false ↦ λ e. (refl, let same : double_atom g ≡ k = cc in same)
    ] e

pub witness-from : (n : ℕ) (f g : List Items) (r : Query) (k : Items) (i j : ℕ) → IsFamily n f
    → g ≡ trial r f → base_verdict g ≡ NotGraded k i j → IsWitness n f r k
witness-from n f g r k i j family is e =
    let h = trial r f in
    let left = left-family n f r family in
    let v = verdict-set h k i j (ap base_verdict (sym is) ∙ e) in
    let some : list_any (is_double h) (base h) ≡ true =
    twice (list_any (is_double h) (base h))
    (sym (is_well_graded-atoms h left.holds_empty left.holds_unions) ∙ v.0) in
    let found = find-some (is_double h) (base h) some in
    let same : found.0 ≡ k = ap (λ o. unwrap_or o empty) (sym found.1) ∙ v.1 in
    let there = found-among (is_double h) (base h) found.0 found.1 in
    let among : is_among (base h) k ≡ true = ap (is_among (base h)) (sym same) ∙ there.0 in
    record {
      small = left.small k (base-member h k among);
      double = λ _. (among, ap (is_double h) (sym same) ∙ there.1);
    }
  where
    twice : (b : Bool) → not b ≡ false → b ≡ true
    twice true e = refl
    twice false e = sym e

-- ---- the witnesses of answers

pub witnesses-stay : (n : ℕ) (f : List Items) (q : Query) (answers : List SafeAnswer)
    (ks : List Items) → AreWitnesses n f answers ks → AreWitnesses n (trial q f) answers ks
witnesses-stay n f q [] [] h = tt
witnesses-stay n f q [] (k ∷ ks) h = absurd h
witnesses-stay n f q (a ∷ answers) [] h = absurd h
witnesses-stay n f q (a ∷ answers) (k ∷ ks) h = (
  λ off. witness-stays n f a.query q k (h.0 off),
  witnesses-stay n f q answers ks h.1,
)

pub witnesses-more : (n : ℕ) (f : List Items) (answers : List SafeAnswer) (ks : List Items)
    (a : SafeAnswer) (k : Items) → AreWitnesses n f answers ks
    → (a.applied ≡ false → IsWitness n f a.query k)
    → AreWitnesses n f (answers ++ a ∷ []) (ks ++ k ∷ [])
witnesses-more n f [] [] a k h w = (w, tt)
witnesses-more n f [] (x ∷ ks) a k h w = absurd h
witnesses-more n f (x ∷ answers) [] a k h w = absurd h
witnesses-more n f (x ∷ answers) (y ∷ ks) a k h w =
    (h.0, witnesses-more n f answers ks a k h.1 w)

pub as_many : (n : ℕ) (f : List Items) (answers : List SafeAnswer) (ks : List Items)
    → AreWitnesses n f answers ks → length ks ≡ length answers
as_many n f [] [] h = refl
as_many n f [] (k ∷ ks) h = absurd h
as_many n f (a ∷ answers) [] h = absurd h
as_many n f (a ∷ answers) (k ∷ ks) h = ap suc (as_many n f answers ks h.1)

pub witness-at : (n : ℕ) (f : List Items) (answers : List SafeAnswer) (ks : List Items) (place : ℕ)
    (a : SafeAnswer) (k : Items) → AreWitnesses n f answers ks → place < length answers
    → a ≡ get_or answers place a → k ≡ get_or ks place k → a.applied ≡ false
    → IsWitness n f a.query k
witness-at n f [] ks place a k h less at there off = absurd (omega arith)
witness-at n f (x ∷ answers) [] place a k h less at there off = absurd h
witness-at n f (x ∷ answers) (y ∷ ks) zero a k h less at there off =
    subst (λ z. IsWitness n f a.query z) (sym there)
    (subst (λ (z : SafeAnswer). z.applied ≡ false → IsWitness n f z.query y) (sym at) h.0 off)
witness-at n f (x ∷ answers) (y ∷ ks) (suc place) a k h less at there off =
    witness-at n f answers ks place a k h.1 (omega arith) at there off

-- an answer that is applied needs none
pub witnesses-mark : (n : ℕ) (f : List Items) (answers : List SafeAnswer) (ks : List Items)
    (place : ℕ) (m : SafeAnswer) → AreWitnesses n f answers ks → m.applied ≡ true
    → AreWitnesses n f (slice_set answers place m) ks
witnesses-mark n f [] ks place m h on = h
witnesses-mark n f (x ∷ answers) [] place m h on = absurd h
witnesses-mark n f (x ∷ answers) (y ∷ ks) zero m h on =
    (λ off. absurd (true≢false (sym on ∙ off)), h.1)
witnesses-mark n f (x ∷ answers) (y ∷ ks) (suc place) m h on =
    (h.0, witnesses-mark n f answers ks place m h.1 on)

pub witnesses-set : (n : ℕ) (f : List Items) (answers : List SafeAnswer) (ks : List Items)
    (place : ℕ) (a : SafeAnswer) (k : Items) → AreWitnesses n f answers ks → place < length answers
    → a ≡ get_or answers place a → IsWitness n f a.query k
    → AreWitnesses n f answers (slice_set ks place k)
witnesses-set n f [] ks place a k h less at w = absurd (omega arith)
witnesses-set n f (x ∷ answers) [] place a k h less at w = absurd h
witnesses-set n f (x ∷ answers) (y ∷ ks) zero a k h less at w =
    (λ _. subst (λ (z : SafeAnswer). IsWitness n f z.query k) at w, h.1)
witnesses-set n f (x ∷ answers) (y ∷ ks) (suc place) a k h less at w =
    (h.0, witnesses-set n f answers ks place a k h.1 (omega arith) at w)

-- ---- few sets

parted-length : (p : Items → Bool) (xs : List Items)
    → length (filter (λ k. not (p k)) xs) + length (filter p xs) ≡ length xs
parted-length p [] = refl
parted-length p (x ∷ xs) =
    let rest = parted-length p xs in
    elim (p x) as (λ b. length (cond (not b) (x ∷ filter (λ k. not (p k)) xs)
    (filter (λ k. not (p k)) xs)) + length (cond b (x ∷ filter p xs) (filter p xs))
    ≡ suc (length xs)) [
      | true ↦ omega arith
      | false ↦ omega arith
    ]

pub filter-few : (p : Items → Bool) (xs : List Items) → length (filter p xs) ≤ length xs
filter-few p xs = let parts = parted-length p xs in omega arith

pub few-of : (p : Items → Bool) (xs : List Items) → length xs ≤ most_base_sets
    → length (filter p xs) ≤ most_base_sets
few-of p xs few = let le = filter-few p xs in omega arith

pub few-within : (n : ℕ) (f sets : List Items) (r : Query) (gs : List Items) → IsFamily n f
    → base f ≡ sets → IsBelow gs (near sets r)
    → length sets - length (filter (λ k. breaks k r) sets)
    + length (filter (λ k. breaks k r) sets) * length gs
    ≤ most_base_sets
    → is_past most_base_sets (trial r f) ≡ false
few-within n f sets r gs family is low few =
    let bound : length (base (trial r f)) ≤ length (trial r sets)
    + length (filter (λ k. breaks k r) sets) * length gs =
    subst (λ b. length (base (trial r f)) ≤ length (trial r b)
    + length (filter (λ k. breaks k r) b) * length gs) is
    (trial-few n f r gs family (subst (λ b. IsBelow gs (near b r)) (sym is) low)) in
    let parts = parted-length (λ k. breaks k r) sets in
    le-ltb most_base_sets (length (base (trial r f))) (omega arith)
