-- Trials: they look at gradation alone, and most need not be made again.
use Rattle.std.proofs.Common.{ℕ, zero, suc, ◌+◌, ◌*◌, ◌≤◌, ◌≡◌, Bool, true, false, cond, not, ◌&&◌}
use Rattle.std.proofs.Common.{List, [], ◌∷◌, ◌++◌, map, filter, length, length-append, append_assoc}
use Rattle.std.proofs.Common.{inl, inr, append-nil, Some, None, refl, sym, ap, ap₂, ◌∙◌, subst}
use Rattle.std.proofs.Common.{add_comm, arith, ltb-true, lt-ltb}
use Rattle.std.proofs.lemmas.List.{length-map}
use Rattle.std.specs.List.{list_any, list_all}
use Rattle.std.specs.Option.{option_map_or}
use Rattle.std.proofs.lemmas.Bool.{and_from, and_parts, not-true}
use Rattle.std.proofs.Math.Bool.{and-false}
use Rattle.std.proofs.Math.Nat.{zero-mul, suc-mul}
use Rattle.ls_lists.proofs.Filters.{filter-fewer}
use Rattle.ls_set.specs.ItemSet.{Items, full, union, items, is_among}
use Rattle.ls_set.specs.declared.query.Query.{Query}
use Rattle.ls_set.specs.Query.{is_good}
use Rattle.ls_theory.specs.Queries.{breaks}
use Rattle.ls_theory.specs.Families.{is_space}
use Rattle.ls_theory.specs.Bases.{atoms_at, base, is_atom_at}
use Rattle.ls_theory.specs.Verdict.{is_well_graded}
use Rattle.ls_laws.specs.Spans.{is_double, joins, left_by}
use Rattle.ls_laws.specs.Families.{IsFamily}
use Rattle.ls_laws.proofs.Lists.{some-among}
use Rattle.ls_laws.proofs.Breaks.{among-left_from, among-left_parts, good-from}
use Rattle.ls_laws.proofs.Interiors.{space-from}
use Rattle.ls_laws.proofs.Compat.{left-space}
use Rattle.ls_laws.proofs.Atoms.{IsAtom, IsAtom-from, is_atom_at-from, base-atom, base-member}
use Rattle.ls_laws.proofs.Atoms.{among-base}
use Rattle.ls_laws.proofs.Spans.{base-in_order}
use Rattle.ls_laws.proofs.Remains.{among-joins, from-joins}
use Rattle.ls_laws.proofs.WellGraded.{is_well_graded-atoms}
use Rattle.ls_laws.specs.LeastSets.{IsBelow, gained, has_none_within, having, joined}
use Rattle.ls_laws.specs.LeastSets.{least_sets, near}
use Rattle.ls_laws.proofs.LeastSets.{IsLeast-from, among-from, among-left, among-parts, among-right}
use Rattle.ls_laws.proofs.LeastSets.{below-through}
use Rattle.ls_laws.proofs.AtomsAfter.{atom-of, base-cases, near-below}
use Rattle.ls_origins.specs.Safe.{trial, is_safe, Safe, applied_first, passes, settled, awaited}
use Rattle.ls_origins.specs.Safe.{tried, tried_in, all_tried, safe_turn, first_past, turn_past}
use Rattle.ls_origins.proofs.Lengths.{no_longer}
use Rattle.ls_safe.specs.Turns.{is_past, is_still, are_still}
use Rattle.ls_safe.proofs.Turns.{left-family, applied-none, applied-fewer, passes-enough}
use Rattle.ls_safe.proofs.Turns.{applied-at, none-applied, tried-before, tried-at, tried-none}
use Rattle.ls_safe.proofs.Turns.{tried-some, settled-none, settled-some}

-- ---- a trial of a good query

pub trial-space : (n : ℕ) (f : List Items) (r : Query) → is_good n r ≡ true → is_space (full n) f
    ≡ true → is_space (full n) (trial r f) ≡ true
trial-space n f r good h = left-space n f r (good-from n r good) h

pub trial-graded : (n : ℕ) (f : List Items) (r : Query) → is_good n r ≡ true → is_space (full n) f
    ≡ true → is_safe n f r ≡ is_well_graded (trial r f)
trial-graded n f r good h = ap (λ b. b && is_well_graded (trial r f)) (trial-space n f r good h)

pub trial-atoms : (n : ℕ) (f : List Items) (r : Query) → is_good n r ≡ true → is_space (full n) f
    ≡ true → is_safe n f r ≡ not (list_any (is_double (trial r f)) (base (trial r f)))
trial-atoms n f r good h =
    let s = space-from (full n) (trial r f) (trial-space n f r good h) in
    trial-graded n f r good h ∙ is_well_graded-atoms (trial r f) s.holds_empty s.holds_unions

-- ---- the first base that is past the limit

-- where those of the front are not past
pub past-after : (limit : ℕ) (gs hs : List (List Items)) → list_all (λ g. not (is_past limit g)) gs
    ≡ true → first_past limit (gs ++ hs) ≡ first_past limit hs
past-after limit [] hs h = refl
past-after limit (g ∷ gs) hs h =
    let a = and_parts (not (is_past limit g)) (list_all (λ g. not (is_past limit g)) gs) h in
    rw (not-true (is_past limit g) a.0) (past-after limit gs hs a.1)

-- where none is found, none of them is past, and none behind them
past-none : (limit : ℕ) (gs hs : List (List Items)) → first_past limit (gs ++ hs) ≡ None
    → (list_all (λ g. not (is_past limit g)) gs ≡ true) × (first_past limit hs ≡ None)
past-none limit [] hs e = (refl, e)
past-none limit (g ∷ gs) hs e =
    elim
    (is_past limit g)
    as (λ b. cond b (Some (length (base g))) (first_past limit (gs ++ hs)) ≡ None
    → (not b && list_all (λ g. not (is_past limit g)) gs ≡ true) × (first_past limit hs ≡ None)) [
      | true ↦ λ e. cc
      | false ↦ λ e. past-none limit gs hs e
    ] e

-- ---- answers that were tried

still-unsafe : (limit n : ℕ) (f : List Items) (rs : List Query) → list_all (is_still limit n f) rs
    ≡ true → list_all (λ q. not (is_safe n f q)) rs ≡ true
still-unsafe limit n f [] h = refl
still-unsafe limit n f (r ∷ rs) h =
    let a = and_parts (is_still limit n f r) (list_all (is_still limit n f) rs) h in
    and_from (not (is_safe n f r)) (list_all (λ q. not (is_safe n f q)) rs)
    (and_parts (not (is_safe n f r)) (not (is_past limit (trial r f))) a.0).0
    (still-unsafe limit n f rs a.1)

still-within : (limit n : ℕ) (f : List Items) (rs : List Query) → list_all (is_still limit n f) rs
    ≡ true → list_all (λ g. not (is_past limit g)) (map (λ q. trial q f) rs) ≡ true
still-within limit n f [] h = refl
still-within limit n f (r ∷ rs) h =
    let a = and_parts (is_still limit n f r) (list_all (is_still limit n f) rs) h in
    and_from (not (is_past limit (trial r f)))
    (list_all (λ g. not (is_past limit g)) (map (λ q. trial q f) rs))
    (and_parts (not (is_safe n f r)) (not (is_past limit (trial r f))) a.0).1
    (still-within limit n f rs a.1)

still-from : (limit n : ℕ) (f : List Items) (rs : List Query)
    → list_all (λ q. not (is_safe n f q)) rs ≡ true
    → list_all (λ g. not (is_past limit g)) (map (λ q. trial q f) rs) ≡ true
    → list_all (is_still limit n f) rs ≡ true
still-from limit n f [] h w = refl
still-from limit n f (r ∷ rs) h w =
    let a = and_parts (not (is_safe n f r)) (list_all (λ q. not (is_safe n f q)) rs) h in
    let b =
    and_parts (not (is_past limit (trial r f)))
    (list_all (λ g. not (is_past limit g)) (map (λ q. trial q f) rs)) w in
    and_from (is_still limit n f r) (list_all (is_still limit n f) rs)
    (and_from (not (is_safe n f r)) (not (is_past limit (trial r f))) a.0 b.0)
    (still-from limit n f rs a.1 b.1)

-- one more that cannot be applied
all-more : (p : Query → Bool) (rs : List Query) (r : Query) → list_all p rs ≡ true → p r ≡ true
    → list_all p (rs ++ r ∷ []) ≡ true
all-more p [] r h a = and_from (p r) true a refl
all-more p (x ∷ rs) r h a =
    let b = and_parts (p x) (list_all p rs) h in and_from (p x) (list_all p (rs ++ r ∷ [])) b.0
    (all-more p rs r b.1 a)

pub turn-waits : (limit n : ℕ) (s : Safe) (r : Query) → are_still limit n s ≡ true
    → is_safe n s.family r ≡ false → safe_turn n s r ≡ awaited s r
turn-waits limit n s r h e =
    settled-none
    n (awaited s r)
    (none-applied n s.family (s.waiting ++ r ∷ [])
    (all-more (λ q. not (is_safe n s.family q)) s.waiting r
    (still-unsafe limit n s.family s.waiting h) (ap not e)))

pub turn-waits-past : (limit n : ℕ) (s : Safe) (r : Query) → are_still limit n s ≡ true
    → is_safe n s.family r ≡ false → turn_past limit n s r
    ≡ first_past limit (trial r s.family ∷ [])
turn-waits-past limit n s r h e =
    let f = s.family in
    let unsafe = still-unsafe limit n f s.waiting h in
    ap (first_past limit)
    (tried-none
    n (awaited s r)
    (none-applied n f (s.waiting ++ r ∷ [])
    (all-more (λ q. not (is_safe n f q)) s.waiting r unsafe (ap not e))))
    ∙ ap (first_past limit) (tried-before n f s.waiting (r ∷ []) unsafe)
    ∙ past-after limit (map (λ q. trial q f) s.waiting) (tried n f (r ∷ []))
    (still-within limit n f s.waiting h)
    ∙ ap (λ b. first_past limit (trial r f ∷ cond b [] [])) e

turn-first : (limit n : ℕ) (s : Safe) (r : Query) → are_still limit n s ≡ true
    → is_safe n s.family r ≡ true → applied_first n s.family (s.waiting ++ r ∷ [])
    ≡ Some (record { family = trial r s.family; waiting = s.waiting })
turn-first limit n s r h e =
    applied-at n s.family s.waiting r [] (still-unsafe limit n s.family s.waiting h) e ∙ ap
    (λ l. Some (record { family = trial r s.family; waiting = l })) (append-nil s.waiting)

pub turn-applied : (limit n : ℕ) (s : Safe) (r : Query) → are_still limit n s ≡ true
    → is_safe n s.family r ≡ true → safe_turn n s r
    ≡ settled n (record { family = trial r s.family; waiting = s.waiting })
turn-applied limit n s r h e =
    settled-some n (awaited s r) (record { family = trial r s.family; waiting = s.waiting })
    (turn-first limit n s r h e)

pub turn-applied-past : (limit n : ℕ) (s : Safe) (r : Query) → are_still limit n s ≡ true
    → is_safe n s.family r ≡ true
    → turn_past limit n s r
    ≡ first_past
    limit
    (trial r s.family ∷ all_tried n (record { family = trial r s.family; waiting = s.waiting }))
turn-applied-past limit n s r h e =
    let f = s.family in
    let t : Safe = record { family = trial r f; waiting = s.waiting } in
    let unsafe = still-unsafe limit n f s.waiting h in
    ap (first_past limit) (tried-some n (awaited s r) t (turn-first limit n s r h e))
    ∙ ap (λ l. first_past limit (l ++ all_tried n t))
    (tried-before n f s.waiting (r ∷ []) unsafe ∙ ap (λ l. map (λ q. trial q f) s.waiting ++ l)
    (tried-at n f r [] e))
    ∙ ap
    (first_past limit)
    (append_assoc (map (λ q. trial q f) s.waiting) (trial r f ∷ []) (all_tried n t))
    ∙ past-after limit (map (λ q. trial q f) s.waiting) (trial r f ∷ all_tried n t)
    (still-within limit n f s.waiting h)

-- where no trial was past, those that wait at the end were tried on the family as it is
none-still : (limit n m : ℕ) (s : Safe) → applied_first n s.family s.waiting ≡ None
    → first_past limit (tried_in n (suc m) s) ≡ None → are_still limit n (passes n m s) ≡ true
none-still limit n m s none e =
    let f = s.family in
    let unsafe = applied-none n f s.waiting none in
    let rest = option_map_or (tried_in n m) (applied_first n f s.waiting) [] in
    let all : tried n f s.waiting ≡ map (λ q. trial q f) s.waiting =
    ap (λ ws. tried n f ws) (sym (append-nil s.waiting)) ∙ tried-before n f s.waiting [] unsafe
    ∙ append-nil (map (λ q. trial q f) s.waiting) in
    let within =
    past-none limit (map (λ q. trial q f) s.waiting) rest
    (ap (λ l. first_past limit (l ++ rest)) (sym all) ∙ e) in
    subst (λ t. are_still limit n t ≡ true) (sym (passes-enough n m s none))
    (still-from limit n f s.waiting unsafe within.0)

passes-still : (limit n m : ℕ) (s : Safe) → length s.waiting ≤ m
    → first_past limit (tried_in n (suc m) s) ≡ None → are_still limit n (passes n m s) ≡ true
passes-still limit n zero s few e =
    elim (applied_first n s.family s.waiting) as
    (λ o. applied_first n s.family s.waiting ≡ o → are_still limit n s ≡ true) [
      | None ↦ λ none. none-still limit n zero s none e
      | Some t ↦ λ some.
          let less = applied-fewer n s.family s.waiting t some in absurd (omega arith)
    ] refl
passes-still limit n (suc m) s few e =
    elim (applied_first n s.family s.waiting) as
    (λ o. applied_first n s.family s.waiting ≡ o → are_still limit n (passes n (suc m) s) ≡ true) [
      | None ↦ λ none. none-still limit n (suc m) s none e
      | Some t ↦ λ some.
          let less = applied-fewer n s.family s.waiting t some in
          let rest =
          past-none limit (tried n s.family s.waiting) (tried_in n (suc m) t)
          (ap
          (λ o.
          first_past limit (tried n s.family s.waiting ++ option_map_or (tried_in n (suc m)) o []))
          (sym some) ∙ e) in
          subst (λ u. are_still limit n u ≡ true)
          (sym (ap (λ o. option_map_or (passes n m) o s) some))
          (passes-still limit n m t (omega arith) rest.1)
    ] refl

pub settled-still : (limit n : ℕ) (s : Safe) → first_past limit (all_tried n s) ≡ None
    → are_still limit n (settled n s) ≡ true
settled-still limit n s e = passes-still limit n (length s.waiting) s (omega arith) e

pub turn-still : (limit n : ℕ) (s : Safe) (r : Query) → turn_past limit n s r ≡ None
    → are_still limit n (safe_turn n s r) ≡ true
turn-still limit n s r e = settled-still limit n (awaited s r) e

-- ---- the loop of a turn: those before were tried on the family as it is

steps-end : (limit n : ℕ) (f : List Items) (before : List Query)
    → list_all (is_still limit n f) before ≡ true → applied_first n f before ≡ None
steps-end limit n f before h = none-applied n f before (still-unsafe limit n f before h)

pub step-end : (limit n : ℕ) (f : List Items) (before : List Query)
    → list_all (is_still limit n f) before ≡ true
    → settled n (record { family = f; waiting = before }) ≡ record { family = f; waiting = before }
step-end limit n f before h =
    settled-none n (record { family = f; waiting = before }) (steps-end limit n f before h)

pub step-end-past : (limit n : ℕ) (f : List Items) (before : List Query)
    → list_all (is_still limit n f) before ≡ true
    → first_past limit (all_tried n (record { family = f; waiting = before })) ≡ None
step-end-past limit n f before h =
    ap (first_past limit)
    (tried-none n (record { family = f; waiting = before }) (steps-end limit n f before h))
    ∙ ap (λ ws. first_past limit (tried n f ws)) (sym (append-nil before))
    ∙ ap (first_past limit) (tried-before n f before [] (still-unsafe limit n f before h))
    ∙ past-after limit (map (λ q. trial q f) before) [] (still-within limit n f before h)

-- a trial that is past ends the turn, whether it is a learning space or not
pub step-past : (limit n : ℕ) (f : List Items) (before : List Query) (r : Query) (rest : List Query)
    → list_all (is_still limit n f) before ≡ true → is_past limit (trial r f) ≡ true
    → first_past limit (all_tried n (record { family = f; waiting = before ++ r ∷ rest }))
    ≡ Some (length (base (trial r f)))
step-past limit n f before r rest h past =
    let s : Safe = record { family = f; waiting = before ++ r ∷ rest } in
    let more = option_map_or (tried_in n (length s.waiting)) (applied_first n f s.waiting) [] in
    let tail = cond (is_safe n f r) [] (tried n f rest) in
    ap (λ l. first_past limit (l ++ more))
    (tried-before n f before (r ∷ rest) (still-unsafe limit n f before h))
    ∙ ap (first_past limit) (append_assoc (map (λ q. trial q f) before) (trial r f ∷ tail) more)
    ∙ past-after limit (map (λ q. trial q f) before) (trial r f ∷ (tail ++ more))
    (still-within limit n f before h)
    ∙ ap (λ b. cond b (Some (length (base (trial r f)))) (first_past limit (tail ++ more))) past

step-first : (limit n : ℕ) (f : List Items) (before : List Query) (r : Query) (rest : List Query)
    → list_all (is_still limit n f) before ≡ true → is_safe n f r ≡ true
    → applied_first n f (before ++ r ∷ rest)
    ≡ Some (record { family = trial r f; waiting = before ++ rest })
step-first limit n f before r rest h can =
    applied-at n f before r rest (still-unsafe limit n f before h) can

pub step-applied : (limit n : ℕ) (f : List Items) (before : List Query) (r : Query)
    (rest : List Query) → list_all (is_still limit n f) before ≡ true → is_safe n f r ≡ true
    → settled n (record { family = f; waiting = before ++ r ∷ rest })
    ≡ settled n (record { family = trial r f; waiting = before ++ rest })
step-applied limit n f before r rest h can =
    settled-some n (record { family = f; waiting = before ++ r ∷ rest })
    (record { family = trial r f; waiting = before ++ rest })
    (step-first limit n f before r rest h can)

pub step-applied-past : (limit n : ℕ) (f : List Items) (before : List Query) (r : Query)
    (rest : List Query) → list_all (is_still limit n f) before ≡ true → is_safe n f r ≡ true
    → is_past limit (trial r f) ≡ false
    → first_past limit (all_tried n (record { family = f; waiting = before ++ r ∷ rest }))
    ≡ first_past limit (all_tried n (record { family = trial r f; waiting = before ++ rest }))
step-applied-past limit n f before r rest h can within =
    let t : Safe = record { family = trial r f; waiting = before ++ rest } in
    ap (first_past limit)
    (tried-some n (record { family = f; waiting = before ++ r ∷ rest }) t
    (step-first limit n f before r rest h can))
    ∙ ap (λ l. first_past limit (l ++ all_tried n t))
    (tried-before n f before (r ∷ rest) (still-unsafe limit n f before h) ∙ ap
    (λ l. map (λ q. trial q f) before ++ l) (tried-at n f r rest can))
    ∙ ap
    (first_past limit)
    (append_assoc (map (λ q. trial q f) before) (trial r f ∷ []) (all_tried n t))
    ∙ past-after limit (map (λ q. trial q f) before) (trial r f ∷ all_tried n t)
    (still-within limit n f before h)
    ∙ ap (λ b. cond b (Some (length (base (trial r f)))) (first_past limit (all_tried n t))) within

-- ---- witnesses

-- an atom stays one where members are left out and it is not
atom-stays : (f : List Items) (r q : Query) (k : Items) (i : ℕ) → breaks k q ≡ false
    → IsAtom (trial r f) i k → IsAtom (trial r (trial q f)) i k
atom-stays f r q k i stays a =
    let c = among-left_parts f r k a.member in
    record {
      member = among-left_from (trial q f) r k (among-left_from f q k c.0 stays) c.1;
      has_q = a.has_q;
      least =
          λ l d w h. let b = among-left_parts (trial q f) r l d in a.least l
          (among-left_from f r l (among-left_parts f q l b.0).0 b.1) w h;
    }

pub double-stays : (f : List Items) (r q : Query) (k : Items) → is_among (base (trial r f)) k ≡ true
    → is_double (trial r f) k ≡ true → breaks k q ≡ false
    → (is_among (base (trial r (trial q f))) k ≡ true) × (is_double (trial r (trial q f)) k ≡ true)
double-stays f r q k there twice stays =
    let g = trial r f in
    let h = trial r (trial q f) in
    let member = base-member g k there in
    let a = base-atom g k there in
    let fewer =
    filter-fewer (λ i. is_atom_at g i k) (λ i. is_atom_at h i k)
    (λ i b. is_atom_at-from h i k (atom-stays f r q k i stays (IsAtom-from g i k member b)))
    (items k) in
    let two = ltb-true 1 (length (filter (λ i. is_atom_at g i k) (items k))) twice in (
      among-base h a.0 k (atom-stays f r q k a.0 stays a.1),
      lt-ltb 1 (length (filter (λ i. is_atom_at h i k) (items k))) (omega arith),
    )

-- where there is one the trial is no learning space
pub double-waits : (n : ℕ) (f : List Items) (r : Query) (k : Items) → IsFamily n f
    → is_among (base (trial r f)) k ≡ true → is_double (trial r f) k ≡ true → is_safe n f r ≡ false
double-waits n f r k family there twice =
    let g = trial r f in
    let left = left-family n f r family in
    let e = is_well_graded-atoms g left.holds_empty left.holds_unions in
    let graded : is_well_graded g ≡ false =
    e ∙ ap not (some-among (is_double g) (base g) k there twice) in
    ap (λ b. is_space (full n) g && b) graded ∙ and-false (is_space (full n) g)

-- ---- how many sets the base of a trial has

length-joins : (ks gs : List Items) → length (joins ks gs) ≡ length ks * length gs
length-joins [] gs = sym (zero-mul (length gs))
length-joins (k ∷ ks) gs =
    length-append (map (union k) gs) (joins ks gs)
    ∙ ap₂ (λ a b. a + b) (length-map gs (union k)) (length-joins ks gs)
    ∙ add_comm (length gs) (length ks * length gs) ∙ sym (suc-mul (length ks) (length gs))

-- what is gained is a join of a base set that breaks the query with one of the list
gained-join : (f : List Items) (r : Query) (gs : List Items) (i : ℕ) (k : Items)
    → is_among (gained f r gs i) k ≡ true
    → is_among (joins (filter (λ k. breaks k r) (base f)) gs) k ≡ true
gained-join f r gs i k c =
    let there = filter (λ k. breaks k r) (atoms_at f i) in
    let least =
    among-parts (has_none_within (having i (left_by r (base f)))) (least_sets (joined f r gs i)) k
    c in
    let j = from-joins k there gs (IsLeast-from (joined f r gs i) k least.0).member in
    let p = among-parts (λ k. breaks k r) (atoms_at f i) j.left j.left_in in
    let broken = among-from (λ k. breaks k r) (base f) j.left
    (among-base f i j.left (atom-of f i j.left p.0)) p.1 in
    subst (λ s. is_among (joins (filter (λ k. breaks k r) (base f)) gs) s ≡ true) (sym j.is)
    (among-joins j.left j.right (filter (λ k. breaks k r) (base f)) gs broken j.right_in)

pub trial-few : (n : ℕ) (f : List Items) (r : Query) (gs : List Items) → IsFamily n f
    → IsBelow gs (near (base f) r)
    → length (base (trial r f)) ≤ length (trial r (base f))
    + length (filter (λ k. breaks k r) (base f)) * length gs
trial-few n f r gs family low =
    let b = base f in
    let js = joins (filter (λ k. breaks k r) b) gs in
    let below = below-through gs (near b r) (near f r) low (near-below f r) in
    let few =
    no_longer (base (trial r f)) (trial r b ++ js)
    (base-in_order (trial r f) (left-family n f r family).in_order)
    (λ k c. elim (base-cases f r gs family.holds_unions below k c) [
      | inl a ↦ among-left (trial r b) js k a
      | inr x ↦ among-right (trial r b) js k (gained-join f r gs x.0 k x.1)
    ]) in
    let e =
    length-append (trial r b) js ∙ ap (λ m. length (trial r b) + m)
    (length-joins (filter (λ k. breaks k r) b) gs) in
    omega arith
