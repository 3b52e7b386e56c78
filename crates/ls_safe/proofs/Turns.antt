-- The safe interview: passes end, at the end no waiting answer can be applied, and the family is a
-- learning space throughout.
use Rattle.std.proofs.Common.{ℕ, zero, suc, ◌≤◌, ◌≡◌, true, false, cond, not, ◌&&◌, List, [], ◌∷◌}
use Rattle.std.proofs.Common.{◌++◌, map, length, append-nil, Option, Some, None, option_map, refl}
use Rattle.std.proofs.Common.{sym, ap, ◌∙◌, subst, arith}
use Rattle.std.specs.List.{list_all}
use Rattle.std.specs.Option.{option_map_or}
use Rattle.std.proofs.lemmas.Bool.{and_from, and_parts, not-true}
use Rattle.ls_set.specs.ItemSet.{Items, full}
use Rattle.ls_set.specs.declared.query.Query.{Query}
use Rattle.ls_theory.specs.Queries.{breaks}
use Rattle.ls_theory.specs.Verdict.{is_learning_space}
use Rattle.ls_laws.specs.Spans.{IsPart}
use Rattle.ls_laws.specs.Families.{IsFamily}
use Rattle.ls_laws.proofs.Families.{filter-IsFamily}
use Rattle.ls_laws.proofs.Breaks.{among-left_parts, breaks-empty, unbroken-union}
use Rattle.ls_origins.specs.Safe.{trial, is_safe, Safe, applied_first, passes, settled, tried}
use Rattle.ls_origins.specs.Safe.{tried_in, all_tried, safe_turn, after_turns, safe}
use Rattle.ls_safe.specs.Turns.{IsApplied}

-- ---- one pass

pub applied-is : (n : ℕ) (f : List Items) (rs : List Query) (s : Safe) → applied_first n f rs
    ≡ Some s → IsApplied n f rs s
applied-is n f [] s e = cc
applied-is n f (r ∷ rs) s e =
    elim
    (is_safe n f r)
    as (λ b. is_safe n f r
    ≡ b
    → cond b (Some (record { family = trial r f; waiting = rs }))
    (option_map (λ s. record { family = s.family; waiting = r ∷ s.waiting }) (applied_first n f rs))
    ≡ Some s → IsApplied n f (r ∷ rs) s) [
      | true ↦ λ h e. let same : record { family = trial r f; waiting = rs } ≡ s = cc in
          subst (IsApplied n f (r ∷ rs)) same
          (record {
            before = [];
            query = r;
            after = rs;
            listed = refl;
            left = refl;
            family = refl;
            can = h;
            first = refl;
          })
      | false ↦ λ h e. elim (applied_first n f rs) as
          (λ o. applied_first n f rs ≡ o
          → option_map (λ s. record { family = s.family; waiting = r ∷ s.waiting }) o ≡ Some s
          → IsApplied n f (r ∷ rs) s) [
            | None ↦ λ _ e. cc
            | Some t ↦ λ q e.
                let a = applied-is n f rs t q in
                let same : record { family = t.family; waiting = r ∷ t.waiting } ≡ s = cc in
                subst (IsApplied n f (r ∷ rs)) same (record {
                  before = r ∷ a.before;
                  query = a.query;
                  after = a.after;
                  listed = ap (λ l. r ∷ l) a.listed;
                  left = ap (λ l. r ∷ l) a.left;
                  family = a.family;
                  can = a.can;
                  first =
                      and_from (not (is_safe n f r)) (list_all (λ r. not (is_safe n f r)) a.before)
                      (ap not h) a.first;
                })
          ] refl e
    ] refl e

pub no_image : {X Y : Type 0} (g : X → Y) (o : Option X) → option_map g o ≡ None → o ≡ None
no_image g None e = refl
no_image g (Some x) e = cc

pub an_image : {X Y : Type 0} (g : X → Y) (o : Option X) (y : Y) → option_map g o ≡ Some y → (x : X)
    × (o ≡ Some x) × (g x ≡ y)
an_image g None y e = cc
an_image g (Some x) y e = (x, refl, (let same : g x ≡ y = cc in same))

pub applied-none : (n : ℕ) (f : List Items) (rs : List Query) → applied_first n f rs ≡ None
    → list_all (λ r. not (is_safe n f r)) rs ≡ true
applied-none n f [] e = refl
applied-none n f (r ∷ rs) e =
    elim
    (is_safe n f r)
    as (λ b. cond {A = Option Safe} b (Some (record { family = trial r f; waiting = rs }))
    (option_map (λ s. record { family = s.family; waiting = r ∷ s.waiting }) (applied_first n f rs))
    ≡ None → (not b && list_all (λ r. not (is_safe n f r)) rs) ≡ true) [
      | true ↦ λ e. cc
      | false ↦ λ e. applied-none n f rs
          (no_image (λ s. record { family = s.family; waiting = r ∷ s.waiting })
          (applied_first n f rs) e)
    ] e

-- one fewer waits
pub applied-fewer : (n : ℕ) (f : List Items) (rs : List Query) (s : Safe) → applied_first n f rs
    ≡ Some s → length rs ≡ suc (length s.waiting)
applied-fewer n f rs s e =
    let a = applied-is n f rs s e in
    ap length a.listed ∙ more a.before a.query a.after ∙ ap (λ l. suc (length l)) (sym a.left)
  where
    more : (before : List Query) (r : Query) (after : List Query) → length (before ++ r ∷ after)
        ≡ suc (length (before ++ after))
    more [] r after = refl
    more (x ∷ before) r after = ap suc (more before r after)

-- ---- passes

-- passes go on to the first that applies none
pub passes-all : (P : Safe → Type 0) (n m : ℕ) (s : Safe) → P s
    → ((t u : Safe) → P t → applied_first n t.family t.waiting ≡ Some u → P u) → P (passes n m s)
passes-all P n zero s first step = first
passes-all P n (suc m) s first step =
    elim (applied_first n s.family s.waiting) as
    (λ o. applied_first n s.family s.waiting ≡ o → P (option_map_or (passes n m) o s)) [
      | None ↦ λ _. first
      | Some t ↦ λ e. passes-all P n m t (step s t first e) step
    ] refl

-- as many passes as there are answers that wait, or more, end in one that applies none
pub passes-end : (n m : ℕ) (s : Safe) → length s.waiting ≤ m
    → applied_first n (passes n m s).family (passes n m s).waiting ≡ None
passes-end n zero s few = none n s.family s.waiting (omega arith)
  where
    none : (n : ℕ) (f : List Items) (rs : List Query) → length rs ≡ 0 → applied_first n f rs ≡ None
    none n f [] e = refl
    none n f (r ∷ rs) e = absurd (omega arith)
passes-end n (suc m) s few =
    elim (applied_first n s.family s.waiting) as
    (λ o. applied_first n s.family s.waiting ≡ o
    → applied_first n (option_map_or (passes n m) o s).family
    (option_map_or (passes n m) o s).waiting ≡ None) [
      | None ↦ λ e. e
      | Some t ↦ λ e. let less =
          applied-fewer n s.family s.waiting t e in passes-end n m t (omega arith)
    ] refl

-- more passes change nothing
pub passes-enough : (n m : ℕ) (s : Safe) → applied_first n s.family s.waiting ≡ None → passes n m s
    ≡ s
passes-enough n zero s e = refl
passes-enough n (suc m) s e = ap (λ o. option_map_or (passes n m) o s) e

-- ---- turns

pub left-family : (n : ℕ) (f : List Items) (r : Query) → IsFamily n f → IsFamily n (trial r f)
left-family n f r family =
    filter-IsFamily n f (λ k. not (breaks k r)) (ap not (breaks-empty r))
    (λ s t a b. ap not (unbroken-union s t r (not-true (breaks s r) a) (not-true (breaks t r) b)))
    family

-- where a pass applies none the list is settled, and else it is where what the pass leaves is
pub settled-none : (n : ℕ) (s : Safe) → applied_first n s.family s.waiting ≡ None → settled n s ≡ s
settled-none n s e = passes-enough n (length s.waiting) s e

pub settled-some : (n : ℕ) (s t : Safe) → applied_first n s.family s.waiting ≡ Some t → settled n s
    ≡ settled n t
settled-some n s t e =
    ap (λ m. passes n m s) (applied-fewer n s.family s.waiting t e) ∙ ap
    (λ o. option_map_or (passes n (length t.waiting)) o s) e

pub tried-none : (n : ℕ) (s : Safe) → applied_first n s.family s.waiting ≡ None → all_tried n s
    ≡ tried n s.family s.waiting
tried-none n s e =
    ap (λ o. tried n s.family s.waiting ++ option_map_or (tried_in n (length s.waiting)) o []) e ∙
    append-nil (tried n s.family s.waiting)

pub tried-some : (n : ℕ) (s t : Safe) → applied_first n s.family s.waiting ≡ Some t → all_tried n s
    ≡ tried n s.family s.waiting ++ all_tried n t
tried-some n s t e =
    ap (λ o. tried n s.family s.waiting ++ option_map_or (tried_in n (length s.waiting)) o []) e
    ∙ ap (λ m. tried n s.family s.waiting ++ tried_in n m t)
    (applied-fewer n s.family s.waiting t e)

pub settled-ends : (n : ℕ) (s : Safe)
    → list_all (λ q. not (is_safe n (settled n s).family q)) (settled n s).waiting ≡ true
settled-ends n s =
    let t = settled n s in applied-none n t.family t.waiting
    (passes-end n (length s.waiting) s (omega arith))

pub turn-ends : (n : ℕ) (s : Safe) (r : Query)
    → list_all (λ q. not (is_safe n (safe_turn n s r).family q)) (safe_turn n s r).waiting ≡ true
turn-ends n s r = settled-ends n (record { family = s.family; waiting = s.waiting ++ r ∷ [] })

pub turn-all : (P : List Items → Type 0) (n : ℕ) (s : Safe) (r : Query) → P s.family
    → ((f : List Items) (q : Query) → P f → is_safe n f q ≡ true → P (trial q f))
    → P (safe_turn n s r).family
turn-all P n s r first step =
    passes-all (λ t. P t.family) n (length (s.waiting ++ r ∷ []))
    (record { family = s.family; waiting = s.waiting ++ r ∷ [] }) first (λ t u h e.
    let a = applied-is n t.family t.waiting u e in
    subst P (sym a.family) (step t.family a.query h a.can))

-- what holds of the family at the start and stays after each answer that is applied holds
-- throughout
pub after-all : (P : List Items → Type 0) (n : ℕ) (s : Safe) (rs : List Query) → P s.family
    → ((f : List Items) (q : Query) → P f → is_safe n f q ≡ true → P (trial q f))
    → P (after_turns n s rs).family
after-all P n s [] first step = first
after-all P n s (r ∷ rs) first step =
    after-all P n (safe_turn n s r) rs (turn-all P n s r first step) step

after-ends : (n : ℕ) (s : Safe) (rs : List Query)
    → list_all (λ q. not (is_safe n s.family q)) s.waiting ≡ true
    → list_all (λ q. not (is_safe n (after_turns n s rs).family q)) (after_turns n s rs).waiting
    ≡ true
after-ends n s [] h = h
after-ends n s (r ∷ rs) h = after-ends n (safe_turn n s r) rs (turn-ends n s r)

pub safe-ends : (n : ℕ) (f : List Items) (answers : List Query)
    → list_all (λ q. not (is_safe n (safe n f answers).family q)) (safe n f answers).waiting ≡ true
unfolding safe
safe-ends n f answers = after-ends n (record { family = f; waiting = [] }) answers refl

pub safe-learning : (n : ℕ) (f : List Items) (answers : List Query) → is_learning_space (full n) f
    ≡ true → is_learning_space (full n) (safe n f answers).family ≡ true
unfolding safe
safe-learning n f answers h =
    after-all (λ g. is_learning_space (full n) g ≡ true) n (record { family = f; waiting = [] })
    answers h (λ g q _ can. can)

pub safe-family : (n : ℕ) (f : List Items) (answers : List Query) → IsFamily n f
    → IsFamily n (safe n f answers).family
unfolding safe
safe-family n f answers h =
    after-all (IsFamily n) n (record { family = f; waiting = [] }) answers h
    (λ g q a _. left-family n g q a)

pub safe-part : (n : ℕ) (f : List Items) (answers : List Query) → IsPart (safe n f answers).family f
unfolding safe
safe-part n f answers =
    after-all (λ g. IsPart g f) n (record { family = f; waiting = [] }) answers (λ k c. c)
    (λ g q part _ k c. part k (among-left_parts g q k c).0)

-- one more answer is one more turn
pub safe-more : (n : ℕ) (f : List Items) (answers : List Query) (r : Query)
    → safe n f (answers ++ r ∷ []) ≡ safe_turn n (safe n f answers) r
unfolding safe
safe-more n f answers r = more n (record { family = f; waiting = [] }) answers r
  where
    more : (n : ℕ) (s : Safe) (answers : List Query) (r : Query)
        → after_turns n s (answers ++ r ∷ []) ≡ safe_turn n (after_turns n s answers) r
    more n s [] r = refl
    more n s (x ∷ answers) r = more n (safe_turn n s x) answers r

-- ---- a pass, answer by answer

-- those before cannot be applied, and the next one can
pub applied-at : (n : ℕ) (f : List Items) (before : List Query) (r : Query) (rest : List Query)
    → list_all (λ q. not (is_safe n f q)) before ≡ true → is_safe n f r ≡ true
    → applied_first n f (before ++ r ∷ rest)
    ≡ Some (record { family = trial r f; waiting = before ++ rest })
applied-at n f [] r rest none can = rw can refl
applied-at n f (q ∷ before) r rest none can =
    let a = and_parts (not (is_safe n f q)) (list_all (λ q. not (is_safe n f q)) before) none in
    rw (not-true (is_safe n f q) a.0)
    (ap (option_map (λ s. record { family = s.family; waiting = q ∷ s.waiting }))
    (applied-at n f before r rest a.1 can))

pub none-applied : (n : ℕ) (f : List Items) (rs : List Query)
    → list_all (λ q. not (is_safe n f q)) rs ≡ true → applied_first n f rs ≡ None
none-applied n f [] none = refl
none-applied n f (q ∷ rs) none =
    let a = and_parts (not (is_safe n f q)) (list_all (λ q. not (is_safe n f q)) rs) none in
    rw (not-true (is_safe n f q) a.0)
    (ap (option_map (λ s. record { family = s.family; waiting = q ∷ s.waiting }))
    (none-applied n f rs a.1))

pub tried-before : (n : ℕ) (f : List Items) (before rest : List Query)
    → list_all (λ q. not (is_safe n f q)) before ≡ true → tried n f (before ++ rest)
    ≡ map (λ q. trial q f) before ++ tried n f rest
tried-before n f [] rest none = refl
tried-before n f (q ∷ before) rest none =
    let a = and_parts (not (is_safe n f q)) (list_all (λ q. not (is_safe n f q)) before) none in
    rw (not-true (is_safe n f q) a.0) (ap (λ l. trial q f ∷ l) (tried-before n f before rest a.1))

pub tried-at : (n : ℕ) (f : List Items) (r : Query) (rest : List Query) → is_safe n f r ≡ true
    → tried n f (r ∷ rest) ≡ trial r f ∷ []
tried-at n f r rest can = rw can refl
