-- Passes over the answers of a safe interview, as code makes them.
use Rattle.std.proofs.Common.{ℕ, ◌<◌, ◌≡◌, true, false, cond, not, ◌&&◌, List, []}
use Rattle.std.proofs.Common.{◌∷◌, ◌++◌, take, drop, length, option_map, Some, None, refl}
use Rattle.std.proofs.Common.{sym, ap, ap₂, ◌∙◌, subst, inl, inr, append-nil}
use Rattle.std.specs.Prelude.{◌||◌, slice_index}
use Rattle.std.specs.List.{list_all}
use Rattle.std.proofs.lemmas.Bool.{and_from, and_parts, not-true, cases_Bool}
use Rattle.std.proofs.Math.Bool.{and-false}
use Rattle.ls_lists.proofs.Places.{drop-next}
use Rattle.std.proofs.Math.Seq.{take-suc}
use Rattle.std.proofs.lemmas.List.{map-append, take-append-drop, take-set, drop-set}
use Rattle.std.specs.Prelude.{◌+◌, slice_set}
use Rattle.std.proofs.Common.{get_or, add-one}
use Rattle.ls_safe.specs.Interviews.{IsLearningOn, IsTrialOf, marks_of, queries_of}
use Rattle.ls_safe.proofs.Marking.{marked-at, none-marked}
use Rattle.ls_set.specs.ItemSet.{Items, full}
use Rattle.ls_set.specs.Query.{is_good}
use Rattle.ls_set.specs.declared.query.Query.{Query}
use Rattle.ls_theory.specs.Families.{is_space}
use Rattle.ls_theory.specs.Bases.{atom_items, base, most_base_sets}
use Rattle.ls_theory.specs.Verdict.{base_verdict, double_atom, is_learning_space, is_well_graded}
use Rattle.ls_theory.specs.declared.verdict.BaseVerdict.TheVariants.{Learning, NotGraded}
use Rattle.ls_laws.specs.Spans.{spanned}
use Rattle.ls_laws.proofs.Families.{family_sets, spanned-IsFamily}
use Rattle.ls_laws.proofs.Spans.{spanned-base}
use Rattle.ls_base.specs.Bases.{BaseState, family}
use Rattle.ls_origins.specs.Safe.{trial, is_safe, waiting, tried, first_past, marked_first}
use Rattle.ls_origins.specs.declared.safe_answer.SafeAnswer.{SafeAnswer}
use Rattle.ls_origins.specs.declared.safe_fault.SafeFault.{SafeFault}
use Rattle.ls_origins.specs.declared.safe_fault.SafeFault.TheVariants as Refused
use Rattle.ls_safe.specs.Turns.{is_over, is_passed, is_past, is_still}
use Rattle.ls_safe.specs.Interviews.{IsSafeFaultOf, past_fault}
use Rattle.ls_safe.proofs.Turns.{left-family}
use Rattle.ls_safe.proofs.Tries.{trial-space}
use Rattle.ls_safe.proofs.Interviews.{learned}

-- ---- one trial

pub trial-left : (b t : BaseState) (r : Query) → t.item_count ≡ b.item_count
    → t.sets ≡ base (trial r (family b)) → family t ≡ trial r (family b)
trial-left b t r items sets =
    let f = left-family b.item_count (family b) r (spanned-IsFamily b.item_count b.sets) in
    ap₂ spanned items sets ∙ spanned-base b.item_count (trial r (family b)) f.in_order
    (family_sets b.item_count (trial r (family b)) f)

-- where no base set breaks the query the trial is the family itself
pub trial-same : (b : BaseState) (r : Query) → base (trial r (family b)) ≡ b.sets
    → is_learning_space (full b.item_count) (family b) ≡ true → IsTrialOf b r b
trial-same b r same learning =
    let left = trial-left b b r refl (sym same) in
    record {
      items = refl;
      left = left;
      can = subst (λ f. is_learning_space (full b.item_count) f ≡ true) left learning;
    }

is_learned-space : (whole : Items) (f : List Items) → is_learning_space whole f ≡ true
    → is_space whole f ≡ true
is_learned-space whole f h = (and_parts (is_space whole f) (is_well_graded f) h).0

pub trial-can : (n : ℕ) (f g : List Items) (r : Query) → is_learning_space (full n) f ≡ true
    → is_good n r ≡ true → g ≡ trial r f → base_verdict g ≡ Learning → is_safe n f r ≡ true
trial-can n f g r learning good is e =
    learned (full n) (trial r f)
    (trial-space n f r good (is_learned-space (full n) f learning))
    (ap base_verdict (sym is) ∙ e)

pub trial-cannot : (n : ℕ) (f g : List Items) (r : Query) (k : Items) (i j : ℕ) → g ≡ trial r f
    → base_verdict g ≡ NotGraded k i j → is_safe n f r ≡ false
trial-cannot n f g r k i j is e =
    subst (λ h. is_learning_space (full n) h ≡ false) is (unlearned (full n) g k i j e)
  where
    unlearned : (whole : Items) (g : List Items) (k : Items) (i j : ℕ)
        → base_verdict g ≡ NotGraded k i j → is_learning_space whole g ≡ false
    unlearned whole g k i j e =
        elim (is_well_graded g) as
        (λ b. cond b Learning (NotGraded (double_atom g)
        (slice_index (atom_items g (double_atom g)) 0)
        (slice_index (atom_items g (double_atom g)) 1))
        ≡ NotGraded k i j → (is_space whole g && b) ≡ false) [
          | true ↦ λ e. cc
          | false ↦ λ _. and-false (is_space whole g)
        ] e

-- ---- answers that a pass goes over

pub over-last : (n : ℕ) (f : List Items) (xs : List SafeAnswer) (a : SafeAnswer)
    → list_all (is_over n f) xs ≡ true → is_over n f a ≡ true
    → list_all (is_over n f) (xs ++ a ∷ []) ≡ true
over-last n f [] a over h = and_from (is_over n f a) true h refl
over-last n f (x ∷ xs) a over h =
    let b = and_parts (is_over n f x) (list_all (is_over n f) xs) over in
    and_from (is_over n f x) (list_all (is_over n f) (xs ++ a ∷ [])) b.0
    (over-last n f xs a b.1 h)

pub over-more : (n : ℕ) (f : List Items) (answers : List SafeAnswer) (place : ℕ) (a : SafeAnswer)
    → place < length answers → a ≡ get_or answers place a
    → list_all (is_over n f) (take place answers) ≡ true → is_over n f a ≡ true
    → list_all (is_over n f) (take (place + 1) answers) ≡ true
over-more n f answers place a less at over h =
    ap (λ k. list_all (is_over n f) (take k answers)) (add-one place)
    ∙ ap (list_all (is_over n f)) (take-suc answers place a less)
    ∙ ap (λ x. list_all (is_over n f) (take place answers ++ x ∷ [])) (sym at)
    ∙ over-last n f (take place answers) a over h

pub over-applied : (n : ℕ) (f : List Items) (a : SafeAnswer) → a.applied ≡ true
    → is_over n f a ≡ true
over-applied n f a on = rw on refl

unpast : (g : List Items) → past_fault (g ∷ []) ≡ None → is_past most_base_sets g ≡ false
unpast g e =
    elim (is_past most_base_sets g) as
    (λ b. option_map Refused.Past (cond b (Some (length (base g))) None) ≡ None → b ≡ false) [
      | true ↦ λ e. cc
      | false ↦ λ _. refl
    ] e

pub over-within : (n : ℕ) (f : List Items) (a : SafeAnswer) → is_safe n f a.query ≡ false
    → is_past most_base_sets (trial a.query f) ≡ false → is_over n f a ≡ true
over-within n f a off within =
    elim a.applied as (λ b. (b || is_still most_base_sets n f a.query) ≡ true) [
      | true ↦ refl
      | false ↦ and_from (not (is_safe n f a.query))
          (not (is_past most_base_sets (trial a.query f))) (ap not off) (ap not within)
    ]

pub over-tried : (n : ℕ) (f : List Items) (a : SafeAnswer) → is_safe n f a.query ≡ false
    → past_fault (trial a.query f ∷ []) ≡ None → is_over n f a ≡ true
over-tried n f a off e = over-within n f a off (unpast (trial a.query f) e)

pub over-passed : (n : ℕ) (f : List Items) (before : List SafeAnswer)
    → list_all (is_over n f) before ≡ true → list_all (is_passed n f) before ≡ true
over-passed n f [] over = refl
over-passed n f (a ∷ before) over =
    let b = and_parts (is_over n f a) (list_all (is_over n f) before) over in
    and_from (is_passed n f a) (list_all (is_passed n f) before) (one a b.0)
    (over-passed n f before b.1)
  where
    one : (a : SafeAnswer) → is_over n f a ≡ true → is_passed n f a ≡ true
    one a h = elim (cases_Bool a.applied) [
      | inl on ↦ rw on refl
      | inr off ↦
          let still : is_still most_base_sets n f a.query ≡ true =
          subst (λ b. (b || is_still most_base_sets n f a.query) ≡ true) off h in
          rw off (and_parts (not (is_safe n f a.query))
          (not (is_past most_base_sets (trial a.query f))) still).0
    ]

-- the trials of those before are within the limit
pub over-past : (n : ℕ) (f : List Items) (before rest : List SafeAnswer)
    → list_all (is_over n f) before ≡ true
    → past_fault (tried n f (waiting (before ++ rest))) ≡ past_fault (tried n f (waiting rest))
over-past n f [] rest over = refl
over-past n f (a ∷ before) rest over =
    let b = and_parts (is_over n f a) (list_all (is_over n f) before) over in
    let i = over-past n f before rest b.1 in
    elim (cases_Bool a.applied) [
      | inl on ↦ rw on i
      | inr off ↦
          let still : is_still most_base_sets n f a.query ≡ true =
          subst (λ b. (b || is_still most_base_sets n f a.query) ≡ true) off b.0 in
          let s = and_parts (not (is_safe n f a.query))
          (not (is_past most_base_sets (trial a.query f))) still in
          rw (
            off,
            not-true (is_safe n f a.query) s.0,
            not-true (is_past most_base_sets (trial a.query f)) s.1,
          ) i
    ]

-- ---- faults

past-longer : (gs hs : List (List Items)) (e : SafeFault) → past_fault gs ≡ Some e
    → past_fault (gs ++ hs) ≡ Some e
past-longer [] hs e h = cc
past-longer (g ∷ gs) hs e h =
    elim (is_past most_base_sets g) as
    (λ b. option_map Refused.Past (cond b (Some (length (base g))) (first_past most_base_sets gs))
    ≡ Some e → option_map Refused.Past (cond b (Some (length (base g)))
    (first_past most_base_sets (gs ++ hs))) ≡ Some e) [
      | true ↦ λ h. h
      | false ↦ λ h. past-longer gs hs e h
    ] h

pub fault-longer : (gs hs : List (List Items)) (e : SafeFault) → IsSafeFaultOf (past_fault gs) e
    → IsSafeFaultOf (past_fault (gs ++ hs)) e
fault-longer gs hs Refused.BadQuery h = past-longer gs hs Refused.BadQuery h
fault-longer gs hs (Refused.Repeat k) h = past-longer gs hs (Refused.Repeat k) h
fault-longer gs hs Refused.Full h = past-longer gs hs Refused.Full h
fault-longer gs hs (Refused.Past k) h = past-longer gs hs (Refused.Past k) h
fault-longer gs hs (Refused.Memory e) h = h

-- ---- what a pass finds

pub parted : (answers : List SafeAnswer) (place : ℕ) (a : SafeAnswer) → place < length answers
    → a ≡ get_or answers place a → answers ≡ take place answers ++ a ∷ drop (place + 1) answers
parted answers place a less at =
    sym (take-append-drop place answers)
    ∙ ap (λ l. take place answers ++ l) (drop-next answers place a less at)

pub replaced : (answers : List SafeAnswer) (place : ℕ) (a : SafeAnswer) → place < length answers
    → slice_set answers place a ≡ take place answers ++ a ∷ drop (place + 1) answers
replaced answers place a less =
    sym (take-append-drop place (slice_set answers place a))
    ∙ ap₂ (λ xs ys. xs ++ ys) (take-set answers place a) (drop-set answers place a less)

pub same_at : (answers : List SafeAnswer) (place : ℕ) (a m : SafeAnswer) → place < length answers
    → a ≡ get_or answers place a → m ≡ get_or answers place m → m ≡ a
same_at answers place a m less at there =
    let same : m ∷ drop (place + 1) answers ≡ a ∷ drop (place + 1) answers =
    sym (drop-next answers place m less there) ∙ drop-next answers place a less at in
    cc

-- the trials of a pass, from an answer that waits on
pub pass-trials : (n : ℕ) (f : List Items) (before : List SafeAnswer) (a : SafeAnswer)
    (rest : List SafeAnswer) → a.applied ≡ false → list_all (is_over n f) before ≡ true
    → past_fault (tried n f (waiting (before ++ a ∷ rest)))
    ≡ past_fault (trial a.query f ∷ cond (is_safe n f a.query) [] (tried n f (waiting rest)))
pass-trials n f before a rest off over =
    over-past n f before (a ∷ rest) over ∙ waits a rest off
  where
    waits : (a : SafeAnswer) (rest : List SafeAnswer) → a.applied ≡ false
        → past_fault (tried n f (waiting (a ∷ rest)))
        ≡ past_fault (trial a.query f ∷ cond (is_safe n f a.query) [] (tried n f (waiting rest)))
    waits a rest off = rw off refl

-- the answer with a mark
abbrev pub applied_now : SafeAnswer → SafeAnswer
applied_now a = record { number = a.number; query = a.query; applied = true }

-- one answer was marked, the first that waits and can be applied: there is the base of its trial
pub record IsMarked (b : BaseState) (answers : List SafeAnswer) (t : BaseState)
    (after : List SafeAnswer) : Type 0 where
  pub learned : IsLearningOn b.item_count t
  pub marks : marked_first b.item_count (family b) answers ≡ Some (marks_of t after)

pub pass-some : (b t : BaseState) (before : List SafeAnswer) (a : SafeAnswer)
    (rest : List SafeAnswer) → a.applied ≡ false
    → list_all (is_over b.item_count (family b)) before ≡ true → IsTrialOf b a.query t
    → IsMarked b (before ++ a ∷ rest) t (before ++ applied_now a ∷ rest)
pass-some b t before a rest off over i =
    let n = b.item_count in
    let f = family b in
    let listed : before ++ a ∷ rest
    ≡ before ++ record { number = a.number; query = a.query; applied = false } ∷ rest =
    ap (λ x. before ++ record { number = a.number; query = a.query; applied = x } ∷ rest) off in
    record {
      learned = record {
        items = i.items;
        learning = subst (λ g. is_learning_space (full n) g ≡ true) (sym i.left) i.can;
      };
      marks =
          ap (marked_first n f) listed
          ∙ marked-at n f before a.number a.query rest (over-passed n f before over) i.can
          ∙ ap (λ g. Some (record { family = g; answers = before ++ applied_now a ∷ rest }))
          (sym i.left);
    }

pub pass-none : (n : ℕ) (f : List Items) (answers : List SafeAnswer)
    → list_all (is_over n f) answers ≡ true
    → (marked_first n f answers ≡ None) × (past_fault (tried n f (waiting answers)) ≡ None)
pass-none n f answers over = (
  none-marked n f answers (over-passed n f answers over),
  ap (λ l. past_fault (tried n f (waiting l))) (sym (append-nil answers))
      ∙ over-past n f answers [] over,
)

pub good-at : (n : ℕ) (answers : List SafeAnswer) (place : ℕ) (a : SafeAnswer)
    → place < length answers → a ≡ get_or answers place a
    → list_all (is_good n) (queries_of answers) ≡ true → is_good n a.query ≡ true
good-at n answers place a less at good =
    let listed = ap queries_of (parted answers place a less at)
    ∙ map-append (λ x. x.query) (take place answers) (a ∷ drop (place + 1) answers) in
    among (queries_of (take place answers)) a.query (queries_of (drop (place + 1) answers))
    (ap (list_all (is_good n)) (sym listed) ∙ good)
  where
    among : (before : List Query) (r : Query) (rest : List Query)
        → list_all (is_good n) (before ++ r ∷ rest) ≡ true → is_good n r ≡ true
    among [] r rest h = (and_parts (is_good n r) (list_all (is_good n) rest) h).0
    among (x ∷ before) r rest h =
        among before r rest
        (and_parts (is_good n x) (list_all (is_good n) (before ++ r ∷ rest)) h).1
