-- Answers that a safe interview accepts, and those that it does not.
use Rattle.std.proofs.Common.{ℕ, suc, ◌+◌, ◌≡◌, true, cond, List, [], ◌∷◌, ◌++◌, length}
use Rattle.std.proofs.Common.{option_map, Option, Some, None, refl, sym, ap, ap₂, ◌∙◌, subst}
use Rattle.std.specs.List.{list_all}
use Rattle.std.specs.Prelude.{if◌then◌else◌, nat_le}
use Rattle.std.specs.Option.{option_or}
use Rattle.ls_set.specs.ItemSet.{Items, full}
use Rattle.ls_set.specs.Query.{is_good}
use Rattle.ls_set.specs.declared.query.Query.{Query}
use Rattle.ls_theory.specs.Answering.{most_answers}
use Rattle.ls_theory.specs.Bases.{base, most_base_sets}
use Rattle.ls_theory.specs.Verdict.{is_learning_space}
use Rattle.ls_laws.specs.Families.{IsFamily}
use Rattle.ls_laws.specs.Spans.{spanned}
use Rattle.ls_laws.proofs.Families.{family_sets}
use Rattle.ls_laws.proofs.Spans.{spanned-base}
use Rattle.ls_base.specs.Bases.{IsBase, family}
use Rattle.ls_origins.specs.Safe.{accepted_number, all_tried, awaited, coming, marked}
use Rattle.ls_origins.specs.Safe.{marked_settled}
use Rattle.ls_origins.specs.Safe.{marked_turn, safe, safe_refusal, turn_past}
use Rattle.ls_origins.specs.declared.safe_answer.SafeAnswer.{SafeAnswer}
use Rattle.ls_origins.specs.declared.safe_fault.SafeFault.{SafeFault}
use Rattle.ls_origins.specs.declared.safe_fault.SafeFault.TheVariants as Refused
use Rattle.ls_safe.specs.Turns.{is_over, unmarked}
use Rattle.ls_safe.specs.Interviews.{AreWitnesses, IsEnd, IsSafe, IsSafeFaultOf, IsSafeOf}
use Rattle.ls_safe.specs.Interviews.{SafeState}
use Rattle.ls_safe.specs.Interviews.{marks_of, past_fault, plain_refusal, queries_of}
use Rattle.ls_safe.proofs.OnWay.{way-ends}
use Rattle.ls_safe.proofs.Turns.{safe-family}
use Rattle.ls_safe.proofs.Marked.{marked-more, marked-queries, marked-safe}
use Rattle.ls_safe.proofs.Marked.{waiting-more}
use Rattle.std.proofs.Common.{◌<◌, ◌≤◌, add-one, position}
use Rattle.std.proofs.lemmas.Bool.{le-leb, lt-leb}
use Rattle.ls_theory.specs.Answering.{is_same_query}
use Rattle.ls_lists.proofs.Places.{position-map}

-- ---- what a safe interview means

is_family : (n : ℕ) (f : List Items) (queries : List Query) → IsFamily n f
    → IsFamily n (marked n f queries).family
is_family n f queries h =
    subst (λ s. IsFamily n s.family) (sym (marked-safe n f queries)) (safe-family n f queries h)

family-is : (n : ℕ) (f : List Items) (queries : List Query) (s : SafeState)
    → IsSafeOf n f queries s → family s.base ≡ (marked n f queries).family
family-is n f queries s i =
    let g = (marked n f queries).family in
    let h = is_family n f queries i.is_family in
    ap₂ spanned i.items i.base_sets ∙ spanned-base n g h.in_order (family_sets n g h)

marks-are : (n : ℕ) (f : List Items) (queries : List Query) (s : SafeState)
    → IsSafeOf n f queries s → marks_of s.base s.answers ≡ marked n f queries
marks-are n f queries s i =
    ap₂ (λ g l. record { family = g; answers = l }) (family-is n f queries s i) i.answers

queries-are : (n : ℕ) (f : List Items) (queries : List Query) (s : SafeState)
    → IsSafeOf n f queries s → queries_of s.answers ≡ queries
queries-are n f queries s i = ap queries_of i.answers ∙ marked-queries n f queries

-- ---- what is accepted

length-queries : (answers : List SafeAnswer) → length (queries_of answers) ≡ length answers
length-queries [] = refl
length-queries (a ∷ answers) = ap suc (length-queries answers)

pub number-is : (n : ℕ) (f : List Items) (queries : List Query) (s : SafeState)
    → IsSafeOf n f queries s → length s.answers ≡ length queries
number-is n f queries s i =
    sym (length-queries s.answers) ∙ ap length (queries-are n f queries s i)

pub answered : (n : ℕ) (f : List Items) (queries : List Query) (s t : SafeState) (q : Query)
    → IsSafeOf n f queries s → base (family t.base) ≡ t.base.sets
    → IsEnd s.base (s.answers ++ coming s.answers q ∷ []) t.base t.answers t.witnesses
    → IsSafeOf n f (queries ++ q ∷ []) t
answered n f queries s t q i is_base e =
    let ends =
    way-ends s.base t.base (s.answers ++ coming s.answers q ∷ []) t.answers e.way e.over in
    let turned : marked_turn n (marks_of s.base s.answers) q ≡ marks_of t.base t.answers =
    subst (λ m. marked_settled m (marks_of s.base (s.answers ++ coming s.answers q ∷ []))
    ≡ marks_of t.base t.answers) i.items ends.0 in
    let made : marked n f (queries ++ q ∷ []) ≡ marks_of t.base t.answers =
    marked-more n f queries q
    ∙ ap (λ m. marked_turn n m q) (sym (marks-are n f queries s i)) ∙ turned in
    record {
      items = e.way.learned.items ∙ i.items;
      base_sets = sym is_base ∙ ap (λ m. base m.family) (sym made);
      answers = ap (λ m. m.answers) (sym made);
      is_family = i.is_family;
      learning = i.learning;
    }

-- what the end of a turn leaves is a safe interview
pub safe-after : (s t : SafeState) (q : Query) → IsBase t.base
    → IsEnd s.base (s.answers ++ coming s.answers q ∷ []) t.base t.answers t.witnesses → IsSafe t
safe-after s t q is_base e =
    let same = sym e.way.learned.items in
    record {
      is_base = is_base;
      learning =
          subst (λ m. is_learning_space (full m) (family t.base) ≡ true) same
          e.way.learned.learning;
      good = subst (λ m. list_all (is_good m) (queries_of t.answers) ≡ true) same e.way.good;
      over = subst (λ m. list_all (is_over m (family t.base)) t.answers ≡ true) same e.over;
      witnesses =
          subst (λ m. AreWitnesses m (family t.base) t.answers t.witnesses) same e.witnesses;
    }

-- ---- what is not

or-assoc : {X : Type 0} (a b c d : Option X)
    → option_or a (option_or b (option_or c d)) ≡ option_or (option_or a (option_or b c)) d
or-assoc (Some x) b c d = refl
or-assoc None (Some x) c d = refl
or-assoc None None c d = refl

refusal-is : (n : ℕ) (f : List Items) (queries : List Query) (r : Query)
    → safe_refusal n f queries r
    ≡ option_or (plain_refusal n queries r)
    (option_map Refused.Past (turn_past most_base_sets n (safe n f queries) r))
unfolding safe_refusal
refusal-is n f queries r =
    or-assoc (if is_good n r then None else Some Refused.BadQuery)
    (option_map Refused.Repeat (accepted_number queries r))
    (if nat_le most_answers (length queries) then Some Refused.Full else None)
    (option_map Refused.Past (turn_past most_base_sets n (safe n f queries) r))

plain-is : (n : ℕ) (f : List Items) (queries : List Query) (s : SafeState) (r : Query)
    → IsSafeOf n f queries s
    → plain_refusal s.base.item_count (queries_of s.answers) r ≡ plain_refusal n queries r
plain-is n f queries s r i =
    ap₂ (λ m qs. plain_refusal m qs r) i.items (queries-are n f queries s i)

past-is : (n : ℕ) (f : List Items) (queries : List Query) (s : SafeState) (r : Query)
    → IsSafeOf n f queries s
    → past_fault (all_tried s.base.item_count
    (unmarked (marks_of s.base (s.answers ++ coming s.answers r ∷ []))))
    ≡ option_map Refused.Past (turn_past most_base_sets n (safe n f queries) r)
past-is n f queries s r i =
    let waits : unmarked (marks_of s.base (s.answers ++ coming s.answers r ∷ []))
    ≡ awaited (unmarked (marks_of s.base s.answers)) r =
    ap (λ l. record { family = family s.base; waiting = l })
    (waiting-more s.answers (suc (length s.answers)) r) in
    ap₂ (λ m t. past_fault (all_tried m t)) i.items
    (waits ∙ ap (λ m. awaited m r)
    (ap unmarked (marks-are n f queries s i) ∙ marked-safe n f queries))

pub accepted : (n : ℕ) (f : List Items) (queries : List Query) (s t : SafeState) (r : Query)
    → IsSafeOf n f queries s
    → plain_refusal s.base.item_count (queries_of s.answers) r ≡ None
    → IsEnd s.base (s.answers ++ coming s.answers r ∷ []) t.base t.answers t.witnesses
    → safe_refusal n f queries r ≡ None
accepted n f queries s t r i plain e =
    let ends =
    way-ends s.base t.base (s.answers ++ coming s.answers r ∷ []) t.answers e.way e.over in
    refusal-is n f queries r
    ∙ ap₂ option_or (sym (plain-is n f queries s r i) ∙ plain)
    (sym (past-is n f queries s r i) ∙ ends.1)

pub refused-past : (n : ℕ) (f : List Items) (queries : List Query) (s : SafeState) (r : Query)
    (e : SafeFault) → IsSafeOf n f queries s
    → plain_refusal s.base.item_count (queries_of s.answers) r ≡ None
    → IsSafeFaultOf (past_fault (all_tried s.base.item_count
    (unmarked (marks_of s.base (s.answers ++ coming s.answers r ∷ []))))) e
    → IsSafeFaultOf (safe_refusal n f queries r) e
refused-past n f queries s r e i plain past =
    subst (λ o. IsSafeFaultOf o e)
    (past-is n f queries s r i
    ∙ sym (refusal-is n f queries r
    ∙ ap (λ o. option_or o (option_map Refused.Past
    (turn_past most_base_sets n (safe n f queries) r)))
    (sym (plain-is n f queries s r i) ∙ plain))) past

found-fault : (o : Option SafeFault) (e : SafeFault) → o ≡ Some e → IsSafeFaultOf o e
found-fault o Refused.BadQuery h = h
found-fault o (Refused.Repeat k) h = h
found-fault o Refused.Full h = h
found-fault o (Refused.Past k) h = h
found-fault o (Refused.Memory x) h = tt

pub refused-plain : (n : ℕ) (f : List Items) (queries : List Query) (s : SafeState) (r : Query)
    (e : SafeFault) → IsSafeOf n f queries s
    → plain_refusal s.base.item_count (queries_of s.answers) r ≡ Some e
    → IsSafeFaultOf (safe_refusal n f queries r) e
refused-plain n f queries s r e i plain =
    found-fault (safe_refusal n f queries r) e
    (refusal-is n f queries r
    ∙ ap (λ o. option_or o (option_map Refused.Past
    (turn_past most_base_sets n (safe n f queries) r)))
    (sym (plain-is n f queries s r i) ∙ plain))

-- ---- the plain refusals, by the place of an answer to the query

plain-steps : (n : ℕ) (answers : List SafeAnswer) (r : Query) (o : Option ℕ)
    → is_good n r ≡ true → position (λ a. is_same_query a.query r) answers ≡ o
    → plain_refusal n (queries_of answers) r
    ≡ option_or (option_map Refused.Repeat (option_map suc o))
    (cond (nat_le most_answers (length answers)) (Some Refused.Full) None)
plain-steps n answers r o good e =
    ap₂ (λ b m. option_or (cond b None (Some Refused.BadQuery))
    (option_or (option_map Refused.Repeat (option_map suc m))
    (cond (nat_le most_answers (length (queries_of answers))) (Some Refused.Full) None)))
    good (sym (position-map (λ a. a.query) (λ q. is_same_query q r) answers) ∙ e)
    ∙ ap (λ l. option_or (option_map Refused.Repeat (option_map suc o))
    (cond (nat_le most_answers l) (Some Refused.Full) None)) (length-queries answers)

pub plain-repeat : (n : ℕ) (answers : List SafeAnswer) (r : Query) (place : ℕ)
    → is_good n r ≡ true → position (λ a. is_same_query a.query r) answers ≡ Some place
    → plain_refusal n (queries_of answers) r ≡ Some (Refused.Repeat (place + 1))
plain-repeat n answers r place good e =
    plain-steps n answers r (Some place) good e
    ∙ ap (λ k. Some (Refused.Repeat k)) (sym (add-one place))

pub plain-full : (n : ℕ) (answers : List SafeAnswer) (r : Query)
    → is_good n r ≡ true → position (λ a. is_same_query a.query r) answers ≡ None
    → most_answers ≤ length answers
    → plain_refusal n (queries_of answers) r ≡ Some Refused.Full
plain-full n answers r good e many =
    plain-steps n answers r None good e
    ∙ ap (λ b. cond {A = Option SafeFault} b (Some Refused.Full) None)
    (le-leb most_answers (length answers) many)

pub plain-none : (n : ℕ) (answers : List SafeAnswer) (r : Query)
    → is_good n r ≡ true → position (λ a. is_same_query a.query r) answers ≡ None
    → length answers < most_answers
    → plain_refusal n (queries_of answers) r ≡ None
plain-none n answers r good e few =
    plain-steps n answers r None good e
    ∙ ap (λ b. cond {A = Option SafeFault} b (Some Refused.Full) None)
    (lt-leb most_answers (length answers) few)
