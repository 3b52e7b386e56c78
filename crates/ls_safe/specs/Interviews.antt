-- What contracts see of a safe interview.
use Rattle.std.specs.Prelude.{ℕ, ◌≡◌, ◌<◌, true, false, List, [], ◌∷◌, map, Option, Some, None}
use Rattle.std.specs.Prelude.{option_map, ⊤}
use Rattle.std.specs.List.{list_all}
use Rattle.std.specs.Option.{option_or}
use Rattle.std.specs.Prelude.{if◌then◌else◌, nat_le, length}
use Rattle.ls_set.specs.ItemSet.{IsWithin, Items, full, is_among}
use Rattle.ls_set.specs.Query.{is_good}
use Rattle.ls_set.specs.declared.query.Query.{Query}
use Rattle.ls_theory.specs.Bases.{base, most_base_sets}
use Rattle.ls_theory.specs.Verdict.{is_learning_space}
use Rattle.ls_theory.specs.declared.verdict.BaseVerdict.{BaseVerdict}
use Rattle.ls_theory.specs.declared.verdict.BaseVerdict.TheVariants.{NotGraded}
use Rattle.ls_theory.specs.Answering.{most_answers}
use Rattle.ls_laws.specs.Families.{IsFamily}
use Rattle.ls_laws.specs.Spans.{is_double}
use Rattle.ls_base.specs.Bases.{BaseState, IsBase, family}
use Rattle.ls_origins.specs.Safe.{trial, is_safe, first_past, Marks, marked_settled}
use Rattle.ls_origins.specs.Safe.{marked, all_tried, accepted_number, waiting}
use Rattle.ls_origins.specs.declared.safe_answer.SafeAnswer.{SafeAnswer}
use Rattle.ls_origins.specs.declared.safe_fault.SafeFault.{SafeFault}
use Rattle.ls_origins.specs.declared.safe_fault.SafeFault.TheVariants as Refused
use Rattle.ls_safe.specs.Turns.{is_over, unmarked}
use Rattle.ls_safe.specs.declared.trying.Tried.{Tried}
use Rattle.ls_safe.specs.declared.trying.Tried.TheVariants as Trying
use Rattle.ls_safe.specs.declared.open_fault.OpenFault.{OpenFault}
use Rattle.ls_safe.specs.declared.open_fault.OpenFault.TheVariants as Opening

-- the base of the safe family, the accepted answers in order of number, and beside each that waits
-- a set by which it is known to wait
pub record SafeState : Type 0 where
  pub base : BaseState
  pub answers : List SafeAnswer
  pub witnesses : List Items

-- the queries of the answers
abbrev pub queries_of : List SafeAnswer → List Query
queries_of answers = map (λ a. a.query) answers

-- A witness of the answer to r: as long as it is a member, it is a set of the base of the trial
-- that is an atom at two items. It stays one when members are left out, so it tells with no trial
-- that the answer waits.
pub record IsWitness (n : ℕ) (f : List Items) (r : Query) (k : Items) : Type 0 where
  pub small : IsWithin k (full n)
  pub double :
      is_among f k ≡ true
      → (is_among (base (trial r f)) k ≡ true) × (is_double (trial r f) k ≡ true)

-- each answer that waits has a witness at its place
abbrev pub AreWitnesses : ℕ → List Items → List SafeAnswer → List Items → Type 0
AreWitnesses n f [] [] = ⊤
AreWitnesses n f [] (k ∷ ks) = ⊥
AreWitnesses n f (a ∷ answers) [] = ⊥
AreWitnesses n f (a ∷ answers) (k ∷ ks) =
    (a.applied ≡ false → IsWitness n f a.query k) × AreWitnesses n f answers ks

-- the base is one of a learning space, about whose items the queries can be asked, and each answer
-- that waits was tried on it
pub record IsSafe (s : SafeState) : Type 0 where
  pub is_base : IsBase s.base
  pub learning : is_learning_space (full s.base.item_count) (family s.base) ≡ true
  pub good : list_all (is_good s.base.item_count) (queries_of s.answers) ≡ true
  pub over : list_all (is_over s.base.item_count (family s.base)) s.answers ≡ true
  pub witnesses : AreWitnesses s.base.item_count (family s.base) s.answers s.witnesses

-- that of the accepted Yes queries, from a learning space on n items on
pub record IsSafeOf (n : ℕ) (f : List Items) (queries : List Query) (s : SafeState) : Type 0 where
  pub items : s.base.item_count ≡ n
  pub base_sets : s.base.sets ≡ base (marked n f queries).family
  pub answers : s.answers ≡ (marked n f queries).answers
  pub is_family : IsFamily n f
  pub learning : is_learning_space (full n) f ≡ true

-- the fault is the one that is found, unless memory ran out
abbrev pub IsSafeFaultOf : Option SafeFault → SafeFault → Type 0
IsSafeFaultOf found (Refused.Memory e) = ⊤
IsSafeFaultOf found fault = found ≡ Some fault

-- the fault tells the verdict, unless memory ran out
abbrev pub IsOpenFaultOf : BaseVerdict → OpenFault → Type 0
IsOpenFaultOf verdict (Opening.NotLearning k first second) = verdict ≡ NotGraded k first second
IsOpenFaultOf verdict (Opening.Memory e) = ⊤

-- ---- trials

-- what refuses a turn with the trials, if one has too large a base
abbrev pub past_fault : List (List Items) → Option SafeFault
past_fault trials = option_map Refused.Past (first_past most_base_sets trials)

-- the base is that of a trial, which is a learning space
pub record IsTrialOf (b : BaseState) (r : Query) (t : BaseState) : Type 0 where
  pub items : t.item_count ≡ b.item_count
  pub left : family t ≡ trial r (family b)
  pub can : is_safe b.item_count (family b) r ≡ true

-- what the trial of the answer comes to
abbrev pub IsTried : BaseState → Query → Tried → Type 0
IsTried b r Trying.Same = IsTrialOf b r b
IsTried b r (Trying.Left t) = IsTrialOf b r t
IsTried b r (Trying.Waits k) =
    IsWitness b.item_count (family b) r k × (is_safe b.item_count (family b) r ≡ false)

-- the family of the base, with the answers
abbrev pub marks_of : BaseState → List SafeAnswer → Marks
marks_of b answers = record { family = family b; answers = answers }

-- the base is that of a learning space on the same items
pub record IsLearningOn (n : ℕ) (t : BaseState) : Type 0 where
  pub items : t.item_count ≡ n
  pub learning : is_learning_space (full n) (family t) ≡ true

-- so a turn begins, whose answer is to the query
pub record IsBegun (b : BaseState) (answers : List SafeAnswer) (ks : List Items) (q : Query)
    : Type 0 where
  pub is_base : IsBase b
  pub learning : is_learning_space (full b.item_count) (family b) ≡ true
  pub good : list_all (is_good b.item_count) (queries_of answers) ≡ true
  pub query : is_good b.item_count q ≡ true
  pub over : list_all (is_over b.item_count (family b)) answers ≡ true
  pub witnesses : AreWitnesses b.item_count (family b) answers ks

-- on the way of a turn from a base with answers: the passes that are left come to the same
pub record IsOnWay (b : BaseState) (answers : List SafeAnswer) (t : BaseState)
    (now : List SafeAnswer) : Type 0 where
  pub learned : IsLearningOn b.item_count t
  pub good : list_all (is_good b.item_count) (queries_of now) ≡ true
  pub marks :
      marked_settled b.item_count (marks_of b answers)
      ≡ marked_settled b.item_count (marks_of t now)
  pub past :
      past_fault (all_tried b.item_count (unmarked (marks_of b answers)))
      ≡ past_fault (all_tried b.item_count (unmarked (marks_of t now)))

-- at its end each answer is applied, or was tried
pub record IsEnd (b : BaseState) (answers : List SafeAnswer) (t : BaseState)
    (after : List SafeAnswer) (ks : List Items) : Type 0 where
  pub way : IsOnWay b answers t after
  pub over : list_all (is_over b.item_count (family t)) after ≡ true
  pub witnesses : AreWitnesses b.item_count (family t) after ks

-- after a pass there are another base and fewer answers that wait, or it is the last one
abbrev pub IsPassOf : BaseState → List SafeAnswer → List SafeAnswer → List Items → Option BaseState
    → Type 0
IsPassOf b answers after ks (Some t) =
    IsOnWay b answers t after
    × AreWitnesses b.item_count (family t) after ks
    × (length (waiting after) < length (waiting answers))
IsPassOf b answers after ks None = IsEnd b answers b after ks

-- ---- answers that are not accepted

-- why an answer to the query is not accepted, whatever its trials are
abbrev pub plain_refusal : ℕ → List Query → Query → Option SafeFault
plain_refusal n answers r =
    option_or (if is_good n r then None else Some Refused.BadQuery)
    (option_or (option_map Refused.Repeat (accepted_number answers r))
    (if nat_le most_answers (length answers) then Some Refused.Full else None))
