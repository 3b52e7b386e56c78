-- What can be said of an interview that stands, and the bytes of what is shown.
use Rattle.ls_write.proofs.Vocabulary.{◌otherwise◌, ◌∙◌, ◌≡◌, BaseVerdict, Bool, CanSay, CanShow}
use Rattle.ls_write.proofs.Vocabulary.{Err, Interview, IsAfterOn, IsSound, IsViewOn, Items, List}
use Rattle.ls_write.proofs.Vocabulary.{None, Ok, Option, Peak, Response, Result, Session, Shown}
use Rattle.ls_write.proofs.Vocabulary.{Some, Text, View, ℕ, and_from, and_parts, ap, atom_items}
use Rattle.ls_write.proofs.Vocabulary.{base_verdict, based_row, bytes_of, cases_Bool, clauses_at}
use Rattle.ls_write.proofs.Vocabulary.{compatible_sets, double_atom, false, fringes, full, inl, inr}
use Rattle.ls_write.proofs.Vocabulary.{is_among, is_good, is_learning_space, is_order, is_space}
use Rattle.ls_write.proofs.Vocabulary.{is_well_graded, items, known, learned, learning_refusals}
use Rattle.ls_write.proofs.Vocabulary.{length, lines_bytes, lines_of, not, past_refusal}
use Rattle.ls_write.proofs.Vocabulary.{paths_shown, peak_of, project_row, refl, refuse}
use Rattle.ls_write.proofs.Vocabulary.{refuse_fault, shown_lines, slice_index, state_of}
use Rattle.ls_write.proofs.Vocabulary.{state_shown, states_row, subst, sym, true, view_row}
use Rattle.ls_expert.proofs.Spaces.{compatible-space}
use Rattle.ls_theory.specs.declared.verdict.BaseVerdict.TheVariants as of_base
use Rattle.ls_theory.specs.declared.answer_fault.AnswerFault.TheVariants.{BadQuery}
use Rattle.ls_set.specs.declared.cursor.CursorFault.{CursorFault}
use Rattle.ls_origins.specs.Relations.{first_clauses, relation_fault}
use Rattle.ls_origins.specs.declared.relation_fault.RelationFault.{RelationFault}
use Rattle.ls_meaning.specs.RelationRows.{covers_unless}
use Rattle.ls_write.proofs.Atoms.{length-clauses}
use Rattle.ls_meaning.specs.declared.response.Refusal.{Refusal}
use Rattle.ls_meaning.specs.declared.response.Refusal.TheVariants as refusal_of
use Rattle.ls_meaning.specs.declared.response.Response.TheVariants as response
use Rattle.ls_meaning.specs.declared.response.Shown.TheVariants as shown
use Rattle.ls_meaning.specs.declared.request.View.TheVariants as view

-- ---- what is shown, by what it is

pub shown-same : (names : List Text) (i : Interview) {a b : Shown} → a ≡ b
    → lines_bytes (shown_lines names i b) ≡ lines_bytes (shown_lines names i a)
shown-same names i {a} {b} e = ap (λ (what : Shown). lines_bytes (shown_lines names i what)) (sym e)

-- and a response
pub said-same : (s : Session) {a b : Response} → a ≡ b → bytes_of (lines_of s b)
    ≡ bytes_of (lines_of s a)
said-same s {a} {b} e = ap (λ (r : Response). bytes_of (lines_of s r)) (sym e)

-- ---- what stands on the states

-- a space whose verdict is `Learning` is a learning space
learning-from : (n : ℕ) (f : List Items) → is_space (full n) f ≡ true → base_verdict f
    ≡ of_base.Learning → is_learning_space (full n) f ≡ true
learning-from n f space h =
    and_from (is_space (full n) f) (is_well_graded f) space (elim (cases_Bool (is_well_graded f)) [
      | inl graded ↦ graded
      | inr not_graded ↦ absurd (
          let k = double_atom f in
          let same : of_base.NotGraded k (slice_index (atom_items f k) 0)
          (slice_index (atom_items f k) 1) ≡ of_base.Learning = rw not_graded at h in cc)
    ])

module _ (i : Interview) (sound : IsSound i) where
  abbrev n : ℕ
  n = i.count

  abbrev f : List Items
  f = compatible_sets i

  can-refused : (refusal : Refusal) (holds : Bool) (what : Shown) → CanShow n i what
      → CanSay n i (refuse refusal holds otherwise response.Shown what)
  can-refused refusal true what can = tt
  can-refused refusal false what can = can

  can-based : (r : Response) → CanSay n i r → CanSay n i (based_row i r)
  can-based r can = go (peak_of i)
    where
      go : (peak : Option Peak) → CanSay n i (refuse_fault past_refusal peak otherwise r)
      go None = can
      go (Some peak) = tt

  can-learned : (r : Response) → (is_learning_space (full n) f ≡ true → CanSay n i r)
      → CanSay n i (learned f r)
  can-learned r can = go (base_verdict f) refl
    where
      go : (v : BaseVerdict) → base_verdict f ≡ v → CanSay n i (learning_refusals v otherwise r)
      go (of_base.NotGraded k first second) h = tt
      go of_base.Learning h = can (learning-from n f (compatible-space i sound) h)

  can-after : (count : ℕ) (after : Result (Option Items) CursorFault) → IsAfterOn n after
      → CanSay n i (states_row count after)
  can-after count (Ok after) on = on
  can-after count (Err fault) on = tt

  can-projected : (part : Items) (count : ℕ) (after : Result (Option Items) CursorFault)
      → IsAfterOn n after → CanSay n i (project_row part count after)
  can-projected part count (Ok after) on = on
  can-projected part count (Err fault) on = tt

  can-state : (k : Option Items) → CanSay n i (state_shown k)
  can-state None = tt
  can-state (Some k) = tt

  can-paths : (count : ℕ) (after : Option (List ℕ)) → is_learning_space (full n) f ≡ true
      → CanSay n i (paths_shown n count after)
  can-paths count None learning = (learning, λ order e. absurd (cc e))
  can-paths count (Some items) learning =
      elim
      (is_order n items)
      as (λ b. is_order n items ≡ b
      → CanSay
      n i
      (refuse refusal_of.NotOrder (not b) otherwise response.Shown
      (shown.Paths count (Some items)))) [
        | true
            ↦ λ
            e. (
              learning,
              λ order h. let same : items
                  ≡ order = cc h in subst (λ o. is_order n o ≡ true) same e,
            )
        | false ↦ λ e. tt
      ] refl

  can-relation : (fault : Option RelationFault)
      → CanSay n i (covers_unless n (first_clauses (clauses_at n f)) fault)
  can-relation None = tt
  can-relation (Some fault) = tt

  can-row : (v : View) → IsViewOn n v → CanSay n i (view_row i v)
  can-row (view.Known r) on =
      can-refused (refusal_of.Answer BadQuery) (not (is_good n r)) (shown.Known (known i r)) tt
  can-row view.Ask on = tt
  can-row (view.States count after) on = can-after count after on
  can-row view.Base on = can-based _ tt
  can-row view.Surmise on = can-based _ (length-clauses n f)
  can-row view.Learning on = can-based _ tt
  can-row view.SkillMap on = can-based _ tt
  can-row view.Relation on = can-based _ (can-relation (relation_fault n (clauses_at n f)))
  can-row (view.Project part count after) on = can-projected part count after on.1
  can-row (view.ProjectBase part) on = can-based _ tt
  can-row (view.Fringes k) on =
      can-refused refusal_of.NotState (not (is_among f k)) (shown.Fringes (fringes n f k)) tt
  can-row (view.StateOf inner outer) on =
      can-based _ (can-learned _ (λ learning. can-state (state_of n f inner outer)))
  can-row (view.Paths count after) on = can-based _ (can-learned _ (can-paths count after))

-- what a look at an interview shows can be said
pub can-view : (n : ℕ) (i : Interview) → n ≡ i.count → IsSound i → (v : View) → IsViewOn n v
    → CanSay n i (view_row i v)
can-view n i items sound v on =
    subst (λ m. CanSay m i (view_row i v)) (sym items)
    (can-row i sound v (subst (λ m. IsViewOn m v) items on))
