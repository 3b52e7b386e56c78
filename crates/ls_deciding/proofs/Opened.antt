-- A safe interview that begins with the base of an interview's states.
use Rattle.std.proofs.Common.{◌≡◌, ◌∙◌, ◌++◌, ◌∷◌, Err, IfOk, List, None, OnOk, Ok, Result, Some, [], ap, ap₂, length, refl, subst, sym, true}
use Rattle.std.specs.declared.option.Option.{Option}
use Rattle.std.specs.declared.alloc.AllocError.{AllocError}
use Rattle.ls_set.specs.{Items, full}
use Rattle.ls_set.specs.declared.query.Query.{Query}
use Rattle.ls_theory.specs.{Interview, Peak, base, base_verdict, compatible_sets, is_space, yes_queries}
use Rattle.ls_theory.specs.Starts.{Start}
use Rattle.ls_theory.specs.declared.verdict.BaseVerdict.{BaseVerdict}
use Rattle.ls_theory.specs.declared.verdict.BaseVerdict.TheVariants.{Learning, NotGraded}
use Rattle.ls_laws.specs.Forced.{IsSound}
use Rattle.ls_laws.specs.Spans.{spanned}
use Rattle.ls_laws.proofs.Answering.{compat_family, compatible_fit}
use Rattle.ls_laws.proofs.Compat.{compat-in_order}
use Rattle.ls_laws.proofs.Interiors.{space-to}
use Rattle.ls_laws.proofs.Spans.{spanned-base}
use Rattle.ls_base.specs.Bases.{BaseState, family}
use Rattle.ls_base.specs.Followed.{IsFollowedBase}
use Rattle.ls_meaning.specs.{changed, learning_refusals, past_refusal, refuse_fault, safe_open_row}
use Rattle.ls_meaning.specs.Effects.{Change}
use Rattle.ls_meaning.specs.declared.response.Refusal.{Refusal}
use Rattle.ls_meaning.specs.declared.response.Response.TheVariants.{Done, Refused}
use Rattle.ls_origins.specs.Safe.{SafeInterview, first_family, marked, opened}
use Rattle.ls_origins.specs.declared.safe_answer.SafeAnswer.{SafeAnswer}
use Rattle.ls_safe.specs.Interviews.{IsSafeOf, SafeState, queries_of}

module _ (i : Interview) (b : BaseState)
    (h : IsFollowedBase i.count i.start (yes_queries i.answers) b) where
  states : family b ≡ compatible_sets i
  states =
      ap₂ spanned h.items h.is_base
      ∙ spanned-base i.count (compatible_sets i)
      (compat-in_order i.count i.start (yes_queries i.answers)) (compat_family i)

  pub space : IsSound i → is_space (full b.item_count) (family b) ≡ true
  space sound =
      let closed = compat_family i in
      ap₂ (λ n (f : List Items). is_space (full n) f) h.items states
      ∙ space-to (full i.count) (compatible_sets i) closed.holds_empty
      (compatible_fit i sound.some_fits).holds_full closed.holds_unions

  -- ---- the row, by the verdict

  abbrev pub by_verdict : BaseVerdict → Change (Option SafeInterview)
  by_verdict verdict =
      changed None (learning_refusals verdict) (Done (length (base (compatible_sets i))))
      (Some (opened i))

  pub row : safe_open_row i None ≡ by_verdict (base_verdict (family b))
  row =
      ap₂
      (λ (p : Option Peak) verdict. changed None
      (refuse_fault past_refusal p ++ learning_refusals verdict)
      (Done (length (base (compatible_sets i)))) (Some (opened i)))
      h.no_peak (ap base_verdict (sym states))

  -- that of a refusal
  pub refused_row : (verdict : BaseVerdict) (r : Refusal)
      → learning_refusals verdict ≡ r ∷ []
      → by_verdict verdict ≡ record { response = Refused r; next = None }
  refused_row verdict r e =
      ap (λ refusals. changed None refusals (Done (length (base (compatible_sets i))))
      (Some (opened i))) e

  -- ---- where it is a learning space

  abbrev compatible_of : Start → List Query → List Items
  compatible_of s l = first_family i.count (record { start = s; yeses = l; answers = [] })

  module _ (start : Start) (yeses : List Query) (t : SafeState) (started : start ≡ i.start)
      (asked : yeses ≡ yes_queries i.answers) (is : IsSafeOf b.item_count (family b) [] t) where
    none_yet : queries_of t.answers ≡ []
    unfolding marked
    none_yet = ap queries_of is.answers

    pub opened_is : Some (record { start = start; yeses = yeses; answers = queries_of t.answers })
        ≡ Some (opened i)
    opened_is =
        ap₂
        (λ (s : Start) (l : List Query). Some
        (record { start = s; yeses = l; answers = queries_of t.answers })) started asked
        ∙ ap
        (λ (l : List Query). Some
        (record { start = i.start; yeses = yes_queries i.answers; answers = l })) none_yet

    pub begins : let s : SafeInterview = record { start = start; yeses = yeses; answers = queries_of t.answers } in
        IsSafeOf i.count (first_family i.count s) s.answers t
    begins =
        subst (λ (l : List Query). IsSafeOf i.count (compatible_of start yeses) l t) (sym none_yet)
        (subst (λ (f : List Items). IsSafeOf i.count f [] t)
        (states ∙ ap₂ compatible_of (sym started) (sym asked))
        (subst (λ n. IsSafeOf n (family b) [] t) h.items is))
