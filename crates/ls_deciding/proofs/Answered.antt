-- An answer that was accepted stands behind the others.
use Rattle.std.proofs.Common.{◌≡◌, ◌∙◌, ◌++◌, ◌∷◌, ℕ, suc, List, [], None, Some, ap, length, subst, sym}
use Rattle.std.specs.declared.option.Option.{Option}
use Rattle.ls_set.specs.declared.query.Query.{Query}
use Rattle.ls_meaning.specs.{accepted_shown, changed, refuse_fault, safe_answer_row}
use Rattle.ls_meaning.specs.declared.response.Refusal.TheVariants.{Safe}
use Rattle.ls_origins.specs.Safe.{SafeInterview, answered, first_family, safe_answers, safe_refusal}
use Rattle.ls_origins.specs.declared.safe_fault.SafeFault.{SafeFault}
use Rattle.ls_safe.proofs.Marked.{marked-queries}
use Rattle.ls_safe.specs.Interviews.{IsSafeOf, SafeState, queries_of}

module _ (n : ℕ) (s : SafeInterview) (r : Query) (t : SafeState)
    (is : IsSafeOf n (first_family n s) (s.answers ++ r ∷ []) t) where
  pub behind : queries_of t.answers ≡ s.answers ++ r ∷ []
  behind =
      ap queries_of is.answers ∙ marked-queries n (first_family n s) (s.answers ++ r ∷ [])

  pub case_is : IsSafeOf n (first_family n s) (queries_of t.answers) t
  case_is = subst (λ l. IsSafeOf n (first_family n s) l t) (sym behind) is

  pub next_is : safe_refusal n (first_family n s) s.answers r ≡ None
      → Some (record s { answers = queries_of t.answers }) ≡ (safe_answer_row n s r).next
  next_is none =
      ap (λ (l : List Query). Some (record s { answers = l })) behind
      ∙ ap
      (λ (o : Option SafeFault). (changed (Some s) (refuse_fault Safe o)
      (accepted_shown (suc (length s.answers)) (safe_answers n (answered s r)))
      (Some (answered s r))).next)
      (sym none)
