use Rattle.std.proofs.Common.{◌∙◌, ◌≡◌, List, Option, Result, ap, ap₂, subst, sym, ℕ}
use Rattle.ls_set.specs.{Items}
use Rattle.ls_set.specs.declared.cursor.CursorFault.{CursorFault}
use Rattle.ls_theory.specs.{base}
use Rattle.ls_laws.specs.Spans.{AreOn}
use Rattle.ls_laws.proofs.Families.{compat-IsFamily}
use Rattle.ls_base.proofs.Spanned.{base-on}
use Rattle.ls_origins.specs.Safe.{first_family, safe_family}
use Rattle.ls_origins.specs.Skills.{any}
use Rattle.ls_skill.proofs.Skilled.{any-base}
use Rattle.ls_safe.proofs.Turns.{safe-family}
use Rattle.ls_meaning.specs.{safe_states_row}
use Rattle.ls_meaning.specs.StateLists.{states_on}
use Rattle.ls_meaning.specs.declared.response.Response.TheVariants.{Shown}
use Rattle.ls_meaning.specs.declared.response.Shown.TheVariants.{Unions}
use Rattle.ls_deciding.specs.Cases.{safe_of_case}
use Rattle.ls_deciding.proofs.attending.states.Goals as goal

pub invariant_of-result : goal.invariant_of-result
invariant_of-result c =
    let b = c.base-base.result.now in
    subst (AreOn c.items-items.result) (sym (c.in_ok-sets-in-Ok.ensures ∙ c.sets.ensures.value))
    (subst (λ n. AreOn n b.sets) (sym c.items-items.ensures.count)
    (base-on b.item_count b.sets c.sets.ensures.base))

pub returns-in_ok-sets-in-Ok : goal.returns-in_ok-sets-in-Ok
returns-in_ok-sets-in-Ok c = λ n h.
    let s = safe_of_case c.args.case.now in
    let first = first_family n s in
    let page = λ (k : ℕ) (f : List Items). Shown (Unions (states_on k f) c.args.count c.in-Ok.after) in
    ap₂ (λ (k : ℕ) (ks : List Items). page k (any k ks))
    (c.items-items.ensures.count ∙ c.base-base.ensures.items n first s.answers h)
    (c.in_ok-sets-in-Ok.ensures ∙ c.sets.ensures.value
    ∙ c.base-base.ensures.sets n first s.answers h)
    ∙ ap (page n)
    (any-base n (safe_family n s)
    (safe-family n first s.answers (compat-IsFamily n s.start s.yeses)))
    ∙ ap
    (λ (after : Result (Option Items) CursorFault). safe_states_row n s c.args.count after)
    (sym c.in-Ok.is)
