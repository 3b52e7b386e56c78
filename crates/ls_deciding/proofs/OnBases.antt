-- What stands on the base of an interview, by the family of the base.
use Rattle.ls_deciding.proofs.Vocabulary.{◌otherwise◌, ◌∙◌, ◌≡◌, Interview, IsFollowedBase, IsSound, Items, List, Option, Peak, Response, View, ap, ap₂, base, based_on, based_row, compat-in_order, compatible_sets, full, is_based, is_space, past_refusal, projection, refuse_fault, spanned, sym, true, view_row, yes_queries}
use Rattle.ls_laws.proofs.Spans.{spanned-base}
use Rattle.ls_laws.proofs.Answering.{compat_family}
use Rattle.ls_laws.proofs.Families.{family_sets, spanned-IsFamily}
use Rattle.ls_clauses.proofs.Traces.{projection-IsFamily}
use Rattle.ls_base.specs.Bases.{BaseState, family}
use Rattle.ls_expert.proofs.Spaces.{compatible-space}
use Rattle.ls_meaning.specs.declared.request.View.TheVariants as view

module _ (i : Interview) (b : BaseState) (h : IsFollowedBase i.count i.start (yes_queries i.answers) b) where
  followed-family : family b ≡ compatible_sets i
  followed-family = ap₂ spanned h.items h.is_base ∙ spanned-base i.count (compatible_sets i) (compat-in_order i.count i.start (yes_queries i.answers)) (compat_family i)

  pub followed-space : IsSound i → is_space (full b.item_count) (family b) ≡ true
  followed-space sound = ap₂ (λ n (f : List Items). is_space (full n) f) h.items followed-family ∙ compatible-space i sound

  unrefused : (r : Response) → r ≡ based_row i r
  unrefused r = sym (ap (λ (p : Option Peak). refuse_fault past_refusal p otherwise r) h.no_peak)

  row : (v : View) → is_based v ≡ true → based_on i.count (compatible_sets i) v ≡ view_row i v
  row view.Base e = unrefused _
  row view.Surmise e = unrefused _
  row view.Learning e = unrefused _
  row (view.ProjectBase part) e = unrefused _
  row (view.StateOf inner outer) e = unrefused _
  row (view.Paths count after) e = unrefused _
  row view.SkillMap e = unrefused _
  row view.Relation e = unrefused _
  row (view.Known q) e = absurd (cc e)
  row view.Ask e = absurd (cc e)
  row (view.States count after) e = absurd (cc e)
  row (view.Project part count after) e = absurd (cc e)
  row (view.Fringes k) e = absurd (cc e)

  pub followed-row : (v : View) → is_based v ≡ true → based_on b.item_count (family b) v ≡ view_row i v
  followed-row v e = ap₂ (λ n (f : List Items). based_on n f v) h.items followed-family ∙ row v e

-- the base of a projection gives the projection
pub projected-family : (b p : BaseState) (part : Items) → p.item_count ≡ b.item_count → p.sets ≡ base (projection b.item_count part (family b)) → family p ≡ projection b.item_count part (family b)
projected-family b p part items sets =
    let n = b.item_count in
    let is = projection-IsFamily n part (family b) (spanned-IsFamily n b.sets) in
    ap₂ spanned items sets ∙ spanned-base n (projection n part (family b)) is.in_order (family_sets n (projection n part (family b)) is)
