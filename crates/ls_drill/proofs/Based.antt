-- The base that is followed over the Yes answers of a drill is that of its states, and it is never past.
use Rattle.ls_drill.proofs.Vocabulary.{◌∙◌, ◌≡◌, ◌≤◌, Free, Interview, IsDrill, List, None, Peak, Query, Some, Start, ℕ, [], ap, ap₂, arith, base, compat, compat-IsUnionFamily, compat-in_order, compatible_sets, length, most_base_sets, most_drilled, peak, subst, sym, yes_queries}
use Rattle.ls_laws.specs.Spans.{spanned}
use Rattle.ls_laws.proofs.Spans.{spanned-base}
use Rattle.ls_base.specs.Bases.{BaseState, family}
use Rattle.ls_base.specs.Followed.{IsFollowed}
use Rattle.ls_base.specs.declared.followed.Followed.{Followed}
use Rattle.ls_base.specs.declared.followed.Followed.TheVariants.{Within, Past}
use Rattle.ls_drill.proofs.TurnsTaken.{single-yeses}
use Rattle.ls_drill.proofs.OneAtom.{base-few, no-peak}

-- the base of the states of an interview
pub record IsBaseOf (i : Interview) (b : BaseState) : Type 0 where
  pub spans : family b ≡ compatible_sets i
  pub few : length b.sets ≤ most_drilled

module _ (i : Interview) (d : IsDrill i.count i) (few : i.count ≤ most_drilled) (first : BaseState) (yeses : List Query) (items : first.item_count ≡ i.count) (sets : first.sets ≡ base (compat i.count i.start []))
    (ruled : yeses ≡ yes_queries i.answers) (f : Followed) (h : (start : Start) → first.sets ≡ base (compat first.item_count start []) → IsFollowed first.item_count start yeses f) where
  followed : (g : Followed) → f ≡ g → IsFollowed i.count i.start (yes_queries i.answers) g
  followed g e =
      subst (λ (m : ℕ). IsFollowed m i.start (yes_queries i.answers) g) items
      (subst (λ (rs : List Query). IsFollowed first.item_count i.start rs g) ruled
      (subst (IsFollowed first.item_count i.start yeses) e (h i.start (sets ∙ ap (λ (m : ℕ). base (compat m i.start [])) (sym items)))))

  pub followed-base : (b : BaseState) → f ≡ Within b → IsBaseOf i b
  followed-base b e =
      let rs = yes_queries i.answers in
      let g = followed (Within b) e in
      let size : length b.sets ≡ length (base (compat i.count Free rs)) = ap length (g.is_base ∙ ap (λ (s : Start). base (compat i.count s rs)) d.start) in
      let most = base-few i.count rs (single-yeses i.count i d) in
      record {
        spans = ap₂ spanned g.items g.is_base ∙ spanned-base i.count (compatible_sets i) (compat-in_order i.count i.start rs) (compat-IsUnionFamily i.count i.start rs);
        few = omega arith;
      }

  pub never-past : (position count : ℕ) → f ≡ Past position count → ⊥
  never-past position count e =
      let rs = yes_queries i.answers in
      let none = no-peak most_base_sets i.count rs (omega arith) (single-yeses i.count i d) in
      let z : None ≡ Some (let p : Peak = record { position = position; count = count } in p) = sym none ∙ ap (λ (s : Start). peak most_base_sets i.count s rs) (sym d.start) ∙ followed (Past position count) e in
      cc
